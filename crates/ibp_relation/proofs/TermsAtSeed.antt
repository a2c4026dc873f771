-- The affine terms of a template at a seed: neighbours are added up, and the row that they give.
use Rattle.std.proofs.Common.{◌≡◌, ℕ, ◌+◌, ◌*◌, ◌<◌, ◌≤◌, Bool, List, [], ◌∷◌, ◌++◌, map, length, get_or, take, sym, ap, subst, ◌∙◌, arith}
use Rattle.std.specs.Prelude.{ℤ, pos}
use Rattle.std.proofs.lemmas.List.{map_more, get_or_default, get_or-map, get_or-take}
use Rattle.ibp_field.specs.Arithmetic.{IsCongruent, int_mod, add_mod, mul_mod}
use Rattle.ibp_field.proofs.Congruence.{IsCongruent-refl, IsCongruent-trans, IsCongruent-mod, IsCongruent-mul, IsCongruent-add, IsCongruent-from_eq}
use Rattle.ibp_algebra.specs.FormalSum.{strike, weighted_sum, with_term}
use Rattle.ibp_algebra.specs.Polynomial.{Polynomial}
use Rattle.ibp_algebra.specs.Field.{unstripped}
use Rattle.ibp_algebra.specs.Laurent.{Laurent, same_powers, SameLaurent, add_powers, power_at}
use Rattle.ibp_algebra.specs.Identity.{in_sector_of, IsIdentityRow}
use Rattle.ibp_algebra.proofs.NormalForm.{weighted_sum-with_term}
use Rattle.ibp_algebra.proofs.SumLaws.{SameCoefficients-sym, SameCoefficients-trans, SameCoefficients-from_eq, SameCoefficients-push_zero}
use Rattle.ibp_algebra.proofs.Weights.{weighted_sum-append, SameCoefficients-from_weights}
use Rattle.mono_order.specs.declared.limits.TheConstants.{RUN_DEGREE}
use Rattle.sector_lattice.specs.Sectors.{sector_of}
use Rattle.sparse_rows.specs.Rows.{SameRow}
use Rattle.family.specs.Conditions.{in_sector, IsInSectorModule}
use Rattle.family.specs.Shapes.{IsField}
use Rattle.family.specs.declared.parts.StrippedField.{StrippedField}
use Rattle.ibp_relation.specs.Templates.{AffineTerm, term_at, terms_at, SharesOffset, IsTemplateOf, IsSectorTemplate, IsTemplateRow}
use Rattle.ibp_relation.proofs.LaurentLaws.{powers_decide, SameLaurent-refl, SameLaurent-append}
use Rattle.ibp_relation.proofs.Outcomes.{identity_row}
use Rattle.ibp_relation.proofs.SeedSectors.{places_of, module_at}
use Rattle.ibp_relation.proofs.UnstrippedForms.{length-unstripped}

-- the residue of a power
pub residue_at : (α : List ℤ) (residues : List ℕ) (i d : ℕ) → take (length α) residues ≡ map int_mod α → i < length α → get_or residues i d ≡ int_mod (power_at α i)
residue_at α residues i d h below =
    sym (get_or-take (length α) residues i d below) ∙ ap (λ (l : List ℕ). get_or l i d) h ∙ get_or-map int_mod α i (pos 0) d below

-- ---- neighbours with one offset are added up

-- what is found from the terms before place i, and the sum so far for the offset at that place
pub record SummedBefore (α : List ℤ) (terms : List AffineTerm) (i : ℕ) (found : Laurent) (sum : ℕ) : Type 0 where
  pub pending : (d : AffineTerm) → i < length terms → SameLaurent (found ++ (add_powers α (get_or terms i d).offset, sum) ∷ []) (terms_at α (take i terms))
  pub whole : length terms ≤ i → SameLaurent found (terms_at α (take i terms))

-- a term with the coefficient zero is none
none_pending : {found wanted : Laurent} (k : List ℤ) → SameLaurent found wanted → SameLaurent (found ++ (k, 0) ∷ []) wanted
none_pending {found} {wanted} k h =
    SameCoefficients-sym (SameCoefficients-push_zero same_powers powers_decide k 0 (SameCoefficients-sym h) (IsCongruent-refl 0))

module _ (α : List ℤ) (terms : List AffineTerm) (i : ℕ) (term : AffineTerm) (below : i < length terms) (is : term ≡ get_or terms i term) where
  added : (found : Laurent) (sum more residue : ℕ) → residue ≡ int_mod (power_at α term.place) → more ≡ add_mod sum (add_mod term.constant (mul_mod term.slope residue))
      → SummedBefore α terms i found sum → SameLaurent (found ++ (add_powers α term.offset, more) ∷ []) (terms_at α (take (i + 1) terms))
  added found sum more residue value adds h =
      let key = add_powers α term.offset in
      let coefficient = term.constant + term.slope * int_mod (power_at α term.place) in
      let before : SameLaurent (found ++ (key, sum) ∷ []) (terms_at α (take i terms)) =
      subst (λ (t : AffineTerm). SameLaurent (found ++ (add_powers α t.offset, sum) ∷ []) (terms_at α (take i terms))) (sym is) (h.pending term below)
      in
      let front : terms_at α (take (i + 1) terms) ≡ terms_at α (take i terms) ++ (key, coefficient) ∷ [] =
      map_more (term_at α) terms i term below ∙ ap (λ (t : AffineTerm). terms_at α (take i terms) ++ term_at α t ∷ []) (sym is)
      in
      let congruent : IsCongruent more (sum + coefficient) =
      IsCongruent-trans (IsCongruent-from_eq (adds ∙ ap (λ r. add_mod sum (add_mod term.constant (mul_mod term.slope r))) value))
      (IsCongruent-trans (IsCongruent-mod _)
      (IsCongruent-add (IsCongruent-refl sum) (IsCongruent-trans (IsCongruent-mod _) (IsCongruent-add (IsCongruent-refl term.constant) (IsCongruent-mod _)))))
      in
      let joined : SameLaurent (found ++ (key, more) ∷ []) ((found ++ (key, sum) ∷ []) ++ (key, coefficient) ∷ []) =
      SameCoefficients-from_weights same_powers powers_decide _ _ (λ w.
      rw (weighted_sum-append w (found ++ (key, sum) ∷ []) ((key, coefficient) ∷ []), weighted_sum-append w found ((key, sum) ∷ []), weighted_sum-append w found ((key, more) ∷ []))
      (IsCongruent-trans (IsCongruent-add (IsCongruent-refl (weighted_sum w found)) (IsCongruent-add (IsCongruent-mul congruent (IsCongruent-refl (w key))) (IsCongruent-refl 0)))
      (IsCongruent-from_eq (omega arith))))
      in
      SameCoefficients-trans joined (SameCoefficients-trans (SameLaurent-append before (SameLaurent-refl ((key, coefficient) ∷ []))) (SameCoefficients-from_eq (sym front)))

  -- the next term has the same offset
  pub summed_on : (found : Laurent) (sum more residue : ℕ) → residue ≡ int_mod (power_at α term.place) → more ≡ add_mod sum (add_mod term.constant (mul_mod term.slope residue))
      → SharesOffset terms i → SummedBefore α terms i found sum → SummedBefore α terms (i + 1) found more
  summed_on found sum more residue value adds next h =
      record {
        pending = λ d within.
            let offset : term.offset ≡ (get_or terms (i + 1) d).offset =
            ap (λ (t : AffineTerm). t.offset) (is ∙ get_or_default terms i term d below) ∙ sym (next.same d)
            in
            subst (λ k. SameLaurent (found ++ (add_powers α k, more) ∷ []) (terms_at α (take (i + 1) terms))) offset (added found sum more residue value adds h);
        whole = λ long. absurd (omega (arith, next.within));
      }

  -- or it has not, and the sum is found
  pub summed_off : (found new : Laurent) (sum more residue : ℕ) → residue ≡ int_mod (power_at α term.place) → more ≡ add_mod sum (add_mod term.constant (mul_mod term.slope residue))
      → new ≡ found ++ with_term (add_powers α term.offset, more) [] → SummedBefore α terms i found sum → SummedBefore α terms (i + 1) new 0
  summed_off found new sum more residue value adds pushed h =
      let key = add_powers α term.offset in
      let one : SameLaurent (with_term (key, more) []) ((key, more) ∷ []) =
      SameCoefficients-from_weights same_powers powers_decide _ _ (λ w. weighted_sum-with_term w (key, more) [])
      in
      let all : SameLaurent new (terms_at α (take (i + 1) terms)) =
      SameCoefficients-trans (SameCoefficients-from_eq pushed) (SameCoefficients-trans (SameLaurent-append (SameLaurent-refl found) one) (added found sum more residue value adds h))
      in
      record { pending = λ d within. none_pending _ all; whole = λ long. all }

-- ---- the row

-- the sum of the terms at the seed, without the integrals that are struck
pub template_row : (n γ : ℕ) (p : Polynomial) (terms : List AffineTerm) (α : List ℤ) (struck : List ℤ → Bool) (found now sum row : Laurent) → length α ≡ n
    → SameLaurent found (terms_at α terms) → now ≡ found → SameRow sum now → row ≡ strike struck sum → IsTemplateRow n γ p terms α struck row
template_row n γ p terms α struck found now sum row long made same summed e =
    record {
      identity = λ a b fits meets is.
          identity_row n γ p a b α struck found now sum row long fits meets (SameCoefficients-trans made (is.shifted α long)) same summed e;
    }

-- it is that of a stripped field of the seed's sector
pub sector_row : (n γ : ℕ) (p : Polynomial) (sector : ℕ) (field : StrippedField) (terms : List AffineTerm) (α : List ℤ) (struck : List ℤ → Bool) (row : Laurent) → sector ≡ sector_of α
    → IsField n RUN_DEGREE field.c field.b → IsInSectorModule p (sector_of α) field → IsSectorTemplate n γ sector field terms → IsTemplateRow n γ p terms α struck row
    → IsIdentityRow n γ p (unstripped (in_sector_of α) field.c) α struck row
sector_row n γ p sector field terms α struck row own shape member is h =
    let places : in_sector sector ≡ in_sector_of α = ap in_sector own ∙ places_of α in
    h.identity (unstripped (in_sector_of α) field.c) field.b (length-unstripped 0 (in_sector_of α) field.c ∙ shape.count) (module_at p α field member)
    (subst (λ (inside : ℕ → Bool). IsTemplateOf n γ (unstripped inside field.c) field.b terms) places is)
