-- Each field of the reduced basis of a sector lies in the sector's module.
use Rattle.std.proofs.Common.{◌≡◌, ℕ, zero, suc, ◌+◌, ◌%◌, ◌<◌, ◌≤◌, true, false, ◌&&◌, if◌then◌else◌, List, [], ◌∷◌, ◌++◌, length, get_or, map, refl, sym, ◌∙◌, ap, subst, arith}
use Rattle.std.specs.Prelude.{nat_eq}
use Rattle.std.specs.List.{All, AllByRecursion}
use Rattle.std.proofs.lemmas.List.{length-map, get_or-map}
use Rattle.std.proofs.lemmas.List.Elements.{All-from_get_or, All-from_recursion, recursion_from_All}
use Rattle.ibp_algebra.specs.Exponents.{deg_rev_lex, same_exponents}
use Rattle.ibp_algebra.specs.ExponentOrder.{exponents_decide, deg_rev_lex_total}
use Rattle.ibp_algebra.specs.FormalSum.{AllKeys, IsCanonical, weighted_sum}
use Rattle.ibp_algebra.specs.Polynomial.{Polynomial}
use Rattle.ibp_algebra.proofs.Combinations.{AllKeys-weaker}
use Rattle.ibp_algebra.proofs.SumLaws.{SameCoefficients-sym, SameCoefficients-trans}
use Rattle.ibp_algebra.proofs.Terms.{CountingKeys, coefficient-CountingKeys, AllKeys-canonical}
use Rattle.ibp_algebra.proofs.Weights.{unit_weight, weighted_sum-append, weighted_sum-map_keys, weighted_sum-ext}
use Rattle.mono_order.proofs.Terms.{terms_decide}
use Rattle.mono_order.specs.declared.limits.TheConstants.{VARIABLES}
use Rattle.mono_order.specs.BlockOrders.{over_position_laws}
use Rattle.mono_order.specs.Term.{Term, same_term, IsTerm}
use Rattle.module_vec.specs.ModuleVector.{ModuleVector, SameVector}
use Rattle.module_vec.proofs.NormalForms.{SameVector-normal}
use Rattle.family.specs.Conditions.{in_sector, IsInSectorModule}
use Rattle.family.specs.Shapes.{HasVariables}
use Rattle.family.specs.declared.parts.StrippedField.{StrippedField}
use Rattle.sector_module.specs.Factors.{at_component, sector_factors}
use Rattle.sector_module.specs.SectorBasis.{vector_of, field_vector, IsSectorMember, IsCanonicalField, IsSectorBasis}
use Rattle.sector_module.proofs.Fields.{IsInModule-syzygy}
use Rattle.sector_module.proofs.OneBasis.{at_weight, same_number, other_weight, with_last}
use Rattle.sector_module.proofs.SectorReduced.{syzygy_from_member}
use Rattle.sector_module.proofs.Syzygies.{IsPolynomialIn, IsSyzygy}

-- ---- the coefficients at a component

later_weight : (i first : ℕ) → i < first → (w : List ℕ → ℕ) (fs : List Polynomial) → weighted_sum (at_weight i w) (vector_of first fs) ≡ 0
later_weight i first below w [] = refl
later_weight i first below w (f ∷ fs) =
    omega (
      arith,
      weighted_sum-append (at_weight i w) (at_component first f) (vector_of (suc first) fs),
      other_weight i first (λ e. omega (arith, e, below)) w f,
      later_weight i (suc first) (omega (arith, below)) w fs,
    )

own_weight : (i : ℕ) (w : List ℕ → ℕ) (f : Polynomial) → weighted_sum (at_weight i w) (at_component i f) ≡ weighted_sum w f
own_weight i w f =
    weighted_sum-map_keys (λ (m : List ℕ). (i, m)) (at_weight i w) f ∙ weighted_sum-ext _ _ (λ m. ap (λ b. if b then w m else 0) (same_number i)) f

weight_at : (first i : ℕ) (w : List ℕ → ℕ) (fs : List Polynomial) → weighted_sum (at_weight (first + i) w) (vector_of first fs) ≡ weighted_sum w (get_or fs i [])
weight_at first i w [] = refl
weight_at first zero w (f ∷ fs) =
    let here : first + 0 ≡ first = omega arith in
    ap (λ k. weighted_sum (at_weight k w) (vector_of first (f ∷ fs))) here
    ∙ (let e : weighted_sum (at_weight first w) (vector_of first (f ∷ fs)) ≡ weighted_sum w f =
    omega (arith, weighted_sum-append (at_weight first w) (at_component first f) (vector_of (suc first) fs), own_weight first w f, later_weight first (suc first) (omega arith) w fs)
    in e)
weight_at first (suc i) w (f ∷ fs) =
    let next : first + suc i ≡ suc first + i = omega arith in
    let rest : weighted_sum (at_weight (first + suc i) w) (vector_of (suc first) fs) ≡ weighted_sum w (get_or fs i []) =
    ap (λ k. weighted_sum (at_weight k w) (vector_of (suc first) fs)) next ∙ weight_at (suc first) i w fs
    in
    omega (
      arith,
      weighted_sum-append (at_weight (first + suc i) w) (at_component first f) (vector_of (suc first) fs),
      other_weight (first + suc i) first (λ e. omega (arith, e)) w f,
      rest,
    )

split_weight : (j : ℕ) (m : List ℕ) (k : Term) → unit_weight same_term (j, m) k ≡ at_weight j (unit_weight same_exponents m) k
split_weight j m k =
    elim (nat_eq k.0 j) as (λ b. ◌≡◌ {A = ℕ} (if b && same_exponents k.1 m then 1 else 0) (if b then (if same_exponents k.1 m then 1 else 0) else 0)) [ true ↦ refl | false ↦ refl ]

-- a coefficient of a polynomial is one of the vector
coefficient_at_component : (i : ℕ) (m : List ℕ) (fs : List Polynomial)
    → weighted_sum (unit_weight same_term (1 + i, m)) (vector_of 1 fs) ≡ weighted_sum (unit_weight same_exponents m) (get_or fs i [])
coefficient_at_component i m fs = weighted_sum-ext _ _ (split_weight (1 + i) m) (vector_of 1 fs) ∙ weight_at 1 i (unit_weight same_exponents m) fs

-- ---- the polynomials of a field

all_counting : (P : Term → Type 0) (v : ModuleVector) → AllKeys P v → CountingKeys P v
all_counting P [] h = tt
all_counting P (t ∷ v) h = (λ _. h.0, all_counting P v h.1)

module _ (f : StrippedField) (terms : AllKeys (IsTerm VARIABLES) (field_vector f)) where
  abbrev polynomials : List Polynomial
  polynomials = f.c ++ f.b ∷ []

  vector_is : SameVector (field_vector f) (vector_of 1 polynomials)
  vector_is = SameVector-normal (over_position_laws VARIABLES) (field_vector f) (vector_of 1 polynomials) refl

  of_all_variables : (i : ℕ) → IsCanonical deg_rev_lex (get_or polynomials i []) → IsPolynomialIn VARIABLES (get_or polynomials i [])
  of_all_variables i canonical =
      AllKeys-canonical same_exponents exponents_decide deg_rev_lex deg_rev_lex_total (λ m. length m ≡ VARIABLES) (get_or polynomials i []) canonical
      (λ m counts.
      coefficient-CountingKeys same_term terms_decide (λ (t : Term). length t.1 ≡ VARIABLES) (field_vector f)
      (all_counting (λ (t : Term). length t.1 ≡ VARIABLES) (field_vector f) (AllKeys-weaker (IsTerm VARIABLES) (λ (t : Term). length t.1 ≡ VARIABLES) (λ t h. h.exponents) (field_vector f) terms))
      (1 + i, m)
      (λ none. counts (sym (vector_is.same_at (1 + i, m) ∙ ap (λ k. k % 2147483647) (coefficient_at_component i m polynomials)) ∙ none)))

  each_of_all_variables : (n : ℕ) → IsCanonicalField n f → AllByRecursion (IsPolynomialIn VARIABLES) polynomials
  each_of_all_variables n h =
      let canonical : All (IsCanonical deg_rev_lex) polynomials =
      All-from_recursion (IsCanonical deg_rev_lex) polynomials (with_last (IsCanonical deg_rev_lex) f.c (recursion_from_All (IsCanonical deg_rev_lex) f.c h.polynomials) f.b h.factor)
      in
      recursion_from_All (IsPolynomialIn VARIABLES) polynomials (All-from_get_or (IsPolynomialIn VARIABLES) polynomials [] (λ i below. of_all_variables i (canonical i [] below)))

module _ (p : Polynomial) (n sector : ℕ) (few : n ≤ VARIABLES) (shape : AllKeys (HasVariables n) p) where
  -- a canonical field is in the module where its vector is that of a member
  member_field : (f : StrippedField) → IsCanonicalField n f → AllKeys (IsTerm VARIABLES) (field_vector f) → IsSectorMember p n sector (field_vector f) → IsInSectorModule p sector f
  member_field f canonical terms member =
      let s = syzygy_from_member p n sector few shape (field_vector f) member in
      let own : IsSyzygy VARIABLES (sector_factors p n sector) (vector_of 1 (f.c ++ f.b ∷ [])) =
      record { terms = s.terms; in_range = s.in_range; same = SameCoefficients-trans (SameCoefficients-sym (vector_is f terms)) s.same; vanishes = s.vanishes }
      in
      (IsInModule-syzygy VARIABLES p f.b (in_sector sector) n f.c canonical.count (each_of_all_variables f terms n canonical)).1 own

  pub basis_member : (fields : List StrippedField) → IsSectorBasis p n sector fields → (i : ℕ) (d : StrippedField) → i < length fields
      → IsInSectorModule p sector (get_or fields i d) × (length (get_or fields i d).c ≡ n)
  basis_member fields h i d below =
      let f = get_or fields i d in
      let there : i < length (map field_vector fields) = omega (arith, length-map fields field_vector) in
      let same : get_or (map field_vector fields) i [] ≡ field_vector f = get_or-map field_vector fields i d [] below in
      let terms : AllKeys (IsTerm VARIABLES) (field_vector f) = subst (λ (v : ModuleVector). AllKeys (IsTerm VARIABLES) v) same (h.reduced.monic i [] there).terms in
      let member : IsSectorMember p n sector (field_vector f) = subst (λ (v : ModuleVector). IsSectorMember p n sector v) same (h.reduced.basis.members i [] there) in
      let canonical : IsCanonicalField n f = h.canonical i d below in
      (member_field f canonical terms member, canonical.count)
