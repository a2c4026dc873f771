-- A term that joins the last one of its key, or is put behind it, gives the normal form of the sum.
use Rattle.std.proofs.Common.{◌≡◌, ◌≢◌, ℕ, zero, suc, ◌+◌, ◌-◌, ◌*◌, ◌%◌, ◌<◌, Option, Some, None, length, take, get_or, Bool, true, false, if◌then◌else◌, [], ◌∷◌, ◌++◌, sym, refl, ap, subst, ◌∙◌, arith}
use Rattle.std.specs.declared.cmp.Ordering.{Ordering}
use Rattle.std.specs.declared.cmp.Ordering.TheVariants.{Less, Equal, Greater}
use Rattle.std.specs.Cmp.{IsTotalOrder}
use Rattle.std.specs.FinMap.{IsAntisymmetric}
use Rattle.std.specs.Bool.{Decides}
use Rattle.std.specs.List.{slice_get}
use Rattle.std.proofs.Math.Nat.{mod-mod}
use Rattle.std.proofs.lemmas.Option.{slice_get_within, slice_get-get_or}
use Rattle.std.proofs.lemmas.Bool.Decides.{not_from_Decides}
use Rattle.ibp_field.specs.Arithmetic.{IsCongruent}
use Rattle.ibp_algebra.specs.FormalSum.{FormalSum, weighted_sum, AllKeys, IsCanonical, with_term, normal_form}
use Rattle.ibp_field.proofs.Congruence.{IsCongruent-refl, IsCongruent-trans, IsCongruent-add, IsCongruent-from_eq}
use Rattle.ibp_algebra.proofs.Weights.{weighted_sum-append, SameCoefficients-from_weights}
use Rattle.ibp_algebra.proofs.SumLaws.{SameCoefficients-sym, SameCoefficients-trans}
use Rattle.ibp_algebra.proofs.Canonical.{Greater-trans, same_canonical}
use Rattle.ibp_algebra.proofs.NormalForm.{weighted_sum-with_term, AllKeys-with_term, IsCanonical-with_term, IsCanonical-normal_form, SameCoefficients-normal_form}

-- a term put at the end, joined with the last one where that has the same key
abbrev pub join_last : {K : Type 0} → (K → K → Bool) → FormalSum K → K × ℕ → FormalSum K
join_last same [] term = with_term term []
join_last same (first ∷ []) term =
    if same first.0 term.0 then with_term (first.0, first.1 + term.1) [] else (first ∷ with_term term [])
join_last same (first ∷ second ∷ others) term = first ∷ join_last same (second ∷ others) term

module _ {K : Type 0} (same : K → K → Bool) (decides : (a b : K) → Decides (same a b) (a ≡ b)) where
  last_sum : (w : K → ℕ) (u t : K × ℕ) (b : Bool) → same u.0 t.0 ≡ b
      → IsCongruent (weighted_sum w (if b then with_term (u.0, u.1 + t.1) [] else (u ∷ with_term t []))) (t.1 * w t.0 + (u.1 * w u.0 + 0))
  last_sum w u t true e =
      IsCongruent-trans (weighted_sum-with_term w (u.0, u.1 + t.1) []) (IsCongruent-from_eq (omega (arith, ap (λ k. t.1 * w k) ((decides u.0 t.0).0 e))))
  last_sum w u t false e =
      IsCongruent-trans (IsCongruent-add (IsCongruent-refl (u.1 * w u.0)) (weighted_sum-with_term w t [])) (IsCongruent-from_eq (omega arith))

  -- a joined term adds its weight
  weighted_sum-join_last : (w : K → ℕ) (f : FormalSum K) (t : K × ℕ) → IsCongruent (weighted_sum w (join_last same f t)) (t.1 * w t.0 + weighted_sum w f)
  weighted_sum-join_last w [] t = weighted_sum-with_term w t []
  weighted_sum-join_last w (u ∷ []) t = last_sum w u t (same u.0 t.0) refl
  weighted_sum-join_last w (u ∷ v ∷ f) t =
      IsCongruent-trans (IsCongruent-add (IsCongruent-refl (u.1 * w u.0)) (weighted_sum-join_last w (v ∷ f) t)) (IsCongruent-from_eq (omega arith))

  last_keys : (P : K → Type 0) (u t : K × ℕ) (b : Bool) → P u.0 → P t.0 → AllKeys P (if b then with_term (u.0, u.1 + t.1) [] else (u ∷ with_term t []))
  last_keys P u t true p q = AllKeys-with_term P (u.0, u.1 + t.1) [] p tt
  last_keys P u t false p q = (p, AllKeys-with_term P t [] q tt)

  pub AllKeys-join_last : (P : K → Type 0) (f : FormalSum K) (t : K × ℕ) → AllKeys P f → P t.0 → AllKeys P (join_last same f t)
  AllKeys-join_last P [] t h q = AllKeys-with_term P t [] q tt
  AllKeys-join_last P (u ∷ []) t h q = last_keys P u t (same u.0 t.0) h.0 q
  AllKeys-join_last P (u ∷ v ∷ f) t h q = (h.0, AllKeys-join_last P (v ∷ f) t h.1 q)

  module _ (order : K → K → Ordering) (total : IsTotalOrder order) (unique : IsAntisymmetric order) where
    -- not below and not equal is above
    above : (a b : K) → same a b ≡ false → order a b ≢ Less → order a b ≡ Greater
    above a b e h =
        elim (order a b) as (λ r. order a b ≡ r → order a b ≡ Greater) [
          | Less ↦ λ p. absurd (h p)
          | Equal ↦ λ p. absurd (not_from_Decides _ (decides a b) e (unique a b p))
          | Greater ↦ λ p. p
        ] refl

    above_next : (a b c : K) → order a b ≡ Greater → order b c ≢ Less → order a c ≡ Greater
    above_next a b c h k =
        elim (order b c) as (λ r. order b c ≡ r → order a c ≡ Greater) [
          | Less ↦ λ p. absurd (k p)
          | Equal ↦ λ p. subst (λ x. order a x ≡ Greater) (unique b c p) h
          | Greater ↦ λ p. Greater-trans order total a b c h p
        ] refl

    last_canonical : (u t : K × ℕ) (b : Bool) → same u.0 t.0 ≡ b → IsCanonical order (u ∷ []) → order u.0 t.0 ≢ Less
        → IsCanonical order (if b then with_term (u.0, u.1 + t.1) [] else (u ∷ with_term t []))
    last_canonical u t true e h k = IsCanonical-with_term order (u.0, u.1 + t.1) [] tt tt
    last_canonical u t false e h k =
        (h.0, h.1, AllKeys-with_term _ t [] (above u.0 t.0 e k) tt, IsCanonical-with_term order t [] tt tt)

    IsCanonical-join_last : (f : FormalSum K) (t : K × ℕ) → IsCanonical order f → AllKeys (λ k. order k t.0 ≢ Less) f → IsCanonical order (join_last same f t)
    IsCanonical-join_last [] t h k = IsCanonical-with_term order t [] tt tt
    IsCanonical-join_last (u ∷ []) t h k = last_canonical u t (same u.0 t.0) refl h k.0
    IsCanonical-join_last (u ∷ v ∷ f) t h k =
        (h.0, h.1, AllKeys-join_last _ (v ∷ f) t h.2 (above_next u.0 v.0 t.0 h.2.0 k.1.0), IsCanonical-join_last (v ∷ f) t h.3 k.1)

    -- where no key is below that of the term
    pub join_last-normal : (f : FormalSum K) (t : K × ℕ) → IsCanonical order f → AllKeys (λ k. order k t.0 ≢ Less) f → join_last same f t ≡ normal_form order (f ++ t ∷ [])
    join_last-normal f t h k =
        same_canonical order total same decides unique (join_last same f t) (normal_form order (f ++ t ∷ [])) (IsCanonical-join_last f t h k) (IsCanonical-normal_form order total unique (f ++ t ∷ []))
        (SameCoefficients-trans
        (SameCoefficients-from_weights same decides _ _ (λ w.
        IsCongruent-trans (weighted_sum-join_last w f t) (IsCongruent-from_eq (omega (arith, weighted_sum-append w f (t ∷ []))))))
        (SameCoefficients-sym (SameCoefficients-normal_form order total unique same decides (f ++ t ∷ []))))

-- ---- by the last term of a list

with_term-mod : {K : Type 0} (k : K) (a : ℕ) → with_term (k, a % 2147483647) [] ≡ with_term (k, a) []
with_term-mod k a = rw (mod-mod a 2147483647)

module _ {K : Type 0} (same : K → K → Bool) where
  join_same_at : (f : FormalSum K) (n : ℕ) (u t : K × ℕ) → length f ≡ suc n → slice_get f n ≡ Some u → same u.0 t.0 ≡ true
      → join_last same f t ≡ take n f ++ with_term (u.0, u.1 + t.1) []
  join_same_at [] n u t l e s = absurd (omega arith)
  join_same_at (v ∷ []) zero u t l e s = let is : v ≡ u = cc in rw (is, s)
  join_same_at (v ∷ []) (suc n) u t l e s = absurd (omega arith)
  join_same_at (v ∷ w ∷ f) zero u t l e s = absurd (omega arith)
  join_same_at (v ∷ w ∷ f) (suc n) u t l e s = ap (λ g. v ∷ g) (join_same_at (w ∷ f) n u t (omega arith) e s)

  join_other_at : (f : FormalSum K) (n : ℕ) (u t : K × ℕ) → length f ≡ suc n → slice_get f n ≡ Some u → same u.0 t.0 ≡ false
      → join_last same f t ≡ f ++ with_term t []
  join_other_at [] n u t l e s = absurd (omega arith)
  join_other_at (v ∷ []) zero u t l e s = let is : v ≡ u = cc in rw is (rw s)
  join_other_at (v ∷ []) (suc n) u t l e s = absurd (omega arith)
  join_other_at (v ∷ w ∷ f) zero u t l e s = absurd (omega arith)
  join_other_at (v ∷ w ∷ f) (suc n) u t l e s = ap (λ g. v ∷ g) (join_other_at (w ∷ f) n u t (omega arith) e s)

  -- the last term has the same key
  pub join_last-same : (f : FormalSum K) (u : K × ℕ) (k : K) (c : ℕ) → slice_get f (length f - 1) ≡ Some u → same u.0 k ≡ true
      → join_last same f (k, c) ≡ take (length f - 1) f ++ with_term (u.0, (u.1 + c) % 2147483647) []
  join_last-same f u k c e s =
      let within : length f - 1 < length f = slice_get_within f (length f - 1) u e in
      join_same_at f (length f - 1) u (k, c) (omega arith) e s ∙ ap (λ g. take (length f - 1) f ++ g) (sym (with_term-mod u.0 (u.1 + c)))

  -- or another one
  pub join_last-other : (f : FormalSum K) (u t : K × ℕ) → slice_get f (length f - 1) ≡ Some u → same u.0 t.0 ≡ false
      → join_last same f t ≡ f ++ with_term t []
  join_last-other f u t e s =
      let within : length f - 1 < length f = slice_get_within f (length f - 1) u e in
      join_other_at f (length f - 1) u t (omega arith) e s

  -- or there is none
  pub join_last-none : (f : FormalSum K) (t : K × ℕ) → slice_get f (length f - 1) ≡ None → join_last same f t ≡ f ++ with_term t []
  join_last-none [] t e = refl
  join_last-none (v ∷ f) t e =
      let found : slice_get (v ∷ f) (length (v ∷ f) - 1) ≡ Some (get_or (v ∷ f) (length (v ∷ f) - 1) v) = slice_get-get_or (v ∷ f) (length (v ∷ f) - 1) v (omega arith) in
      absurd (let clash : ◌≡◌ {A = Option (K × ℕ)} None (Some (get_or (v ∷ f) (length (v ∷ f) - 1) v)) = sym e ∙ found in cc)
