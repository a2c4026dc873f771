-- The normal form of a formal sum: it is canonical, has the same coefficients and only keys of the sum.
use Rattle.std.proofs.Common.{◌≡◌, ℕ, ◌+◌, ◌*◌, ◌%◌, Bool, true, false, if◌then◌else◌, ◌==◌, [], ◌∷◌, sym, refl, ap, lit<, arith}
use Rattle.std.proofs.Math.Nat.{mod-lt}
use Rattle.std.proofs.lemmas.Bool.Decides.{Decides-eqb, not_from_Decides}
use Rattle.std.specs.declared.cmp.Ordering.{Ordering}
use Rattle.std.specs.declared.cmp.Ordering.TheVariants.{Less, Equal, Greater}
use Rattle.std.specs.Cmp.{IsTotalOrder}
use Rattle.std.specs.FinMap.{IsAntisymmetric}
use Rattle.std.specs.Bool.{Decides}
use Rattle.ibp_field.specs.Arithmetic.{IsCongruent}
use Rattle.ibp_algebra.specs.FormalSum.{FormalSum, weighted_sum, SameCoefficients, AllBelow, AllKeys, IsCanonical, with_term, placed, insert_term, normal_form}
use Rattle.ibp_field.proofs.Congruence.{IsCongruent-refl, IsCongruent-trans, IsCongruent-mod, IsCongruent-mul, IsCongruent-add, IsCongruent-from_eq}
use Rattle.ibp_algebra.proofs.Weights.{SameCoefficients-from_weights}
use Rattle.ibp_algebra.proofs.Canonical.{AllBelow-trans, Greater-reverse}

module _ {K : Type 0} where
  -- `with_term` with its test as an argument
  term_if : Bool → K × ℕ → FormalSum K → FormalSum K
  term_if b term f = if b then f else ((term.0, term.1 % 2147483647) ∷ f)

  weighted_sum-term_if : (w : K → ℕ) (t : K × ℕ) (f : FormalSum K) (b : Bool) → (t.1 % 2147483647 == 0) ≡ b
      → IsCongruent (weighted_sum w (term_if b t f)) (t.1 * w t.0 + weighted_sum w f)
  unfolding term_if
  weighted_sum-term_if w t f true e =
      let zero : IsCongruent 0 t.1 = record { same_residue = sym ((Decides-eqb (t.1 % 2147483647) 0).0 e) } in
      IsCongruent-trans (IsCongruent-from_eq {a = weighted_sum w f} {b = 0 * w t.0 + weighted_sum w f} (omega arith))
      (IsCongruent-add (IsCongruent-mul zero (IsCongruent-refl (w t.0))) (IsCongruent-refl (weighted_sum w f)))
  weighted_sum-term_if w t f false e =
      IsCongruent-add (IsCongruent-mul (IsCongruent-mod t.1) (IsCongruent-refl (w t.0))) (IsCongruent-refl (weighted_sum w f))

  pub weighted_sum-with_term : (w : K → ℕ) (t : K × ℕ) (f : FormalSum K) → IsCongruent (weighted_sum w (with_term t f)) (t.1 * w t.0 + weighted_sum w f)
  unfolding term_if
  weighted_sum-with_term w t f = weighted_sum-term_if w t f (t.1 % 2147483647 == 0) refl

  AllKeys-term_if : (P : K → Type 0) (t : K × ℕ) (f : FormalSum K) (b : Bool) → P t.0 → AllKeys P f → AllKeys P (term_if b t f)
  unfolding term_if
  AllKeys-term_if P t f true p h = h
  AllKeys-term_if P t f false p h = (p, h)

  pub AllKeys-with_term : (P : K → Type 0) (t : K × ℕ) (f : FormalSum K) → P t.0 → AllKeys P f → AllKeys P (with_term t f)
  unfolding term_if
  AllKeys-with_term P t f p h = AllKeys-term_if P t f (t.1 % 2147483647 == 0) p h

  AllBelow-term_if : (order : K → K → Ordering) (key : K) (t : K × ℕ) (f : FormalSum K) (b : Bool) → order key t.0 ≡ Greater → AllBelow order key f → AllBelow order key (term_if b t f)
  unfolding term_if
  AllBelow-term_if order key t f true p h = h
  AllBelow-term_if order key t f false p h = (p, h)

  AllBelow-with_term : (order : K → K → Ordering) (key : K) (t : K × ℕ) (f : FormalSum K) → order key t.0 ≡ Greater → AllBelow order key f → AllBelow order key (with_term t f)
  unfolding term_if
  AllBelow-with_term order key t f p h = AllBelow-term_if order key t f (t.1 % 2147483647 == 0) p h

  IsCanonical-term_if : (order : K → K → Ordering) (t : K × ℕ) (f : FormalSum K) (b : Bool) → (t.1 % 2147483647 == 0) ≡ b
      → AllBelow order t.0 f → IsCanonical order f → IsCanonical order (term_if b t f)
  unfolding term_if
  IsCanonical-term_if order t f true e below h = h
  IsCanonical-term_if order t f false e below h =
      let not_zero : ¬ (t.1 % 2147483647 ≡ 0) = not_from_Decides _ (Decides-eqb (t.1 % 2147483647) 0) e in
      (omega arith, mod-lt t.1 (lit< tt), below, h)

  pub IsCanonical-with_term : (order : K → K → Ordering) (t : K × ℕ) (f : FormalSum K) → AllBelow order t.0 f → IsCanonical order f → IsCanonical order (with_term t f)
  unfolding term_if
  IsCanonical-with_term order t f below h = IsCanonical-term_if order t f (t.1 % 2147483647 == 0) refl below h

module _ {K : Type 0} (order : K → K → Ordering) (total : IsTotalOrder order) (unique : IsAntisymmetric order) where
  placed_sum : (w : K → ℕ) (t u : K × ℕ) (f after : FormalSum K) (r : Ordering) → order t.0 u.0 ≡ r
      → IsCongruent (weighted_sum w after) (t.1 * w t.0 + weighted_sum w f)
      → IsCongruent (weighted_sum w (placed r t u f after)) (t.1 * w t.0 + weighted_sum w (u ∷ f))
  placed_sum w t u f after Less e h =
      IsCongruent-trans (IsCongruent-add (IsCongruent-refl (u.1 * w u.0)) h) (IsCongruent-from_eq (omega arith))
  placed_sum w t u f after Equal e h =
      IsCongruent-trans (weighted_sum-with_term w (u.0, t.1 + u.1) f) (IsCongruent-from_eq (omega (arith, ap (λ k. t.1 * w k) (unique t.0 u.0 e))))
  placed_sum w t u f after Greater e h = weighted_sum-with_term w t (u ∷ f)

  weighted_sum-insert_term : (w : K → ℕ) (t : K × ℕ) (f : FormalSum K) → IsCongruent (weighted_sum w (insert_term order t f)) (t.1 * w t.0 + weighted_sum w f)
  weighted_sum-insert_term w t [] = weighted_sum-with_term w t []
  weighted_sum-insert_term w t (u ∷ f) = placed_sum w t u f (insert_term order t f) (order t.0 u.0) refl (weighted_sum-insert_term w t f)

  pub weighted_sum-normal_form : (w : K → ℕ) (f : FormalSum K) → IsCongruent (weighted_sum w (normal_form order f)) (weighted_sum w f)
  weighted_sum-normal_form w [] = IsCongruent-refl 0
  weighted_sum-normal_form w (t ∷ f) =
      IsCongruent-trans (weighted_sum-insert_term w t (normal_form order f)) (IsCongruent-add (IsCongruent-refl (t.1 * w t.0)) (weighted_sum-normal_form w f))

  placed_below : (key : K) (t u : K × ℕ) (f after : FormalSum K) (r : Ordering) → order key t.0 ≡ Greater → AllBelow order key (u ∷ f)
      → AllBelow order key after → AllBelow order key (placed r t u f after)
  placed_below key t u f after Less e h k = (h.0, k)
  placed_below key t u f after Equal e h k = AllBelow-with_term order key (u.0, t.1 + u.1) f h.0 h.1
  placed_below key t u f after Greater e h k = AllBelow-with_term order key t (u ∷ f) e h

  AllBelow-insert_term : (key : K) (t : K × ℕ) (f : FormalSum K) → order key t.0 ≡ Greater → AllBelow order key f → AllBelow order key (insert_term order t f)
  AllBelow-insert_term key t [] e h = AllBelow-with_term order key t [] e tt
  AllBelow-insert_term key t (u ∷ f) e h = placed_below key t u f (insert_term order t f) (order t.0 u.0) e h (AllBelow-insert_term key t f e h.1)

  placed_canonical : (t u : K × ℕ) (f after : FormalSum K) (r : Ordering) → order t.0 u.0 ≡ r → IsCanonical order (u ∷ f)
      → IsCanonical order after → (order u.0 t.0 ≡ Greater → AllBelow order u.0 after) → IsCanonical order (placed r t u f after)
  placed_canonical t u f after Less e h k below = (h.0, h.1, below (Greater-reverse order total t.0 u.0 e), k)
  placed_canonical t u f after Equal e h k below = IsCanonical-with_term order (u.0, t.1 + u.1) f h.2 h.3
  placed_canonical t u f after Greater e h k below = IsCanonical-with_term order t (u ∷ f) (e, AllBelow-trans order total t.0 u.0 f e h.2) h

  pub IsCanonical-insert_term : (t : K × ℕ) (f : FormalSum K) → IsCanonical order f → IsCanonical order (insert_term order t f)
  IsCanonical-insert_term t [] h = IsCanonical-with_term order t [] tt tt
  IsCanonical-insert_term t (u ∷ f) h =
      placed_canonical t u f (insert_term order t f) (order t.0 u.0) refl h (IsCanonical-insert_term t f h.3) (λ e. AllBelow-insert_term u.0 t f e h.2)

  pub IsCanonical-normal_form : (f : FormalSum K) → IsCanonical order (normal_form order f)
  IsCanonical-normal_form [] = tt
  IsCanonical-normal_form (t ∷ f) = IsCanonical-insert_term t (normal_form order f) (IsCanonical-normal_form f)

  placed_keys : (P : K → Type 0) (t u : K × ℕ) (f after : FormalSum K) (r : Ordering) → P t.0 → AllKeys P (u ∷ f) → AllKeys P after → AllKeys P (placed r t u f after)
  placed_keys P t u f after Less p h k = (h.0, k)
  placed_keys P t u f after Equal p h k = AllKeys-with_term P (u.0, t.1 + u.1) f h.0 h.1
  placed_keys P t u f after Greater p h k = AllKeys-with_term P t (u ∷ f) p h

  AllKeys-insert_term : (P : K → Type 0) (t : K × ℕ) (f : FormalSum K) → P t.0 → AllKeys P f → AllKeys P (insert_term order t f)
  AllKeys-insert_term P t [] p h = AllKeys-with_term P t [] p tt
  AllKeys-insert_term P t (u ∷ f) p h = placed_keys P t u f (insert_term order t f) (order t.0 u.0) p h (AllKeys-insert_term P t f p h.1)

  pub AllKeys-normal_form : (P : K → Type 0) (f : FormalSum K) → AllKeys P f → AllKeys P (normal_form order f)
  AllKeys-normal_form P [] h = tt
  AllKeys-normal_form P (t ∷ f) h = AllKeys-insert_term P t (normal_form order f) h.0 (AllKeys-normal_form P f h.1)

  -- the normal form has the coefficients of the sum
  pub SameCoefficients-normal_form : (same : K → K → Bool) → ((a b : K) → Decides (same a b) (a ≡ b)) → (f : FormalSum K) → SameCoefficients same (normal_form order f) f
  SameCoefficients-normal_form same decides f = SameCoefficients-from_weights same decides (normal_form order f) f (λ w. weighted_sum-normal_form w f)
