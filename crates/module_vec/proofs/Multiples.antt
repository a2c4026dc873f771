-- Multiples of vectors by power products, and their leads.
use Rattle.std.proofs.Common.{◌≡◌, ◌≢◌, ℕ, ◌+◌, Bool, length, List, [], ◌∷◌, sym, refl, ap, ◌∙◌, arith}
use Rattle.std.specs.List.{Contains}
use Rattle.std.specs.declared.cmp.Ordering.{Ordering}
use Rattle.std.specs.declared.cmp.Ordering.TheVariants.{Greater}
use Rattle.ibp_algebra.specs.FormalSum.{FormalSum, weighted_sum, coefficient, AllKeys, AllBelow, IsCanonical, map_keys}
use Rattle.ibp_algebra.specs.Combination.{combination, IsEqualBelow}
use Rattle.ibp_field.proofs.Congruence.{IsCongruent-trans, IsCongruent-from_eq}
use Rattle.ibp_algebra.proofs.Weights.{weighted_sum-append, weighted_sum-ext, weighted_sum-map_keys, weighted_sum-SameCoefficients, SameCoefficients-from_weights}
use Rattle.ibp_algebra.proofs.SumLaws.{SameCoefficients-map_keys}
use Rattle.ibp_algebra.proofs.Canonical.{AllBelow-trans, coefficient-above, coefficient-lead}
use Rattle.ibp_algebra.proofs.Terms.{CountingKeys, coefficient-CountingKeys}
use Rattle.ibp_algebra.proofs.Combinations.{AllKeys-both, weighted_sum-combination}
use Rattle.ibp_algebra.specs.Exponents.{add_exponents}
use Rattle.ibp_algebra.proofs.ExponentLaws.{length-padded_sum}
use Rattle.mono_order.specs.Term.{Term, same_term, multiply_term, IsTerm}
use Rattle.mono_order.specs.TermOrder.{IsTermOrder}
use Rattle.mono_order.proofs.Terms.{terms_decide, multiply_term_assoc, IsTerm-multiply}
use Rattle.module_vec.specs.ModuleVector.{ModuleVector, SameVector, multiply_vector, lead, lead_coefficient, IsMonicVector, Multiple, multiple_value, multiple_lead, IsMultipleOf}

pub AllKeys-map_keys : {K L : Type 0} (P : K → Type 0) (Q : L → Type 0) (move : K → L) → ((k : K) → P k → Q (move k)) → (f : FormalSum K) → AllKeys P f → AllKeys Q (map_keys move f)
AllKeys-map_keys P Q move moved [] h = tt
AllKeys-map_keys P Q move moved (t ∷ f) h = (moved t.0 h.0, AllKeys-map_keys P Q move moved f h.1)

pub SameVector-multiply : (m : List ℕ) {v w : ModuleVector} → SameVector v w → SameVector (multiply_vector m v) (multiply_vector m w)
SameVector-multiply m {v} {w} h = SameCoefficients-map_keys same_term terms_decide same_term terms_decide (multiply_term m) h

pub lead_coefficient-not_zero : (order : Term → Term → Ordering) (v : ModuleVector) → IsCanonical order v → v ≢ [] → lead_coefficient v ≢ 0
lead_coefficient-not_zero order [] c h e = h refl
lead_coefficient-not_zero order (t ∷ v) c h e = omega (arith, c.0)

-- what holds of each term holds where the coefficient is not zero
CountingKeys-from_all : (P : Term → Type 0) (v : ModuleVector) → AllKeys P v → CountingKeys P v
CountingKeys-from_all P [] h = tt
CountingKeys-from_all P (t ∷ v) h = ((λ _. h.0), CountingKeys-from_all P v h.1)

pub AllKeys-coefficient : (P : Term → Type 0) (v : ModuleVector) → AllKeys P v → (t : Term) → coefficient same_term v t ≢ 0 → P t
AllKeys-coefficient P v h t present = coefficient-CountingKeys same_term terms_decide P v (CountingKeys-from_all P v h) t present

-- a multiple of a multiple
pub weighted_sum-multiply_multiply : (w : Term → ℕ) (m k : List ℕ) (v : ModuleVector)
    → weighted_sum w (multiply_vector m (multiply_vector k v)) ≡ weighted_sum w (multiply_vector (add_exponents m k) v)
weighted_sum-multiply_multiply w m k v =
    weighted_sum-map_keys (multiply_term m) w (multiply_vector k v) ∙ weighted_sum-map_keys (multiply_term k) (λ t. w (multiply_term m t)) v
    ∙ weighted_sum-ext _ _ (λ t. ap w (sym (multiply_term_assoc m k t))) v ∙ sym (weighted_sum-map_keys (multiply_term (add_exponents m k)) w v)

pub IsMultipleOf-multiply : (variables : ℕ) (list : List ModuleVector) (u : List ℕ) (k : Multiple) → length u ≡ variables → IsMultipleOf variables list k
    → IsMultipleOf variables list (add_exponents u k.0, k.1)
IsMultipleOf-multiply variables list u k p h = record { exponents = length-padded_sum ◌+◌ variables u k.0 p h.exponents; generator = h.generator }

-- each summand times a power product
abbrev pub multiply_summands : List ℕ → FormalSum Multiple → FormalSum Multiple
multiply_summands m f = map_keys (λ k. (add_exponents m k.0, k.1)) f

pub combination-multiply : (m : List ℕ) (f : FormalSum Multiple) (w : Term → ℕ)
    → weighted_sum w (combination multiple_value (multiply_summands m f)) ≡ weighted_sum w (multiply_vector m (combination multiple_value f))
combination-multiply m f w =
    weighted_sum-combination multiple_value w (multiply_summands m f)
    ∙ weighted_sum-map_keys (λ (k : Multiple). (add_exponents m k.0, k.1)) (λ k. weighted_sum w (multiple_value k)) f
    ∙ weighted_sum-ext _ _ (λ k. sym (weighted_sum-multiply_multiply w m k.0 k.1) ∙ weighted_sum-map_keys (multiply_term m) w (multiple_value k)) f
    ∙ sym (weighted_sum-combination multiple_value (λ t. w (multiply_term m t)) f) ∙ sym (weighted_sum-map_keys (multiply_term m) w (combination multiple_value f))

module _ {variables : ℕ} {order : Term → Term → Ordering} {high : ℕ → Bool} {height : Term → ℕ} {bound : ℕ}
    (laws : IsTermOrder variables order high height bound) where
  AllBelow-multiply : (m : List ℕ) (t : Term) (v : ModuleVector) → length m ≡ variables → IsTerm variables t → AllKeys (IsTerm variables) v → AllBelow order t v
      → AllBelow order (multiply_term m t) (multiply_vector m v)
  AllBelow-multiply m t [] p i h k = tt
  AllBelow-multiply m t (u ∷ v) p i h k = (laws.kept m t u.0 p i.exponents h.0.exponents ∙ k.0, AllBelow-multiply m t v p i h.1 k.1)

  pub IsCanonical-multiply : (m : List ℕ) (v : ModuleVector) → length m ≡ variables → AllKeys (IsTerm variables) v → IsCanonical order v → IsCanonical order (multiply_vector m v)
  IsCanonical-multiply m [] p h k = tt
  IsCanonical-multiply m (t ∷ v) p h k = (k.0, k.1, AllBelow-multiply m t.0 v p h.0 h.1 k.2, IsCanonical-multiply m v p h.1 k.3)

  pub AllKeys-multiply : (m : List ℕ) (v : ModuleVector) → length m ≡ variables → AllKeys (IsTerm variables) v → AllKeys (IsTerm variables) (multiply_vector m v)
  AllKeys-multiply m v p h = AllKeys-map_keys (IsTerm variables) (IsTerm variables) (multiply_term m) (λ t i. IsTerm-multiply variables m t p i) v h

  -- what a canonical vector has at its lead, and above it
  pub coefficient_at_lead : (v : ModuleVector) → IsCanonical order v → coefficient same_term v (lead v) ≡ lead_coefficient v
  coefficient_at_lead [] c = refl
  coefficient_at_lead (t ∷ v) c = omega (arith, coefficient-lead order laws.total same_term terms_decide t v c.2, c.1)

  pub coefficient_above_lead : (v : ModuleVector) → IsCanonical order v → (k : Term) → order k (lead v) ≡ Greater → coefficient same_term v k ≡ 0
  coefficient_above_lead [] c k h = refl
  coefficient_above_lead (t ∷ v) c k h =
      omega (arith, coefficient-above order laws.total same_term terms_decide k (t ∷ v) (h, AllBelow-trans order laws.total k t.0 v h c.2))

  pub lead-multiply : (m : List ℕ) (v : ModuleVector) → lead_coefficient v ≡ 1 → lead (multiply_vector m v) ≡ multiply_term m (lead v)
  lead-multiply m [] e = absurd (omega arith)
  lead-multiply m (t ∷ v) e = refl

  pub lead_coefficient-multiply : (m : List ℕ) (v : ModuleVector) → lead_coefficient (multiply_vector m v) ≡ lead_coefficient v
  lead_coefficient-multiply m [] = refl
  lead_coefficient-multiply m (t ∷ v) = refl

  pub IsTerm-lead : (v : ModuleVector) → lead_coefficient v ≡ 1 → AllKeys (IsTerm variables) v → IsTerm variables (lead v)
  IsTerm-lead [] e h = absurd (omega arith)
  IsTerm-lead (t ∷ v) e h = h.0

  -- the multiples of a monic vector are monic
  pub IsMonicVector-multiply : (m : List ℕ) (v : ModuleVector) → length m ≡ variables → IsMonicVector order variables v → IsMonicVector order variables (multiply_vector m v)
  IsMonicVector-multiply m v p h =
      record {
        canonical = IsCanonical-multiply m v p h.terms h.canonical;
        terms = AllKeys-multiply m v p h.terms;
        monic = lead_coefficient-multiply m v ∙ h.monic;
      }

  -- where two multiples differ by lesser ones, so do their multiples
  pub IsEqualBelow-multiply : (list : List ModuleVector) → ((g : ModuleVector) → Contains list g → IsMonicVector order variables g)
      → (u : List ℕ) (top : Term) (a b : Multiple) → length u ≡ variables → IsTerm variables top
      → IsEqualBelow order same_term multiple_value multiple_lead (IsMultipleOf variables list) top a b
      → IsEqualBelow order same_term multiple_value multiple_lead (IsMultipleOf variables list) (multiply_term u top) (add_exponents u a.0, a.1) (add_exponents u b.0, b.1)
  IsEqualBelow-multiply list monic u top a b p i e =
      record {
        summands = multiply_summands u e.summands;
        allowed = AllKeys-map_keys (IsMultipleOf variables list) (IsMultipleOf variables list) _ (λ k h. IsMultipleOf-multiply variables list u k p h) e.summands e.allowed;
        below = AllKeys-map_keys (λ k. IsMultipleOf variables list k × (order top (multiple_lead k) ≡ Greater)) (λ k. order (multiply_term u top) (multiple_lead k) ≡ Greater) _
            (λ k h.
            let lead_is = IsTerm-multiply variables k.0 (lead k.1) h.0.exponents (IsTerm-lead k.1 (monic k.1 h.0.generator).monic (monic k.1 h.0.generator).terms) in
            ap (order (multiply_term u top)) (multiply_term_assoc u k.0 (lead k.1)) ∙ laws.kept u top (multiple_lead k) p i.exponents lead_is.exponents ∙ h.1)
            e.summands (AllKeys-both (IsMultipleOf variables list) (λ k. order top (multiple_lead k) ≡ Greater) e.summands e.allowed e.below);
        difference = SameCoefficients-from_weights same_term terms_decide _ _ (λ w.
            let v = λ (t : Term). w (multiply_term u t) in
            let first = weighted_sum-SameCoefficients same_term terms_decide v _ _ e.difference in
            let left = sym (weighted_sum-multiply_multiply w u a.0 a.1) ∙ weighted_sum-map_keys (multiply_term u) w (multiple_value a) in
            let right = sym (weighted_sum-multiply_multiply w u b.0 b.1) ∙ weighted_sum-map_keys (multiply_term u) w (multiple_value b) in
            let rest = combination-multiply u e.summands w ∙ weighted_sum-map_keys (multiply_term u) w (combination multiple_value e.summands) in
            IsCongruent-trans (IsCongruent-from_eq left) (IsCongruent-trans first (IsCongruent-from_eq
            (weighted_sum-append v (multiple_value b) (combination multiple_value e.summands)
            ∙ omega (arith, left, right, rest, weighted_sum-append w (multiple_value (add_exponents u b.0, b.1)) (combination multiple_value (multiply_summands u e.summands)))))));
      }
