-- The definition of a member is the textbook's, which no proof needs: a vector lies in the submodule exactly where it
-- is a sum of polynomials times the generators.
use Rattle.std.proofs.Common.{◌≡◌, ℕ, zero, suc, ◌+◌, ◌*◌, ◌<◌, ◌↔◌, length, get_or, List, [], ◌∷◌, sym, refl, ap, ◌∙◌, arith}
use Rattle.std.specs.List.{AllByRecursion, Contains}
use Rattle.ibp_algebra.specs.FormalSum.{FormalSum, weighted_sum, AllKeys, scale, map_keys}
use Rattle.ibp_algebra.specs.Combination.{combination}
use Rattle.ibp_algebra.proofs.Weights.{weighted_sum-append, weighted_sum-scale}
use Rattle.ibp_algebra.proofs.SumLaws.{SameCoefficients-refl, SameCoefficients-sym, SameCoefficients-trans, SameCoefficients-append, SameCoefficients-from_sums}
use Rattle.ibp_algebra.specs.Polynomial.{Polynomial}
use Rattle.mono_order.specs.Term.{Term, same_term}
use Rattle.mono_order.proofs.Terms.{terms_decide}
use Rattle.module_vec.specs.ModuleVector.{ModuleVector, SameVector, multiply_vector, times, sum_of_times, Multiple, multiple_value, IsMultipleOf, IsMember}
use Rattle.module_vec.proofs.Multiples.{AllKeys-map_keys}
use Rattle.module_vec.proofs.Submodules.{IsMember-same, IsMember-zero, IsMember-append}

-- a list of polynomials in these variables, one for each generator, and the sum that they give
record IsSumOfTimes (variables : ℕ) (gs : List ModuleVector) (v : ModuleVector) : Type 0 where
  factors : List Polynomial
  long : length factors ≡ length gs
  polynomials : AllByRecursion (AllKeys (λ m. length m ≡ variables)) factors
  sum : SameVector v (sum_of_times factors gs)

-- a term is added to the polynomial at a place
add_term : ℕ → List ℕ × ℕ → List Polynomial → List Polynomial
add_term k term [] = []
add_term zero term (f ∷ fs) = (term ∷ f) ∷ fs
add_term (suc k) term (f ∷ fs) = f ∷ add_term k term fs

length-add_term : (k : ℕ) (term : List ℕ × ℕ) (fs : List Polynomial) → length (add_term k term fs) ≡ length fs
unfolding add_term
length-add_term k term [] = refl
length-add_term zero term (f ∷ fs) = refl
length-add_term (suc k) term (f ∷ fs) = omega (arith, length-add_term k term fs)

add_term_polynomials : (variables k : ℕ) (term : List ℕ × ℕ) (fs : List Polynomial) → length term.0 ≡ variables → AllByRecursion (AllKeys (λ m. length m ≡ variables)) fs
    → AllByRecursion (AllKeys (λ m. length m ≡ variables)) (add_term k term fs)
unfolding add_term
add_term_polynomials variables k term [] p h = tt
add_term_polynomials variables zero term (f ∷ fs) p h = ((p, h.0), h.1)
add_term_polynomials variables (suc k) term (f ∷ fs) p h = (h.0, add_term_polynomials variables k term fs p h.1)

add_term_sum : (w : Term → ℕ) (k : ℕ) (term : List ℕ × ℕ) (fs : List Polynomial) (gs : List ModuleVector) (g : ModuleVector) → length fs ≡ length gs → k < length gs → get_or gs k g ≡ g
    → weighted_sum w (sum_of_times (add_term k term fs) gs) ≡ term.1 * weighted_sum w (multiply_vector term.0 g) + weighted_sum w (sum_of_times fs gs)
unfolding add_term
add_term_sum w k term fs [] g p below at = absurd (omega arith)
add_term_sum w k term [] (h ∷ gs) g p below at = absurd (omega arith)
add_term_sum w zero term (f ∷ fs) (h ∷ gs) g p below at =
    let same = ap (λ (x : ModuleVector). term.1 * weighted_sum w (multiply_vector term.0 x)) at in
    omega (
      arith,
      same,
      weighted_sum-append w (times (term ∷ f) h) (sum_of_times fs gs),
      weighted_sum-append w (scale term.1 (multiply_vector term.0 h)) (times f h),
      weighted_sum-scale w term.1 (multiply_vector term.0 h),
      weighted_sum-append w (times f h) (sum_of_times fs gs),
    )
add_term_sum w (suc k) term (f ∷ fs) (h ∷ gs) g p below at =
    let rest = add_term_sum w k term fs gs g (omega arith) (omega arith) at in
    omega (arith, rest, weighted_sum-append w (times f h) (sum_of_times (add_term k term fs) gs), weighted_sum-append w (times f h) (sum_of_times fs gs))

no_factors : List ModuleVector → List Polynomial
no_factors [] = []
no_factors (g ∷ gs) = [] ∷ no_factors gs

length-no_factors : (gs : List ModuleVector) → length (no_factors gs) ≡ length gs
unfolding no_factors
length-no_factors [] = refl
length-no_factors (g ∷ gs) = omega (arith, length-no_factors gs)

no_factors_polynomials : (variables : ℕ) (gs : List ModuleVector) → AllByRecursion (AllKeys (λ m. length m ≡ variables)) (no_factors gs)
unfolding no_factors
no_factors_polynomials variables [] = tt
no_factors_polynomials variables (g ∷ gs) = (tt, no_factors_polynomials variables gs)

no_factors_sum : (gs : List ModuleVector) → sum_of_times (no_factors gs) gs ≡ []
unfolding no_factors
no_factors_sum [] = refl
no_factors_sum (g ∷ gs) = no_factors_sum gs

from_summands : (variables : ℕ) (gs : List ModuleVector) (f : FormalSum Multiple) → AllKeys (IsMultipleOf variables gs) f → IsSumOfTimes variables gs (combination multiple_value f)
from_summands variables gs [] h =
    record {
      factors = no_factors gs;
      long = length-no_factors gs;
      polynomials = no_factors_polynomials variables gs;
      sum = SameCoefficients-from_sums same_term terms_decide _ _ (λ w. ap (weighted_sum w) (sym (no_factors_sum gs)));
    }
from_summands variables gs (t ∷ f) h =
    let rest = from_summands variables gs f h.1 in
    let at = h.0.generator in
    let term : List ℕ × ℕ = (t.0.0, t.1) in
    record {
      factors = add_term at.0 term rest.factors;
      long = length-add_term at.0 term rest.factors ∙ rest.long;
      polynomials = add_term_polynomials variables at.0 term rest.factors h.0.exponents rest.polynomials;
      sum = SameCoefficients-trans (SameCoefficients-append same_term terms_decide (SameCoefficients-refl same_term (scale t.1 (multiple_value t.0))) rest.sum)
          (SameCoefficients-from_sums same_term terms_decide _ _ (λ w.
          let added = add_term_sum w at.0 term rest.factors gs t.0.1 rest.long at.1 at.2 in
          omega (arith, added, weighted_sum-append w (scale t.1 (multiple_value t.0)) (sum_of_times rest.factors gs), weighted_sum-scale w t.1 (multiple_value t.0))));
    }

-- ---- the converse

IsMember-times : (variables : ℕ) (gs : List ModuleVector) (g : ModuleVector) → Contains gs g → (f : Polynomial) → AllKeys (λ m. length m ≡ variables) f → IsMember variables gs (times f g)
IsMember-times variables gs g c f h =
    record {
      summands = map_keys (λ m. (m, g)) f;
      multiples = AllKeys-map_keys (λ m. length m ≡ variables) (IsMultipleOf variables gs) (λ m. (m, g)) (λ m p. record { exponents = p; generator = c }) f h;
      sum = SameCoefficients-from_sums same_term terms_decide _ _ (λ w. same_sums w f);
    }
  where
    same_sums : (w : Term → ℕ) (f : Polynomial) → weighted_sum w (times f g) ≡ weighted_sum w (combination multiple_value (map_keys (λ m. (m, g)) f))
    same_sums w [] = refl
    same_sums w (t ∷ f) =
        omega (
          arith,
          same_sums w f,
          weighted_sum-append w (scale t.1 (multiply_vector t.0 g)) (times f g),
          weighted_sum-append w (scale t.1 (multiply_vector t.0 g)) (combination multiple_value (map_keys (λ m. (m, g)) f)),
        )

sum_is_member : (variables : ℕ) (all gs : List ModuleVector) → ((g : ModuleVector) → Contains gs g → Contains all g) → (fs : List Polynomial) → AllByRecursion (AllKeys (λ m. length m ≡ variables)) fs
    → IsMember variables all (sum_of_times fs gs)
sum_is_member variables all gs within [] h = IsMember-zero variables all
sum_is_member variables all [] within (f ∷ fs) h = IsMember-zero variables all
sum_is_member variables all (g ∷ gs) within (f ∷ fs) h =
    IsMember-append variables all (times f g) (sum_of_times fs gs) (IsMember-times variables all g (within g (0, omega arith, refl)) f h.0)
    (sum_is_member variables all gs (λ x c. within x (suc c.0, omega (arith, c.1), c.2)) fs h.1)

-- Members are the sums of polynomials times the generators.
pub IsMember-sum_of_times : (variables : ℕ) (gs : List ModuleVector) (v : ModuleVector)
    → IsMember variables gs v ↔ ((fs : List Polynomial) × (length fs ≡ length gs) × AllByRecursion (AllKeys (λ m. length m ≡ variables)) fs × SameVector v (sum_of_times fs gs))
IsMember-sum_of_times variables gs v = (
  λ h.
      let found = from_summands variables gs h.summands h.multiples in
      (found.factors, found.long, found.polynomials, SameCoefficients-trans h.sum found.sum),
  λ h. IsMember-same variables gs (sum_of_times h.0 gs) v (SameCoefficients-sym h.3) (sum_is_member variables gs gs (λ g c. c) h.0 h.2),
)
