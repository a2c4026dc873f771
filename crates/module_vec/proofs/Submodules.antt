-- The vectors that some vectors generate are a submodule, and the least one that holds these.
use Rattle.std.proofs.Common.{◌≡◌, ℕ, length, replicate, List, [], ◌∷◌, ◌++◌, sym, refl, ap, ◌∙◌, arith}
use Rattle.std.specs.List.{Contains}
use Rattle.ibp_algebra.specs.FormalSum.{FormalSum, weighted_sum, AllKeys, scale}
use Rattle.ibp_algebra.specs.Combination.{combination}
use Rattle.ibp_algebra.proofs.Weights.{weighted_sum-append, weighted_sum-scale}
use Rattle.ibp_algebra.proofs.SumLaws.{SameCoefficients-refl, SameCoefficients-sym, SameCoefficients-trans, SameCoefficients-append, SameCoefficients-scale, SameCoefficients-from_sums}
use Rattle.ibp_algebra.proofs.ZeroDivisors.{AllKeys-append, AllKeys-scale}
use Rattle.ibp_algebra.proofs.Combinations.{AllKeys-weaker, combination-append, combination-scale}
use Rattle.mono_order.specs.Term.{same_term, IsTerm}
use Rattle.mono_order.proofs.Terms.{terms_decide, add_exponents-one, length-ones}
use Rattle.module_vec.specs.ModuleVector.{ModuleVector, SameVector, multiply_vector, Multiple, multiple_value, IsMultipleOf, IsMember, IsSubmodule}
use Rattle.module_vec.proofs.Multiples.{AllKeys-map_keys, SameVector-multiply, IsMultipleOf-multiply, multiply_summands, combination-multiply}

pub multiply_vector-one : (variables : ℕ) (v : ModuleVector) → AllKeys (IsTerm variables) v → multiply_vector (replicate variables 0) v ≡ v
multiply_vector-one variables [] h = refl
multiply_vector-one variables (t ∷ v) h =
    let exponents = add_exponents-one variables t.0.1 h.0.exponents in
    λ i. ((t.0.0, exponents i), t.1) ∷ multiply_vector-one variables v h.1 i

module _ (variables : ℕ) (list : List ModuleVector) where
  pub IsMember-same : (v w : ModuleVector) → SameVector v w → IsMember variables list v → IsMember variables list w
  IsMember-same v w s h = record { summands = h.summands; multiples = h.multiples; sum = SameCoefficients-trans (SameCoefficients-sym s) h.sum }

  pub IsMember-zero : IsMember variables list []
  IsMember-zero = record { summands = []; multiples = tt; sum = SameCoefficients-refl same_term [] }

  pub IsMember-append : (v w : ModuleVector) → IsMember variables list v → IsMember variables list w → IsMember variables list (v ++ w)
  IsMember-append v w h k =
      record {
        summands = h.summands ++ k.summands;
        multiples = AllKeys-append (IsMultipleOf variables list) h.summands k.summands h.multiples k.multiples;
        sum = SameCoefficients-trans (SameCoefficients-append same_term terms_decide h.sum k.sum)
            (SameCoefficients-from_sums same_term terms_decide _ _ (λ x.
            weighted_sum-append x (combination multiple_value h.summands) (combination multiple_value k.summands) ∙ sym (combination-append multiple_value h.summands k.summands x)));
      }

  pub IsMember-scale : (c : ℕ) (v : ModuleVector) → IsMember variables list v → IsMember variables list (scale c v)
  IsMember-scale c v h =
      record {
        summands = scale c h.summands;
        multiples = AllKeys-scale (IsMultipleOf variables list) c h.summands h.multiples;
        sum = SameCoefficients-trans (SameCoefficients-scale same_term terms_decide c h.sum)
            (SameCoefficients-from_sums same_term terms_decide _ _ (λ x.
            weighted_sum-scale x c (combination multiple_value h.summands) ∙ sym (combination-scale multiple_value c h.summands x)));
      }

  pub IsMember-multiply : (m : List ℕ) (v : ModuleVector) → length m ≡ variables → IsMember variables list v → IsMember variables list (multiply_vector m v)
  IsMember-multiply m v p h =
      record {
        summands = multiply_summands m h.summands;
        multiples = AllKeys-map_keys (IsMultipleOf variables list) (IsMultipleOf variables list) _ (λ k i. IsMultipleOf-multiply variables list m k p i) h.summands h.multiples;
        sum = SameCoefficients-trans (SameVector-multiply m h.sum)
            (SameCoefficients-from_sums same_term terms_decide _ _ (λ x. sym (combination-multiply m h.summands x)));
      }

  pub IsSubmodule-IsMember : IsSubmodule variables (IsMember variables list)
  IsSubmodule-IsMember =
      record {
        same = IsMember-same;
        zero = IsMember-zero;
        sum = IsMember-append;
        scaled = IsMember-scale;
        multiplied = IsMember-multiply;
      }

  pub IsMember-generator : (g : ModuleVector) → Contains list g → AllKeys (IsTerm variables) g → IsMember variables list g
  IsMember-generator g h k =
      record {
        summands = ((replicate variables 0, g), 1) ∷ [];
        multiples = (record { exponents = length-ones variables; generator = h }, tt);
        sum = SameCoefficients-from_sums same_term terms_decide _ _ (λ x.
            let same = ap (weighted_sum x) (multiply_vector-one variables g k) in
            omega (arith, same, weighted_sum-append x (scale 1 (multiply_vector (replicate variables 0) g)) [], weighted_sum-scale x 1 (multiply_vector (replicate variables 0) g)));
      }

-- a submodule that holds the generators holds each vector that they generate
combination_within : (variables : ℕ) (list : List ModuleVector) (Member : ModuleVector → Type 0) → IsSubmodule variables Member
    → ((g : ModuleVector) → Contains list g → Member g) → (f : FormalSum Multiple) → AllKeys (IsMultipleOf variables list) f → Member (combination multiple_value f)
combination_within variables list Member submodule holds [] h = submodule.zero
combination_within variables list Member submodule holds (t ∷ f) h =
    submodule.sum _ _ (submodule.scaled t.1 _ (submodule.multiplied t.0.0 t.0.1 h.0.exponents (holds t.0.1 h.0.generator))) (combination_within variables list Member submodule holds f h.1)

pub IsMember-least : (variables : ℕ) (list : List ModuleVector) (Member : ModuleVector → Type 0) → IsSubmodule variables Member
    → ((g : ModuleVector) → Contains list g → Member g) → (v : ModuleVector) → IsMember variables list v → Member v
IsMember-least variables list Member submodule holds v h =
    submodule.same _ _ (SameCoefficients-sym h.sum) (combination_within variables list Member submodule holds h.summands h.multiples)

-- what fewer vectors generate, more generate
pub IsMultipleOf-more : (variables : ℕ) (list more : List ModuleVector) → ((g : ModuleVector) → Contains list g → Contains more g) → (k : Multiple)
    → IsMultipleOf variables list k → IsMultipleOf variables more k
IsMultipleOf-more variables list more within k h = record { exponents = h.exponents; generator = within k.1 h.generator }

pub IsMember-more : (variables : ℕ) (list more : List ModuleVector) → ((g : ModuleVector) → Contains list g → Contains more g) → (v : ModuleVector)
    → IsMember variables list v → IsMember variables more v
IsMember-more variables list more within v h =
    record { summands = h.summands; multiples = AllKeys-weaker _ _ (IsMultipleOf-more variables list more within) h.summands h.multiples; sum = h.sum }
