-- Combinations of formal sums. A formal sum over indices, each of which has a value that is itself a formal
-- sum, stands for the sum of these values, each times its coefficient.
--     combination value f       the sum of the values
--     IsEqualBelow              two indices whose values differ by a combination of values with lesser leads
-- Source: linear algebra; combinations with lesser leads are the lcm representations of Ideals, Varieties, and Algorithms of Cox, Little and O'Shea.
use Rattle.std.specs.Prelude.{◌≡◌, Bool, [], ◌∷◌, ◌++◌}
use Rattle.std.specs.declared.cmp.Ordering.{Ordering}
use Rattle.std.specs.declared.cmp.Ordering.TheVariants.{Greater}
use Rattle.ibp_algebra.specs.FormalSum.{FormalSum, SameCoefficients, AllKeys, scale}

abbrev pub combination : {I K : Type 0} → (I → FormalSum K) → FormalSum I → FormalSum K
combination value [] = []
combination value (term ∷ terms) = scale term.1 (value term.0) ++ combination value terms

-- The value of `first` is that of `second` plus a combination of values of allowed indices, whose leads are
-- below `top`.
pub record IsEqualBelow {I K : Type 0} (order : K → K → Ordering) (same : K → K → Bool) (value : I → FormalSum K) (lead : I → K)
    (Allowed : I → Type 0) (top : K) (first second : I) : Type 0 where
  pub summands : FormalSum I
  pub allowed : AllKeys Allowed summands
  pub below : AllKeys (λ i. order top (lead i) ≡ Greater) summands
  pub difference : SameCoefficients same (value first) (value second ++ combination value summands)
