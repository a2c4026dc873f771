-- Spans of formal sums. The rows of a span have names, as the places of a list or the numbers of kept rows,
-- and a combination of them is given by a formal sum over the names.
--     row_at rows place             the row at a place of a list; past its end it is empty
--     InSpan order row Among f      f is a combination of rows whose names are in Among
--     IsIndependent ..              only the weights that are zero give zero
--     IsLead order f key            the highest key at which f is not zero
--     IsReducedForm order V f w     w differs from f by a member of V, and no lead of V occurs in w
-- `order` is the order of the keys, and two keys are the same where neither is higher.
-- Source: linear algebra. A reduced form is what Laporta's algorithm gives, with the highest integrals eliminated first.
use Rattle.std.specs.Prelude.{◌≡◌, ◌≢◌, ℕ, List, [], ◌++◌, slice_index_or}
use Rattle.std.specs.Ordering.{eq_by_cmp}
use Rattle.std.specs.declared.cmp.Ordering.{Ordering}
use Rattle.std.specs.declared.cmp.Ordering.TheVariants.{Greater}
use Rattle.ibp_algebra.specs.FormalSum.{FormalSum, coefficient, SameCoefficients, AllKeys, scale}
use Rattle.ibp_algebra.specs.Combination.{combination}

abbrev pub row_at : {K : Type 0} → List (FormalSum K) → ℕ → FormalSum K
row_at rows place = slice_index_or rows place []

-- f minus g
abbrev pub difference : {K : Type 0} → FormalSum K → FormalSum K → FormalSum K
difference f g = f ++ scale 2147483646 g

-- each key has the same coefficient in both
abbrev pub SameSum : {K : Type 0} → (K → K → Ordering) → FormalSum K → FormalSum K → Type 0
SameSum order f g = SameCoefficients (eq_by_cmp order) f g

abbrev pub coefficient_by : {K : Type 0} → (K → K → Ordering) → FormalSum K → K → ℕ
coefficient_by order f key = coefficient (eq_by_cmp order) f key

pub record InSpan {I K : Type 0} (order : K → K → Ordering) (row : I → FormalSum K) (Among : I → Type 0) (f : FormalSum K) : Type 0 where
  pub weights : FormalSum I
  pub among : AllKeys Among weights
  pub equal : SameSum order f (combination row weights)

-- `names` is the order of the names
pub record IsIndependent {I K : Type 0} (names : I → I → Ordering) (order : K → K → Ordering) (row : I → FormalSum K) (Among : I → Type 0) : Type 0 where
  pub only_zero : (weights : FormalSum I) → AllKeys Among weights → SameSum order (combination row weights) [] → SameSum names weights []

pub record IsLead {K : Type 0} (order : K → K → Ordering) (f : FormalSum K) (key : K) : Type 0 where
  pub occurs : coefficient_by order f key ≢ 0
  pub highest : (k : K) → order k key ≡ Greater → coefficient_by order f k ≡ 0

pub record IsReducedForm {K : Type 0} (order : K → K → Ordering) (V : FormalSum K → Type 0) (f w : FormalSum K) : Type 0 where
  pub within : V (difference f w)
  pub reduced : (v : FormalSum K) (key : K) → V v → IsLead order v key → coefficient_by order w key ≡ 0
