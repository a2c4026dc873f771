-- The factors of a sector are polynomials in the variables of the Baikov polynomial.
use Rattle.std.proofs.Common.{ℕ, zero, suc, ◌+◌, ◌-◌, ◌<◌, ◌≤◌, Bool, true, false, if◌then◌else◌, length, set, List, [], ◌∷◌, ◌∙◌, arith}
use Rattle.std.specs.Prelude.{slice_index}
use Rattle.std.specs.List.{AllByRecursion}
use Rattle.std.proofs.lemmas.List.{length-set}
use Rattle.ibp_algebra.specs.FormalSum.{AllKeys, times_term}
use Rattle.ibp_algebra.specs.Exponents.{add_exponents}
use Rattle.ibp_algebra.specs.Polynomial.{Polynomial, multiply, derivative}
use Rattle.ibp_algebra.specs.Field.{unit_exponents, variable}
use Rattle.ibp_algebra.proofs.ZeroDivisors.{AllKeys-append, AllKeys-scale}
use Rattle.mono_order.specs.declared.limits.TheConstants.{VARIABLES}
use Rattle.family.specs.Shapes.{HasVariables}
use Rattle.sector_module.specs.Factors.{factors_from}
use Rattle.sector_module.proofs.Fields.{length-unit, length-padded_sum-shorter}
use Rattle.sector_module.proofs.Splitting.{NoneFrom, NoneFrom-from_places, places-from_NoneFrom}
use Rattle.sector_module.proofs.Parts.{IsInFirst}

pub IsInFirst-from_HasVariables : (n : ℕ) (m : List ℕ) → HasVariables n m → IsInFirst VARIABLES n m
IsInFirst-from_HasVariables n m h = record { exponents = h.each_variable; none = NoneFrom-from_places n m h.none_beyond }

pub HasVariables-from_IsInFirst : (n : ℕ) (m : List ℕ) → IsInFirst VARIABLES n m → HasVariables n m
HasVariables-from_IsInFirst n m h = record { each_variable = h.exponents; none_beyond = places-from_NoneFrom n m h.none }

NoneFrom-set : (n i y : ℕ) (m : List ℕ) → i < n → NoneFrom n m → NoneFrom n (set m i y)
NoneFrom-set zero i y m below h = absurd (omega arith)
NoneFrom-set (suc n) zero y [] below h = tt
NoneFrom-set (suc n) (suc i) y [] below h = tt
NoneFrom-set (suc n) zero y (x ∷ m) below h = h
NoneFrom-set (suc n) (suc i) y (x ∷ m) below h = NoneFrom-set n i y m (omega arith) h

NoneFrom-unit : (n i : ℕ) (m : List ℕ) → i < n → i < length m → NoneFrom n m → NoneFrom n (add_exponents (unit_exponents i) m)
NoneFrom-unit zero i m below within h = absurd (omega arith)
NoneFrom-unit (suc n) i [] below within h = absurd (omega arith)
NoneFrom-unit (suc n) zero (x ∷ m) below within h = h
NoneFrom-unit (suc n) (suc i) (x ∷ m) below within h = NoneFrom-unit n i m (omega arith) (omega arith) h

derivative_in : (variables n i : ℕ) (p : Polynomial) → i < n → AllKeys (IsInFirst variables n) p → AllKeys (IsInFirst variables n) (derivative i p)
derivative_in variables n i [] below h = tt
derivative_in variables n i (t ∷ p) below h = (
  record { exponents = length-set t.0 i (slice_index t.0 i - 1) ∙ h.0.exponents; none = NoneFrom-set n i (slice_index t.0 i - 1) t.0 below h.0.none },
  derivative_in variables n i p below h.1,
)

times_variable_in : (variables n i : ℕ) → n ≤ variables → i < n → (f : Polynomial) → AllKeys (IsInFirst variables n) f
    → AllKeys (IsInFirst variables n) (times_term add_exponents (unit_exponents i, 1) f)
times_variable_in variables n i few below [] h = tt
times_variable_in variables n i few below (t ∷ f) h = (
  record {
    exponents = length-padded_sum-shorter variables (unit_exponents i) t.0 (omega (arith, length-unit i, below)) h.0.exponents;
    none = NoneFrom-unit n i t.0 below (omega (arith, h.0.exponents)) h.0.none;
  },
  times_variable_in variables n i few below f h.1,
)

factor_if : (variables n i : ℕ) → n ≤ variables → i < n → (f : Polynomial) (b : Bool) → AllKeys (IsInFirst variables n) f
    → AllKeys (IsInFirst variables n) (if b then multiply (variable i) f else f)
factor_if variables n i few below f true h =
    AllKeys-append (IsInFirst variables n) (times_term add_exponents (unit_exponents i, 1) f) [] (times_variable_in variables n i few below f h) tt
factor_if variables n i few below f false h = h

pub factors_in_first : (variables n : ℕ) (p : Polynomial) (inside : ℕ → Bool) → n ≤ variables → AllKeys (IsInFirst variables n) p → (i k : ℕ) → i + k ≤ n
    → AllByRecursion (AllKeys (IsInFirst variables n)) (factors_from p inside i k)
factors_in_first variables n p inside few h i zero le = (AllKeys-scale (IsInFirst variables n) 2147483646 p h, tt)
factors_in_first variables n p inside few h i (suc k) le = (
  factor_if variables n i few (omega (arith, le)) (derivative i p) (inside i) (derivative_in variables n i p (omega (arith, le)) h),
  factors_in_first variables n p inside few h (suc i) k (omega (arith, le)),
)
