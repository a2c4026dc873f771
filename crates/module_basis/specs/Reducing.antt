-- From a basis to the reduced one.
--     Descends                       the list descends by lead
--     IsSortedLow                    the vectors with low leads, in descending order
--     IsKept                         what stays of a list: no lead divides another one, and each lead of the list is divisible
-- Source: the reduction of a Gröbner basis to the reduced one as in Using Algebraic Geometry of Cox, Little and O'Shea.
use Rattle.std.specs.Prelude.{◌≢◌, ◌≤◌, ℕ, Bool, length, List, [], ◌∷◌}
use Rattle.std.specs.List.{AllByRecursion, Contains}
use Rattle.std.specs.declared.cmp.Ordering.{Ordering}
use Rattle.std.specs.declared.cmp.Ordering.TheVariants.{Less}
use Rattle.mono_order.specs.Term.{Term}
use Rattle.module_vec.specs.ModuleVector.{ModuleVector, lead, HasDivisor}
use Rattle.module_basis.specs.GroebnerBasis.{IsMinimal, AscendsByLead, low_elements}

abbrev pub Descends : (Term → Term → Ordering) → List ModuleVector → Type 0
Descends order [] = Unit {0}
Descends order (g ∷ list) = AllByRecursion (λ h. order (lead g) (lead h) ≢ Less) list × Descends order list

pub record IsSortedLow (order : Term → Term → Ordering) (high : ℕ → Bool) (list sorted : List ModuleVector) : Type 0 where
  pub descends : Descends order sorted
  pub within : (x : ModuleVector) → Contains sorted x → Contains (low_elements high list) x
  pub all : (x : ModuleVector) → Contains (low_elements high list) x → Contains sorted x
  pub short : length sorted ≤ length list

pub record IsKept (order : Term → Term → Ordering) (list kept : List ModuleVector) : Type 0 where
  pub within : (x : ModuleVector) → Contains kept x → Contains list x
  pub divided : (x : ModuleVector) → Contains list x → HasDivisor kept (lead x)
  pub ascends : AscendsByLead order kept
  pub is_minimal : IsMinimal kept
  pub short : length kept ≤ length list
