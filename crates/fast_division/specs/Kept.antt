-- Where the terms of multiples stand.
--     ArePlaces placed v       the terms of v have places in the dense sums of a shape, and these are they, in turn
--     IsRow high row terms     the places of the high terms, and of the low ones, of a multiple of these terms, which is within the limit on degrees
--     IsRowOf high list row    they are those of the terms behind the lead of a vector of the list
--     AreRowsOf high list rows     all rows are of the list
-- Source: symbolic preprocessing as in the algorithm F4 of Faugère, which finds the columns of a row once.
use Rattle.std.specs.Prelude.{◌≡◌, ℕ, ◌<◌, Bool, true, false, map, drop, length, get_or, List, [], ◌++◌}
use Rattle.std.specs.List.{All}
use Rattle.ibp_algebra.specs.FormalSum.{AllKeys}
use Rattle.mono_order.specs.declared.limits.TheConstants.{RUN_DEGREE}
use Rattle.module_vec.specs.ModuleVector.{ModuleVector, multiply_vector}
use Rattle.module_vec.specs.Division.{is_over_degree}
use Rattle.fast_division.specs.declared.kept.Placed.{Placed}
use Rattle.fast_division.specs.declared.kept.Row.{Row}
use Rattle.fast_division.specs.Ranks.{place_of_term, HasPlace}

pub record ArePlaces (placed : Placed) (v : ModuleVector) : Type 0 where
  pub has : AllKeys (HasPlace placed.shape.variables placed.shape.first placed.shape.count) v
  pub are : placed.places.items ≡ map (λ t. place_of_term placed.shape.variables placed.shape.first placed.shape.count t.0) v

pub record IsRow (high : ℕ → Bool) (row : Row) (terms : ModuleVector) : Type 0 where
  pub above : ModuleVector
  pub below : ModuleVector
  pub whole : terms ≡ above ++ below
  pub above_high : AllKeys (λ t. high t.0 ≡ true) above
  pub below_low : AllKeys (λ t. high t.0 ≡ false) below
  pub high_places : ArePlaces row.high (multiply_vector row.by above)
  pub low_places : ArePlaces row.low (multiply_vector row.by below)
  pub within : is_over_degree RUN_DEGREE (multiply_vector row.by terms) ≡ false

pub record IsRowOf (high : ℕ → Bool) (list : List ModuleVector) (row : Row) : Type 0 where
  pub some : row.divisor < length list
  pub is_row : IsRow high row (drop 1 (get_or list row.divisor []))

abbrev pub AreRowsOf : (ℕ → Bool) → List ModuleVector → List Row → Type 0
AreRowsOf high list rows = All (IsRowOf high list) rows
