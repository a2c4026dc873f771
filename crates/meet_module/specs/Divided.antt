-- The terms that the variables of a sector divide.
--     IsDividedTerm n sector t     a term of component 1 to n + 1 that z_i divides, where i is its component and in the sector
-- Notation alone.
use Rattle.std.specs.Prelude.{◌≡◌, ℕ, suc, ◌-◌, ◌<◌, ◌≤◌, true, length, slice_index_or}
use Rattle.mono_order.specs.declared.limits.TheConstants.{VARIABLES}
use Rattle.mono_order.specs.Term.{Term}
use Rattle.family.specs.Conditions.{in_sector}

pub record IsDividedTerm (n sector : ℕ) (t : Term) : Type 0 where
  pub positive : 0 < t.0
  pub within : t.0 ≤ suc n
  pub exponents : length t.1 ≡ VARIABLES
  pub divided : in_sector sector (t.0 - 1) ≡ true → 0 < slice_index_or t.1 (t.0 - 1) 0
