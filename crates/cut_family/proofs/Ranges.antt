-- Powers outside a cut, and powers with those of a cut, are in range.
use Rattle.std.proofs.Common.{ℕ, ◌<◌, ◌≤◌, ◌^◌, List, length, arith}
use Rattle.std.specs.Int.Signed.{le_z_yes}
use Rattle.std.specs.Prelude.{ℤ, pos, neg_ℤ, ◌≤ℤ◌, count_ones}
use Rattle.ibp_base.proofs.Members.{All-each}
use Rattle.sector_lattice.specs.declared.integral.TheConstants.{LINES, POWER}
use Rattle.sector_lattice.specs.Ranges.{InRange}
use Rattle.cut_family.specs.Places.{outside, filled}
use Rattle.cut_family.proofs.PlaceLaws.{outside_length, outside_shorter, outside_each, filled_length, filled_each}

abbrev IsSmall : ℤ → Type 0
IsSmall power = (neg_ℤ POWER ≤ℤ power) × (power ≤ℤ POWER)

pub outside_in_range : (cut : ℕ) (powers : List ℤ) → cut < 2 ^ length powers → count_ones cut < length powers → InRange powers → InRange (outside cut powers)
outside_in_range cut powers small some h = record {
  some = omega (arith, outside_length cut powers small, some);
  few = omega (arith, outside_shorter cut powers, h.few);
  small = All-each IsSmall (outside cut powers) (outside_each IsSmall cut powers h.small);
}

pub filled_in_range : (n cut : ℕ) (powers : List ℤ) → 1 ≤ n → n ≤ LINES → InRange powers → InRange (filled (pos 1) n cut powers)
filled_in_range n cut powers some few h = record {
  some = omega (arith, filled_length (pos 1) n cut powers, some);
  few = omega (arith, filled_length (pos 1) n cut powers, few);
  small = All-each IsSmall (filled (pos 1) n cut powers) (filled_each IsSmall (pos 1) n cut powers (le_z_yes tt, le_z_yes tt) h.small);
}
