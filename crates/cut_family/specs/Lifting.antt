-- The lift of what belongs to a cut family: the old names of the variables are back, and the power 1 stands at
-- each member of the cut. Here n is the number of variables of the whole family.
--     lifted_integral n cut t    the power 1 at each member of the cut
--     lifted_row n cut row       each of its integrals lifted
--     lifted_polynomial cut p    the old names back
--     lifted_system n cut s      each part lifted
-- Source: reductions on spanning cuts; our own.
use Rattle.std.specs.Prelude.{ℕ, ℤ, pos, List, [], map}
use Rattle.ibp_algebra.specs.Exponents.{deg_rev_lex}
use Rattle.ibp_algebra.specs.FormalSum.{map_keys, normal_form}
use Rattle.ibp_algebra.specs.Polynomial.{Polynomial}
use Rattle.mono_order.specs.declared.limits.TheConstants.{VARIABLES}
use Rattle.sector_lattice.specs.Sectors.{integral_cmp}
use Rattle.sector_lattice.specs.declared.sector.Sector.{Sector}
use Rattle.sparse_rows.specs.Rows.{IntegralSum}
use Rattle.family.specs.declared.parts.StrippedField.{StrippedField}
use Rattle.system_text.specs.declared.value.SectorBlock.{SectorBlock}
use Rattle.system_text.specs.declared.value.Written.{Written}
use Rattle.system_text.specs.declared.value.Reduction.{Reduction}
use Rattle.system_text.specs.declared.value.System.{System}
use Rattle.cut_family.specs.Places.{filled, with_cut}

abbrev pub lifted_integral : ℕ → ℕ → List ℤ → List ℤ
lifted_integral n cut powers = filled (pos 1) n cut powers

abbrev pub lifted_row : ℕ → ℕ → IntegralSum → IntegralSum
lifted_row n cut row = normal_form integral_cmp (map_keys (lifted_integral n cut) row)

abbrev pub lifted_polynomial : ℕ → Polynomial → Polynomial
lifted_polynomial cut p = normal_form deg_rev_lex (map_keys (filled 0 VARIABLES cut) p)

abbrev pub lifted_sector : ℕ → ℕ → Sector → Sector
lifted_sector n cut sector = record { 0 = with_cut n cut sector.0 }

-- the zero polynomial stands at each member of the cut
abbrev pub lifted_field : ℕ → ℕ → StrippedField → StrippedField
lifted_field n cut field = record { c = filled [] n cut (map (lifted_polynomial cut) field.c); b = lifted_polynomial cut field.b }

abbrev pub lifted_block : ℕ → ℕ → SectorBlock → SectorBlock
lifted_block n cut block = record { sector = lifted_sector n cut block.sector; fields = map (lifted_field n cut) block.fields }

abbrev pub lifted_relation : ℕ → ℕ → Written → Written
lifted_relation n cut r = record { sector = lifted_sector n cut r.sector; seed = lifted_integral n cut r.seed; field = r.field; row = lifted_row n cut r.row }

abbrev pub lifted_reduction : ℕ → ℕ → Reduction → Reduction
lifted_reduction n cut r = record { target = lifted_integral n cut r.target; reduced = lifted_row n cut r.reduced; weights = r.weights }

abbrev pub lifted_system : ℕ → ℕ → System → System
lifted_system n cut s =
    record { name = s.name; n = n; sectors = map (lifted_block n cut) s.sectors; relations = map (lifted_relation n cut) s.relations; reductions = map (lifted_reduction n cut) s.reductions }
