use Rattle.std.proofs.Common.{◌≡◌, ◌++◌, map, take}
use Rattle.ibp_algebra.specs.FormalSum.{normal_form}
use Rattle.mono_order.specs.TermOrder.{high_block}
use Rattle.sector_module.specs.SectorBasis.{field_vector}
use Rattle.meet_module.specs.MeetRuns.{doubled}
use Rattle.meet_module.proofs.vectors.put_doubled.Given as goal

abbrev pub invariant-loop-field : goal.invariant-loop-field
invariant-loop-field l = l.vectors.items ≡ l.fn.vectors.items ++ map (λ field. normal_form high_block (doubled (field_vector field))) (take l.field-index l.fields)
