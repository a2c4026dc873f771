use Rattle.mono_order.specs.declared.limits.TheConstants.{RUN_DEGREE}
use Rattle.std.proofs.Common.{take}
use Rattle.std.specs.List.{AllZip}
use Rattle.sector_module.specs.FieldsOf.{IsFieldOf}
use Rattle.sector_module.proofs.vectors.fields_of.Given as goal

abbrev pub invariant-loop-vector : goal.invariant-loop-vector
invariant-loop-vector g l = AllZip (IsFieldOf RUN_DEGREE l.n) (take l.vector-index l.vectors) l.fields.items
