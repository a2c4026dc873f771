use Rattle.mono_order.specs.declared.limits.TheConstants.{RUN_DEGREE}
use Rattle.std.proofs.Common.{◌+◌, take, sym, subst}
use Rattle.std.specs.List.{AllZip}
use Rattle.ibp_base.proofs.Zips.{zip_more}
use Rattle.sector_module.specs.FieldsOf.{IsFieldOf}
use Rattle.sector_module.proofs.vectors.fields_of.Goals as goal

pub loop-vector-preserved : goal.loop-vector-preserved
loop-vector-preserved g c =
    subst (AllZip (IsFieldOf RUN_DEGREE c.args.n) (take (c.loop-vector.vector-index + 1) c.args.vectors.now)) (sym c.in_ok-push.ensures.items)
    (zip_more (IsFieldOf RUN_DEGREE c.args.n) c.args.vectors.now c.loop-vector.fields.items c.loop-vector.vector-index c.vector-item.result c.in_ok-field_of.field-0 c.loop-vector-test.true
    c.vector-item.is c.loop-vector.invariant c.in_ok-field_of.ensures)
