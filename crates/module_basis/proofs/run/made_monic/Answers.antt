use Rattle.std.proofs.Common.{◌≡◌, Ok, Err, IfOk}
use Rattle.mono_order.specs.declared.limits.TheConstants.{VARIABLES}
use Rattle.module_vec.specs.ModuleVector.{IsMonicVector, IsConstantMultiple}
use Rattle.module_vec.specs.Division.{monic_of}
use Rattle.module_vec.proofs.Monic.{is_monic_multiple}
use Rattle.module_basis.proofs.run.made_monic.Goals as goal

pub returns-clause-value : goal.returns-clause-value
returns-clause-value g c =
    let order = g.O.TermOrder.order in
    let v = c.args.v.now in
    elim c.monic.result as (λ r. IfOk r (λ w. IsMonicVector order VARIABLES w) → IfOk r (λ w. IsConstantMultiple v w) → IfOk r (λ w. w ≡ monic_of order v)) [
      | Ok w ↦ λ monic multiple. is_monic_multiple g.met.O.TermOrder.laws v w c.monic.ensures.kept.canonical c.requires monic multiple
      | Err e ↦ λ monic multiple. monic
    ] c.monic.ensures.monic c.monic.ensures.multiple
