use Rattle.std.proofs.Common.{◌≡◌, false, sym, subst, ◌∙◌}
use Rattle.std.proofs.lemmas.Result.{on_ok_weaker}
use Rattle.mono_order.specs.declared.limits.TheConstants.{RUN_DEGREE}
use Rattle.module_vec.specs.ModuleVector.{ModuleVector, multiply_vector}
use Rattle.module_vec.specs.Division.{is_over_degree}
use Rattle.fast_division.proofs.Totals.{one_bounded}
use Rattle.fast_division.proofs.Dividends.{one_added}
use Rattle.fast_division.proofs.dividend.Dividend.assign.Goals as goal

pub add-requires-clause-within : goal.add-requires-clause-within
add-requires-clause-within g c =
    subst (λ (v : ModuleVector). is_over_degree RUN_DEGREE (multiply_vector c.one-2.result v) ≡ false) (sym c.terms.ensures.same)
    (one_bounded g.O.TermOrder.order g.met.O.TermOrder.laws c.args.v.now c.one-2.result c.one-2.ensures c.terms.ensures.canonical c.terms.ensures.bounded)

pub returns : goal.returns
returns g c =
    on_ok_weaker c.add.result
    (λ is. is ∙ one_added g.O.TermOrder.order g.met.O.TermOrder.laws c.clear.new.self c.terms.result.now c.args.v.now c.one-2.result c.one.result c.one-2.ensures c.one.ensures c.clear.ensures c.terms.ensures.same
    (record { vector = c.terms.ensures.canonical; within = c.terms.ensures.bounded }))
    c.add.ensures
