use Rattle.std.proofs.Common.{sym, ◌∙◌}
use Rattle.mono_order.specs.declared.limits.TheConstants.{RUN_DEGREE}
use Rattle.module_vec.proofs.Degrees.{AllKeys-within}
use Rattle.module_vec.proofs.NormalForms.{IsVector-normal, AllKeys-normal, SameVector-normal}
use Rattle.module_vec.proofs.vector.Vector.from_terms.Goals as goal

pub invariant_of-result : goal.invariant_of-result
invariant_of-result g c = (
  IsVector-normal g.met.O.TermOrder.laws _ c.args.terms.now c.in_ok-terms_of_sum.ensures (c.is_over.ensures.kept c.if-is_over.false),
  AllKeys-normal g.met.O.TermOrder.laws _ _ c.args.terms.now c.in_ok-terms_of_sum.ensures
      (AllKeys-within RUN_DEGREE c.args.terms.now (sym c.is_over.ensures.over ∙ c.if-is_over.false)),
)

pub returns-clause-sum : goal.returns-clause-sum
returns-clause-sum g c = SameVector-normal g.met.O.TermOrder.laws _ c.args.terms.now c.in_ok-terms_of_sum.ensures

pub returns-clause-canonical : goal.returns-clause-canonical
returns-clause-canonical g c = IsVector-normal g.met.O.TermOrder.laws _ c.args.terms.now c.in_ok-terms_of_sum.ensures (c.is_over.ensures.kept c.if-is_over.false)
