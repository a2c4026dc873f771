use Rattle.mono_order.specs.declared.limits.TheConstants.{VARIABLES}
use Rattle.module_basis.proofs.Dropping.{IsSoundState-undropped, first_proper}
use Rattle.module_basis.proofs.run.Run.next_pair.Goals as goal

pub invariant_of-self : goal.invariant_of-self
invariant_of-self g c = (
  IsSoundState-undropped g.O.TermOrder.order VARIABLES c.self.inside.elements.items c.deref.result.now c.self.inside.pairs.by c.next_undropped.new.pairs.by c.self.inside.pairs.pairs c.next_undropped.new.pairs.pairs c.self.inside.taken c.next_undropped.result
      c.self.invariant.0 c.next_undropped.ensures.first c.next_undropped.ensures.empty,
  c.self.invariant.1,
  c.self.invariant.2,
)

pub returns-clause-proper : goal.returns-clause-proper
returns-clause-proper g c =
    first_proper g.O.TermOrder.order VARIABLES c.self.inside.elements.items c.deref.result.now c.self.inside.pairs.by c.self.inside.pairs.pairs c.next_undropped.new.pairs.pairs c.self.inside.taken c.next_undropped.result
    c.self.invariant.0 c.next_undropped.ensures.first
