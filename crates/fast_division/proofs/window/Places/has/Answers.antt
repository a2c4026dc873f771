use Rattle.std.proofs.Common.{◌<◌, ◌≤◌, sum, sym, subst, arith}
use Rattle.mono_order.specs.Term.{Term}
use Rattle.mono_order.specs.declared.limits.TheConstants.{RUN_DEGREE}
use Rattle.fast_division.proofs.Windows.{HasPlace-tested}
use Rattle.fast_division.proofs.window.Places.has.Goals as goal

pub returns : goal.returns
returns c =
    let places = c.args.self.now in
    let key : Term = (c.key.inside.component, c.key.inside.monomial) in
    let fits : key.0 < 256 = omega arith in
    let degree : sum key.1 ≤ RUN_DEGREE = subst (λ (t : Term). sum t.1 ≤ RUN_DEGREE) (sym c.key.view_is) c.requires in
    HasPlace-tested places.ranks.0 places.first places.count c.is_of_first.result key c.args.key.now fits c.is_of_first.ensures.kept degree c.key.view_is c.is_of_first.ensures.tested
