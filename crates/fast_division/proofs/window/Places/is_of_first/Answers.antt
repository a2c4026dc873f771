use Rattle.fast_division.proofs.Windows.{IsOfFirst-tested}
use Rattle.fast_division.proofs.window.Places.is_of_first.Goals as goal

pub returns-clause-tested : goal.returns-clause-tested
returns-clause-tested c =
    let n = c.variables.ensures in
    IsOfFirst-tested c.variables.result c.args.self.now.ranks.0 c.args.monomial.now c.partial_sums-sums.result n.some n.few c.partial_sums-sums.ensures.kept c.partial_sums-sums.ensures.value n.variables
