use Rattle.std.specs.Ordering.{eq_by_cmp}
use Rattle.ibp_algebra.proofs.Canonical.{same_canonical}
use Rattle.ibp_algebra.proofs.Members.{order_decides}
use Rattle.sparse_terms.proofs.laws.unique_sum.Goals as goal

pub returns : goal.returns
returns g c =
    let order = g.O.KeyOrder.order in
    let total = g.met.O.KeyOrder.total in
    let unique = g.met.O.KeyOrder.unique in
    λ first second. same_canonical order total (eq_by_cmp order) (order_decides order total unique) unique first second
