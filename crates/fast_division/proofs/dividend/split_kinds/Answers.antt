use Rattle.std.proofs.Common.{◌≡◌, false, subst, sym}
use Rattle.ibp_algebra.specs.FormalSum.{AllKeys}
use Rattle.fast_division.proofs.dividend.split_kinds.Goals as goal

pub returns-clause-low : goal.returns-clause-low
returns-clause-low g c = subst (AllKeys (λ t. g.O.TermOrder.high t.0 ≡ false)) (sym c.split_at.ensures.back) c.high_count.ensures.low
