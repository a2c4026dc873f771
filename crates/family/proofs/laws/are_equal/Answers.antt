use Rattle.family.proofs.SameFamily.{same_family, families_decide, decided_by}
use Rattle.family.proofs.laws.are_equal.Goals as goal

pub returns : goal.returns
returns c = decided_by c.eq.result (same_family c.args.left.now c.args.right.now) _ c.eq.ensures (families_decide c.args.left.now c.args.right.now)
