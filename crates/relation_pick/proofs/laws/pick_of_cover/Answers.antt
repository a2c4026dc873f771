use Rattle.relation_pick.proofs.Covers.{pick_of_cover}
use Rattle.relation_pick.proofs.laws.pick_of_cover.Goals as goal

pub returns : goal.returns
returns c = pick_of_cover
