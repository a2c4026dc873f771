use Rattle.poly_text.proofs.Values.{normal_result}
use Rattle.poly_text.proofs.value.added.Goals as goal

pub returns : goal.returns
returns c = normal_result _ _ c.add.ensures.sum c.add.ensures.canonical
