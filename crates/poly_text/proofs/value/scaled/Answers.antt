use Rattle.poly_text.proofs.Values.{normal_result}
use Rattle.poly_text.proofs.value.scaled.Goals as goal

pub returns : goal.returns
returns c = normal_result _ _ c.scale.ensures.multiple c.scale.ensures.canonical
