use Rattle.poly_text.proofs.Values.{normal_result}
use Rattle.poly_text.proofs.value.multiplied.Goals as goal

pub returns : goal.returns
returns c = normal_result _ _ c.product.ensures.product c.product.ensures.canonical
