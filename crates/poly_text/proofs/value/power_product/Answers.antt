use Rattle.std.proofs.Common.{refl}
use Rattle.poly_text.proofs.Values.{single_result}
use Rattle.poly_text.proofs.value.power_product.Goals as goal

pub returns : goal.returns
returns c = single_result _ c.args.monomial _ c.one.result _ c.from_terms.ensures.sum c.from_terms.ensures.canonical refl c.one.ensures
