use Rattle.std.proofs.Common.{refl}
use Rattle.poly_text.proofs.Values.{single_result}
use Rattle.poly_text.proofs.value.constant.Goals as goal

pub returns : goal.returns
returns c = single_result _ c.one.result _ c.args.number _ c.from_terms.ensures.sum c.from_terms.ensures.canonical c.one.ensures refl
