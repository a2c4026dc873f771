use Rattle.poly_text.specs.PolyText.{value_in}
use Rattle.poly_text.proofs.Answering.{short_told}
use Rattle.poly_text.proofs.parse.parse_poly.Goals as goal

pub returns : goal.returns
returns c = short_told c.args.n (value_in c.args.numbers.now) c.args.text.now c.read_text.result c.requires.short c.read_text.ensures
