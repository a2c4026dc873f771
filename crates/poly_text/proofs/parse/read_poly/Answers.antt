use Rattle.poly_text.specs.PolyText.{value_in}
use Rattle.poly_text.proofs.Answering.{value_read, fault_read}
use Rattle.poly_text.proofs.parse.read_poly.Goals as goal

pub returns-in-Ok : goal.returns-in-Ok
returns-in-Ok c = value_read c.args.n (value_in c.args.numbers.now) c.args.text.now c.in-Ok.value c.in-Ok.ensures

pub returns-in-Err : goal.returns-in-Err
returns-in-Err c = fault_read c.args.n (value_in c.args.numbers.now) c.args.text.now c.in-Err.fault c.unread.result c.unread.ensures c.in-Err.ensures
