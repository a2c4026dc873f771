use Rattle.family_file.proofs.Texts.{text_value, text_fails}
use Rattle.family_file.proofs.polynomials.text_in.Goals as goal

pub returns-in-Ok : goal.returns-in-Ok
returns-in-Ok c = text_value c.args.fault c.args.n c.args.numbers.now c.args.text.now c.in-Ok.polynomial c.in-Ok.ensures

pub returns-in-Err : goal.returns-in-Err
returns-in-Err c = text_fails c.args.fault c.args.n c.args.numbers.now c.args.text.now c.in-Err.error c.fault_in.result c.fault_in.ensures c.in-Err.ensures
