use Rattle.family_file.proofs.Texts.{number_value, number_fails}
use Rattle.family_file.proofs.polynomials.number_text_in.Goals as goal

pub returns-in-Ok : goal.returns-in-Ok
returns-in-Ok c = number_value c.args.fault c.args.text.now c.in-Ok.number c.in-Ok.ensures

pub returns-in-Err : goal.returns-in-Err
returns-in-Err c = number_fails c.args.fault c.args.text.now c.in-Err.error c.fault_in.result c.fault_in.ensures c.in-Err.ensures
