use Rattle.std.proofs.Common.{subst}
use Rattle.std.proofs.lemmas.Result.{err_from_is_err_and}
use Rattle.poly_text.specs.PolyText.{value_in}
use Rattle.poly_text.specs.Told.{Answers}
use Rattle.poly_text.specs.Reading.{reading_of, read_end}
use Rattle.poly_text.proofs.Steps.{text_fault, text_end}
use Rattle.poly_text.proofs.parse.read_text.Goals as goal

pub returns-in_err-reader : goal.returns-in_err-reader
returns-in_err-reader c =
    let p = err_from_is_err_and c.from_residual.result c.from_residual.ensures.1 in
    rw (p.1, p.2) (text_fault c.args.n (value_in c.args.numbers.now) c.args.text.now c.as_bytes.result.now c.as_bytes.ensures.value _ c.in_err-reader.ensures)

pub returns : goal.returns
returns c =
    text_end c.args.n (value_in c.args.numbers.now) c.args.text.now c.as_bytes.result.now c.as_bytes.ensures.value c.read_end.result (reading_of c.in_ok-reader.reader) c.in_ok-reader.ensures (subst (λ at. Answers c.read_end.result (read_end (reading_of c.in_ok-reader.reader) at)) c.place_in.ensures c.read_end.ensures)
