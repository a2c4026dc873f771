use Rattle.std.proofs.Common.{◌+◌, length, take, refl, sym, ap, ◌∙◌, arith, length-drop}
use Rattle.std.proofs.lemmas.Result.{err_from_is_err_and}
use Rattle.poly_text.specs.PolyText.{value_in}
use Rattle.poly_text.specs.Reading.{reading_of}
use Rattle.poly_text.proofs.Steps.{scan_token, scan_fault, sliced}
use Rattle.poly_text.proofs.parse.read_tokens.Goals as goal

pub returns-in_err-reader : goal.returns-in_err-reader
returns-in_err-reader c =
    let p = err_from_is_err_and c.from_residual.result c.from_residual.ensures.1 in
    let rest = c.loop-first.rest.now in
    let more = c.further_bytes-more.result in
    rw (p.1, p.2) (scan_fault c.args.n (value_in c.args.numbers.now) _ (length c.args.text.now) c.in-Some.first.now more c.place_in-at.result rest c.in-Some.others.now
    (take (more + 1) rest) c.symbol_of-symbol.result (reading_of c.loop-first.reader) _ c.in-Some.ensures.cases.0 c.loop-first.invariant.within (sym c.is_blank.ensures ∙ c.if-is_blank.false) c.further_bytes-more.ensures.within c.further_bytes-more.ensures.front
    refl c.symbol_of-symbol.ensures c.place_in-at.ensures c.in_err-reader.ensures c.loop-first.invariant.told)

pub loop-first-preserved : goal.loop-first-preserved
loop-first-preserved c =
    let rest = c.loop-first.rest.now in
    let more = c.further_bytes-more.result in
    let others = c.in-Some.others.now in
    record {
      within = omega (arith, ap length (sliced more others), length-drop more others, c.in-Some.ensures.cases.1, c.loop-first.invariant.within);
      told = scan_token c.args.n (value_in c.args.numbers.now) _ (length c.args.text.now) c.in-Some.first.now more c.place_in-at.result rest others
          (take (more + 1) rest) c.symbol_of-symbol.result (reading_of c.loop-first.reader) (reading_of c.in_ok-reader.reader) _ (sliced more others) c.in-Some.ensures.cases.0 c.loop-first.invariant.within (sym c.is_blank.ensures ∙ c.if-is_blank.false) c.further_bytes-more.ensures.within c.further_bytes-more.ensures.front
          refl c.symbol_of-symbol.ensures c.place_in-at.ensures c.in_ok-reader.ensures c.loop-first.invariant.told;
    }
