use Rattle.std.proofs.Common.{◌∙◌, ap, subst}
use Rattle.std.specs.Prelude.{Option}
use Rattle.std.proofs.lemmas.Result.{err_from_is_err_and}
use Rattle.line_reader.specs.declared.fault.ReadSystemFault.{ReadSystemFault}
use Rattle.line_reader.specs.Lines.{lines, worded}
use Rattle.line_reader.specs.Sections.{one_line, Reads}
use Rattle.line_reader.proofs.SectionLaws.{answers_fail, no_line_fails, line_fails, worded_whole}
use Rattle.line_reader.proofs.reading.next_line.Goals as goal

pub returns-in_err-line : goal.returns-in_err-line
returns-in_err-line g c =
    let p = err_from_is_err_and c.from_residual.result c.from_residual.ensures.1 in
    let text = λ (x : g.row.T.Denot). worded c.args.word.now (g.L.LineKind.body c.args.number x) in
    let some = g.met.L.LineKind.some c.args.n c.requires.some c.requires.few in
    let ls = lines c.args.text.now.rest.now in
    answers_fail (one_line text) (g.L.LineKind.is_value c.args.n) ls c.args.text.now.taken (lines c.next.new.self.rest.now) c.next.new.self.taken c.from_residual.result p.0 p.1
    (no_line_fails text (g.L.LineKind.is_value c.args.n) some.0 some.1 (λ a. worded_whole c.args.word.now (g.L.LineKind.body c.args.number a) c.requires.word) ls c.args.text.now.taken p.0
    c.in_err-line.ensures.none (p.2 ∙ c.in_err-line.ensures.bad))

pub returns-in-None : goal.returns-in-None
returns-in-None g c =
    let text = λ (x : g.row.T.Denot). worded c.args.word.now (g.L.LineKind.body c.args.number x) in
    let some = g.met.L.LineKind.some c.args.n c.requires.some c.requires.few in
    line_fails text (g.L.LineKind.is_value c.args.n) some.0 some.1 c.in_ok-line.line.now (lines c.args.text.now.rest.now) c.args.text.now.taken (lines c.next.new.self.rest.now) c.bad.result
    (subst (λ (o : Option g.row.T.Denot). Reads text (g.L.LineKind.is_value c.args.n) c.in_ok-line.line.now o) c.in-None.is c.in_ok-value.ensures)
    c.in_ok-line.ensures.line (c.bad.ensures ∙ ap ReadSystemFault.BadLine c.in_ok-line.ensures.taken)
