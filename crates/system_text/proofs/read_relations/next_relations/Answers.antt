use Rattle.std.proofs.Common.{sym, subst}
use Rattle.std.specs.Prelude.{codes}
use Rattle.std.proofs.lemmas.Result.{err_from_is_err_and}
use Rattle.line_reader.specs.Lines.{lines}
use Rattle.line_reader.specs.Sections.{Fails}
use Rattle.line_reader.specs.declared.fault.ReadSystemFault.{ReadSystemFault}
use Rattle.line_reader.proofs.SectionLaws.{answers_fail}
use Rattle.system_text.specs.SomeValues.{some_relation}
use Rattle.system_text.specs.SystemValues.{IsRelation}
use Rattle.system_text.specs.SystemLines.{relations_lines, relation_lines, AreCounted, IsCount}
use Rattle.system_text.proofs.Sequences.{count_line_of, counted_fails_first, counted_answers}
use Rattle.system_text.proofs.read_relations.next_relations.Goals as goal

pub returns-in_err-count : goal.returns-in_err-count
returns-in_err-count c =
    let p = err_from_is_err_and c.from_residual.result c.from_residual.ensures.1 in
    let l0 = lines c.args.from.now.rest.now in
    let t0 = c.args.from.now.taken in
    answers_fail relations_lines (AreCounted (IsRelation c.args.n)) l0 t0 (lines c.next_line.new.text.rest.now) c.next_line.new.text.taken c.from_residual.result p.0 p.1
    (counted_fails_first (codes "relations ") relation_lines (IsRelation c.args.n) c.args.n (some_relation c.args.n).0 (some_relation c.args.n).1 l0 t0 p.0 (subst (λ (f : ReadSystemFault). Fails (count_line_of (codes "relations ")) (IsCount c.args.n) l0 t0 f) (sym p.2) c.in_err-count.ensures))

pub returns : goal.returns
returns c =
    counted_answers (codes "relations ") relation_lines (IsRelation c.args.n) c.args.n (lines c.args.from.now.rest.now) c.args.from.now.taken (lines c.next_line.new.text.rest.now) c.next_line.new.text.taken
    (lines c.sections.new.text.rest.now) c.sections.new.text.taken c.in_ok-count.count c.sections.result c.in_ok-count.ensures c.sections.ensures
