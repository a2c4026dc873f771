use Rattle.std.proofs.Common.{sym, subst}
use Rattle.std.specs.Prelude.{codes}
use Rattle.std.proofs.lemmas.Result.{err_from_is_err_and}
use Rattle.line_reader.specs.Lines.{lines}
use Rattle.line_reader.specs.Sections.{Fails}
use Rattle.line_reader.specs.declared.fault.ReadSystemFault.{ReadSystemFault}
use Rattle.line_reader.proofs.SectionLaws.{answers_fail}
use Rattle.system_text.specs.SystemValues.{IsRelation, IsRow}
use Rattle.system_text.specs.SystemLines.{relation_lines, IsOrigin}
use Rattle.system_text.proofs.Standing.{origin_line, row_line}
use Rattle.system_text.proofs.Sequences.{relation_fails_first, relation_fails_second, relation_found}
use Rattle.system_text.proofs.read_relations.RelationSectionSectionWritten.next.Goals as goal

pub returns-in_err-sector : goal.returns-in_err-sector
returns-in_err-sector c =
    let p = err_from_is_err_and c.from_residual.result c.from_residual.ensures.1 in
    let l0 = lines c.args.from.now.rest.now in
    let t0 = c.args.from.now.taken in
    answers_fail (relation_lines c.args.number) (IsRelation c.args.n) l0 t0 (lines c.next_line.new.text.rest.now) c.next_line.new.text.taken c.from_residual.result p.0 p.1
    (relation_fails_first c.args.n c.args.number l0 t0 p.0 (subst (λ (f : ReadSystemFault). Fails (origin_line c.args.number) (IsOrigin c.args.n) l0 t0 f) (sym p.2) c.in_err-sector.ensures))

pub returns-in_err-row : goal.returns-in_err-row
returns-in_err-row c =
    let p = err_from_is_err_and c.from_residual-in_err-row.result c.from_residual-in_err-row.ensures.1 in
    let l0 = lines c.args.from.now.rest.now in
    let t0 = c.args.from.now.taken in
    answers_fail (relation_lines c.args.number) (IsRelation c.args.n) l0 t0 (lines c.next_line-2.new.text.rest.now) c.next_line-2.new.text.taken c.from_residual-in_err-row.result p.0 p.1
    (relation_fails_second c.args.n c.args.number l0 t0 (lines c.next_line.new.text.rest.now) c.next_line.new.text.taken (c.in_ok-sector.sector, c.in_ok-sector.seed, c.in_ok-sector.field) p.0 c.in_ok-sector.ensures
    (subst (λ (f : ReadSystemFault). Fails (row_line (codes "row ")) (IsRow c.args.n) (lines c.next_line.new.text.rest.now) c.next_line.new.text.taken f) (sym p.2) c.in_err-row.ensures))

pub returns : goal.returns
returns c =
    relation_found c.args.n c.args.number (lines c.args.from.now.rest.now) c.args.from.now.taken (lines c.next_line.new.text.rest.now) c.next_line.new.text.taken
    (lines c.next_line-2.new.text.rest.now) c.next_line-2.new.text.taken (c.in_ok-sector.sector, c.in_ok-sector.seed, c.in_ok-sector.field) c.in_ok-row.row c.in_ok-sector.ensures c.in_ok-row.ensures
