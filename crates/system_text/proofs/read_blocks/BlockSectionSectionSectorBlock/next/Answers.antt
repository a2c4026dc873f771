use Rattle.std.proofs.Common.{sym, subst}
use Rattle.std.proofs.lemmas.Result.{err_from_is_err_and}
use Rattle.line_reader.specs.Lines.{lines}
use Rattle.line_reader.specs.Sections.{Fails, each_from, AreMany}
use Rattle.line_reader.specs.declared.fault.ReadSystemFault.{ReadSystemFault}
use Rattle.line_reader.proofs.SectionLaws.{answers_fail}
use Rattle.system_text.specs.SystemValues.{IsBlock, IsStripped}
use Rattle.system_text.specs.SystemLines.{block_lines, field_lines, IsHeading}
use Rattle.system_text.proofs.Standing.{heading_line}
use Rattle.system_text.proofs.Sequences.{block_fails_first, block_fails_second, block_found}
use Rattle.system_text.proofs.read_blocks.BlockSectionSectionSectorBlock.next.Goals as goal

pub returns-in_err-sector : goal.returns-in_err-sector
returns-in_err-sector c =
    let p = err_from_is_err_and c.from_residual.result c.from_residual.ensures.1 in
    let l0 = lines c.args.from.now.rest.now in
    let t0 = c.args.from.now.taken in
    answers_fail block_lines (IsBlock c.args.n) l0 t0 (lines c.next_line.new.text.rest.now) c.next_line.new.text.taken c.from_residual.result p.0 p.1
    (block_fails_first c.args.n l0 t0 p.0 (subst (λ (f : ReadSystemFault). Fails heading_line (IsHeading c.args.n) l0 t0 f) (sym p.2) c.in_err-sector.ensures))

pub returns-in_err-fields : goal.returns-in_err-fields
returns-in_err-fields c =
    let p = err_from_is_err_and c.from_residual-in_err-fields.result c.from_residual-in_err-fields.ensures.1 in
    let l0 = lines c.args.from.now.rest.now in
    let t0 = c.args.from.now.taken in
    answers_fail block_lines (IsBlock c.args.n) l0 t0 (lines c.sections.new.text.rest.now) c.sections.new.text.taken c.from_residual-in_err-fields.result p.0 p.1
    (block_fails_second c.args.n l0 t0 (lines c.next_line.new.text.rest.now) c.next_line.new.text.taken (c.in_ok-sector.sector, c.in_ok-sector.count) p.0 c.in_ok-sector.ensures
    (subst (λ (f : ReadSystemFault). Fails (each_from field_lines 1) (AreMany (IsStripped c.args.n) c.in_ok-sector.count) (lines c.next_line.new.text.rest.now) c.next_line.new.text.taken f) (sym p.2) c.in_err-fields.ensures))

pub returns : goal.returns
returns c =
    block_found c.args.n (lines c.args.from.now.rest.now) c.args.from.now.taken (lines c.next_line.new.text.rest.now) c.next_line.new.text.taken
    (lines c.sections.new.text.rest.now) c.sections.new.text.taken (c.in_ok-sector.sector, c.in_ok-sector.count) c.in_ok-fields.fields c.in_ok-sector.ensures c.in_ok-fields.ensures
