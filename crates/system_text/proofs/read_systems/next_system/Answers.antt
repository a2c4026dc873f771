use Rattle.std.proofs.Common.{sym, subst, refl}
use Rattle.std.specs.Prelude.{codes}
use Rattle.std.proofs.lemmas.Result.{err_from_is_err_and}
use Rattle.line_reader.specs.Lines.{lines}
use Rattle.line_reader.specs.Sections.{Fails}
use Rattle.line_reader.specs.declared.fault.ReadSystemFault.{ReadSystemFault}
use Rattle.line_reader.proofs.SectionLaws.{answers_fail}
use Rattle.system_text.specs.SystemValues.{IsBlock, IsRelation, IsReduction, IsSystemValue}
use Rattle.system_text.specs.SystemLines.{AreCounted, blocks_lines, relations_lines, reductions_lines, name_line, system_lines}
use Rattle.system_text.proofs.Standing.{word_lines, IsNothing, IsName}
use Rattle.system_text.proofs.Sequences.{at_header, behind_header, at_name, behind_name, at_blocks, behind_blocks, at_relations, behind_relations, at_reductions, behind_reductions, system_found}
use Rattle.system_text.proofs.read_systems.next_system.Goals as goal

pub next_word-requires : goal.next_word-requires
next_word-requires c = (110, codes "eatibp-system 1", refl)

pub next_word-requires-2 : goal.next_word-requires-2
next_word-requires-2 c = (101, codes "nd", refl)

pub returns-in_err-next_word : goal.returns-in_err-next_word
returns-in_err-next_word c =
    let p = err_from_is_err_and c.from_residual.result c.from_residual.ensures.1 in
    let fails = subst (λ (f : ReadSystemFault). Fails (word_lines (codes "neatibp-system 1\n")) IsNothing (lines c.args.from.now.rest.now) c.args.from.now.taken f) (sym p.2) c.in_err-next_word.ensures in
    answers_fail system_lines (IsSystemValue c.args.n) (lines c.args.from.now.rest.now) c.args.from.now.taken (lines c.next_word.new.text.rest.now) c.next_word.new.text.taken c.from_residual.result p.0 p.1
    (at_header c.args.n p.0 (lines c.args.from.now.rest.now) c.args.from.now.taken fails)

pub returns-in_err-name : goal.returns-in_err-name
returns-in_err-name c =
    let p = err_from_is_err_and c.from_residual-in_err-name.result c.from_residual-in_err-name.ensures.1 in
    let fails = subst (λ (f : ReadSystemFault). Fails name_line IsName (lines c.next_word.new.text.rest.now) c.next_word.new.text.taken f) (sym p.2) c.in_err-name.ensures in
    answers_fail system_lines (IsSystemValue c.args.n) (lines c.args.from.now.rest.now) c.args.from.now.taken (lines c.next_line.new.text.rest.now) c.next_line.new.text.taken c.from_residual-in_err-name.result p.0 p.1
    (behind_header c.args.n p.0 (lines c.args.from.now.rest.now) c.args.from.now.taken (lines c.next_word.new.text.rest.now) c.next_word.new.text.taken c.in_ok-next_word.ensures (at_name c.args.n p.0 (lines c.next_word.new.text.rest.now) c.next_word.new.text.taken fails))

pub returns-in_err-sectors : goal.returns-in_err-sectors
returns-in_err-sectors c =
    let p = err_from_is_err_and c.from_residual-in_err-sectors.result c.from_residual-in_err-sectors.ensures.1 in
    let fails = subst (λ (f : ReadSystemFault). Fails blocks_lines (AreCounted (IsBlock c.args.n)) (lines c.next_line.new.text.rest.now) c.next_line.new.text.taken f) (sym p.2) c.in_err-sectors.ensures in
    answers_fail system_lines (IsSystemValue c.args.n) (lines c.args.from.now.rest.now) c.args.from.now.taken (lines c.next_blocks.new.from.rest.now) c.next_blocks.new.from.taken c.from_residual-in_err-sectors.result p.0 p.1
    (behind_header c.args.n p.0 (lines c.args.from.now.rest.now) c.args.from.now.taken (lines c.next_word.new.text.rest.now) c.next_word.new.text.taken c.in_ok-next_word.ensures (behind_name c.args.n p.0 (lines c.next_word.new.text.rest.now) c.next_word.new.text.taken (lines c.next_line.new.text.rest.now) c.next_line.new.text.taken c.in_ok-name.name c.in_ok-name.ensures (at_blocks c.args.n p.0 (lines c.next_line.new.text.rest.now) c.next_line.new.text.taken fails)))

pub returns-in_err-relations : goal.returns-in_err-relations
returns-in_err-relations c =
    let p = err_from_is_err_and c.from_residual-in_err-relations.result c.from_residual-in_err-relations.ensures.1 in
    let fails = subst (λ (f : ReadSystemFault). Fails relations_lines (AreCounted (IsRelation c.args.n)) (lines c.next_blocks.new.from.rest.now) c.next_blocks.new.from.taken f) (sym p.2) c.in_err-relations.ensures in
    answers_fail system_lines (IsSystemValue c.args.n) (lines c.args.from.now.rest.now) c.args.from.now.taken (lines c.next_relations.new.from.rest.now) c.next_relations.new.from.taken c.from_residual-in_err-relations.result p.0 p.1
    (behind_header c.args.n p.0 (lines c.args.from.now.rest.now) c.args.from.now.taken (lines c.next_word.new.text.rest.now) c.next_word.new.text.taken c.in_ok-next_word.ensures (behind_name c.args.n p.0 (lines c.next_word.new.text.rest.now) c.next_word.new.text.taken (lines c.next_line.new.text.rest.now) c.next_line.new.text.taken c.in_ok-name.name c.in_ok-name.ensures (behind_blocks c.args.n p.0 (lines c.next_line.new.text.rest.now) c.next_line.new.text.taken (lines c.next_blocks.new.from.rest.now) c.next_blocks.new.from.taken c.in_ok-sectors.sectors c.in_ok-sectors.ensures (at_relations c.args.n p.0 (lines c.next_blocks.new.from.rest.now) c.next_blocks.new.from.taken fails))))

pub returns-in_err-reductions : goal.returns-in_err-reductions
returns-in_err-reductions c =
    let p = err_from_is_err_and c.from_residual-in_err-reductions.result c.from_residual-in_err-reductions.ensures.1 in
    let fails = subst (λ (f : ReadSystemFault). Fails reductions_lines (AreCounted (IsReduction c.args.n)) (lines c.next_relations.new.from.rest.now) c.next_relations.new.from.taken f) (sym p.2) c.in_err-reductions.ensures in
    answers_fail system_lines (IsSystemValue c.args.n) (lines c.args.from.now.rest.now) c.args.from.now.taken (lines c.next_reductions.new.from.rest.now) c.next_reductions.new.from.taken c.from_residual-in_err-reductions.result p.0 p.1
    (behind_header c.args.n p.0 (lines c.args.from.now.rest.now) c.args.from.now.taken (lines c.next_word.new.text.rest.now) c.next_word.new.text.taken c.in_ok-next_word.ensures (behind_name c.args.n p.0 (lines c.next_word.new.text.rest.now) c.next_word.new.text.taken (lines c.next_line.new.text.rest.now) c.next_line.new.text.taken c.in_ok-name.name c.in_ok-name.ensures (behind_blocks c.args.n p.0 (lines c.next_line.new.text.rest.now) c.next_line.new.text.taken (lines c.next_blocks.new.from.rest.now) c.next_blocks.new.from.taken c.in_ok-sectors.sectors c.in_ok-sectors.ensures (behind_relations c.args.n p.0 (lines c.next_blocks.new.from.rest.now) c.next_blocks.new.from.taken (lines c.next_relations.new.from.rest.now) c.next_relations.new.from.taken c.in_ok-relations.relations c.in_ok-relations.ensures (at_reductions c.args.n p.0 (lines c.next_relations.new.from.rest.now) c.next_relations.new.from.taken fails)))))

pub returns-in_err-next_word-2 : goal.returns-in_err-next_word-2
returns-in_err-next_word-2 c =
    let p = err_from_is_err_and c.from_residual-in_err-next_word-2.result c.from_residual-in_err-next_word-2.ensures.1 in
    let fails = subst (λ (f : ReadSystemFault). Fails (word_lines (codes "end\n")) IsNothing (lines c.next_reductions.new.from.rest.now) c.next_reductions.new.from.taken f) (sym p.2) c.in_err-next_word-2.ensures in
    answers_fail system_lines (IsSystemValue c.args.n) (lines c.args.from.now.rest.now) c.args.from.now.taken (lines c.next_word-2.new.text.rest.now) c.next_word-2.new.text.taken c.from_residual-in_err-next_word-2.result p.0 p.1
    (behind_header c.args.n p.0 (lines c.args.from.now.rest.now) c.args.from.now.taken (lines c.next_word.new.text.rest.now) c.next_word.new.text.taken c.in_ok-next_word.ensures (behind_name c.args.n p.0 (lines c.next_word.new.text.rest.now) c.next_word.new.text.taken (lines c.next_line.new.text.rest.now) c.next_line.new.text.taken c.in_ok-name.name c.in_ok-name.ensures (behind_blocks c.args.n p.0 (lines c.next_line.new.text.rest.now) c.next_line.new.text.taken (lines c.next_blocks.new.from.rest.now) c.next_blocks.new.from.taken c.in_ok-sectors.sectors c.in_ok-sectors.ensures (behind_relations c.args.n p.0 (lines c.next_blocks.new.from.rest.now) c.next_blocks.new.from.taken (lines c.next_relations.new.from.rest.now) c.next_relations.new.from.taken c.in_ok-relations.relations c.in_ok-relations.ensures (behind_reductions c.args.n p.0 (lines c.next_relations.new.from.rest.now) c.next_relations.new.from.taken (lines c.next_reductions.new.from.rest.now) c.next_reductions.new.from.taken c.in_ok-reductions.reductions c.in_ok-reductions.ensures fails)))))

pub returns : goal.returns
returns c =
    system_found c.args.n (lines c.args.from.now.rest.now) c.args.from.now.taken (lines c.next_word.new.text.rest.now) c.next_word.new.text.taken (lines c.next_line.new.text.rest.now) c.next_line.new.text.taken (lines c.next_blocks.new.from.rest.now) c.next_blocks.new.from.taken (lines c.next_relations.new.from.rest.now) c.next_relations.new.from.taken (lines c.next_reductions.new.from.rest.now) c.next_reductions.new.from.taken (lines c.next_word-2.new.text.rest.now) c.next_word-2.new.text.taken
    c.in_ok-name.name c.in_ok-sectors.sectors c.in_ok-relations.relations c.in_ok-reductions.reductions
    c.in_ok-next_word.ensures c.in_ok-name.ensures c.in_ok-sectors.ensures c.in_ok-relations.ensures c.in_ok-reductions.ensures c.in_ok-next_word-2.ensures
