use Rattle.std.proofs.Common.{sym, subst}
use Rattle.std.specs.Prelude.{codes}
use Rattle.std.proofs.lemmas.Result.{err_from_is_err_and}
use Rattle.line_reader.specs.Lines.{lines}
use Rattle.line_reader.specs.Sections.{Fails}
use Rattle.line_reader.specs.declared.fault.ReadSystemFault.{ReadSystemFault}
use Rattle.line_reader.proofs.SectionLaws.{answers_fail}
use Rattle.family.specs.Shapes.{ArePowers}
use Rattle.system_text.specs.SystemValues.{IsReduction, IsRow, AreWeights}
use Rattle.system_text.specs.SystemLines.{reduction_lines}
use Rattle.system_text.proofs.Standing.{target_line, row_line, weights_line}
use Rattle.system_text.proofs.Sequences.{reduction_fails_first, reduction_fails_second, reduction_fails_third, reduction_found}
use Rattle.system_text.proofs.read_reductions.ReductionSectionSectionReduction.next.Goals as goal

pub returns-in_err-target : goal.returns-in_err-target
returns-in_err-target c =
    let p = err_from_is_err_and c.from_residual.result c.from_residual.ensures.1 in
    let l0 = lines c.args.from.now.rest.now in
    let t0 = c.args.from.now.taken in
    answers_fail reduction_lines (IsReduction c.args.n) l0 t0 (lines c.next_line.new.text.rest.now) c.next_line.new.text.taken c.from_residual.result p.0 p.1
    (reduction_fails_first c.args.n l0 t0 p.0 (subst (λ (f : ReadSystemFault). Fails target_line (ArePowers c.args.n) l0 t0 f) (sym p.2) c.in_err-target.ensures))

pub returns-in_err-reduced : goal.returns-in_err-reduced
returns-in_err-reduced c =
    let p = err_from_is_err_and c.from_residual-in_err-reduced.result c.from_residual-in_err-reduced.ensures.1 in
    let l0 = lines c.args.from.now.rest.now in
    let t0 = c.args.from.now.taken in
    answers_fail reduction_lines (IsReduction c.args.n) l0 t0 (lines c.next_line-2.new.text.rest.now) c.next_line-2.new.text.taken c.from_residual-in_err-reduced.result p.0 p.1
    (reduction_fails_second c.args.n l0 t0 (lines c.next_line.new.text.rest.now) c.next_line.new.text.taken c.in_ok-target.target p.0 c.in_ok-target.ensures
    (subst (λ (f : ReadSystemFault). Fails (row_line (codes "reduces ")) (IsRow c.args.n) (lines c.next_line.new.text.rest.now) c.next_line.new.text.taken f) (sym p.2) c.in_err-reduced.ensures))

pub returns-in_err-weights : goal.returns-in_err-weights
returns-in_err-weights c =
    let p = err_from_is_err_and c.from_residual-in_err-weights.result c.from_residual-in_err-weights.ensures.1 in
    let l0 = lines c.args.from.now.rest.now in
    let t0 = c.args.from.now.taken in
    answers_fail reduction_lines (IsReduction c.args.n) l0 t0 (lines c.next_line-3.new.text.rest.now) c.next_line-3.new.text.taken c.from_residual-in_err-weights.result p.0 p.1
    (reduction_fails_third c.args.n l0 t0 (lines c.next_line.new.text.rest.now) c.next_line.new.text.taken (lines c.next_line-2.new.text.rest.now) c.next_line-2.new.text.taken c.in_ok-target.target c.in_ok-reduced.reduced p.0 c.in_ok-target.ensures c.in_ok-reduced.ensures
    (subst (λ (f : ReadSystemFault). Fails weights_line AreWeights (lines c.next_line-2.new.text.rest.now) c.next_line-2.new.text.taken f) (sym p.2) c.in_err-weights.ensures))

pub returns : goal.returns
returns c =
    reduction_found c.args.n (lines c.args.from.now.rest.now) c.args.from.now.taken (lines c.next_line.new.text.rest.now) c.next_line.new.text.taken (lines c.next_line-2.new.text.rest.now) c.next_line-2.new.text.taken
    (lines c.next_line-3.new.text.rest.now) c.next_line-3.new.text.taken c.in_ok-target.target c.in_ok-reduced.reduced c.in_ok-weights.weights c.in_ok-target.ensures c.in_ok-reduced.ensures c.in_ok-weights.ensures
