use Rattle.std.proofs.Common.{◌≡◌, List, [], ◌∷◌, ap, sym, arith, ◌+◌, length, length-append, subst}
use Rattle.std.proofs.lemmas.Result.{err_from_is_err_and}
use Rattle.line_reader.specs.declared.fault.ReadSystemFault.{ReadSystemFault}
use Rattle.line_reader.specs.Lines.{lines}
use Rattle.line_reader.specs.Sections.{each_from, AreMany, Fails}
use Rattle.line_reader.proofs.SectionLaws.{answers_fail}
use Rattle.line_reader.proofs.Loops.{ReadSoFar, one_more, loop_fails, loop_done}
use Rattle.line_reader.proofs.reading.sections.Goals as goal

pub returns-in_err-next : goal.returns-in_err-next
returns-in_err-next g c =
    let p = err_from_is_err_and c.from_residual.result c.from_residual.ensures.1 in
    let text = g.S.Section.text in
    let is = g.S.Section.is_value c.args.n in
    let some = g.met.S.Section.some c.args.n c.requires.some c.requires.few in
    let number : c.loop-place.place + 1 ≡ 1 + length c.loop-place.values.items = omega (arith, c.loop-place.invariant.count) in
    answers_fail (each_from text 1) (AreMany is c.args.count) (lines c.args.text.now.rest.now) c.args.text.now.taken (lines c.next.new.from.rest.now) c.next.new.from.taken c.from_residual.result p.0 p.1
    (loop_fails text is some.0 some.1 1 c.args.count (lines c.args.text.now.rest.now) c.args.text.now.taken c.loop-place.values.items (lines c.loop-place.text.rest.now) c.loop-place.text.taken
    (c.loop-place.place + 1) p.0 c.loop-place.invariant.so_far number (omega (arith, c.loop-place.invariant.count))
    (subst (λ (f : ReadSystemFault). Fails (text (c.loop-place.place + 1)) is (lines c.loop-place.text.rest.now) c.loop-place.text.taken f) (sym p.2) c.in_err-next.ensures))

pub loop-place-preserved : goal.loop-place-preserved
loop-place-preserved g c =
    let text = g.S.Section.text in
    let is = g.S.Section.is_value c.args.n in
    let number : c.loop-place.place + 1 ≡ 1 + length c.loop-place.values.items = omega (arith, c.loop-place.invariant.count) in
    record {
      count = omega (arith, c.loop-place.invariant.count, ap length c.in_ok-push.ensures.items, length-append c.loop-place.values.items (c.in_ok-next.field-0 ∷ []));
      so_far = subst (λ (xs : List g.row.T.Denot). ReadSoFar text 1 is (lines c.args.text.now.rest.now) c.args.text.now.taken xs (lines c.next.new.from.rest.now) c.next.new.from.taken)
          (sym c.in_ok-push.ensures.items)
          (one_more text 1 is (lines c.args.text.now.rest.now) c.args.text.now.taken c.loop-place.values.items (lines c.loop-place.text.rest.now) c.loop-place.text.taken
          (c.loop-place.place + 1) c.in_ok-next.field-0 (lines c.next.new.from.rest.now) c.next.new.from.taken c.loop-place.invariant.so_far number c.in_ok-next.ensures);
    }

pub returns : goal.returns
returns g c =
    loop_done g.S.Section.text 1 (g.S.Section.is_value c.args.n) c.args.count (lines c.args.text.now.rest.now) c.args.text.now.taken c.loop-place.values.items (lines c.loop-place.text.rest.now)
    c.loop-place.text.taken c.from_vec.result c.loop-place.invariant.so_far (omega (arith, c.loop-place.invariant.count)) c.from_vec.ensures
