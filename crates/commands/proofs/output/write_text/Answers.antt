use Rattle.std.proofs.Common.{◌≡◌, ◌-◌, length, drop, take, arith, length-drop}
use Rattle.std.proofs.Math.Seq.{take-add}
use Rattle.std.proofs.lemmas.List.{take_all}
use Rattle.commands.proofs.Known.{Appends-then}
use Rattle.commands.proofs.output.write_text.Goals as goal

pub loop-at-preserved : goal.loop-at-preserved
loop-at-preserved g c =
    let text = c.args.text.now in
    let at = c.loop-at.at in
    let n = c.in_ok-at.field-0 in
    let piece-is : take (length text - at) (drop at text) ≡ drop at text = take_all (length text - at) (drop at text) (omega (arith, length-drop at text)) in
    record {
      within = omega (arith, rw piece-is at c.in_ok-at.ensures.bound, length-drop at text);
      taken = rw (take-add at n text) (Appends-then _ _ _ (take at text) (take n (drop at text)) c.loop-at.invariant.taken (rw piece-is at c.in_ok-at.ensures.bytes));
      later = omega (arith, c.in_ok-at.ensures.cause.later, c.loop-at.invariant.later);
    }
