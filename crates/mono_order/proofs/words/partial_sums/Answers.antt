use Rattle.std.proofs.Common.{◌≡◌, ◌+◌, ◌<◌, ◌≤◌, get_or, ⊎_elim, ap, sym, ◌∙◌, rules, arith}
use Rattle.std.proofs.Math.ListN.{length-set}
use Rattle.std.proofs.lemmas.Bool.{cases_lt}
use Rattle.std.proofs.lemmas.Grind.{get_or-set_at}
use Rattle.std.proofs.lemmas.List.{get_or-set_other}
use Rattle.mono_order.specs.PartialSums.{partial_sum}
use Rattle.mono_order.proofs.Packing.{partial_sum-next}
use Rattle.mono_order.proofs.words.partial_sums.Goals as goal

pub loop-i-preserved : goal.loop-i-preserved
loop-i-preserved c =
    let next : c.loop-i.sum + get_or c.args.exponents.now c.loop-i.i 0 ≡ partial_sum (c.loop-i.i + 1) c.args.exponents.now =
    omega (arith, partial_sum-next c.loop-i.i c.args.exponents.now (omega arith), c.loop-i.invariant.sum)
    in
    record {
      long = length-set c.loop-i.sums c.loop-i.i (c.loop-i.sum + get_or c.args.exponents.now c.loop-i.i 0) ∙ c.loop-i.invariant.long;
      sums = λ k below.
          ⊎_elim
          (λ (before : k < c.loop-i.i). get_or-set_other c.loop-i.sums c.loop-i.i k (c.loop-i.sum + get_or c.args.exponents.now c.loop-i.i 0) 0 (omega arith) ∙ c.loop-i.invariant.sums k before)
          (λ (last : c.loop-i.i ≤ k).
          let here : k ≡ c.loop-i.i = omega arith in
          get_or-set_at c.loop-i.sums c.loop-i.i k (c.loop-i.sum + get_or c.args.exponents.now c.loop-i.i 0) 0 here (omega arith) ∙ next ∙ ap (λ n. partial_sum (n + 1) c.args.exponents.now) (sym here))
          (cases_lt k c.loop-i.i);
      sum = next;
      small = search rules;
    }
