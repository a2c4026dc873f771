use Rattle.std.proofs.Common.{◌≡◌, ◌+◌, ◌-◌, ◌<◌, ◌≤◌, ℕ, [], length, get_or, ⊎_elim, ap, sym, ◌∙◌, arith}
use Rattle.std.proofs.Math.ListN.{length-set}
use Rattle.std.proofs.lemmas.Bool.{cases_lt}
use Rattle.std.proofs.lemmas.Grind.{get_or-set_at}
use Rattle.std.proofs.lemmas.List.{get_or-set_other}
use Rattle.fast_division.specs.Ranks.{below}
use Rattle.fast_division.proofs.RankOrder.{below-base}
use Rattle.fast_division.proofs.RankTables.{none_left, some_left, zeros-at, IsRow-first, entry-next, entry-wide}
use Rattle.fast_division.proofs.ranks.next_row.Goals as goal

pub returns-then-is_empty-clause-row : goal.returns-then-is_empty-clause-row
returns-then-is_empty-clause-row c =
    IsRow-first c.args.variables c.args.rows.now _ (none_left c.args.rows.now c.is_empty.result c.is_empty.ensures c.if-is_empty.true) (zeros-at 12)

pub loop-k-init : goal.loop-k-init
loop-k-init c =
    let some : 0 < length c.args.rows.now = some_left c.args.rows.now c.is_empty.result c.is_empty.ensures c.if-is_empty.false in
    let shift : length c.args.rows.now - 1 + 1 ≡ length c.args.rows.now = omega arith in
    record {
      long = omega arith;
      entry = sym (below-base (length c.args.rows.now - 1)) ∙ ap (below 0) shift;
      small = omega arith;
      done = λ j none. absurd (omega arith);
      each_small = λ j none. absurd (omega arith);
    }

pub returns-then-entry-gt-PLACES-clause-wide : goal.returns-then-entry-gt-PLACES-clause-wide
returns-then-entry-gt-PLACES-clause-wide c =
    let some : 0 < length c.args.rows.now = some_left c.args.rows.now c.is_empty.result c.is_empty.ensures c.if-is_empty.false in
    entry-wide c.args.variables c.args.rows.now c.requires some c.loop-k.k c.loop-k.entry c.loop-k-test.true c.loop-k.invariant.entry c.if-entry-gt-PLACES.true

pub loop-k-preserved : goal.loop-k-preserved
loop-k-preserved c =
    let rows = c.args.rows.now in
    let some : 0 < length rows = some_left rows c.is_empty.result c.is_empty.ensures c.if-is_empty.false in
    let entry : ℕ = c.loop-k.entry + get_or (get_or rows (length rows - 1) []) c.loop-k.k 0 in
    let next : entry ≡ below (c.loop-k.k + 1) (length rows) = entry-next c.args.variables rows c.requires some c.loop-k.k c.loop-k.entry c.loop-k-test.true c.loop-k.invariant.entry in
    record {
      long = length-set c.loop-k.next c.loop-k.k entry ∙ c.loop-k.invariant.long;
      entry = next;
      small = c.if-entry-gt-PLACES.false;
      done = λ j within.
          ⊎_elim
          (λ (before : j < c.loop-k.k). get_or-set_other c.loop-k.next c.loop-k.k j entry 0 (omega arith) ∙ c.loop-k.invariant.done j before)
          (λ (last : c.loop-k.k ≤ j).
          let here : j ≡ c.loop-k.k = omega arith in
          get_or-set_at c.loop-k.next c.loop-k.k j entry 0 here (omega arith) ∙ next ∙ ap (λ k. below (k + 1) (length rows)) (sym here))
          (cases_lt j c.loop-k.k);
      each_small = λ j within.
          ⊎_elim
          (λ (before : j < c.loop-k.k). omega (arith, get_or-set_other c.loop-k.next c.loop-k.k j entry 0 (omega arith), c.loop-k.invariant.each_small j before))
          (λ (last : c.loop-k.k ≤ j). omega (arith, get_or-set_at c.loop-k.next c.loop-k.k j entry 0 (omega arith) (omega arith), c.if-entry-gt-PLACES.false))
          (cases_lt j c.loop-k.k);
    }
