use Rattle.std.proofs.Common.{◌≡◌, ◌<◌, ◌≤◌, ℕ, length, get_or, ap, ⊎_elim, arith}
use Rattle.std.specs.Prelude.{nat_eq}
use Rattle.std.specs.Cmp.{unsigned_Decides}
use Rattle.std.proofs.lemmas.Bool.{cases_lt, OnTrue_from}
use Rattle.std.proofs.lemmas.List.{get_or_default, get_or_past}
use Rattle.fast_division.proofs.window.are_zero.Goals as goal

pub loop-value-init : goal.loop-value-init
loop-value-init c = record { each = λ i h. absurd (omega (arith, h)); small = omega arith }

pub overflow_add-sum : goal.overflow_add-sum
overflow_add-sum c = omega (arith, c.requires, c.loop-value.invariant.small, c.loop-value-test.true, c.value.ensures.below)

pub loop-value-preserved : goal.loop-value-preserved
loop-value-preserved c =
    let index = c.loop-value.value-index in
    let values = c.args.values.now in
    let at : c.value.result ≡ get_or values index 0 = omega (arith, c.value.ensures.same, c.value-item.is, get_or_default values index c.value-item.result 0 c.loop-value-test.true) in
    record {
      each = λ i h.
          ⊎_elim
          (λ (before : i < index). omega (arith, c.loop-value.invariant.each i before))
          (λ (last : index ≤ i). omega (arith, at, ap (λ k. get_or values k 0) (let e : i ≡ index = omega (arith, h, last) in e)))
          (cases_lt i index);
      small = omega (arith, c.loop-value.invariant.small, c.value.ensures.below);
    }

pub returns : goal.returns
returns c =
    let values = c.args.values.now in
    OnTrue_from (nat_eq c.loop-value.sum 0) ((i : ℕ) → get_or values i 0 ≡ 0) (λ e. λ i.
    let none = (unsigned_Decides c.loop-value.sum 0).0 e in
    ⊎_elim
    (λ (inside : i < length values). omega (arith, none, c.loop-value.invariant.each i (omega (arith, inside, c.loop-value-test.false))))
    (λ (past : length values ≤ i). get_or_past values i 0 past)
    (cases_lt i (length values)))
