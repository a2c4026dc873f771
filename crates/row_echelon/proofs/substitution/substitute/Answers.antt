use Rattle.std.proofs.Common.{◌≡◌, ◌<◌, ◌≤◌, ◌++◌, ℕ, Bool, true, false, List, [], length, vec_len, ⊎_elim, sym, ap, subst, ◌∙◌, arith}
use Rattle.std.specs.Prelude.{replicate, slice_get}
use Rattle.std.specs.Ordering.{nat_cmp}
use Rattle.std.proofs.lemmas.List.{nil_from_length}
use Rattle.std.proofs.lemmas.Bool.{cases_lt}
use Rattle.ibp_algebra.specs.FormalSum.{FormalSum, AllKeys, scale}
use Rattle.ibp_algebra.specs.Combination.{combination}
use Rattle.ibp_algebra.specs.Spans.{row_at, SameSum}
use Rattle.row_echelon.specs.KeptRows.{reduced_rows, by_place}
use Rattle.row_echelon.proofs.Eliminating.{IsEntry-at}
use Rattle.row_echelon.proofs.Weighing.{Weighing, whole_slice, Weighing-start, Weighing-zero, Weighing-step, Weighing-end, Weighing-numbers, Weighing-ascending}
use Rattle.row_echelon.proofs.substitution.substitute.Goals as goal

pub add_steps-requires : goal.add_steps-requires
add_steps-requires c =
    subst (λ n. AllKeys (λ place. place < n) c.args.steps.now) (sym (c.deref_mut.ensures.len ∙ c.in_ok-sums.ensures.len ∙ c.len.ensures.len)) c.requires.places

pub loop-value-init : goal.loop-value-init
loop-value-init c =
    let es = c.args.kept.now.entries in
    let whole = combination (row_at (reduced_rows es)) c.args.steps.now in
    let zeros : c.deref_mut.result.now ≡ replicate c.len.result 0 =
    c.deref_mut.ensures.value ∙ c.in_ok-sums.ensures.items_if_clones_equal (λ y e. e) ∙ ap (replicate c.len.result) c.zero.ensures
    in
    let long : length c.add_steps.new.sums ≡ length es = c.add_steps.auto.sums ∙ c.deref_mut.ensures.len ∙ c.in_ok-sums.ensures.len ∙ c.len.ensures.len in
    let start = Weighing-start es c.args.steps.now c.add_steps.new.sums c.deref_mut.result.now c.len.result c.one.result zeros (omega arith) c.one.ensures c.add_steps.ensures in
    let back = whole_slice c.add_steps.new.sums c.in_ok-sums.sums.items c.in_ok-sums.sums.len (c.add_steps.auto.sums ∙ ap length c.deref_mut.ensures.value) c.in_ok-sums.sums.ok.0 in
    subst (λ (sums : List ℕ). Weighing es whole c.new-weights.result.items sums) (sym back)
    (subst (λ (weights : FormalSum ℕ). Weighing es whole weights c.add_steps.new.sums) (sym c.new-weights.ensures.items) start)

pub add_steps-requires-in-Some-get_index : goal.add_steps-requires-in-Some-get_index
add_steps-requires-in-Some-get_index c =
    let es = c.args.kept.now.entries in
    let place : c.len-then-value-ne0.result ≡ length c.pop.new.self.items = c.len-then-value-ne0.ensures ∙ c.pop.new.self.ok.0 in
    let entry = IsEntry-at 0 es c.len-then-value-ne0.result _ c.requires.echelon.form (sym c.in-Some-get_index.ensures.entry) in
    subst (AllKeys (λ i. i < length c.deref_mut-in-Some-get_index.result.now)) (sym c.deref.ensures.value)
    (subst (λ n. AllKeys (λ i. i < n) c.in-Some-get_index.row.now.steps.items) (omega (arith, place, ap length c.deref_mut-in-Some-get_index.ensures.value)) entry.steps)

pub loop-value-preserved-in-Some-get_index : goal.loop-value-preserved-in-Some-get_index
loop-value-preserved-in-Some-get_index c =
    let es = c.args.kept.now.entries in
    let whole = combination (row_at (reduced_rows es)) c.args.steps.now in
    let place : c.len-then-value-ne0.result ≡ length c.pop.new.self.items = c.len-then-value-ne0.ensures ∙ c.pop.new.self.ok.0 in
    let sums_are = c.deref_mut-in-Some-get_index.ensures.value in
    let back = whole_slice c.add_steps-in-Some-get_index.new.sums c.pop.new.self.items c.pop.new.self.len (c.add_steps-in-Some-get_index.auto.sums ∙ ap length sums_are) c.pop.new.self.ok.0 in
    let added : SameSum nat_cmp (by_place 0 c.add_steps-in-Some-get_index.new.sums) (by_place 0 c.pop.new.self.items ++ scale c.neg.result c.in-Some-get_index.row.now.steps.items) =
    subst (λ (sums : List ℕ). SameSum nat_cmp (by_place 0 c.add_steps-in-Some-get_index.new.sums) (by_place 0 sums ++ scale c.neg.result c.in-Some-get_index.row.now.steps.items)) sums_are
    (subst (λ (steps : FormalSum ℕ). SameSum nat_cmp (by_place 0 c.add_steps-in-Some-get_index.new.sums) (by_place 0 c.deref_mut-in-Some-get_index.result.now ++ scale c.neg.result steps)) c.deref.ensures.value
    c.add_steps-in-Some-get_index.ensures)
    in
    subst (λ (sums : List ℕ). Weighing es whole c.push.new.self.items sums) (sym back)
    (Weighing-step es c.requires.echelon whole c.loop-value.weights.items c.push.new.self.items c.pop.new.self.items c.loop-value.sums.items c.add_steps-in-Some-get_index.new.sums
    c.in-Some.value c.neg.result (c.in-Some-get_index.field-0-0.now, c.in-Some-get_index.row.now) c.in-Some.ensures.items
    (ap (slice_get es) (sym place) ∙ sym c.in-Some-get_index.ensures.entry)
    (λ none. c.if-value-ne0.true (c.value.ensures.same ∙ none)) (omega (arith, c.value.ensures.same, c.value.ensures.below)) c.neg.ensures
    (c.add_steps-in-Some-get_index.auto.sums ∙ ap length sums_are) added c.in_ok-push.ensures.items c.loop-value.invariant)

pub loop-value-preserved : goal.loop-value-preserved
loop-value-preserved c =
    Weighing-zero c.args.kept.now.entries c.requires.echelon _ _ _ _ c.in-Some.value c.in-Some.ensures.items (sym c.value.ensures.same ∙ c.if-value-ne0.false) c.loop-value.invariant

pub returns-clause-sum : goal.returns-clause-sum
returns-clause-sum c =
    let none : c.loop-value.sums.items ≡ [] =
    ⊎_elim
    (λ (some : 0 < vec_len c.loop-value.sums). absurd (let clash : ◌≡◌ {A = Bool} false true = c.in_default.ensures.variant.1 some in cc))
    (λ (short : vec_len c.loop-value.sums ≤ 0). nil_from_length c.loop-value.sums.items (omega (arith, c.loop-value.sums.ok.0)))
    (cases_lt 0 (vec_len c.loop-value.sums))
    in
    Weighing-end c.args.kept.now.entries _ _ _ _ none c.reverse.ensures.items c.loop-value.invariant

pub returns-clause-numbers : goal.returns-clause-numbers
returns-clause-numbers c = Weighing-numbers c.args.kept.now.entries _ _ _ _ c.reverse.ensures.items c.loop-value.invariant

pub returns-clause-ascending : goal.returns-clause-ascending
returns-clause-ascending c = Weighing-ascending c.args.kept.now.entries _ _ _ _ c.reverse.ensures.items c.loop-value.invariant
