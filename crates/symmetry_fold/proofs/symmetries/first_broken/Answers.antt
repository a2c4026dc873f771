use Rattle.std.proofs.Common.{◌≡◌, true≢false, ◌+◌, ◌<◌, ◌≤◌, List, ℕ, length, refl, sym, ap, subst, ◌∙◌}
use Rattle.family.specs.FamilyView.{family_view}
use Rattle.symmetry_fold.specs.Symmetries.{IsFirstBroken}
use Rattle.symmetry_fold.proofs.FirstBroken.{all_symmetric, entry_at, is_first, never_broken, one_more}
use Rattle.symmetry_fold.proofs.symmetries.first_broken.Goals as goal

pub returns-then-not-branch-clause-broken : goal.returns-then-not-branch-clause-broken
returns-then-not-branch-clause-broken c =
    let family = family_view c.args.family.now in
    let place = c.loop-entry.entry-index in
    let items = c.as_slice-entry-items.result.now in
    let inside : place < length c.args.family.now.symmetries = subst (λ (es : List (List ℕ)). place < length es) c.as_slice-entry-items.ensures c.loop-entry-test.true in
    let at = entry_at family items place c.entry-item.result c.as_slice.result.now c.as_slice-entry-items.ensures c.loop-entry-test.true c.entry-item.is c.as_slice.ensures.value in
    subst (IsFirstBroken family) (sym c.loop-entry.invariant.0)
    (is_first family place c.as_slice.result.now inside at (λ symmetric. true≢false (sym (c.in_ok-is_symmetry.ensures.1 symmetric) ∙ c.if-not-branch.true)) c.loop-entry.invariant.1)

pub returns-then-not-branch-clause-none : goal.returns-then-not-branch-clause-none
returns-then-not-branch-clause-none c =
    (λ none. absurd (cc), λ all. absurd (never_broken (family_view c.args.family.now) c.loop-entry.number all (returns-then-not-branch-clause-broken c)))

pub loop-entry-preserved : goal.loop-entry-preserved
loop-entry-preserved c =
    let family = family_view c.args.family.now in
    let place = c.loop-entry.entry-index in
    let at = entry_at family c.as_slice-entry-items.result.now place c.entry-item.result c.as_slice.result.now c.as_slice-entry-items.ensures c.loop-entry-test.true c.entry-item.is c.as_slice.ensures.value in
    (ap (λ n. n + 1) c.loop-entry.invariant.0, one_more family place c.as_slice.result.now at (c.in_ok-is_symmetry.ensures.0 c.if-not-branch.false) c.loop-entry.invariant.1)

pub returns-clause-none : goal.returns-clause-none
returns-clause-none c =
    let place = c.loop-entry.entry-index in
    let most : length c.args.family.now.symmetries ≤ place = subst (λ (es : List (List ℕ)). length es ≤ place) c.as_slice-entry-items.ensures c.loop-entry-test.false in
    (λ none. all_symmetric (family_view c.args.family.now) place most c.loop-entry.invariant.1, λ all. refl)
