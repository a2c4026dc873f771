use Rattle.std.proofs.Common.{◌≡◌, ℕ, List, ◌<◌, length, sym, ◌∙◌, ap, subst, arith}
use Rattle.std.specs.Prelude.{All}
use Rattle.std.proofs.lemmas.List.{length-map}
use Rattle.sector_lattice.specs.Sectors.{integral_cmp}
use Rattle.family.specs.FamilyView.{family_view}
use Rattle.relation_pick.proofs.ByRows.{names_written}
use Rattle.target_rows.proofs.PickedPlaces.{places_within, few_places, as_many_forms, as_many_weights}
use Rattle.symmetry_fold.specs.Folding.{fold_row, folded_target}
use Rattle.symmetry_fold.proofs.folding.folded.Goals as goal

pub relations_at-requires : goal.relations_at-requires
relations_at-requires c =
    let picked = c.in_ok-picked.picked in
    let within = places_within integral_cmp c.deref-2.result.now c.deref-3.result.now picked.written picked.reductions picked.weights c.in_ok-picked.ensures.pick in
    let same : length c.deref-2.result.now ≡ length c.as_slice-3.result.now =
    ap length (c.deref-2.ensures.value ∙ c.in_ok-rows.ensures) ∙ length-map c.as_slice.result.now (λ r. fold_row c.as_slice-entries.result.now r.row) ∙ ap length (c.as_slice.ensures ∙ sym c.as_slice-3.ensures) in
    subst (λ (places : List ℕ). All (λ place. place < length c.as_slice-3.result.now) places) (sym c.as_slice-written.ensures)
    (subst (λ n. All (λ place. place < n) picked.written) same within)

pub reductions_of-requires-clause-few : goal.reductions_of-requires-clause-few
reductions_of-requires-clause-few c =
    let picked = c.in_ok-picked.picked in
    let few = few_places integral_cmp c.deref-2.result.now c.deref-3.result.now picked.written picked.reductions picked.weights c.in_ok-picked.ensures.pick in
    let same : length c.deref-2.result.now ≡ length c.args.system.now.relations =
    ap length (c.deref-2.ensures.value ∙ c.in_ok-rows.ensures) ∙ length-map c.as_slice.result.now (λ r. fold_row c.as_slice-entries.result.now r.row) ∙ ap length c.as_slice.ensures in
    omega (arith, few, same, c.requires)

pub reductions_of-requires-clause-listed : goal.reductions_of-requires-clause-listed
reductions_of-requires-clause-listed c =
    let picked = c.in_ok-picked.picked in
    names_written integral_cmp c.deref-2.result.now c.deref-3.result.now picked.written picked.reductions picked.weights c.in_ok-picked.ensures.pick

pub reductions_of-requires-clause-forms : goal.reductions_of-requires-clause-forms
reductions_of-requires-clause-forms c =
    let picked = c.in_ok-picked.picked in
    as_many_forms integral_cmp c.deref-2.result.now c.deref-3.result.now picked.reductions picked.weights c.in_ok-picked.ensures.pick.answers
    ∙ ap length (c.deref-3.ensures.value ∙ c.in_ok-target_rows.ensures) ∙ length-map c.deref.result.now (folded_target (family_view c.args.family.now)) ∙ ap length (c.deref.ensures.value ∙ sym c.deref-4.ensures.value)

pub reductions_of-requires-clause-weights : goal.reductions_of-requires-clause-weights
reductions_of-requires-clause-weights c =
    let picked = c.in_ok-picked.picked in
    as_many_weights integral_cmp c.deref-2.result.now c.deref-3.result.now picked.reductions picked.weights c.in_ok-picked.ensures.pick.answers
    ∙ ap length (c.deref-3.ensures.value ∙ c.in_ok-target_rows.ensures) ∙ length-map c.deref.result.now (folded_target (family_view c.args.family.now)) ∙ ap length (c.deref.ensures.value ∙ sym c.deref-4.ensures.value)
