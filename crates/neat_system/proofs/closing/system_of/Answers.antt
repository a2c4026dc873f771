use Rattle.std.proofs.Common.{◌≡◌, ℕ, List, ◌<◌, length, sym, ◌∙◌, ap, subst, arith}
use Rattle.std.specs.Prelude.{All}
use Rattle.std.proofs.lemmas.List.{length-map}
use Rattle.sector_lattice.specs.Sectors.{integral_cmp}
use Rattle.family.specs.FamilyView.{family_view}
use Rattle.row_echelon.specs.References.{rows_of}
use Rattle.relation_pick.proofs.ByRows.{names_written}
use Rattle.relation_pick.proofs.Referred.{as_many_rows}
use Rattle.target_rows.specs.Reductions.{declared_row}
use Rattle.target_rows.proofs.PickedPlaces.{places_within, few_places, as_many_forms, as_many_weights}
use Rattle.neat_system.proofs.closing.system_of.Goals as goal

pub relations_at-requires-clause-places : goal.relations_at-requires-clause-places
relations_at-requires-clause-places g c =
    let picked = c.in_ok-picked.picked in
    let pick = c.in_ok-picked.ensures.pick in
    let within = places_within integral_cmp (rows_of c.deref.result.now) c.deref-2.result.now picked.written picked.reductions picked.weights pick in
    let same : length (rows_of c.deref.result.now) ≡ length c.deref-4.result.now = as_many_rows c.deref.result.now ∙ ap length (c.deref.ensures.value ∙ sym c.deref-4.ensures.value) in
    subst (λ (places : List ℕ). All (λ place. place < length c.deref-4.result.now) places) (sym c.as_slice.ensures)
    (subst (λ (n : ℕ). All (λ place. place < n) picked.written) same within)

pub reductions_of-requires-clause-few : goal.reductions_of-requires-clause-few
reductions_of-requires-clause-few g c =
    let picked = c.in_ok-picked.picked in
    let few = few_places integral_cmp (rows_of c.deref.result.now) c.deref-2.result.now picked.written picked.reductions picked.weights c.in_ok-picked.ensures.pick in
    let same : length (rows_of c.deref.result.now) ≡ length c.args.gathered.candidates.items = as_many_rows c.deref.result.now ∙ ap length c.deref.ensures.value in
    omega (arith, few, same, c.requires.few)

pub reductions_of-requires-clause-listed : goal.reductions_of-requires-clause-listed
reductions_of-requires-clause-listed g c =
    let picked = c.in_ok-picked.picked in
    names_written integral_cmp (rows_of c.deref.result.now) c.deref-2.result.now picked.written picked.reductions picked.weights c.in_ok-picked.ensures.pick

pub reductions_of-requires-clause-forms : goal.reductions_of-requires-clause-forms
reductions_of-requires-clause-forms g c =
    let picked = c.in_ok-picked.picked in
    as_many_forms integral_cmp (rows_of c.deref.result.now) c.deref-2.result.now picked.reductions picked.weights c.in_ok-picked.ensures.pick.answers
    ∙ ap length (c.deref-2.ensures.value ∙ c.in_ok-targets.ensures) ∙ length-map c.args.family.now.targets (declared_row (family_view c.args.family.now)) ∙ ap length (sym c.as_slice-2.ensures)

pub reductions_of-requires-clause-weights : goal.reductions_of-requires-clause-weights
reductions_of-requires-clause-weights g c =
    let picked = c.in_ok-picked.picked in
    as_many_weights integral_cmp (rows_of c.deref.result.now) c.deref-2.result.now picked.reductions picked.weights c.in_ok-picked.ensures.pick.answers
    ∙ ap length (c.deref-2.ensures.value ∙ c.in_ok-targets.ensures) ∙ length-map c.args.family.now.targets (declared_row (family_view c.args.family.now)) ∙ ap length (sym c.as_slice-2.ensures)
