-- Each sector has an outcome for each list of targets that fits it.
use Rattle.std.proofs.Common.{◌≡◌, inl, inr, ℕ, ◌+◌, ◌-◌, ◌*◌, ◌^◌, ◌<◌, ◌≤◌, List, [], ◌∷◌, map, length, refl, sym, ◌∙◌, ap, subst, arith}
use Rattle.std.specs.Prelude.{Contains}
use Rattle.std.specs.List.{All, flat_map, range_with_len}
use Rattle.std.proofs.lemmas.Bool.{cases_lt}
use Rattle.std.proofs.lemmas.List.Elements.{Contains-append_cases}
use Rattle.std.proofs.lemmas.List.FromFn.{length-range_with_len, get_or-range_with_len}
use Rattle.ibp_base.proofs.Members.{in_head, in_tail, in_none, from_map}
use Rattle.ibp_base.proofs.Ascending.{sorted_none}
use Rattle.ibp_base.proofs.Zips.{some_zip}
use Rattle.ibp_relation.proofs.SeedSectors.{module_at}
use Rattle.ibp_relation.proofs.SomeRow.{some_row}
use Rattle.sector_lattice.specs.Sectors.{sector_of, integral_cmp}
use Rattle.sector_lattice.specs.Orders.{integral_cmp_total, same_integrals}
use Rattle.sector_lattice.specs.Layers.{layers}
use Rattle.sector_lattice.proofs.SeedLists.{layers_are_seeds}
use Rattle.sparse_rows.specs.Rows.{IntegralSum, is_zero_integral}
use Rattle.family.specs.FamilyData.{FamilyData}
use Rattle.family.specs.Within.{DataWithin}
use Rattle.family.specs.Conditions.{IsInSectorModule}
use Rattle.family.specs.declared.parts.StrippedField.{StrippedField}
use Rattle.module_vec.specs.ModuleVector.{ModuleVector}
use Rattle.module_basis.specs.PlainRun.{RunEnd, Done, PairsSpent as RunSpent, DegreeOver as RunOver}
use Rattle.relation_pick.proofs.SomePick.{some_answers}
use Rattle.relation_pick.proofs.FormsInTurn.{AllForms-from_answers}
use Rattle.relay_core.proofs.Told.{all_taken_in}
use Rattle.sector_module.proofs.SomeBasis.{IsMemberField, some_run_end, some_sector_basis}
use Rattle.sector_job.specs.Candidates.{Integral, Label, labels_at, labels, field_numbered, IsCandidate, AreCandidates, AreSeedsFor, AreTails, target_row, dots_bound, rank_bound}
use Rattle.sector_job.specs.Handing.{integrals_below}
use Rattle.sector_job.specs.Outcomes.{FitsTargets, EndsSo, HasBasis, IsOutcome}
use Rattle.sector_job.specs.declared.outcome.Outcome.{Outcome}
use Rattle.sector_job.specs.declared.outcome.Outcome.TheVariants.{Worked, PairsSpent, DegreeOver, CandidatesOver}
use Rattle.sector_job.proofs.HandedDown.{handed, back}
use Rattle.sector_job.proofs.Steps.{fits_below}

-- ---- labels

record IsLabelOf (count : ℕ) (seeds : List Integral) (label : Label) : Type 0 where
  seed : Contains seeds label.seed
  some : 1 ≤ label.field
  few : label.field ≤ count

label_at : (count : ℕ) (seed : Integral) (label : Label) → Contains (labels_at count seed) label → (seed ≡ label.seed) × (1 ≤ label.field) × (label.field ≤ count)
label_at count seed label inside =
    let found = from_map (λ (number : ℕ). (let l : Label = record { seed = seed; field = number } in l)) (range_with_len 1 count) label inside in
    let place = found.1.0 in
    let below : place.0 < count = omega (arith, place.1, length-range_with_len 1 count) in
    let value : 1 + place.0 ≡ found.0 = sym (get_or-range_with_len 1 count place.0 found.0 below) ∙ place.2 in
    let field : found.0 ≡ label.field = ap (λ (l : Label). l.field) found.1.1 in
    (ap (λ (l : Label). l.seed) found.1.1, omega (arith, value, field), omega (arith, value, field, below))

label_of : (count : ℕ) (seeds : List Integral) (label : Label) → Contains (labels count seeds) label → IsLabelOf count seeds label
label_of count [] label inside = absurd (in_none label inside)
label_of count (seed ∷ seeds) label inside =
    elim (Contains-append_cases (labels_at count seed) (labels count seeds) label inside) [
      | inl here ↦ (let is = label_at count seed label here in record { seed = in_head seed seeds label.seed is.0; some = is.1; few = is.2 })
      | inr rest ↦ (let is = label_of count seeds label rest in record { seed = in_tail seed seeds label.seed is.seed; some = is.some; few = is.few })
    ]

-- ---- candidates

module _ (family : FamilyData) (sector : ℕ) (fields : List StrippedField) (members : All (IsMemberField family.baikov family.n sector) fields) where
  some_candidate : (seed : Integral) → length seed ≡ family.n → sector_of seed ≡ sector → (number : ℕ) → 1 ≤ number → number ≤ length fields
      → (row : IntegralSum) × IsCandidate family seed (field_numbered fields number) row
  some_candidate seed long of number some few =
      let none : StrippedField = record { c = []; b = [] } in
      let is = members (number - 1) none (omega arith) in
      let field : StrippedField = field_numbered fields number in
      let member : IsInSectorModule family.baikov (sector_of seed) field = subst (λ s. IsInSectorModule family.baikov s field) (sym of) is.member in
      let found = some_row family.n family.gamma family.baikov field.c field.b seed (is_zero_integral family.zero) long is.count (module_at family.baikov seed field member) in
      (found.0, record { identity = found.1; canonical = found.2 })

  some_candidates : (seeds : List Integral) → ((seed : Integral) → Contains seeds seed → (length seed ≡ family.n) × (sector_of seed ≡ sector)) → (rows : List IntegralSum) × AreCandidates family fields seeds rows
  some_candidates seeds each =
      some_zip (λ (label : Label) row. IsCandidate family label.seed (field_numbered fields label.field) row) (labels (length fields) seeds) (λ label inside.
      let is = label_of (length fields) seeds label inside in
      let seed = each label.seed is.seed in
      some_candidate label.seed seed.0 seed.1 label.field is.some is.few)

-- ---- tails

some_tails : (sector : ℕ) (targets : List Integral) (candidates : List IntegralSum) → (tails : List Integral) × AreTails sector targets candidates tails
some_tails sector targets candidates =
    let answers = some_answers integral_cmp integral_cmp_total same_integrals candidates (map target_row targets) in
    let forms = AllForms-from_answers integral_cmp candidates (map target_row targets) answers.0 answers.1 answers.2 in
    let found = flat_map (integrals_below sector) answers.0 in
    let sorted = all_taken_in integral_cmp integral_cmp_total same_integrals found [] (sorted_none integral_cmp) in (
      sorted.0,
      record {
        ascend = sorted.1.ascends;
        members = λ integral. (
          λ inside. handed sector candidates targets answers.0 forms integral (elim ((sorted.1.members integral).0 inside) [ inl none ↦ absurd (in_none integral none) | inr is ↦ is ]),
          λ h. (sorted.1.members integral).1 (inr (back sector candidates targets answers.0 forms integral h.0 h.1)),
        );
      },
    )

-- ---- the outcome

module _ (family : FamilyData) (within : DataWithin family) (sector : ℕ) (targets : List Integral) (fits : FitsTargets family sector targets) where
  of_basis : (fields : List StrippedField) → HasBasis family sector fields → All (IsMemberField family.baikov family.n sector) fields
      → (outcome : Outcome) × IsOutcome family sector targets outcome
  of_basis fields basis members =
      let below : sector < 2 ^ family.n = fits_below family sector targets fits in
      let dots = dots_bound family sector targets in
      let rank = rank_bound family sector targets in
      let seeds = layers family.n sector dots rank in
      let are_seeds : AreSeedsFor family sector targets seeds = layers_are_seeds family.n sector dots rank below in
      elim (cases_lt family.budget.candidates (length fields * length seeds)) [
        | inl over ↦ (CandidatesOver, record { fields = fields; basis = basis; seeds = seeds; are_seeds = are_seeds; over = over })
        | inr few ↦ (
            let rows = some_candidates family sector fields members seeds (λ seed inside. let is = (are_seeds.members seed).0 inside in (is.of_n, is.of_sector)) in
            let tails = some_tails sector targets rows.0 in (
              Worked (record { sector = record { 0 = sector }; fields = fields }) rows.0 tails.0,
              (refl, record { basis = basis; seeds = seeds; are_seeds = are_seeds; within = few; are_candidates = rows.1; are_tails = tails.1 }),
            ))
      ]

  of_done : (elements : List ModuleVector) (taken : ℕ) → EndsSo family sector (Done elements taken) → (outcome : Outcome) × IsOutcome family sector targets outcome
  of_done elements taken done =
      let found = some_sector_basis family.baikov family.n sector within.few_variables within.polynomial.variables family.budget elements taken done in
      of_basis found.0 (record { elements = elements; taken = taken; done = done; basis = found.1 }) found.2

  by_end : (end : RunEnd) → EndsSo family sector end → (outcome : Outcome) × IsOutcome family sector targets outcome
  by_end (Done elements taken) ends = of_done elements taken ends
  by_end RunSpent ends = (PairsSpent, ends)
  by_end RunOver ends = (DegreeOver, ends)

  pub some_outcome : (outcome : Outcome) × IsOutcome family sector targets outcome
  some_outcome =
      let end = some_run_end family.baikov family.n sector within.few_variables within.polynomial.variables family.budget in
      by_end end.0 end.1
