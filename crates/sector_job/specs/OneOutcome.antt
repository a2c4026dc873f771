-- At most one outcome comes of a sector for some targets.
use Rattle.std.proofs.Common.{◌≡◌, ℕ, ◌*◌, ◌≤◌, Bool, true, false, List, length, refl, sym, ◌∙◌, ap, subst, true≢false, lt_irrefl, lt_of_le_of_lt}
use Rattle.std.specs.Prelude.{Contains}
use Rattle.mono_order.specs.declared.limits.TheConstants.{RUN_DEGREE}
use Rattle.mono_order.specs.TermOrder.{zero_dominates}
use Rattle.module_basis.specs.PlainRun.{RunEnd, Done, PairsSpent as RunSpent, DegreeOver as RunOver}
use Rattle.module_basis.proofs.RunEnds.{RunsTo-unique}
use Rattle.sector_lattice.specs.Sectors.{integral_cmp, Ascends}
use Rattle.sector_lattice.specs.Orders.{integral_cmp_total}
use Rattle.sparse_rows.specs.Rows.{IntegralSum}
use Rattle.family.specs.Within.{DataWithin}
use Rattle.family.specs.FamilyData.{FamilyData}
use Rattle.family.specs.declared.parts.StrippedField.{StrippedField}
use Rattle.ibp_base.proofs.Ascending.{same_members}
use Rattle.sector_module.specs.Factors.{sector_generators, sector_pair_order}
use Rattle.sector_module.proofs.OneBasis.{one_basis as one_list_of_fields}
use Rattle.sector_module.specs.Generators.{GeneratorsValue}
use Rattle.sector_job.specs.Candidates.{Integral, AreSeedsFor, AreCandidates, AreTails}
use Rattle.sector_job.specs.Outcomes.{EndsSo, HasBasis, IsOver, IsWorked, IsOutcome}
use Rattle.sector_job.specs.declared.outcome.Outcome.{Outcome}
use Rattle.sector_job.specs.declared.outcome.Outcome.TheVariants.{Worked, PairsSpent, DegreeOver, CandidatesOver}
use Rattle.sector_job.specs.CandidateRows.{one_list}

-- lists that strictly ascend and have the same members are one
pub one_ascending : (xs ys : List Integral) → Ascends xs → Ascends ys → ((z : Integral) → Contains xs z → Contains ys z) → ((z : Integral) → Contains ys z → Contains xs z) → xs ≡ ys
one_ascending xs ys up vp h k = same_members integral_cmp integral_cmp_total xs ys up vp h k

-- the ends of a run differ
abbrev is_done : RunEnd → Bool
is_done (Done elements taken) = true
is_done RunSpent = false
is_done RunOver = false

abbrev is_spent : RunEnd → Bool
is_spent (Done elements taken) = false
is_spent RunSpent = true
is_spent RunOver = false

module _ (family : FamilyData) (limits : DataWithin family) (sector : ℕ) (targets : List Integral) where
  one_end : (first second : RunEnd) → EndsSo family sector first → EndsSo family sector second → first ≡ second
  one_end first second h k = RunsTo-unique zero_dominates (sector_pair_order family.baikov family.n sector family.budget) RUN_DEGREE (sector_generators family.baikov family.n sector) family.budget.pairs first second h k

  done_not_spent : (fields : List StrippedField) → HasBasis family sector fields → EndsSo family sector RunSpent → ⊥
  done_not_spent fields h k = true≢false (ap is_done (one_end _ _ h.done k))

  done_not_over : (fields : List StrippedField) → HasBasis family sector fields → EndsSo family sector RunOver → ⊥
  done_not_over fields h k = true≢false (ap is_done (one_end _ _ h.done k))

  spent_not_over : EndsSo family sector RunSpent → EndsSo family sector RunOver → ⊥
  spent_not_over h k = true≢false (ap is_spent (one_end _ _ h k))

  one_basis : (first second : List StrippedField) → HasBasis family sector first → HasBasis family sector second → first ≡ second
  one_basis first second h k = one_list_of_fields family.baikov family.n sector limits.few_variables limits.polynomial.variables first second h.basis k.basis

  one_seeds : (first second : List Integral) → AreSeedsFor family sector targets first → AreSeedsFor family sector targets second → first ≡ second
  one_seeds first second h k =
      one_ascending first second h.ascending k.ascending (λ z inside. (k.members z).1 ((h.members z).0 inside)) (λ z inside. (h.members z).1 ((k.members z).0 inside))

  worked_not_over : (fields : List StrippedField) (candidates : List IntegralSum) (tails : List Integral) → IsWorked family sector targets fields candidates tails → IsOver family sector targets → ⊥
  worked_not_over fields candidates tails h k =
      let same_fields : fields ≡ k.fields = one_basis fields k.fields h.basis k.basis in
      let same_seeds : h.seeds ≡ k.seeds = one_seeds h.seeds k.seeds h.are_seeds k.are_seeds in
      let counts : length fields * length h.seeds ≡ length k.fields * length k.seeds = λ i. length (same_fields i) * length (same_seeds i) in
      lt_irrefl _ (lt_of_le_of_lt (subst (λ count. count ≤ family.budget.candidates) counts h.within) k.over)

  one_tails : (candidates : List IntegralSum) (first second : List Integral) → AreTails sector targets candidates first → AreTails sector targets candidates second → first ≡ second
  one_tails candidates first second h k =
      one_ascending first second h.ascend k.ascend (λ z inside. (k.members z).1 ((h.members z).0 inside)) (λ z inside. (h.members z).1 ((k.members z).0 inside))

  one_work : (generators others : GeneratorsValue) (candidates more : List IntegralSum) (tails rest : List Integral)
      → IsOutcome family sector targets (Worked generators candidates tails) → IsOutcome family sector targets (Worked others more rest)
      → ◌≡◌ {A = Outcome} (Worked generators candidates tails) (Worked others more rest)
  one_work generators others candidates more tails rest (sector_is, h) (other_is, k) =
      let same_fields : generators.fields ≡ others.fields = one_basis generators.fields others.fields h.basis k.basis in
      let same_seeds : h.seeds ≡ k.seeds = one_seeds h.seeds k.seeds h.are_seeds k.are_seeds in
      let same_rows : candidates ≡ more =
      one_list family limits others.fields k.seeds candidates more
      (subst (λ (f : List StrippedField). AreCandidates family f k.seeds candidates) same_fields
      (subst (λ (s : List Integral). AreCandidates family generators.fields s candidates) same_seeds h.are_candidates))
      k.are_candidates
      in
      let same_tails : tails ≡ rest =
      one_tails more tails rest (subst (λ (rows : List IntegralSum). AreTails sector targets rows tails) same_rows h.are_tails) k.are_tails
      in
      let same_sector : generators.sector.0 ≡ others.sector.0 = sector_is ∙ sym other_is in
      λ i. Worked (record { sector = record { 0 = same_sector i }; fields = same_fields i }) (same_rows i) (same_tails i)

  pub one_outcome : (first second : Outcome) → IsOutcome family sector targets first → IsOutcome family sector targets second → first ≡ second
  one_outcome (Worked generators candidates tails) (Worked others more rest) h k = one_work generators others candidates more tails rest h k
  one_outcome (Worked generators candidates tails) PairsSpent h k = absurd (done_not_spent generators.fields h.1.basis k)
  one_outcome (Worked generators candidates tails) DegreeOver h k = absurd (done_not_over generators.fields h.1.basis k)
  one_outcome (Worked generators candidates tails) CandidatesOver h k = absurd (worked_not_over generators.fields candidates tails h.1 k)
  one_outcome PairsSpent (Worked generators candidates tails) h k = absurd (done_not_spent generators.fields k.1.basis h)
  one_outcome PairsSpent PairsSpent h k = refl
  one_outcome PairsSpent DegreeOver h k = absurd (spent_not_over h k)
  one_outcome PairsSpent CandidatesOver h k = absurd (done_not_spent k.fields k.basis h)
  one_outcome DegreeOver (Worked generators candidates tails) h k = absurd (done_not_over generators.fields k.1.basis h)
  one_outcome DegreeOver PairsSpent h k = absurd (spent_not_over k h)
  one_outcome DegreeOver DegreeOver h k = refl
  one_outcome DegreeOver CandidatesOver h k = absurd (done_not_over k.fields k.basis h)
  one_outcome CandidatesOver (Worked generators candidates tails) h k = absurd (worked_not_over generators.fields candidates tails k.1 h)
  one_outcome CandidatesOver PairsSpent h k = absurd (done_not_spent h.fields h.basis k)
  one_outcome CandidatesOver DegreeOver h k = absurd (done_not_over h.fields h.basis k)
  one_outcome CandidatesOver CandidatesOver h k = refl
