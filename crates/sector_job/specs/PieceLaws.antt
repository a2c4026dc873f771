-- The laws of a sector's result as a piece of work. What an impl proves may rest on specs/ alone, so these lemmas and
-- those below them stand here.
use Rattle.std.proofs.Common.{◌≡◌, ℕ, List, [], length, sym, ◌∙◌, ap, subst}
use Rattle.std.specs.Prelude.{Contains}
use Rattle.std.specs.List.Sorted.{IsStrictlySortedBy}
use Rattle.std.proofs.lemmas.List.Elements.{All-contains}
use Rattle.sector_lattice.specs.Sectors.{sector_of, Ascends, IsProperSubsector}
use Rattle.family.specs.FamilyData.{FamilyData}
use Rattle.family.specs.FamilyView.{family_view}
use Rattle.family.specs.declared.family.Family.{Family}
use Rattle.family.specs.Shapes.{ArePowers}
use Rattle.relay_core.specs.Family.{AreLawful}
use Rattle.ibp_base.proofs.Members.{from_filter, in_none}
use Rattle.sector_job.specs.Candidates.{Integral}
use Rattle.sector_job.specs.Outcomes.{FitsTargets, IsOutcome, tails_in}
use Rattle.sector_job.specs.Results.{opening_of, tails_of_plan}
use Rattle.sector_job.specs.declared.outcome.Outcome.{Outcome}
use Rattle.sector_job.specs.declared.outcome.Outcome.TheVariants.{Worked, PairsSpent, DegreeOver, CandidatesOver}
use Rattle.sector_job.specs.OneOutcome.{one_outcome}
use Rattle.sector_job.specs.Tails.{tails_below, tails_powers}

pub opened : (p : Family) (integral : Integral) → Contains (opening_of p).targets integral → length integral ≡ (opening_of p).n
opened p integral inside = (All-contains (ArePowers p.n) p.targets integral p.limits.target_powers (from_filter _ p.targets integral inside).0).count

none_ascends : Ascends []
unfolding IsStrictlySortedBy
none_ascends = tt

tails_ascend : (family : FamilyData) (sector : ℕ) (targets : List Integral) (outcome : Outcome) → IsOutcome family sector targets outcome → Ascends (tails_in outcome)
tails_ascend family sector targets (Worked generators candidates tails) h = h.1.are_tails.ascend
tails_ascend family sector targets PairsSpent h = none_ascends
tails_ascend family sector targets DegreeOver h = none_ascends
tails_ascend family sector targets CandidatesOver h = none_ascends

tails_lie : (family : FamilyData) (sector : ℕ) (targets : List Integral) (outcome : Outcome) → FitsTargets family sector targets → IsOutcome family sector targets outcome
    → (integral : Integral) → Contains (tails_in outcome) integral → IsProperSubsector (sector_of integral) sector × (length integral ≡ family.n)
tails_lie family sector targets (Worked generators candidates tails) fits h integral inside = (
  tails_below family generators.fields h.1.seeds candidates h.1.are_candidates sector targets tails fits h.1.are_tails integral inside,
  tails_powers family generators.fields h.1.seeds candidates h.1.are_candidates sector targets tails fits h.1.are_tails integral inside,
)
tails_lie family sector targets PairsSpent fits h integral inside = absurd (in_none integral inside)
tails_lie family sector targets DegreeOver fits h integral inside = absurd (in_none integral inside)
tails_lie family sector targets CandidatesOver fits h integral inside = absurd (in_none integral inside)

pub lawful : (p : Family) → AreLawful (tails_of_plan p) (opening_of p).n
lawful p = record {
  one = λ sector targets first second h k.
      h.are ∙ ap tails_in (one_outcome (family_view p) p.limits sector targets h.outcome k.outcome h.is_outcome k.is_outcome) ∙ sym k.are;
  ascend = λ sector targets all h. subst (λ (xs : List Integral). Ascends xs) (sym h.are) (tails_ascend (family_view p) sector targets h.outcome h.is_outcome);
  below = λ sector targets all h integral inside.
      (tails_lie (family_view p) sector targets h.outcome h.fits h.is_outcome integral (subst (λ (xs : List Integral). Contains xs integral) h.are inside)).0;
  powers = λ sector targets all h integral inside.
      (tails_lie (family_view p) sector targets h.outcome h.fits h.is_outcome integral (subst (λ (xs : List Integral). Contains xs integral) h.are inside)).1;
}
