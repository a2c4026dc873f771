use Rattle.std.proofs.Common.{◌*◌, ◌<◌, ◌^◌, List, length, sym, subst, ◌∙◌, ap, arith}
use Rattle.std.specs.List.{All}
use Rattle.sector_lattice.specs.Seeds.{seed_number}
use Rattle.family.specs.FamilyView.{family_view}
use Rattle.family.specs.Shapes.{ArePowers}
use Rattle.family.specs.declared.parts.StrippedField.{StrippedField}
use Rattle.sector_job.specs.Candidates.{Integral, dots_bound, rank_bound}
use Rattle.sector_job.specs.Outcomes.{IsOutcome}
use Rattle.sector_job.specs.declared.outcome.Outcome.{Outcome}
use Rattle.sector_job.proofs.Steps.{fits_below, is_over, all_powers, few_rows, within_budget}
use Rattle.sector_job.proofs.working.outcome_by.Goals as goal

pub are_too_many-requires : goal.are_too_many-requires
are_too_many-requires g c = record {
  is_sector = record {
    some = c.args.family.now.limits.some_variables;
    few = c.args.family.now.limits.few_variables;
    within = subst (λ s. s < 2 ^ c.args.family.now.n) (sym (ap (λ s. s.0) c.sector-sector.ensures)) (fits_below (family_view c.args.family.now) c.args.generators.sector.0 c.args.targets.now c.requires.fits);
  };
  few_dots = c.most_dots-dots.ensures.bound;
  low_rank = c.most_rank-rank.ensures.bound;
}

pub seeds-requires : goal.seeds-requires
seeds-requires g c = record {
  is_sector = record {
    some = c.args.family.now.limits.some_variables;
    few = c.args.family.now.limits.few_variables;
    within = subst (λ s. s < 2 ^ c.args.family.now.n) (sym (ap (λ s. s.0) c.sector-sector.ensures)) (fits_below (family_view c.args.family.now) c.args.generators.sector.0 c.args.targets.now c.requires.fits);
  };
  few_dots = c.most_dots-dots.ensures.bound;
  low_rank = c.most_rank-rank.ensures.bound;
}

pub returns-then-are_too_many-clause-outcome : goal.returns-then-are_too_many-clause-outcome
returns-then-are_too_many-clause-outcome g c =
    let family = family_view c.args.family.now in
    let generators = c.args.generators in
    let dots = c.most_dots-dots.result in
    let rank = c.most_rank-rank.result in
    let over = c.are_too_many.ensures.0 c.if-are_too_many.true in
    let here : family.budget.candidates < length generators.fields * seed_number generators.sector.0 family.n dots rank =
    subst (λ s. family.budget.candidates < length generators.fields * seed_number s family.n dots rank) (ap (λ s. s.0) c.sector-sector.ensures)
    (subst (λ (fields : List StrippedField). family.budget.candidates < length fields * seed_number c.sector-sector.result.0 family.n dots rank) c.fields-fields.ensures over)
    in
    subst (λ (o : Outcome). IsOutcome family generators.sector.0 c.args.targets.now o) (sym c.without_candidates.ensures.outcome)
    (is_over family generators.sector.0 c.args.targets.now generators.fields dots rank (fits_below family generators.sector.0 c.args.targets.now c.requires.fits) c.requires.basis
    (c.most_dots-dots.ensures.value ∙ ap (λ s. dots_bound family s.0 c.args.targets.now) c.sector-sector.ensures)
    (c.most_rank-rank.ensures.value ∙ ap (λ s. rank_bound family s.0 c.args.targets.now) c.sector-sector.ensures) here)

pub list-requires-clause-powers : goal.list-requires-clause-powers
list-requires-clause-powers g c =
    subst (λ (seeds : List Integral). All (ArePowers c.args.family.now.n) seeds) (sym c.as_slice.ensures)
    (all_powers c.sector-sector.result.0 c.args.family.now.n c.most_dots-dots.result c.most_rank-rank.result c.in_ok-seeds.seeds c.most_dots-dots.ensures.bound c.most_rank-rank.ensures.bound
    c.in_ok-seeds.ensures.seeds)

pub tails_of-requires : goal.tails_of-requires
tails_of-requires g c =
    let family = family_view c.args.family.now in
    let within = within_budget c.are_too_many.result _ _ c.are_too_many.ensures c.if-are_too_many.false in
    let rows = few_rows family c.fields-fields.result.now c.as_slice.result.now c.in_ok-candidates.candidates.items _ family.budget.candidates c.in_ok-candidates.ensures
    (ap length c.as_slice.ensures ∙ c.in_ok-seeds.ensures.number) within
    in
    omega (arith, rows, c.args.family.now.limits.budget_within.candidates, ap length c.deref.ensures.value)
