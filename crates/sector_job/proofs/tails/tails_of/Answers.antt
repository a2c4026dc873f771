use Rattle.std.proofs.Common.{◌≡◌, List, map, ap, subst, ◌∙◌}
use Rattle.std.specs.List.{flat_map}
use Rattle.std.proofs.lemmas.List.Filters.{dedup_is}
use Rattle.sector_lattice.specs.Sectors.{integral_cmp}
use Rattle.sparse_rows.specs.Rows.{IntegralSum}
use Rattle.relation_pick.specs.Picking.{AllForms}
use Rattle.sector_job.specs.Candidates.{target_row}
use Rattle.sector_job.specs.Handing.{integrals_below}
use Rattle.sector_job.proofs.HandedDown.{are_tails}
use Rattle.sector_job.proofs.tails.tails_of.Goals as goal

pub returns-clause-tails : goal.returns-clause-tails
returns-clause-tails c =
    let candidates = c.args.candidates.now in
    let forms = c.in_ok-forms.field-0.forms in
    let rows_are : c.deref.result.now ≡ map target_row c.args.targets.now = c.deref.ensures.value ∙ c.in_ok-rows.ensures in
    let answers : AllForms integral_cmp candidates (map target_row c.args.targets.now) forms =
    subst (λ (rows : List IntegralSum). AllForms integral_cmp candidates rows forms) rows_are c.in_ok-forms.ensures.forms
    in
    are_tails c.args.sector.0 candidates c.args.targets.now forms c.in_ok-tails.tails.items _ _ answers
    (c.in_ok-tails.ensures ∙ ap (flat_map (integrals_below c.args.sector.0)) c.as_slice.ensures) c.sort.ensures.permutation c.sort.ensures.sorted
    (dedup_is _ _ _ c.dedup.ensures.filtered)
