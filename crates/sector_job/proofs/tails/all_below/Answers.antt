use Rattle.std.proofs.Common.{List, ◌++◌, sym, ◌∙◌, ap}
use Rattle.sector_job.specs.Candidates.{Integral}
use Rattle.sector_job.specs.Handing.{integrals_below}
use Rattle.sector_job.proofs.Listing.{flat_map_one_more, flat_map_whole}
use Rattle.sector_job.proofs.tails.all_below.Goals as goal

pub loop-form-preserved : goal.loop-form-preserved
loop-form-preserved c =
    let piece = integrals_below c.args.sector.0 in
    c.in_ok-add_below.ensures ∙ ap (λ (xs : List Integral). xs ++ piece c.form-item.result) c.loop-form.invariant
    ∙ sym (flat_map_one_more piece c.args.forms.now c.loop-form.form-index c.form-item.result c.loop-form-test.true c.form-item.is)

pub returns : goal.returns
returns c = c.loop-form.invariant ∙ flat_map_whole (integrals_below c.args.sector.0) c.args.forms.now c.loop-form.form-index c.loop-form-test.false
