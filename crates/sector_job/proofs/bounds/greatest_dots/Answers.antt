use Rattle.std.proofs.Common.{◌∙◌, ap}
use Rattle.std.specs.Prelude.{max}
use Rattle.sector_lattice.specs.Sectors.{dots_of}
use Rattle.sector_job.proofs.Greatest.{greatest_more, greatest_whole}
use Rattle.sector_job.proofs.bounds.greatest_dots.Goals as goal

pub loop-target-preserved : goal.loop-target-preserved
loop-target-preserved c =
    greatest_more dots_of c.args.targets.now c.loop-target.target-index c.target-item.result c.loop-target.most c.max-most.result c.loop-target-test.true c.target-item.is
    (c.max-most.ensures ∙ ap (λ d. max d c.loop-target.most) c.dots.ensures) c.loop-target.invariant

pub returns : goal.returns
returns c = greatest_whole dots_of c.args.targets.now c.loop-target.target-index c.loop-target.most c.loop-target-test.false c.loop-target.invariant
