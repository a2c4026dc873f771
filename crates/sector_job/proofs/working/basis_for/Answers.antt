use Rattle.family.specs.FamilyView.{family_view}
use Rattle.sector_job.proofs.Steps.{fits_below}
use Rattle.sector_job.proofs.working.basis_for.Goals as goal

pub of-requires : goal.of-requires
of-requires c =
    let job = c.args.job.now in
    fits_below (family_view c.args.plan.now) job.sector.0 job.targets (record {
      some = job.some;
      ascend = job.ascend;
      of_sector = job.of_sector;
      powers = c.requires.powers;
      not_zero = c.requires.not_zero;
    })
