-- Which jobs a family can work on.
-- Our own: a job fits where its targets have the family's powers, and its sector isn't zero.
use Rattle.std.specs.Prelude.{◌≡◌, false, length}
use Rattle.std.specs.List.{All}
use Rattle.family.specs.Conditions.{is_zero_sector}
use Rattle.family.specs.declared.family.Family.{Family}
use Rattle.relay_core.specs.declared.job.Job.{Job}

pub record FitsFamily (family : Family) (job : Job) : Type 0 where
  pub powers : All (λ target. length target ≡ family.n) job.targets
  pub not_zero : is_zero_sector family.zero job.sector.0 ≡ false
