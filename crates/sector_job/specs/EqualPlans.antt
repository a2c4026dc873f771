-- Plans that `==` calls equal have equal families, and so the same targets at the start and the same tails.
use Rattle.std.proofs.Common.{◌≡◌, ℕ, true, List, ap, subst}
use Rattle.family.specs.declared.family.Family.{Family}
use Rattle.family.specs.FamilyData.{FamilyData}
use Rattle.family.proofs.SameFamily.{same_family, families_decide}
use Rattle.sector_job.specs.Candidates.{Integral}
use Rattle.sector_job.specs.Outcomes.{AreTailsOf, opening_targets}
use Rattle.sector_job.specs.Results.{opening_of, tails_of_plan}
use Rattle.relay_core.specs.Family.{Opening}

opening_from : FamilyData → Opening
opening_from family = record { n = family.n; targets = opening_targets family }

pub same_opening : (f g : Family) → same_family f g ≡ true → opening_of f ≡ opening_of g
unfolding opening_from
same_opening f g same = ap opening_from ((families_decide f g).0 same)

pub same_tails : (f g : Family) (sector : ℕ) (targets all : List Integral) → same_family f g ≡ true → tails_of_plan f sector targets all → tails_of_plan g sector targets all
same_tails f g sector targets all same named = subst (λ (family : FamilyData). AreTailsOf family sector targets all) ((families_decide f g).0 same) named
