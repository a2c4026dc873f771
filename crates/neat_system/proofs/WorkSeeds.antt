-- The seeds of a sector's work.
use Rattle.std.proofs.Common.{◌≡◌, ℕ, List, sym, subst}
use Rattle.family.specs.FamilyData.{FamilyData}
use Rattle.sector_job.specs.Candidates.{Integral, AreSeedsFor}
use Rattle.sector_job.specs.OneOutcome.{one_ascending}
use Rattle.neat_system.specs.System.{SectorWork, IsWorkFor}

module _ (family : FamilyData) where
  pub seeds_of : (targets : List Integral) (work : SectorWork) → IsWorkFor family targets work → AreSeedsFor family work.sector targets work.seeds
  seeds_of targets work is = subst (λ (seeds : List Integral). AreSeedsFor family work.sector targets seeds) (sym is.with_seeds) is.worked.are_seeds

  pub same_seeds : (sector : ℕ) (targets first second : List Integral) → AreSeedsFor family sector targets first → AreSeedsFor family sector targets second → first ≡ second
  same_seeds sector targets first second one two =
      one_ascending first second one.ascending two.ascending
      (λ z inside. (two.members z).1 ((one.members z).0 inside)) (λ z inside. (one.members z).1 ((two.members z).0 inside))
