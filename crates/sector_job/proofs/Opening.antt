-- Where no sector is declared to be zero, a plan opens with all targets.
use Rattle.std.proofs.Common.{◌≡◌, List, [], ◌∷◌, length, refl, ◌∙◌, ap, arith}
use Rattle.sector_lattice.specs.declared.sector.Sector.{Sector}
use Rattle.std.specs.Prelude.{filter, not}
use Rattle.sparse_rows.specs.Rows.{is_zero_integral}
use Rattle.sector_job.specs.Candidates.{Integral}

all_stay : (targets : List Integral) → filter (λ target. not (is_zero_integral [] target)) targets ≡ targets
all_stay [] = refl
all_stay (target ∷ targets) = λ i. target ∷ all_stay targets i

nothing : (zero : List Sector) → length zero ≡ 0 → zero ≡ []
nothing [] h = refl
nothing (s ∷ listed) h = absurd (omega arith)

pub all_open : (zero : List Sector) (targets : List Integral) → length zero ≡ 0 → filter (λ target. not (is_zero_integral zero target)) targets ≡ targets
all_open listed targets h = ap (λ (z : List Sector). filter (λ target. not (is_zero_integral z target)) targets) (nothing listed h) ∙ all_stay targets
