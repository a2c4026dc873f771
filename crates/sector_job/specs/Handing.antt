-- What a sector hands down, as lists.
-- After NeatIBP (Wu, Boehm, Ma, Xu, Zhang): a sector's work leaves integrals of its subsectors.
--     is_proper inner outer        whether the one sector is a proper subsector of the other
--     integrals_below sector f     the integrals of proper subsectors in a formal sum, in the order of its terms
use Rattle.std.specs.Prelude.{ℕ, Bool, List, not, ◌&&◌, ◌==◌, map, filter}
use Rattle.sector_lattice.specs.Sectors.{sector_of}
use Rattle.sector_lattice.specs.Subsectors.{is_subsector}
use Rattle.sparse_rows.specs.Rows.{IntegralSum}
use Rattle.sector_job.specs.Candidates.{Integral}

abbrev pub is_proper : ℕ → ℕ → Bool
is_proper inner outer = not (inner == outer) && is_subsector inner outer

abbrev pub integrals_below : ℕ → IntegralSum → List Integral
integrals_below sector f = filter (λ integral. is_proper (sector_of integral) sector) (map (λ term. term.0) f)
