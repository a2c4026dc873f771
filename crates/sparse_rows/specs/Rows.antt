-- Rows of integrals: formal sums over lists of powers, in the integral order.
--     coefficient_of f integral         the coefficient at an integral
--     SameRow f g                       each integral has the same coefficient in both
--     is_zero_integral zero integral    whether the integral's sector is a subsector of a listed one
--     same_terms f g                    whether the two have the same terms in the same order
-- Source: linear algebra; rows of integrals, highest first, as in Laporta's algorithm.
use Rattle.std.specs.Prelude.{ℕ, ℤ, Bool, List, ◌==◌, ◌&&◌}
use Rattle.std.specs.Ordering.{eq_by_cmp}
use Rattle.std.specs.Cmp.Lexicographic.{pointwise}
use Rattle.ibp_algebra.specs.FormalSum.{FormalSum}
use Rattle.ibp_algebra.specs.Spans.{SameSum, coefficient_by}
use Rattle.sector_lattice.specs.Sectors.{sector_of, integral_cmp}
use Rattle.sector_lattice.specs.Subsectors.{is_subsector_of_any}
use Rattle.sector_lattice.specs.declared.sector.Sector.{Sector}

abbrev pub IntegralSum : Type 0
IntegralSum = FormalSum (List ℤ)

abbrev pub coefficient_of : IntegralSum → List ℤ → ℕ
coefficient_of f integral = coefficient_by integral_cmp f integral

abbrev pub SameRow : IntegralSum → IntegralSum → Type 0
SameRow f g = SameSum integral_cmp f g

abbrev pub is_zero_integral : List Sector → List ℤ → Bool
is_zero_integral zero integral = is_subsector_of_any (sector_of integral) zero

abbrev pub same_terms : IntegralSum → IntegralSum → Bool
same_terms f g = pointwise (λ s t. eq_by_cmp integral_cmp s.0 t.0 && (s.1 == t.1)) f g
