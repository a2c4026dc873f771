-- A field has at most one identity at a seed, where the Baikov polynomial is not zero, and so at most one row.
-- Textbook algebra: Laurent polynomials over a field have no zero divisors.
use Rattle.std.specs.Prelude.{◌≡◌, ◌≢◌, ℕ, ◌≤◌, ℤ, Bool, List, []}
use Rattle.ibp_algebra.specs.FormalSum.{IsCanonical}
use Rattle.ibp_algebra.specs.Polynomial.{Polynomial}
use Rattle.ibp_algebra.specs.Laurent.{Laurent}
use Rattle.ibp_algebra.specs.Identity.{IsIdentityRow}
use Rattle.mono_order.specs.declared.limits.TheConstants.{VARIABLES}
use Rattle.sector_lattice.specs.Sectors.{integral_cmp}
use Rattle.family.specs.Shapes.{IsPolynomial}

abbrev pub OneRow : Type 0
OneRow =
    (n degree γ : ℕ) (p : Polynomial) (a : List Polynomial) (α : List ℤ) (struck : List ℤ → Bool) (row other : Laurent)
    → n ≤ VARIABLES → IsPolynomial n degree p → p ≢ []
    → IsCanonical integral_cmp row → IsCanonical integral_cmp other
    → IsIdentityRow n γ p a α struck row → IsIdentityRow n γ p a α struck other
    → row ≡ other
