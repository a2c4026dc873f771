-- A field within a degree is within a greater one.
use Rattle.std.proofs.Common.{ℕ, ◌≤◌, List}
use Rattle.std.proofs.lemmas.List.Elements.{All-weaker}
use Rattle.ibp_algebra.specs.Polynomial.{Polynomial}
use Rattle.family.specs.Shapes.{IsPolynomial, IsField}
use Rattle.sector_module.proofs.FactorLaws.{degrees_more}

IsPolynomial-more : (n less more : ℕ) → less ≤ more → (p : Polynomial) → IsPolynomial n less p → IsPolynomial n more p
IsPolynomial-more n less more fits p h = record { canonical = h.canonical; variables = h.variables; degree_within = degrees_more less more p fits h.degree_within }

pub IsField-more : (n less more : ℕ) (a : List Polynomial) (b : Polynomial) → less ≤ more → IsField n less a b → IsField n more a b
IsField-more n less more a b fits h =
    record {
      count = h.count;
      polynomials = All-weaker (IsPolynomial n less) (IsPolynomial n more) (IsPolynomial-more n less more fits) a h.polynomials;
      factor = IsPolynomial-more n less more fits b h.factor;
    }
