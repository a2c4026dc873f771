-- The reader's own: the terms of a sum.
--     sum_of_both f g                     the sum of two polynomials
--     sum_with_multiple at factor f g     the sum of f and a multiple of g, under the limit on terms
--     terms_of c                          how many terms a coefficient gives
--     IsCounted f g n                     both are canonical, and n is the number of terms of the sum
use Rattle.std.specs.Prelude.{◌≡◌, ℕ, ◌<◌, ◌^◌, ◌==◌, if◌then◌else◌, Result, ◌++◌, length}
use Rattle.ibp_algebra.specs.FormalSum.{IsCanonical, scale, normal_form}
use Rattle.ibp_algebra.specs.Exponents.{deg_rev_lex}
use Rattle.ibp_algebra.specs.Polynomial.{Polynomial}
use Rattle.poly_text.specs.declared.fault.TextFault.{TextFault}
use Rattle.poly_text.specs.Value.{within_terms}

abbrev pub sum_of_both : Polynomial → Polynomial → Polynomial
sum_of_both f g = normal_form deg_rev_lex (f ++ g)

abbrev pub sum_with_multiple : ℕ → ℕ → Polynomial → Polynomial → Result Polynomial TextFault
sum_with_multiple at factor f g = within_terms at (normal_form deg_rev_lex (f ++ scale factor g))

abbrev pub terms_of : ℕ → ℕ
terms_of c = if c == 0 then 0 else 1

pub record IsCounted (f g : Polynomial) (n : ℕ) : Type 0 where
  pub first : IsCanonical deg_rev_lex f
  pub canonical : IsCanonical deg_rev_lex g
  pub counted : n ≡ length (sum_of_both f g)
  pub small : n < 2 ^ 63
