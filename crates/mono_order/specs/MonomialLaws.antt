-- The degree reverse lexicographic order meets the laws.
-- Source: the graded reverse lexicographic order as in Ideals, Varieties, and Algorithms of Cox, Little and O'Shea.
use Rattle.std.specs.Prelude.{ℕ}
use Rattle.ibp_algebra.specs.Exponents.{deg_rev_lex}
use Rattle.ibp_algebra.specs.ExponentOrder.{deg_rev_lex_total, deg_rev_lex_unique}
use Rattle.ibp_algebra.proofs.ReverseLex.{deg_rev_lex-add, not_below_one}
use Rattle.mono_order.specs.MonomialOrder.{IsMonomialOrder}

pub deg_rev_lex_laws : (n : ℕ) → IsMonomialOrder n deg_rev_lex
deg_rev_lex_laws n = record { total = deg_rev_lex_total; unique = deg_rev_lex_unique; kept = deg_rev_lex-add n; one_least = not_below_one n }
