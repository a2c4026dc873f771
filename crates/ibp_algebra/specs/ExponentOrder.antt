-- The degree reverse lexicographic order is total, and equal only at equal lists.
-- Source: the graded reverse lexicographic order as in Ideals, Varieties, and Algorithms of Cox, Little and O'Shea.
use Rattle.std.proofs.Common.{◌≡◌, ℕ, List, sum, reverse, T, refl, sym, ap, subst, ◌∙◌}
use Rattle.std.specs.Bool.{Decides}
use Rattle.std.specs.declared.cmp.Ordering.{Ordering}
use Rattle.std.specs.declared.cmp.Ordering.TheVariants.{Less, Equal, Greater}
use Rattle.std.specs.Ordering.{ordering_then, is_eq}
use Rattle.std.specs.Cmp.{IsTotalOrder, nat_cmp_total, on_total, back_total, then_total, unsigned_Decides}
use Rattle.std.specs.Cmp.Lexicographic.{nat_list_cmp_total, pointwise_decides}
use Rattle.std.specs.FinMap.{IsAntisymmetric, nat_cmp-IsAntisymmetric, slice_cmp-IsAntisymmetric}
use Rattle.std.proofs.lemmas.List.{reverse-reverse}
use Rattle.ibp_algebra.specs.Exponents.{same_exponents, deg_rev_lex}

pub exponents_decide : (a b : List ℕ) → Decides (same_exponents a b) (a ≡ b)
exponents_decide = pointwise_decides unsigned_Decides

pub deg_rev_lex_total : IsTotalOrder deg_rev_lex
deg_rev_lex_total = then_total (on_total sum nat_cmp_total) (on_total reverse (back_total nat_list_cmp_total))

-- two comparisons in turn find no difference only where neither does
pub first_equal : (r s : Ordering) → ordering_then r s ≡ Equal → r ≡ Equal
first_equal Less s e = absurd (subst (λ r. T (is_eq r)) (sym e) tt)
first_equal Equal s e = refl
first_equal Greater s e = absurd (subst (λ r. T (is_eq r)) (sym e) tt)

pub second_equal : (r s : Ordering) → ordering_then r s ≡ Equal → s ≡ Equal
second_equal Less s e = absurd (subst (λ r. T (is_eq r)) (sym e) tt)
second_equal Equal s e = e
second_equal Greater s e = absurd (subst (λ r. T (is_eq r)) (sym e) tt)

pub deg_rev_lex_unique : IsAntisymmetric deg_rev_lex
deg_rev_lex_unique a b e =
    let reversed : reverse b ≡ reverse a = slice_cmp-IsAntisymmetric nat_cmp-IsAntisymmetric (reverse b) (reverse a) (second_equal _ _ e) in
    sym (reverse-reverse a) ∙ ap reverse (sym reversed) ∙ reverse-reverse b
