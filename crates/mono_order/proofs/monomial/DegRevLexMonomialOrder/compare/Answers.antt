use Rattle.std.proofs.Common.{◌≡◌, ◌∙◌}
use Rattle.std.specs.Ordering.{nat_cmp, ordering_then}
use Rattle.ibp_algebra.specs.Exponents.{deg_rev_lex}
use Rattle.mono_order.specs.PartialSums.{exponents_of}
use Rattle.mono_order.proofs.WordOrder.{words_compare}
use Rattle.mono_order.proofs.monomial.DegRevLexMonomialOrder.compare.Goals as goal

pub returns : goal.returns
returns c =
    let a = exponents_of c.left.inside.low c.left.inside.middle c.left.inside.high in
    let b = exponents_of c.right.inside.low c.right.inside.middle c.right.inside.high in
    let words :
    deg_rev_lex a b
    ≡ ordering_then (ordering_then (nat_cmp c.left.inside.high c.right.inside.high) (nat_cmp c.left.inside.middle c.right.inside.middle)) (nat_cmp c.left.inside.low c.right.inside.low) =
    words_compare a b c.left.invariant.is_monomial c.right.invariant.is_monomial
    ∙ (λ i. ordering_then (ordering_then (nat_cmp (c.left.invariant.high_is i) (c.right.invariant.high_is i)) (nat_cmp (c.left.invariant.middle_is i) (c.right.invariant.middle_is i))) (nat_cmp (c.left.invariant.low_is i) (c.right.invariant.low_is i)))
    in
    let seen : deg_rev_lex a b ≡ deg_rev_lex c.args.left.now c.args.right.now = λ i. deg_rev_lex (c.left.view_is i) (c.right.view_is i) in
    cc (words, seen, c.then-2.ensures, c.then.ensures, c.cmp.ensures, c.cmp-2.ensures, c.cmp-3.ensures)
