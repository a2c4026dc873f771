use Rattle.std.proofs.Common.{◌+◌, ◌≤◌, sum}
use Rattle.ibp_algebra.specs.Exponents.{add_exponents}
use Rattle.mono_order.specs.declared.limits.TheConstants.{MONO_DEGREE}
use Rattle.sparse_poly.proofs.Loops.{AreMonomials, AllKeys-item, AllKeys-take_more, AllKeys-whole, moved_more, moved_whole, IsCanonical-shift}
use Rattle.sparse_poly.proofs.terms.shifted.Goals as goal

pub product-requires : goal.product-requires
product-requires c =
    AllKeys-item (λ k. sum c.args.monomial + sum k ≤ MONO_DEGREE) c.args.terms.now c.loop-other.other-index c.loop-other-item.result c.requires.fits
    c.loop-other-test.true c.loop-other-item.is

pub loop-other-preserved : goal.loop-other-preserved
loop-other-preserved c =
    let item = c.loop-other-item.result in
    record {
      moved = moved_more (add_exponents c.args.monomial) c.args.terms.now c.loop-other.moved.items _ c.loop-other.other-index item c.product.result
          c.loop-other-test.true c.loop-other-item.is c.in_ok-push.ensures.items c.product.ensures.product c.loop-other.invariant.moved;
      kept = AllKeys-take_more (AreMonomials c.args.monomial) c.args.terms.now c.loop-other.other-index item c.loop-other-test.true c.loop-other-item.is
          (c.product.ensures.left_kept, c.product.ensures.right_kept) c.loop-other.invariant.kept;
    }

pub returns-clause-canonical : goal.returns-clause-canonical
returns-clause-canonical c =
    IsCanonical-shift c.args.monomial c.args.terms.now c.loop-other.moved.items
    (moved_whole (add_exponents c.args.monomial) c.args.terms.now c.loop-other.moved.items c.loop-other.other-index c.loop-other-test.false c.loop-other.invariant.moved)
    (AllKeys-whole (AreMonomials c.args.monomial) c.args.terms.now c.loop-other.other-index c.loop-other-test.false c.loop-other.invariant.kept)
    c.requires.canonical
