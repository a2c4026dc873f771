use Rattle.std.proofs.Common.{◌++◌, ◌∙◌, ap, sym, append_assoc}
use Rattle.ibp_algebra.specs.Polynomial.{Polynomial}
use Rattle.family_file.specs.Drill.{product_by}
use Rattle.family_file.proofs.Products.{product_more, product_whole, times}
use Rattle.family_file.proofs.drill.add_product.Goals as goal
use Rattle.std.proofs.Common.{take}

pub loop-term-preserved : goal.loop-term-preserved
loop-term-preserved c =
    let front = product_by c.args.factor (take c.loop-term.term-index c.args.left.now) c.args.right.now in
    let more = times c.args.factor c.args.right.now c.term-item.result in
    c.in_ok-add_multiple.ensures ∙ ap (λ (ts : Polynomial). ts ++ more) c.loop-term.invariant ∙ append_assoc c.args.into.now.items front more
    ∙ ap (λ (ts : Polynomial). c.args.into.now.items ++ ts) (sym (product_more c.args.factor c.args.left.now c.args.right.now c.loop-term.term-index c.term-item.result c.loop-term-test.true c.term-item.is))

pub returns : goal.returns
returns c = c.loop-term.invariant ∙ ap (λ (ts : Polynomial). c.args.into.now.items ++ ts) (product_whole c.args.factor c.args.left.now c.args.right.now c.loop-term.term-index c.loop-term-test.false)
