use Rattle.std.proofs.Common.{◌||◌, nat_eq, take, ap, sym, ◌∙◌}
use Rattle.std.specs.Cmp.Lexicographic.{pointwise}
use Rattle.family.specs.Permutation.{is_among, product}
use Rattle.family.proofs.InPlace.{variables_in_place, first_or_others}
use Rattle.family.proofs.permutation.is_product_held.Goals as goal

pub returns-then-is_product : goal.returns-then-is_product
returns-then-is_product c =
    let p = product c.args.first.now c.args.second.now in
    c.if-is_product.true ∙ sym (first_or_others c.args.n c.args.entries.now p _ c.requires (c.is_product.ensures ∙ ap (λ k. pointwise nat_eq p (take k variables_in_place)) c.from.ensures) ∙ ap (λ b. b || is_among c.args.entries.now p) c.if-is_product.true)

pub returns-else-is_product : goal.returns-else-is_product
returns-else-is_product c =
    let p = product c.args.first.now c.args.second.now in
    c.is_product_among.ensures ∙ sym (first_or_others c.args.n c.args.entries.now p _ c.requires (c.is_product.ensures ∙ ap (λ k. pointwise nat_eq p (take k variables_in_place)) c.from.ensures) ∙ ap (λ b. b || is_among c.args.entries.now p) c.if-is_product.false)
