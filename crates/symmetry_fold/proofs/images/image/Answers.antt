use Rattle.std.proofs.Common.{◌≡◌, subst, sym, ◌∙◌}
use Rattle.std.proofs.lemmas.Bool.{false≢true}
use Rattle.sector_lattice.specs.Ranges.{InRange}
use Rattle.symmetry_fold.specs.Images.{image}
use Rattle.symmetry_fold.proofs.ImageRanges.{image_in_range, made_is}
use Rattle.symmetry_fold.proofs.images.image.Goals as goal

pub unreachable-requires : goal.unreachable-requires
unreachable-requires c =
    let made : c.put_image.new.into.items ≡ image c.args.numbers.now c.args.integral.now = made_is c.args.numbers.now c.powers.result.now c.args.integral.now c.new-powers.result.items c.put_image.new.into.items c.n.result c.new-powers.ensures.items c.in_ok-put_image.ensures c.powers.ensures.value c.n.ensures.value in
    false≢true (c.in-None.ensures.within.1 (subst InRange (sym (c.deref.ensures.value ∙ made)) (image_in_range c.args.numbers.now c.args.integral.now c.powers.ensures.within)))

pub returns : goal.returns
returns c =
    let made : c.put_image.new.into.items ≡ image c.args.numbers.now c.args.integral.now = made_is c.args.numbers.now c.powers.result.now c.args.integral.now c.new-powers.result.items c.put_image.new.into.items c.n.result c.new-powers.ensures.items c.in_ok-put_image.ensures c.powers.ensures.value c.n.ensures.value in
    c.in-Some.ensures.value ∙ c.deref.ensures.value ∙ made
