use Rattle.std.proofs.Common.{◌≡◌, ap, subst, sym, ◌∙◌}
use Rattle.std.proofs.lemmas.Bool.{false≢true}
use Rattle.sector_lattice.specs.Ranges.{InRange}
use Rattle.cut_family.specs.Places.{outside}
use Rattle.cut_family.proofs.PlaceLaws.{from_empty}
use Rattle.cut_family.proofs.Ranges.{outside_in_range}
use Rattle.cut_family.proofs.cutting.cut_integral.Goals as goal

pub unreachable-requires : goal.unreachable-requires
unreachable-requires c =
    let same : c.put_outside.new.into.items ≡ outside c.args.cut c.powers.result.now = from_empty c.new-powers.result.items (outside c.args.cut c.powers.result.now) c.put_outside.new.into.items c.new-powers.ensures.items c.in_ok-put_outside.ensures in
    false≢true (c.in-None.ensures.within.1
    (subst InRange (sym (c.deref.ensures.value ∙ same ∙ ap (λ powers. outside c.args.cut powers) c.powers.ensures.value)) (outside_in_range c.args.cut c.args.integral.now c.requires.small c.requires.some c.powers.ensures.within)))
