use Rattle.std.proofs.Common.{◌≡◌, ap, subst, sym, ◌∙◌}
use Rattle.std.specs.Prelude.{pos}
use Rattle.std.proofs.lemmas.Bool.{false≢true}
use Rattle.sector_lattice.specs.Ranges.{InRange}
use Rattle.cut_family.specs.Places.{filled}
use Rattle.cut_family.proofs.PlaceLaws.{from_empty}
use Rattle.cut_family.proofs.Ranges.{filled_in_range}
use Rattle.cut_family.proofs.lifting.lifted_integral.Goals as goal

pub unreachable-requires : goal.unreachable-requires
unreachable-requires c =
    let same : c.put_filled.new.into.items ≡ filled (pos 1) c.args.n c.args.cut c.powers.result.now = from_empty c.new-powers.result.items (filled (pos 1) c.args.n c.args.cut c.powers.result.now) c.put_filled.new.into.items c.new-powers.ensures.items c.in_ok-put_filled.ensures in
    false≢true (c.in-None.ensures.within.1
    (subst InRange (sym (c.deref.ensures.value ∙ same ∙ ap (λ powers. filled (pos 1) c.args.n c.args.cut powers) c.powers.ensures.value)) (filled_in_range c.args.n c.args.cut c.args.integral.now c.requires.some c.requires.few c.powers.ensures.within)))
