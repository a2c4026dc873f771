use Rattle.std.proofs.Common.{length, sym}
use Rattle.sector_lattice.specs.Layers.{layer}
use Rattle.sector_lattice.proofs.Filling.{joined_none, joined_next, from_start}
use Rattle.sector_lattice.proofs.seeding.add_of_dots.Goals as goal

pub loop-spent-init : goal.loop-spent-init
loop-spent-init c = joined_none _ _

pub loop-spent-preserved : goal.loop-spent-preserved
loop-spent-preserved c =
    joined_next c.args.found.now.items c.loop-spent.found.items c.add_layer.new.found.items (λ r. layer (length c.args.powers.now) c.args.sector c.args.dots r) c.loop-spent.spent c.loop-spent.invariant
    (from_start (length c.args.powers.now) c.args.sector c.args.dots c.loop-spent.spent c.loop-spent.powers c.loop-spent.found.items c.add_layer.new.found.items (sym c.loop-spent.auto.powers) c.in_ok-add_layer.ensures.listed)
