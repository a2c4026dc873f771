use Rattle.std.proofs.Common.{◌++◌, length, ap, ◌∙◌}
use Rattle.sector_lattice.proofs.SeedLists.{of_dots}
use Rattle.sector_lattice.proofs.Filling.{nothing_joined, first_joined_next}
use Rattle.sector_lattice.proofs.seeding.in_layers.Goals as goal

pub loop-spent-init : goal.loop-spent-init
loop-spent-init c = c.new-found.ensures.items ∙ nothing_joined _

pub loop-spent-preserved : goal.loop-spent-preserved
loop-spent-preserved c =
    first_joined_next c.loop-spent.found.items c.add_of_dots.new.found.items (of_dots (length c.args.powers.now) c.args.sector c.args.rank) c.loop-spent.spent c.loop-spent.invariant
    (c.in_ok-add_of_dots.ensures ∙ ap (λ n. c.loop-spent.found.items ++ of_dots n c.args.sector c.args.rank c.loop-spent.spent) c.loop-spent.auto.powers)
