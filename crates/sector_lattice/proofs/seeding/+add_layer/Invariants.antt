use Rattle.std.proofs.Common.{◌≡◌, ◌+◌, ◌-◌, ◌++◌, length, take, map}
use Rattle.sector_lattice.specs.Layers.{joined}
use Rattle.sector_lattice.proofs.Layering.{piece}
use Rattle.sector_lattice.proofs.seeding.+add_layer.Given as goal

abbrev pub decreases-add_layer : goal.decreases-add_layer
decreases-add_layer l = length l.powers.now - l.place

abbrev pub invariant-loop-spent : goal.invariant-loop-spent
invariant-loop-spent l =
    (take l.place l.powers ≡ take l.place l.fn.powers)
    × (l.found.items ≡ l.fn.found.items ++ map (λ rest. take l.place l.fn.powers ++ rest) (joined (piece (length l.fn.powers - (l.place + 1)) l.sector l.dots l.rank) l.spent))
