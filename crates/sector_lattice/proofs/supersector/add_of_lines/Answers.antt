use Rattle.std.proofs.Common.{◌-◌, ◌^◌, ◌++◌, map, ap, ◌∙◌}
use Rattle.sector_lattice.specs.Above.{one_above}
use Rattle.sector_lattice.proofs.Filling.{joined_none, joined_next}
use Rattle.sector_lattice.proofs.supersector.add_of_lines.Goals as goal

pub loop-below-init : goal.loop-below-init
loop-below-init c = joined_none _ _

pub loop-below-preserved : goal.loop-below-preserved
loop-below-preserved c =
    joined_next (map (λ s. s.0) c.args.found.now.items) (map (λ s. s.0) c.loop-below.found.items) (map (λ s. s.0) c.add_if_above.new.found.items)
    (λ below. one_above c.args.sector.0 c.args.members (2 ^ c.args.n - 1 - below)) c.loop-below.below c.loop-below.invariant
    (c.in_ok-add_if_above.ensures ∙ ap (λ count. map (λ s. s.0) c.loop-below.found.items ++ one_above c.args.sector.0 c.args.members (count - 1 - c.loop-below.below)) c.sector_count-count.ensures.value)
