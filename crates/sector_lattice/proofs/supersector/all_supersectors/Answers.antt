use Rattle.std.proofs.Common.{◌-◌, map, ap, ◌∙◌}
use Rattle.sector_lattice.specs.Above.{of_lines}
use Rattle.sector_lattice.proofs.Filling.{nothing_joined, first_joined_next}
use Rattle.sector_lattice.proofs.supersector.all_supersectors.Goals as goal

pub loop-missing-init : goal.loop-missing-init
loop-missing-init c = ap (map (λ s. s.0)) c.new-found.ensures.items ∙ nothing_joined _

pub loop-missing-preserved : goal.loop-missing-preserved
loop-missing-preserved c =
    first_joined_next (map (λ s. s.0) c.loop-missing.found.items) (map (λ s. s.0) c.add_of_lines.new.found.items) (λ missing. of_lines c.args.sector.0 c.args.n (c.args.n - missing)) c.loop-missing.missing c.loop-missing.invariant c.in_ok-add_of_lines.ensures
