use Rattle.std.proofs.Common.{map, sym, ap, subst, ◌∙◌}
use Rattle.sector_lattice.specs.Sectors.{AreSupersectors}
use Rattle.sector_lattice.proofs.Upward.{all_above_are}
use Rattle.sector_lattice.proofs.supersector.supersectors.Goals as goal

pub returns : goal.returns
returns c = subst (AreSupersectors c.args.sector.0 c.args.n) (sym (ap (map (λ s. s.0)) c.from_vec.ensures ∙ c.in_ok-all_supersectors.ensures)) (all_above_are c.args.sector.0 c.args.n)
