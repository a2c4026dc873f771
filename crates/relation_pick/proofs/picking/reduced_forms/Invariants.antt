use Rattle.std.proofs.Common.{take}
use Rattle.sector_lattice.specs.Sectors.{integral_cmp}
use Rattle.relation_pick.specs.Picking.{AllForms}
use Rattle.relation_pick.proofs.picking.reduced_forms.Given as goal

abbrev pub invariant-loop-target : goal.invariant-loop-target
invariant-loop-target l = AllForms integral_cmp l.candidates (take l.target-index l.targets) l.forms.items
