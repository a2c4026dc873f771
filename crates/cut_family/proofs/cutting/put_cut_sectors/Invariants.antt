use Rattle.std.proofs.Common.{◌≡◌, ◌++◌, take}
use Rattle.cut_family.specs.Cutting.{cut_sectors}
use Rattle.cut_family.proofs.cutting.put_cut_sectors.Given as goal

abbrev pub invariant-loop-sector : goal.invariant-loop-sector
invariant-loop-sector l = l.into.items ≡ l.fn.into.items ++ cut_sectors l.n l.cut.0 (take l.sector-index l.sectors)
