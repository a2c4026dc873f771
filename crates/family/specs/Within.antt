-- A family that keeps the limits.
use Rattle.family.specs.Limits.{FamilyLimits}
use Rattle.family.specs.FamilyData.{FamilyData}

abbrev pub DataWithin : FamilyData → Type 0
DataWithin f = FamilyLimits f.n f.baikov f.targets f.zero f.bounds f.caps f.symmetries f.budget f.probe
