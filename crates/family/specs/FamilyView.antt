-- What a family of the code stands for in the definitions.
use Rattle.family.specs.declared.family.Family.{Family}
use Rattle.family.specs.FamilyData.{FamilyData}

abbrev pub family_view : Family → FamilyData
family_view f = record { name = f.name; n = f.n; gamma = f.gamma; baikov = f.baikov; targets = f.targets; zero = f.zero; bounds = f.bounds; caps = f.caps; symmetries = f.symmetries; budget = f.budget; probe = f.probe }
