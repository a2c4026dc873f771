-- Which pair a run takes next, by its name.
use Rattle.std.specs.Prelude.{ℕ, codes, List, Result, Ok, Err, if◌then◌else◌}
use Rattle.std.specs.Str.{bytes_eq}
use Rattle.family.specs.declared.parts.Selection.{Selection}
use Rattle.family.specs.declared.parts.Selection.TheVariants.{Order, Degree}
use Rattle.family_file.specs.declared.fault.FileFault.{FileFault}
use Rattle.family_file.specs.declared.fault.FileFault.TheVariants.{Budget}

abbrev pub selection_of : List ℕ → Result Selection FileFault
selection_of name = if bytes_eq name (codes "order") then Ok Order else if bytes_eq name (codes "degree") then Ok Degree else Err Budget
