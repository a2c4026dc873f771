use Rattle.std.proofs.Common.{◌≡◌, drop, map}
use Rattle.toml.specs.View.{view}
use Rattle.indexmap.specs.IndexSet.{insert_all}
use Rattle.family_file.specs.declared.fault.FileFault.TheVariants.{Targets}
use Rattle.family_file.specs.Reading.{collect}
use Rattle.family_file.specs.Accumulated.{into}
use Rattle.family_file.specs.Arrays.{powers_in, targets_in}
use Rattle.family_file.proofs.FirstOccurrences.{same_integral}
use Rattle.family_file.proofs.arrays.collect_targets.Given as goal

-- the targets so far, and those of the values that are left
abbrev pub invariant-loop-value : goal.invariant-loop-value
invariant-loop-value l = into (insert_all same_integral) l.targets.keys (collect (powers_in Targets l.n) (map view (drop l.value-index l.values))) ≡ targets_in l.n (map view l.values)
