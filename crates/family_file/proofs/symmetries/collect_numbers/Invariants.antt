use Rattle.std.proofs.Common.{◌≡◌, drop, map}
use Rattle.toml.specs.View.{view}
use Rattle.family_file.specs.declared.fault.FileFault.TheVariants.{Symmetries}
use Rattle.family_file.specs.Reading.{collect}
use Rattle.family_file.specs.Arrays.{place_in}
use Rattle.family_file.proofs.Collect.{with_front}
use Rattle.family_file.proofs.symmetries.collect_numbers.Given as goal

abbrev pub invariant-loop-value : goal.invariant-loop-value
invariant-loop-value l = with_front l.numbers.items (collect (place_in Symmetries l.n) (map view (drop l.value-index l.values))) ≡ collect (place_in Symmetries l.n) (map view l.values)
