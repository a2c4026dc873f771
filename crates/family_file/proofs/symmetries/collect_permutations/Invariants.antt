use Rattle.std.proofs.Common.{◌≡◌, drop, map}
use Rattle.toml.specs.View.{view}
use Rattle.family_file.specs.Reading.{collect}
use Rattle.family_file.specs.Symmetries.{permutation_in}
use Rattle.family_file.proofs.Collect.{with_front}
use Rattle.family_file.proofs.symmetries.collect_permutations.Given as goal

abbrev pub invariant-loop-value : goal.invariant-loop-value
invariant-loop-value l = with_front l.entries.items (collect (permutation_in l.n) (map view (drop l.value-index l.values))) ≡ collect (permutation_in l.n) (map view l.values)
