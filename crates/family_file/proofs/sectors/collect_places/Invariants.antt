use Rattle.std.proofs.Common.{◌≡◌, drop, map}
use Rattle.toml.specs.View.{view}
use Rattle.family_file.specs.Reading.{collect}
use Rattle.family_file.specs.Arrays.{place_in}
use Rattle.family_file.proofs.Collect.{with_front}
use Rattle.family_file.proofs.sectors.collect_places.Given as goal

abbrev pub invariant-loop-value : goal.invariant-loop-value
invariant-loop-value l = with_front l.places.items (collect (place_in l.fault l.n) (map view (drop l.value-index l.values))) ≡ collect (place_in l.fault l.n) (map view l.values)
