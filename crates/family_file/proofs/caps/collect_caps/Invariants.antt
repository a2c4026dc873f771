use Rattle.std.proofs.Common.{◌≡◌, drop, map}
use Rattle.toml.specs.View.{view}
use Rattle.family_file.specs.Reading.{collect}
use Rattle.family_file.specs.Caps.{caps_in}
use Rattle.family_file.proofs.Collect.{with_front}
use Rattle.family_file.proofs.caps.collect_caps.Given as goal

abbrev pub invariant-loop-value : goal.invariant-loop-value
invariant-loop-value l = with_front l.caps.items (collect (caps_in l.n) (map view (drop l.value-index l.values))) ≡ collect (caps_in l.n) (map view l.values)
