use Rattle.std.proofs.Common.{◌≡◌, drop, map}
use Rattle.toml.specs.View.{view}
use Rattle.family_file.specs.Reading.{collect}
use Rattle.family_file.specs.Polynomials.{exponent_in}
use Rattle.family_file.proofs.Collect.{with_front}
use Rattle.family_file.proofs.polynomials.collect_exponents.Given as goal

abbrev pub invariant-loop-value : goal.invariant-loop-value
invariant-loop-value l = with_front l.exponents.items (collect (exponent_in l.fault) (map view (drop l.value-index l.values))) ≡ collect (exponent_in l.fault) (map view l.values)
