use Rattle.std.proofs.Common.{◌≡◌, drop, map}
use Rattle.toml.specs.View.{view}
use Rattle.family_file.specs.Reading.{collect}
use Rattle.family_file.specs.Polynomials.{polynomial_value}
use Rattle.family_file.proofs.Collect.{with_front}
use Rattle.family_file.proofs.polynomials.collect_polynomials.Given as goal

abbrev pub invariant-loop-value : goal.invariant-loop-value
invariant-loop-value l = with_front l.polynomials.items (collect (polynomial_value l.fault l.n l.numbers) (map view (drop l.value-index l.values))) ≡ collect (polynomial_value l.fault l.n l.numbers) (map view l.values)
