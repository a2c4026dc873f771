use Rattle.std.proofs.Common.{◌≡◌, drop, map}
use Rattle.toml.specs.View.{view}
use Rattle.family_file.specs.Reading.{collect}
use Rattle.family_file.specs.Polynomials.{term_in}
use Rattle.family_file.proofs.Collect.{with_front}
use Rattle.family_file.proofs.polynomials.collect_terms.Given as goal

abbrev pub invariant-loop-value : goal.invariant-loop-value
invariant-loop-value l = with_front l.terms.items (collect (term_in l.fault l.n) (map view (drop l.value-index l.values))) ≡ collect (term_in l.fault l.n) (map view l.values)
