use Rattle.std.proofs.Common.{◌+◌, ◌≤◌, sum, take}
use Rattle.ibp_algebra.specs.FormalSum.{AllKeys}
use Rattle.mono_order.specs.declared.limits.TheConstants.{RUN_DEGREE}
use Rattle.module_vec.specs.ModuleVector.{multiply_vector}
use Rattle.fast_division.specs.Ranks.{HasPlace}
use Rattle.fast_division.proofs.window.Places.degree_of.Given as goal

abbrev pub invariant-loop-term : goal.invariant-loop-term
invariant-loop-term l =
    record {
      places : AllKeys (HasPlace l.self.ranks.0 l.self.first l.self.count) (multiply_vector l.by (take l.term-index l.terms));
      degree : AllKeys (λ t. sum t.1 ≤ l.degree + sum l.by) (multiply_vector l.by (take l.term-index l.terms));
      small : l.degree ≤ RUN_DEGREE;
    }
