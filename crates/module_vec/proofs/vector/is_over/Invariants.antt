use Rattle.std.proofs.Common.{◌≡◌, false, take}
use Rattle.mono_order.specs.declared.limits.TheConstants.{VARIABLES, RUN_DEGREE}
use Rattle.ibp_algebra.specs.FormalSum.{AllKeys}
use Rattle.mono_order.specs.Term.{IsTerm}
use Rattle.module_vec.specs.Division.{is_over_degree}
use Rattle.module_vec.proofs.vector.is_over.Given as goal

abbrev pub invariant-loop-term : goal.invariant-loop-term
invariant-loop-term l =
    record {
      within : is_over_degree RUN_DEGREE (take l.term-index l.terms) ≡ false;
      kept : AllKeys (IsTerm VARIABLES) (take l.term-index l.terms);
    }
