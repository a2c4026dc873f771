use Rattle.std.proofs.Common.{◌≡◌, false, take}
use Rattle.mono_order.specs.declared.limits.TheConstants.{RUN_DEGREE}
use Rattle.module_vec.specs.ModuleVector.{multiply_vector}
use Rattle.module_vec.specs.Division.{is_over_degree}
use Rattle.module_vec.proofs.vector.Vector.shift.Given as goal

abbrev pub invariant-loop-term : goal.invariant-loop-term
invariant-loop-term g l =
    record {
      product : l.terms.items ≡ multiply_vector l.by (take l.term-index l.term-items);
      within : is_over_degree RUN_DEGREE (multiply_vector l.by (take l.term-index l.term-items)) ≡ false;
    }
