use Rattle.mono_order.specs.declared.limits.TheConstants.{RUN_DEGREE}
use Rattle.std.proofs.Common.{◌≡◌, ◌+◌, ◌<◌, ℕ, length, []}
use Rattle.std.specs.Prelude.{slice_index_or}
use Rattle.sector_module.specs.FieldsOf.{IsComponentOf}
use Rattle.sector_module.proofs.vectors.field_of.Given as goal

abbrev pub invariant-loop-place : goal.invariant-loop-place
invariant-loop-place g l =
    record {
      count : length l.c.items ≡ l.place;
      polynomials : (i : ℕ) → i < l.place → IsComponentOf RUN_DEGREE (1 + i) l.vector (slice_index_or l.c.items i []);
    }
