use Rattle.std.proofs.Common.{◌≡◌, ◌++◌, length, take}
use Rattle.ibp_algebra.specs.FormalSum.{scale}
use Rattle.module_vec.specs.ModuleVector.{SameVector, multiply_vector}
use Rattle.fast_division.specs.Windows.{vector_of, IsWindow}
use Rattle.fast_division.proofs.window.add_at.Given as goal

abbrev pub invariant-loop-i : goal.invariant-loop-i
invariant-loop-i g l =
    record {
      window : IsWindow g.O.TermOrder.high l.placed.shape.variables l.placed.shape.first l.placed.shape.count l.cells.top l.cells.terms.items l.cells.values.items;
      long : length l.cells.values.items ≡ length l.fn.cells.values.items;
      sum : SameVector (vector_of l.cells.terms.items l.cells.values.items) (vector_of l.fn.cells.terms.items l.fn.cells.values.items ++ scale l.factor (multiply_vector l.by (take l.i l.terms)));
    }
