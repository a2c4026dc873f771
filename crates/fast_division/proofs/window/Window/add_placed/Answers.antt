use Rattle.ibp_algebra.specs.FormalSum.{scale}
use Rattle.module_vec.specs.ModuleVector.{multiply_vector}
use Rattle.fast_division.specs.Windows.{vector_of}
use Rattle.fast_division.proofs.Totals.{subtracted}
use Rattle.fast_division.proofs.window.Window.add_placed.Goals as goal

pub returns-clause-sum : goal.returns-clause-sum
returns-clause-sum g c =
    let before = c.self.inside.cells in
    let after = c.add_at.new.cells in
    subtracted g.O.TermOrder.order g.met.O.TermOrder.laws (vector_of before.terms.items before.values.items) (vector_of after.terms.items after.values.items) c.args.self.now
    (scale c.args.factor (multiply_vector c.args.by.now c.args.terms.now)) c.self.view_is c.add_at.ensures.sum
