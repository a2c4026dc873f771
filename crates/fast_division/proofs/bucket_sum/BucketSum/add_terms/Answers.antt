use Rattle.std.proofs.Common.{◌∙◌}
use Rattle.ibp_algebra.specs.FormalSum.{scale}
use Rattle.module_vec.specs.ModuleVector.{multiply_vector}
use Rattle.fast_division.specs.PartialSums.{total}
use Rattle.fast_division.proofs.Totals.{normal_same, on_err_from, subtracted}
use Rattle.fast_division.proofs.bucket_sum.BucketSum.add_terms.Goals as goal

pub returns-in_err-add_terms-clause-kept : goal.returns-in_err-add_terms-clause-kept
returns-in_err-add_terms-clause-kept g c =
    on_err_from c.from_residual.result
    (normal_same g.O.TermOrder.order g.met.O.TermOrder.laws (total c.add_terms.new.levels.items) (total c.self.inside.levels.items) c.in_err-add_terms.ensures.kept ∙ c.self.view_is)

pub returns-clause-sum : goal.returns-clause-sum
returns-clause-sum g c =
    subtracted g.O.TermOrder.order g.met.O.TermOrder.laws (total c.self.inside.levels.items) (total c.add_terms.new.levels.items) c.args.self.now
    (scale c.args.factor (multiply_vector c.args.by.now c.args.terms.now)) c.self.view_is c.in_ok-add_terms.ensures.sum
