use Rattle.std.proofs.Common.{subst}
use Rattle.sector_lattice.specs.Sectors.{integral_cmp}
use Rattle.ibp_algebra.specs.Spans.{IsReducedForm}
use Rattle.row_echelon.specs.Echelons.{KeptRows, InKeptSpan}
use Rattle.row_echelon.proofs.Reducing.{IsReducedForm-left}
use Rattle.row_echelon.proofs.echelon.Echelon.reduced_form.Goals as goal

pub returns-clause-form : goal.returns-clause-form
returns-clause-form c =
    subst (λ (kept : KeptRows). IsReducedForm integral_cmp (InKeptSpan kept) c.args.row.now c.in_ok-whole_left.field-0.rest) c.self.view_is
    (IsReducedForm-left c.self.inside.kept.entries c.args.row.now c.in_ok-whole_left.field-0.rest c.in_ok-whole_left.field-0.steps.items c.self.invariant.0
    c.in_ok-whole_left.ensures.sum c.in_ok-whole_left.ensures.places c.in_ok-whole_left.ensures.reduced)
