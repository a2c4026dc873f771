use Rattle.std.proofs.Common.{◌<◌, ◌++◌, ℕ, length, sym, subst}
use Rattle.ibp_algebra.specs.FormalSum.{FormalSum, AllKeys}
use Rattle.sector_lattice.specs.Sectors.{integral_cmp}
use Rattle.ibp_algebra.specs.Combination.{combination}
use Rattle.ibp_algebra.specs.Spans.{row_at, IsReducedForm}
use Rattle.sparse_rows.specs.Rows.{SameRow}
use Rattle.row_echelon.specs.Echelons.{KeptRows, row_numbered, InKeptSpan}
use Rattle.row_echelon.specs.KeptRows.{reduced_rows}
use Rattle.row_echelon.proofs.Reducing.{IsReducedForm-left, sum_by_weights}
use Rattle.row_echelon.proofs.echelon.Echelon.reduce.Goals as goal

pub substitute-requires-clause-places : goal.substitute-requires-clause-places
substitute-requires-clause-places c = subst (AllKeys (λ place. place < length c.self.inside.kept.entries)) (sym c.deref.ensures.value) c.in_ok-left.ensures.places

pub returns-clause-rest : goal.returns-clause-rest
returns-clause-rest c =
    subst (λ (kept : KeptRows). IsReducedForm integral_cmp (InKeptSpan kept) c.args.row.now c.in_ok-left.left.rest) c.self.view_is
    (IsReducedForm-left c.self.inside.kept.entries c.args.row.now c.in_ok-left.left.rest c.in_ok-left.left.steps.items c.self.invariant.0
    c.in_ok-left.ensures.sum c.in_ok-left.ensures.places c.in_ok-left.ensures.reduced)

pub returns-clause-weights : goal.returns-clause-weights
returns-clause-weights c =
    let es = c.self.inside.kept.entries in
    let left = c.in_ok-left.left in
    let sum : SameRow c.args.row.now (left.rest ++ combination (row_at (reduced_rows es)) c.deref.result.now) =
    subst (λ (steps : FormalSum ℕ). SameRow c.args.row.now (left.rest ++ combination (row_at (reduced_rows es)) steps)) (sym c.deref.ensures.value) c.in_ok-left.ensures.sum
    in
    subst (λ (weights : FormalSum ℕ). SameRow c.args.row.now (left.rest ++ combination (row_numbered c.args.self.now) weights)) (sym c.from_vec.ensures)
    (subst (λ (kept : KeptRows). SameRow c.args.row.now (left.rest ++ combination (row_numbered kept) c.in_ok-weights.weights.items)) c.self.view_is
    (sum_by_weights es c.args.row.now left.rest c.deref.result.now c.in_ok-weights.weights.items sum c.in_ok-weights.ensures.sum))
