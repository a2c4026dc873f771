use Rattle.std.proofs.Common.{ℕ, ◌<◌, List, length, sym, subst}
use Rattle.ibp_algebra.specs.FormalSum.{FormalSum}
use Rattle.sector_lattice.specs.Sectors.{integral_cmp}
use Rattle.sector_lattice.specs.Orders.{integral_cmp_total, same_integrals}
use Rattle.sparse_rows.specs.Rows.{IntegralSum}
use Rattle.row_echelon.specs.References.{rows_of}
use Rattle.relation_pick.specs.Picking.{IsPick}
use Rattle.relation_pick.specs.Marks.{AnyNamed, ListsNamed}
use Rattle.relation_pick.proofs.Finishing.{names_listed, IsPick-whole}
use Rattle.relation_pick.proofs.ByRows.{pick_is_irredundant}
use Rattle.relation_pick.proofs.Referred.{as_many_rows}
use Rattle.relation_pick.proofs.picking.picked_by.Goals as goal

pub named_places-requires-clause-within : goal.named_places-requires-clause-within
named_places-requires-clause-within c =
    subst (λ (all : List (FormalSum ℕ)). (k : ℕ) → AnyNamed all k → k < length c.args.candidates.now) (sym c.as_slice.ensures.value)
    (subst (λ (n : ℕ). (k : ℕ) → AnyNamed c.args.answers.weights.items k → k < n) (as_many_rows c.args.candidates.now)
    (names_listed integral_cmp (rows_of c.args.candidates.now) integral_cmp_total same_integrals c.args.targets.now c.args.answers.reductions.items c.args.answers.weights.items c.requires.answers))

pub returns-clause-pick : goal.returns-clause-pick
returns-clause-pick c =
    let answers = c.args.answers in
    let listed : ListsNamed answers.weights.items c.in_ok-written.written.items =
    subst (λ (all : List (FormalSum ℕ)). ListsNamed all c.in_ok-written.written.items) c.as_slice.ensures.value c.in_ok-written.ensures
    in
    let pick =
    IsPick-whole integral_cmp (rows_of c.args.candidates.now) integral_cmp_total same_integrals c.args.targets.now answers.reductions.items answers.weights.items c.in_ok-written.written.items
    c.requires.answers listed
    in
    subst (λ (written : List ℕ). IsPick integral_cmp (rows_of c.args.candidates.now) c.args.targets.now written c.from_vec-2.result c.from_vec-3.result) (sym c.from_vec.ensures)
    (subst (λ (forms : List IntegralSum). IsPick integral_cmp (rows_of c.args.candidates.now) c.args.targets.now c.in_ok-written.written.items forms c.from_vec-3.result) (sym c.from_vec-2.ensures)
    (subst (λ (all : List (FormalSum ℕ)). IsPick integral_cmp (rows_of c.args.candidates.now) c.args.targets.now c.in_ok-written.written.items answers.reductions.items all) (sym c.from_vec-3.ensures) pick))

pub returns-clause-irredundant : goal.returns-clause-irredundant
returns-clause-irredundant c =
    pick_is_irredundant integral_cmp integral_cmp_total same_integrals (rows_of c.args.candidates.now) c.args.targets.now c.from_vec.result c.from_vec-2.result c.from_vec-3.result (returns-clause-pick c)
