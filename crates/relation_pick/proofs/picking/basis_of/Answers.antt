use Rattle.std.proofs.Common.{◌≡◌, ◌+◌, ◌<◌, ◌≤◌, length, sym, ap, subst, ◌∙◌, arith}
use Rattle.sector_lattice.specs.Sectors.{integral_cmp}
use Rattle.ibp_algebra.specs.Spans.{row_at}
use Rattle.row_echelon.specs.Echelons.{Inserts}
use Rattle.row_echelon.specs.References.{rows_of}
use Rattle.relation_pick.specs.Kept.{KeepsBasis}
use Rattle.relation_pick.proofs.Keeping.{KeepsBasis-step}
use Rattle.relation_pick.proofs.Listing.{ListsBasisBelow, ListsBasisBelow-new, ListsBasisBelow-old, ListsBasis-whole, kept_in_basis, dependent_in_span}
use Rattle.relation_pick.proofs.Referred.{as_many_rows, row_referred}
use Rattle.relation_pick.proofs.picking.basis_of.Goals as goal
use Rattle.relation_pick.proofs.picking.basis_of.Goals.{in-Kept+in_ok-push-in-Kept, in-Dependent}

pub loop-place-preserved : goal.loop-place-preserved
loop-place-preserved c =
    let candidates = rows_of c.args.candidates.now in
    let place = c.loop-place.place in
    let old = c.loop-place.echelon in
    let new = c.insert.new.self in
    let row = c.index-candidates-place.result.now in
    let row_is : row ≡ row_at candidates place = row_referred c.args.candidates.now place c.index-candidates-place.result c.loop-place-test.true c.index-candidates-place.is in
    let within : place < length candidates = let same = as_many_rows c.args.candidates.now in omega (arith, same, c.loop-place-test.true) in (
      KeepsBasis-step candidates place old new row c.in_ok-insert.field-0 c.in_ok-insert.ensures.ok row_is within c.loop-place.invariant.0,
      elim c.match-branch-3.branch [
        | in-Kept+in_ok-push-in-Kept w ↦
            subst (ListsBasisBelow integral_cmp candidates (place + 1)) (sym (ap (λ v. v.items) w.places-is ∙ w.in_ok-push-in-Kept.ensures.items))
            (ListsBasisBelow-new integral_cmp candidates place c.loop-place.places.items
            (kept_in_basis candidates place old new row (subst (Inserts old new row place) w.in-Kept.is c.in_ok-insert.ensures.ok) row_is within c.loop-place.invariant.0)
            c.loop-place.invariant.1)
        | in-Dependent w ↦
            subst (ListsBasisBelow integral_cmp candidates (place + 1)) (sym (ap (λ v. v.items) w.places-is))
            (ListsBasisBelow-old integral_cmp candidates place c.loop-place.places.items
            (dependent_in_span candidates place old new row (subst (Inserts old new row place) w.in-Dependent.is c.in_ok-insert.ensures.ok) row_is c.loop-place.invariant.0)
            c.loop-place.invariant.1)
      ],
    )

pub returns-clause-rows : goal.returns-clause-rows
returns-clause-rows c =
    let candidates = rows_of c.args.candidates.now in
    let all : c.loop-place.place ≡ length candidates = let same = as_many_rows c.args.candidates.now in omega (arith, same, c.loop-place-test.false, c.loop-place.auto.place-end) in
    subst (λ n. KeepsBasis candidates n c.loop-place.echelon) all c.loop-place.invariant.0

pub returns-clause-places : goal.returns-clause-places
returns-clause-places c =
    let candidates = rows_of c.args.candidates.now in
    let long : length candidates ≤ c.loop-place.place = let same = as_many_rows c.args.candidates.now in omega (arith, same, c.loop-place-test.false) in
    ListsBasis-whole integral_cmp candidates c.loop-place.place c.loop-place.places.items long c.loop-place.invariant.1
