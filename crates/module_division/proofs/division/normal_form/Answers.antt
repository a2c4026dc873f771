use Rattle.std.proofs.Common.{◌≡◌, true, length, ap, refl, rules, arith}
use Rattle.mono_order.specs.declared.limits.TheConstants.{RUN_DEGREE}
use Rattle.module_vec.specs.ModuleVector.{ModuleVector, multiple_value}
use Rattle.module_vec.proofs.DivisionLaws.{DividesTo-unique}
use Rattle.module_vec.specs.Division.{Remainder, OverDegree, is_over_degree, multiple_with_lead}
use Rattle.module_division.proofs.Prefixes.{placed, Cancels, Settled-moved, Settled-over, Settled-end, Settled-cancelled, moved_falls, cancelled_falls, positive_at}
use Rattle.module_division.proofs.division.normal_form.Goals as goal

remainder_not_over : {r : ModuleVector} → Remainder r ≡ OverDegree → ⊥
remainder_not_over e = cc

pub cancelled-requires-clause-positive : goal.cancelled-requires-clause-positive
cancelled-requires-clause-positive g c =
    let at = placed _ _ c.steps.rest c.steps.settled c.index-terms-settled.result c.terms.ensures.same c.terms-in-steps.ensures.same c.steps-test.true c.index-terms-settled.is in
    positive_at g.O.TermOrder.order c.steps.rest _ _ at.within at.is c.terms.ensures.canonical.canonical

pub returns-in_err-rest-in-Some-clause-over : goal.returns-in_err-rest-in-Some-clause-over
returns-in_err-rest-in-Some-clause-over g c = λ e.
    let at = placed _ _ c.steps.rest c.steps.settled c.index-terms-settled.result c.terms.ensures.same c.terms-in-steps.ensures.same c.steps-test.true c.index-terms-settled.is in
    let over : is_over_degree RUN_DEGREE (multiple_value (multiple_with_lead c.index-terms-settled.result.0 c.in-Some.divisor.now)) ≡ true = search rules in
    Settled-over g.O.TermOrder.order RUN_DEGREE c.args.list.now c.args.v.now c.steps.rest c.steps.settled _ c.in-Some.divisor.now at.within at.is c.in-Some.ensures.first over c.steps.invariant

pub steps-smaller-in-Some : goal.steps-smaller-in-Some
steps-smaller-in-Some g c =
    let laws = g.met.O.TermOrder.laws in
    let at = placed _ _ c.steps.rest c.steps.settled c.index-terms-settled.result c.terms.ensures.same c.terms-in-steps.ensures.same c.steps-test.true c.index-terms-settled.is in
    let taken : Cancels laws c.steps.rest c.steps.settled c.index-terms-settled.result c.in-Some.divisor.now c.in_ok-rest-in-Some.rest =
    record {
      within = at.within;
      is = at.is;
      vector = c.terms.ensures.canonical;
      monic = c.in-Some.ensures.monic;
      divides = c.in-Some.ensures.divides;
      difference = c.in_ok-rest-in-Some.ensures.difference;
    }
    in
    cancelled_falls laws _ _ _ _ _ taken c.terms.ensures.bounded c.in_ok-rest-in-Some.ensures.within

pub steps-preserved-in-Some : goal.steps-preserved-in-Some
steps-preserved-in-Some g c =
    let laws = g.met.O.TermOrder.laws in
    let at = placed _ _ c.steps.rest c.steps.settled c.index-terms-settled.result c.terms.ensures.same c.terms-in-steps.ensures.same c.steps-test.true c.index-terms-settled.is in
    let taken : Cancels laws c.steps.rest c.steps.settled c.index-terms-settled.result c.in-Some.divisor.now c.in_ok-rest-in-Some.rest =
    record {
      within = at.within;
      is = at.is;
      vector = c.terms.ensures.canonical;
      monic = c.in-Some.ensures.monic;
      divides = c.in-Some.ensures.divides;
      difference = c.in_ok-rest-in-Some.ensures.difference;
    }
    in
    Settled-cancelled laws RUN_DEGREE c.args.list.now c.args.v.now _ _ _ _ _ taken c.in-Some.ensures.first c.in_ok-rest-in-Some.ensures.within c.steps.invariant

pub steps-smaller : goal.steps-smaller
steps-smaller g c =
    let at = placed _ _ c.steps.rest c.steps.settled c.index-terms-settled.result c.terms.ensures.same c.terms-in-steps.ensures.same c.steps-test.true c.index-terms-settled.is in
    moved_falls g.met.O.TermOrder.laws c.steps.rest c.steps.settled _ at.within at.is c.terms.ensures.canonical c.terms.ensures.bounded

pub steps-preserved : goal.steps-preserved
steps-preserved g c =
    let at = placed _ _ c.steps.rest c.steps.settled c.index-terms-settled.result c.terms.ensures.same c.terms-in-steps.ensures.same c.steps-test.true c.index-terms-settled.is in
    Settled-moved g.O.TermOrder.order RUN_DEGREE c.args.list.now c.args.v.now c.steps.rest c.steps.settled _ at.within at.is (c.in-None.ensures.none refl) c.steps.invariant

pub returns-clause-remainder : goal.returns-clause-remainder
returns-clause-remainder g c =
    Settled-end g.O.TermOrder.order RUN_DEGREE c.args.list.now c.args.v.now c.steps.rest c.steps.settled
    (omega (arith, c.steps-test.false, ap length c.terms.ensures.same)) c.steps.invariant

pub returns-clause-within : goal.returns-clause-within
returns-clause-within g c = λ over.
    remainder_not_over
    (DividesTo-unique g.O.TermOrder.order RUN_DEGREE c.args.list.now c.args.v.now _ _
    (Settled-end g.O.TermOrder.order RUN_DEGREE c.args.list.now c.args.v.now c.steps.rest c.steps.settled
    (omega (arith, c.steps-test.false, ap length c.terms.ensures.same)) c.steps.invariant) over)
