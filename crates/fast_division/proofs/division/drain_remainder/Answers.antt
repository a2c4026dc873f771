use Rattle.std.proofs.Common.{◌≡◌, [], get_or, rules, true, refl}
use Rattle.std.proofs.lemmas.List.{get_or_default}
use Rattle.std.proofs.lemmas.List.Elements.{All-get_or}
use Rattle.mono_order.specs.declared.limits.TheConstants.{RUN_DEGREE}
use Rattle.module_vec.specs.ModuleVector.{IsMonic, multiple_value}
use Rattle.module_vec.specs.Division.{is_over_degree, multiple_with_lead}
use Rattle.module_vec.proofs.DivisionLaws.{first_divisor-some}
use Rattle.fast_division.proofs.FirstNumbers.{index_none, index_some, index_within, index_found}
use Rattle.fast_division.proofs.Drains.{Cancels, cancelled_falls, Draining-moved, Draining-cancelled, Draining-over, Draining-end}
use Rattle.fast_division.proofs.division.drain_remainder.Goals as goal

pub cancel-requires-clause-number : goal.cancel-requires-clause-number
cancel-requires-clause-number g c =
    index_within c.args.list.now c.in-Some.item.0 c.in-Some-first_divisor.number
    (index_some c.args.list.now c.args.index.now c.in-Some.item.0 c.in-Some-first_divisor.number c.requires.index c.in-Some-first_divisor.ensures)

pub cancel-requires-clause-monic : goal.cancel-requires-clause-monic
cancel-requires-clause-monic g c =
    All-get_or IsMonic c.args.list.now c.in-Some-first_divisor.number []
    (index_within c.args.list.now c.in-Some.item.0 c.in-Some-first_divisor.number
    (index_some c.args.list.now c.args.index.now c.in-Some.item.0 c.in-Some-first_divisor.number c.requires.index c.in-Some-first_divisor.ensures))
    c.requires.monic

pub cancel-requires-clause-divides : goal.cancel-requires-clause-divides
cancel-requires-clause-divides g c =
    let list = c.args.list.now in
    let number = c.in-Some-first_divisor.number in
    let divisor = get_or list number [] in
    let some = index_some list c.args.index.now c.in-Some.item.0 number c.requires.index c.in-Some-first_divisor.ensures in
    let within = index_within list c.in-Some.item.0 number some in
    let found = index_found list c.in-Some.item.0 number divisor some (get_or_default list number [] divisor within) in
    (first_divisor-some list c.in-Some.item.0 divisor found).1

pub cancel-requires-clause-multiples : goal.cancel-requires-clause-multiples
cancel-requires-clause-multiples g c = c.steps.invariant.1

pub steps-smaller-in-Continue-1 : goal.steps-smaller-in-Continue-1
steps-smaller-in-Continue-1 g c =
    let list = c.args.list.now in
    let number = c.in-Some-first_divisor.number in
    let divisor = get_or list number [] in
    let some = index_some list c.args.index.now c.in-Some.item.0 number c.requires.index c.in-Some-first_divisor.ensures in
    let within = index_within list c.in-Some.item.0 number some in
    let found = index_found list c.in-Some.item.0 number divisor some (get_or_default list number [] divisor within) in
    let cancels : Cancels g.O.TermOrder.order g.met.O.TermOrder.laws c.steps.rest c.take_lead.new.self c.cancel.new.rest divisor c.in-Some.item =
    record {
      split = c.in-Some.ensures.lead;
      whole = c.take_lead.ensures.vector;
      monic = All-get_or IsMonic list number [] within c.requires.monic;
      vector = c.cancel.ensures.vector;
      divides = (first_divisor-some list c.in-Some.item.0 divisor found).1;
      difference = c.in_ok-cancel-in-Some-first_divisor.ensures.difference;
      small = c.in_ok-cancel-in-Some-first_divisor.ensures.within;
    }
    in
    cancelled_falls g.O.TermOrder.order g.met.O.TermOrder.laws c.steps.rest c.take_lead.new.self c.cancel.new.rest divisor c.in-Some.item cancels

pub steps-preserved-in-Continue-1 : goal.steps-preserved-in-Continue-1
steps-preserved-in-Continue-1 g c =
    let list = c.args.list.now in
    let number = c.in-Some-first_divisor.number in
    let divisor = get_or list number [] in
    let some = index_some list c.args.index.now c.in-Some.item.0 number c.requires.index c.in-Some-first_divisor.ensures in
    let within = index_within list c.in-Some.item.0 number some in
    let found = index_found list c.in-Some.item.0 number divisor some (get_or_default list number [] divisor within) in
    let cancels : Cancels g.O.TermOrder.order g.met.O.TermOrder.laws c.steps.rest c.take_lead.new.self c.cancel.new.rest divisor c.in-Some.item =
    record {
      split = c.in-Some.ensures.lead;
      whole = c.take_lead.ensures.vector;
      monic = All-get_or IsMonic list number [] within c.requires.monic;
      vector = c.cancel.ensures.vector;
      divides = (first_divisor-some list c.in-Some.item.0 divisor found).1;
      difference = c.in_ok-cancel-in-Some-first_divisor.ensures.difference;
      small = c.in_ok-cancel-in-Some-first_divisor.ensures.within;
    }
    in (
      Draining-cancelled g.O.TermOrder.order g.met.O.TermOrder.laws list c.args.rest.now c.steps.settled.items c.steps.rest c.take_lead.new.self c.cancel.new.rest divisor c.in-Some.item cancels
          found c.steps.invariant.0,
      c.cancel.ensures.multiples,
    )

pub returns-in_err-cancel-in-Some-first_divisor-clause-over : goal.returns-in_err-cancel-in-Some-first_divisor-clause-over
returns-in_err-cancel-in-Some-first_divisor-clause-over g c = λ e.
    let list = c.args.list.now in
    let number = c.in-Some-first_divisor.number in
    let divisor = get_or list number [] in
    let some = index_some list c.args.index.now c.in-Some.item.0 number c.requires.index c.in-Some-first_divisor.ensures in
    let within = index_within list c.in-Some.item.0 number some in
    let found = index_found list c.in-Some.item.0 number divisor some (get_or_default list number [] divisor within) in
    let over : is_over_degree RUN_DEGREE (multiple_value (multiple_with_lead c.in-Some.item.0 divisor)) ≡ true = search rules in
    Draining-over g.O.TermOrder.order g.met.O.TermOrder.laws list c.args.rest.now c.steps.settled.items c.steps.rest c.take_lead.new.self divisor c.in-Some.item
    c.in-Some.ensures.lead found over c.steps.invariant.0

pub steps-preserved : goal.steps-preserved
steps-preserved g c = (
  Draining-moved g.O.TermOrder.order g.met.O.TermOrder.laws c.args.list.now c.args.rest.now c.steps.settled.items c.take_lead.new.self c.push.new.self.items c.steps.rest c.in-Some.item
      c.in-Some.ensures.lead c.take_lead.ensures.vector c.in_ok-push-in-None.ensures.items
      (index_none c.args.list.now c.args.index.now c.in-Some.item.0 c.requires.index c.in-None.ensures) c.steps.invariant.0,
  c.steps.invariant.1,
)

pub from_descending-requires : goal.from_descending-requires
from_descending-requires g c = record { vector = c.steps.invariant.0.settled_bounded.vector; within = c.steps.invariant.0.settled_bounded.within }

pub returns-clause-remainder : goal.returns-clause-remainder
returns-clause-remainder g c =
    Draining-end g.O.TermOrder.order g.met.O.TermOrder.laws c.args.list.now c.args.rest.now c.steps.settled.items c.steps.rest c.from_descending.result (c.in_default.ensures.none refl).0 c.from_descending.ensures c.steps.invariant.0

pub returns-clause-multiples : goal.returns-clause-multiples
returns-clause-multiples g c = c.steps.invariant.1

pub returns-in_err-push-in-None-clause-multiples : goal.returns-in_err-push-in-None-clause-multiples
returns-in_err-push-in-None-clause-multiples g c = c.steps.invariant.1
