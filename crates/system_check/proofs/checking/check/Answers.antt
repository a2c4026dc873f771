use Rattle.std.proofs.Common.{ap, ◌∙◌}
use Rattle.std.specs.Prelude.{Err}
use Rattle.std.proofs.lemmas.Result.{err_from_is_err_and}
use Rattle.family.specs.FamilyView.{family_view}
use Rattle.system_check.proofs.Verdicts.{accepted, refused, told, unread_accepted, unread_refused}
use Rattle.system_check.proofs.checking.check.Goals as goal

pub returns-in_err-system-clause-accepted : goal.returns-in_err-system-clause-accepted
returns-in_err-system-clause-accepted c =
    let p = err_from_is_err_and c.from_residual.result c.from_residual.ensures.1 in
    unread_accepted (family_view c.args.family.now) c.args.written.now c.in_err-system.field-0.0 c.from_residual.result (p.1 ∙ ap Err p.2) c.if-written-gt-TEXT_LIMIT.false
    (λ k e. c.in_err-system.ensures.bad k (ap Err e))

pub returns-in_err-system-clause-refused : goal.returns-in_err-system-clause-refused
returns-in_err-system-clause-refused c =
    let p = err_from_is_err_and c.from_residual.result c.from_residual.ensures.1 in
    unread_refused (family_view c.args.family.now) c.args.written.now c.in_err-system.field-0.0 c.from_residual.result (p.1 ∙ ap Err p.2) c.if-written-gt-TEXT_LIMIT.false
    (λ k e. c.in_err-system.ensures.bad k (ap Err e))

pub returns-clause-accepted : goal.returns-clause-accepted
returns-clause-accepted c =
    let read = c.in_ok-system.ensures in
    accepted (family_view c.args.family.now) c.args.written.now c.if-written-gt-TEXT_LIMIT.false c.in_ok-system.system read.value read.text read.one c.check_system.result c.check_system.ensures.right c.check_system.ensures.fault

pub returns-clause-fault : goal.returns-clause-fault
returns-clause-fault c =
    let read = c.in_ok-system.ensures in
    told (family_view c.args.family.now) c.args.written.now c.if-written-gt-TEXT_LIMIT.false c.in_ok-system.system read.value read.text read.one c.check_system.result c.check_system.ensures.right c.check_system.ensures.fault

pub returns-clause-refused : goal.returns-clause-refused
returns-clause-refused c =
    let read = c.in_ok-system.ensures in
    refused (family_view c.args.family.now) c.args.written.now c.if-written-gt-TEXT_LIMIT.false c.in_ok-system.system read.value read.text read.one c.check_system.result c.check_system.ensures.right c.check_system.ensures.fault
