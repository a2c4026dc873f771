use Rattle.std.proofs.Common.{◌≡◌, ◌≢◌, ◌+◌, ◌<◌, ◌≤◌, [], Ok, Err, rules, length, List, sym, ap, subst, ◌∙◌, arith}
use Rattle.std.specs.List.{All, AllZip}
use Rattle.std.proofs.lemmas.List.Elements.{All-same}
use Rattle.ibp_algebra.specs.FormalSum.{AllKeys}
use Rattle.mono_order.specs.declared.limits.TheConstants.{RUN_DEGREE, VARIABLES}
use Rattle.mono_order.specs.TermOrder.{over_position, high_block}
use Rattle.module_vec.specs.ModuleVector.{ModuleVector, IsMember}
use Rattle.pair_queue.specs.declared.order.PairOrder.{PairOrder}
use Rattle.module_basis.specs.GroebnerBasis.{IsGroebnerBasis, IsReducedBasis}
use Rattle.module_basis.specs.PlainRun.{RunsTo, Done}
use Rattle.module_basis.proofs.RunCounts.{run_counts}
use Rattle.family.specs.declared.parts.StrippedField.{StrippedField}
use Rattle.family.specs.Shapes.{IsField}
use Rattle.family.specs.Conditions.{IsInSectorModule}
use Rattle.sector_module.specs.Factors.{sector_factors}
use Rattle.sector_module.specs.FieldsOf.{IsFieldOf}
use Rattle.sector_module.specs.SectorBasis.{IsSectorBasis}
use Rattle.sector_module.proofs.Syzygies.{IsSyzygy}
use Rattle.sector_module.proofs.FieldVectors.{fields_fit, fields_members, fields_basis}
use Rattle.meet_module.specs.Divided.{IsDividedTerm}
use Rattle.meet_module.specs.MeetRuns.{meet_pair_order, meet_generators, stripped_generators, MeetRunEnds}
use Rattle.meet_module.proofs.DividedSyzygies.{IsDividedSyzygy, unstripped_reduced}
use Rattle.meet_module.proofs.Meets.{generators_some, length-meet_generators, meet_list_reduced, divided_list, stripped_some, length-stripped_generators, stripped_list_reduced}
use Rattle.meet_module.proofs.OneEnd.{Tells, first_fault, second_fault, both_done, done_tells}
use Rattle.meet_module.proofs.meet.meet_basis.Goals as goal

-- ---- the run of the meet

pub plain_run-requires-clause-not_zero : goal.plain_run-requires-clause-not_zero
plain_run-requires-clause-not_zero c =
    let family = c.args.family.now in
    let gens : c.deref.result.now ≡ meet_generators family.n c.args.sector.0 c.args.tangent.now = c.deref.ensures.value ∙ c.in_ok-meeting.ensures ∙ ap (meet_generators family.n c.args.sector.0) c.fields.ensures in
    All-same (λ (g : ModuleVector). g ≢ []) c.deref.result.now (meet_generators family.n c.args.sector.0 c.args.tangent.now) gens
    (generators_some family.baikov family.n c.args.sector.0 family.limits.few_variables family.limits.polynomial.variables c.requires.sector c.args.tangent.now c.requires.tangent)

pub plain_run-requires-clause-few : goal.plain_run-requires-clause-few
plain_run-requires-clause-few c =
    let family = c.args.family.now in
    let gens : c.deref.result.now ≡ meet_generators family.n c.args.sector.0 c.args.tangent.now = c.deref.ensures.value ∙ c.in_ok-meeting.ensures ∙ ap (meet_generators family.n c.args.sector.0) c.fields.ensures in
    omega (
      arith,
      ap (length {A = ModuleVector}) gens,
      length-meet_generators family.baikov family.n c.args.sector.0 family.limits.few_variables family.limits.polynomial.variables c.requires.sector c.args.tangent.now,
      c.requires.few,
      family.limits.few_variables,
      family.limits.budget_within.pairs,
    )

first_tells : (c : goal.After-drop-meeting-in_err-meet) → Tells c.args.family.now.baikov c.args.family.now.n c.args.sector.0 c.args.family.now.limits.few_variables c.args.family.now.limits.polynomial.variables c.requires.sector c.args.family.now.budget c.args.tangent.now c.from_residual-in_err-meet.result
first_tells c =
    let family = c.args.family.now in
    let gens : c.deref.result.now ≡ meet_generators family.n c.args.sector.0 c.args.tangent.now = c.deref.ensures.value ∙ c.in_ok-meeting.ensures ∙ ap (meet_generators family.n c.args.sector.0) c.fields.ensures in
    first_fault family.baikov family.n c.args.sector.0 family.limits.few_variables family.limits.polynomial.variables c.requires.sector family.budget c.args.tangent.now c.in_ok-by.by c.in_ok-by.ensures c.deref.result.now gens
    c.plain_run.result c.in_err-meet.field-0.0 c.in_err-meet.was c.plain_run.ensures.spent c.plain_run.ensures.over c.from_residual-in_err-meet.result (search rules)

pub returns-in_err-meet-clause-spent : goal.returns-in_err-meet-clause-spent
returns-in_err-meet-clause-spent c = (first_tells c).spent

pub returns-in_err-meet-clause-over : goal.returns-in_err-meet-clause-over
returns-in_err-meet-clause-over c = (first_tells c).over

-- ---- the stripped fields

pub stripped_generators-requires-clause-divided : goal.stripped_generators-requires-clause-divided
stripped_generators-requires-clause-divided c =
    let family = c.args.family.now in
    let gens : c.deref.result.now ≡ meet_generators family.n c.args.sector.0 c.args.tangent.now = c.deref.ensures.value ∙ c.in_ok-meeting.ensures ∙ ap (meet_generators family.n c.args.sector.0) c.fields.ensures in
    let unstripped : IsReducedBasis over_position VARIABLES (IsDividedSyzygy family.baikov family.n c.args.sector.0) c.in_ok-unstripped.unstripped =
    meet_list_reduced family.baikov family.n c.args.sector.0 family.limits.few_variables family.limits.polynomial.variables c.requires.sector c.args.tangent.now c.requires.tangent c.deref.result.now
    c.in_ok-meet.meet.elements c.in_ok-unstripped.unstripped gens c.in_ok-meet.ensures.basis c.in_ok-unstripped.ensures.reduced
    in
    All-same (AllKeys (IsDividedTerm family.n c.args.sector.0)) c.as_slice.result.now c.in_ok-unstripped.unstripped c.as_slice.ensures
    (divided_list family.baikov family.n c.args.sector.0 family.limits.few_variables family.limits.polynomial.variables c.requires.sector c.in_ok-unstripped.unstripped unstripped)

pub plain_run-requires-2-clause-not_zero : goal.plain_run-requires-2-clause-not_zero
plain_run-requires-2-clause-not_zero c =
    let family = c.args.family.now in
    let gens : c.deref.result.now ≡ meet_generators family.n c.args.sector.0 c.args.tangent.now = c.deref.ensures.value ∙ c.in_ok-meeting.ensures ∙ ap (meet_generators family.n c.args.sector.0) c.fields.ensures in
    let unstripped : IsReducedBasis over_position VARIABLES (IsDividedSyzygy family.baikov family.n c.args.sector.0) c.in_ok-unstripped.unstripped =
    meet_list_reduced family.baikov family.n c.args.sector.0 family.limits.few_variables family.limits.polynomial.variables c.requires.sector c.args.tangent.now c.requires.tangent c.deref.result.now
    c.in_ok-meet.meet.elements c.in_ok-unstripped.unstripped gens c.in_ok-meet.ensures.basis c.in_ok-unstripped.ensures.reduced
    in
    let second : c.deref-2.result.now ≡ stripped_generators c.args.sector.0 c.in_ok-unstripped.unstripped = c.deref-2.ensures.value ∙ c.in_ok-stripped.ensures ∙ ap (stripped_generators c.args.sector.0) c.as_slice.ensures in
    All-same (λ (g : ModuleVector). g ≢ []) c.deref-2.result.now (stripped_generators c.args.sector.0 c.in_ok-unstripped.unstripped) second
    (stripped_some family.baikov family.n c.args.sector.0 family.limits.few_variables family.limits.polynomial.variables c.requires.sector c.in_ok-unstripped.unstripped unstripped)

pub plain_run-requires-2-clause-few : goal.plain_run-requires-2-clause-few
plain_run-requires-2-clause-few c =
    let family = c.args.family.now in
    let gens : c.deref.result.now ≡ meet_generators family.n c.args.sector.0 c.args.tangent.now = c.deref.ensures.value ∙ c.in_ok-meeting.ensures ∙ ap (meet_generators family.n c.args.sector.0) c.fields.ensures in
    let second : c.deref-2.result.now ≡ stripped_generators c.args.sector.0 c.in_ok-unstripped.unstripped = c.deref-2.ensures.value ∙ c.in_ok-stripped.ensures ∙ ap (stripped_generators c.args.sector.0) c.as_slice.ensures in
    let counts = run_counts high_block c.in_ok-by.by RUN_DEGREE family.budget.pairs c.deref.result.now c.in_ok-meet.meet.elements c.in_ok-meet.meet.taken c.in_ok-meet.ensures.done in
    omega (
      arith,
      counts.0,
      counts.1,
      ap (length {A = ModuleVector}) gens,
      ap (length {A = ModuleVector}) second,
      length-meet_generators family.baikov family.n c.args.sector.0 family.limits.few_variables family.limits.polynomial.variables c.requires.sector c.args.tangent.now,
      length-stripped_generators family.baikov family.n c.args.sector.0 family.limits.few_variables family.limits.polynomial.variables c.requires.sector c.in_ok-unstripped.unstripped,
      c.in_ok-unstripped.ensures.short,
      c.requires.few,
      family.limits.few_variables,
      family.limits.budget_within.pairs,
    )

second_tells : (c : goal.After-drop-meeting-in_err-run) → Tells c.args.family.now.baikov c.args.family.now.n c.args.sector.0 c.args.family.now.limits.few_variables c.args.family.now.limits.polynomial.variables c.requires.sector c.args.family.now.budget c.args.tangent.now c.from_residual-in_err-run.result
second_tells c =
    let family = c.args.family.now in
    let gens : c.deref.result.now ≡ meet_generators family.n c.args.sector.0 c.args.tangent.now = c.deref.ensures.value ∙ c.in_ok-meeting.ensures ∙ ap (meet_generators family.n c.args.sector.0) c.fields.ensures in
    let unstripped : IsReducedBasis over_position VARIABLES (IsDividedSyzygy family.baikov family.n c.args.sector.0) c.in_ok-unstripped.unstripped =
    meet_list_reduced family.baikov family.n c.args.sector.0 family.limits.few_variables family.limits.polynomial.variables c.requires.sector c.args.tangent.now c.requires.tangent c.deref.result.now
    c.in_ok-meet.meet.elements c.in_ok-unstripped.unstripped gens c.in_ok-meet.ensures.basis c.in_ok-unstripped.ensures.reduced
    in
    let second : c.deref-2.result.now ≡ stripped_generators c.args.sector.0 c.in_ok-unstripped.unstripped = c.deref-2.ensures.value ∙ c.in_ok-stripped.ensures ∙ ap (stripped_generators c.args.sector.0) c.as_slice.ensures in
    let meet : MeetRunEnds family.baikov family.n c.args.sector.0 family.budget c.args.tangent.now (Done c.in_ok-meet.meet.elements c.in_ok-meet.meet.taken) =
    subst (λ (g : List ModuleVector). RunsTo high_block (meet_pair_order family.baikov family.n family.budget) RUN_DEGREE g family.budget.pairs (Done c.in_ok-meet.meet.elements c.in_ok-meet.meet.taken)) gens
    (subst (λ (o : PairOrder). RunsTo high_block o RUN_DEGREE c.deref.result.now family.budget.pairs (Done c.in_ok-meet.meet.elements c.in_ok-meet.meet.taken)) c.in_ok-by.ensures c.in_ok-meet.ensures.done)
    in
    let basis = unstripped_reduced family.baikov family.n c.args.sector.0 family.limits.few_variables family.limits.polynomial.variables c.requires.sector c.in_ok-unstripped.unstripped unstripped in
    second_fault family.baikov family.n c.args.sector.0 family.limits.few_variables family.limits.polynomial.variables c.requires.sector family.budget c.args.tangent.now c.in_ok-meet.meet.elements c.in_ok-meet.meet.taken meet
    c.in_ok-unstripped.unstripped basis c.in_ok-by_stripped.by_stripped c.in_ok-by_stripped.ensures c.deref-2.result.now second c.plain_run-2.result c.in_err-run.field-0.0 c.in_err-run.was c.plain_run-2.ensures.spent c.plain_run-2.ensures.over c.from_residual-in_err-run.result (search rules)

pub returns-in_err-run-clause-spent : goal.returns-in_err-run-clause-spent
returns-in_err-run-clause-spent c = (second_tells c).spent

pub returns-in_err-run-clause-over : goal.returns-in_err-run-clause-over
returns-in_err-run-clause-over c = (second_tells c).over

-- ---- the fields

pub returns-clause-basis : goal.returns-clause-basis
returns-clause-basis c =
    let family = c.args.family.now in
    let gens : c.deref.result.now ≡ meet_generators family.n c.args.sector.0 c.args.tangent.now = c.deref.ensures.value ∙ c.in_ok-meeting.ensures ∙ ap (meet_generators family.n c.args.sector.0) c.fields.ensures in
    let unstripped : IsReducedBasis over_position VARIABLES (IsDividedSyzygy family.baikov family.n c.args.sector.0) c.in_ok-unstripped.unstripped =
    meet_list_reduced family.baikov family.n c.args.sector.0 family.limits.few_variables family.limits.polynomial.variables c.requires.sector c.args.tangent.now c.requires.tangent c.deref.result.now
    c.in_ok-meet.meet.elements c.in_ok-unstripped.unstripped gens c.in_ok-meet.ensures.basis c.in_ok-unstripped.ensures.reduced
    in
    let second : c.deref-2.result.now ≡ stripped_generators c.args.sector.0 c.in_ok-unstripped.unstripped = c.deref-2.ensures.value ∙ c.in_ok-stripped.ensures ∙ ap (stripped_generators c.args.sector.0) c.as_slice.ensures in
    let reduced : IsReducedBasis over_position VARIABLES (IsSyzygy VARIABLES (sector_factors family.baikov family.n c.args.sector.0)) c.in_ok-reduced.reduced =
    stripped_list_reduced family.baikov family.n c.args.sector.0 family.limits.few_variables family.limits.polynomial.variables c.requires.sector c.in_ok-unstripped.unstripped unstripped c.deref-2.result.now c.in_ok-run.run'.elements c.in_ok-reduced.reduced second c.in_ok-run.ensures.basis c.in_ok-reduced.ensures.reduced
    in
    let zip : AllZip (IsFieldOf RUN_DEGREE family.n) c.in_ok-reduced.reduced c.in_ok-fields.fields = subst (λ (l : List ModuleVector). AllZip (IsFieldOf RUN_DEGREE family.n) l c.in_ok-fields.fields) c.as_slice-2.ensures c.in_ok-fields.ensures in
    subst (IsSectorBasis family.baikov family.n c.args.sector.0) (sym c.new.ensures.fields) (fields_basis RUN_DEGREE family.baikov family.n c.args.sector.0 family.limits.few_variables family.limits.polynomial.variables c.in_ok-reduced.reduced reduced c.in_ok-fields.fields zip)

pub returns-clause-shape : goal.returns-clause-shape
returns-clause-shape c =
    let family = c.args.family.now in
    let gens : c.deref.result.now ≡ meet_generators family.n c.args.sector.0 c.args.tangent.now = c.deref.ensures.value ∙ c.in_ok-meeting.ensures ∙ ap (meet_generators family.n c.args.sector.0) c.fields.ensures in
    let unstripped : IsReducedBasis over_position VARIABLES (IsDividedSyzygy family.baikov family.n c.args.sector.0) c.in_ok-unstripped.unstripped =
    meet_list_reduced family.baikov family.n c.args.sector.0 family.limits.few_variables family.limits.polynomial.variables c.requires.sector c.args.tangent.now c.requires.tangent c.deref.result.now
    c.in_ok-meet.meet.elements c.in_ok-unstripped.unstripped gens c.in_ok-meet.ensures.basis c.in_ok-unstripped.ensures.reduced
    in
    let second : c.deref-2.result.now ≡ stripped_generators c.args.sector.0 c.in_ok-unstripped.unstripped = c.deref-2.ensures.value ∙ c.in_ok-stripped.ensures ∙ ap (stripped_generators c.args.sector.0) c.as_slice.ensures in
    let reduced : IsReducedBasis over_position VARIABLES (IsSyzygy VARIABLES (sector_factors family.baikov family.n c.args.sector.0)) c.in_ok-reduced.reduced =
    stripped_list_reduced family.baikov family.n c.args.sector.0 family.limits.few_variables family.limits.polynomial.variables c.requires.sector c.in_ok-unstripped.unstripped unstripped c.deref-2.result.now c.in_ok-run.run'.elements c.in_ok-reduced.reduced second c.in_ok-run.ensures.basis c.in_ok-reduced.ensures.reduced
    in
    let zip : AllZip (IsFieldOf RUN_DEGREE family.n) c.in_ok-reduced.reduced c.in_ok-fields.fields = subst (λ (l : List ModuleVector). AllZip (IsFieldOf RUN_DEGREE family.n) l c.in_ok-fields.fields) c.as_slice-2.ensures c.in_ok-fields.ensures in
    All-same (λ (f : StrippedField). IsField family.n RUN_DEGREE f.c f.b) c.new.result.fields c.in_ok-fields.fields c.new.ensures.fields
    (fields_fit RUN_DEGREE family.baikov family.n c.args.sector.0 family.limits.few_variables family.limits.polynomial.variables c.in_ok-reduced.reduced reduced c.in_ok-fields.fields zip)

pub returns-clause-members : goal.returns-clause-members
returns-clause-members c =
    let family = c.args.family.now in
    let gens : c.deref.result.now ≡ meet_generators family.n c.args.sector.0 c.args.tangent.now = c.deref.ensures.value ∙ c.in_ok-meeting.ensures ∙ ap (meet_generators family.n c.args.sector.0) c.fields.ensures in
    let unstripped : IsReducedBasis over_position VARIABLES (IsDividedSyzygy family.baikov family.n c.args.sector.0) c.in_ok-unstripped.unstripped =
    meet_list_reduced family.baikov family.n c.args.sector.0 family.limits.few_variables family.limits.polynomial.variables c.requires.sector c.args.tangent.now c.requires.tangent c.deref.result.now
    c.in_ok-meet.meet.elements c.in_ok-unstripped.unstripped gens c.in_ok-meet.ensures.basis c.in_ok-unstripped.ensures.reduced
    in
    let second : c.deref-2.result.now ≡ stripped_generators c.args.sector.0 c.in_ok-unstripped.unstripped = c.deref-2.ensures.value ∙ c.in_ok-stripped.ensures ∙ ap (stripped_generators c.args.sector.0) c.as_slice.ensures in
    let reduced : IsReducedBasis over_position VARIABLES (IsSyzygy VARIABLES (sector_factors family.baikov family.n c.args.sector.0)) c.in_ok-reduced.reduced =
    stripped_list_reduced family.baikov family.n c.args.sector.0 family.limits.few_variables family.limits.polynomial.variables c.requires.sector c.in_ok-unstripped.unstripped unstripped c.deref-2.result.now c.in_ok-run.run'.elements c.in_ok-reduced.reduced second c.in_ok-run.ensures.basis c.in_ok-reduced.ensures.reduced
    in
    let zip : AllZip (IsFieldOf RUN_DEGREE family.n) c.in_ok-reduced.reduced c.in_ok-fields.fields = subst (λ (l : List ModuleVector). AllZip (IsFieldOf RUN_DEGREE family.n) l c.in_ok-fields.fields) c.as_slice-2.ensures c.in_ok-fields.ensures in
    All-same (IsInSectorModule family.baikov c.args.sector.0) c.new.result.fields c.in_ok-fields.fields c.new.ensures.fields
    (fields_members RUN_DEGREE family.baikov family.n c.args.sector.0 family.limits.few_variables family.limits.polynomial.variables c.in_ok-reduced.reduced reduced c.in_ok-fields.fields zip)

pub returns-clause-done : goal.returns-clause-done
returns-clause-done c =
    let family = c.args.family.now in
    let gens : c.deref.result.now ≡ meet_generators family.n c.args.sector.0 c.args.tangent.now = c.deref.ensures.value ∙ c.in_ok-meeting.ensures ∙ ap (meet_generators family.n c.args.sector.0) c.fields.ensures in
    let unstripped : IsReducedBasis over_position VARIABLES (IsDividedSyzygy family.baikov family.n c.args.sector.0) c.in_ok-unstripped.unstripped =
    meet_list_reduced family.baikov family.n c.args.sector.0 family.limits.few_variables family.limits.polynomial.variables c.requires.sector c.args.tangent.now c.requires.tangent c.deref.result.now
    c.in_ok-meet.meet.elements c.in_ok-unstripped.unstripped gens c.in_ok-meet.ensures.basis c.in_ok-unstripped.ensures.reduced
    in
    let second : c.deref-2.result.now ≡ stripped_generators c.args.sector.0 c.in_ok-unstripped.unstripped = c.deref-2.ensures.value ∙ c.in_ok-stripped.ensures ∙ ap (stripped_generators c.args.sector.0) c.as_slice.ensures in
    let meet : MeetRunEnds family.baikov family.n c.args.sector.0 family.budget c.args.tangent.now (Done c.in_ok-meet.meet.elements c.in_ok-meet.meet.taken) =
    subst (λ (g : List ModuleVector). RunsTo high_block (meet_pair_order family.baikov family.n family.budget) RUN_DEGREE g family.budget.pairs (Done c.in_ok-meet.meet.elements c.in_ok-meet.meet.taken)) gens
    (subst (λ (o : PairOrder). RunsTo high_block o RUN_DEGREE c.deref.result.now family.budget.pairs (Done c.in_ok-meet.meet.elements c.in_ok-meet.meet.taken)) c.in_ok-by.ensures c.in_ok-meet.ensures.done)
    in
    let basis = unstripped_reduced family.baikov family.n c.args.sector.0 family.limits.few_variables family.limits.polynomial.variables c.requires.sector c.in_ok-unstripped.unstripped unstripped in (
      c.in_ok-run.run'.elements,
      c.in_ok-run.run'.taken,
      both_done family.baikov family.n c.args.sector.0 family.limits.few_variables family.limits.polynomial.variables c.requires.sector family.budget c.args.tangent.now c.in_ok-meet.meet.elements c.in_ok-meet.meet.taken meet
          c.in_ok-unstripped.unstripped basis c.in_ok-by_stripped.by_stripped c.in_ok-by_stripped.ensures c.deref-2.result.now second c.in_ok-run.run'.elements c.in_ok-run.run'.taken c.in_ok-run.ensures.done,
    )

pub returns-clause-spent : goal.returns-clause-spent
returns-clause-spent c =
    let family = c.args.family.now in
    let gens : c.deref.result.now ≡ meet_generators family.n c.args.sector.0 c.args.tangent.now = c.deref.ensures.value ∙ c.in_ok-meeting.ensures ∙ ap (meet_generators family.n c.args.sector.0) c.fields.ensures in
    let unstripped : IsReducedBasis over_position VARIABLES (IsDividedSyzygy family.baikov family.n c.args.sector.0) c.in_ok-unstripped.unstripped =
    meet_list_reduced family.baikov family.n c.args.sector.0 family.limits.few_variables family.limits.polynomial.variables c.requires.sector c.args.tangent.now c.requires.tangent c.deref.result.now
    c.in_ok-meet.meet.elements c.in_ok-unstripped.unstripped gens c.in_ok-meet.ensures.basis c.in_ok-unstripped.ensures.reduced
    in
    let second : c.deref-2.result.now ≡ stripped_generators c.args.sector.0 c.in_ok-unstripped.unstripped = c.deref-2.ensures.value ∙ c.in_ok-stripped.ensures ∙ ap (stripped_generators c.args.sector.0) c.as_slice.ensures in
    let meet : MeetRunEnds family.baikov family.n c.args.sector.0 family.budget c.args.tangent.now (Done c.in_ok-meet.meet.elements c.in_ok-meet.meet.taken) =
    subst (λ (g : List ModuleVector). RunsTo high_block (meet_pair_order family.baikov family.n family.budget) RUN_DEGREE g family.budget.pairs (Done c.in_ok-meet.meet.elements c.in_ok-meet.meet.taken)) gens
    (subst (λ (o : PairOrder). RunsTo high_block o RUN_DEGREE c.deref.result.now family.budget.pairs (Done c.in_ok-meet.meet.elements c.in_ok-meet.meet.taken)) c.in_ok-by.ensures c.in_ok-meet.ensures.done)
    in
    let basis = unstripped_reduced family.baikov family.n c.args.sector.0 family.limits.few_variables family.limits.polynomial.variables c.requires.sector c.in_ok-unstripped.unstripped unstripped in
    (done_tells family.baikov family.n c.args.sector.0 family.limits.few_variables family.limits.polynomial.variables c.requires.sector family.budget c.args.tangent.now c.new.result c.in_ok-run.run'.elements c.in_ok-run.run'.taken
    (both_done family.baikov family.n c.args.sector.0 family.limits.few_variables family.limits.polynomial.variables c.requires.sector family.budget c.args.tangent.now c.in_ok-meet.meet.elements c.in_ok-meet.meet.taken meet c.in_ok-unstripped.unstripped basis c.in_ok-by_stripped.by_stripped c.in_ok-by_stripped.ensures c.deref-2.result.now second
    c.in_ok-run.run'.elements c.in_ok-run.run'.taken c.in_ok-run.ensures.done)).spent

pub returns-clause-over : goal.returns-clause-over
returns-clause-over c =
    let family = c.args.family.now in
    let gens : c.deref.result.now ≡ meet_generators family.n c.args.sector.0 c.args.tangent.now = c.deref.ensures.value ∙ c.in_ok-meeting.ensures ∙ ap (meet_generators family.n c.args.sector.0) c.fields.ensures in
    let unstripped : IsReducedBasis over_position VARIABLES (IsDividedSyzygy family.baikov family.n c.args.sector.0) c.in_ok-unstripped.unstripped =
    meet_list_reduced family.baikov family.n c.args.sector.0 family.limits.few_variables family.limits.polynomial.variables c.requires.sector c.args.tangent.now c.requires.tangent c.deref.result.now
    c.in_ok-meet.meet.elements c.in_ok-unstripped.unstripped gens c.in_ok-meet.ensures.basis c.in_ok-unstripped.ensures.reduced
    in
    let second : c.deref-2.result.now ≡ stripped_generators c.args.sector.0 c.in_ok-unstripped.unstripped = c.deref-2.ensures.value ∙ c.in_ok-stripped.ensures ∙ ap (stripped_generators c.args.sector.0) c.as_slice.ensures in
    let meet : MeetRunEnds family.baikov family.n c.args.sector.0 family.budget c.args.tangent.now (Done c.in_ok-meet.meet.elements c.in_ok-meet.meet.taken) =
    subst (λ (g : List ModuleVector). RunsTo high_block (meet_pair_order family.baikov family.n family.budget) RUN_DEGREE g family.budget.pairs (Done c.in_ok-meet.meet.elements c.in_ok-meet.meet.taken)) gens
    (subst (λ (o : PairOrder). RunsTo high_block o RUN_DEGREE c.deref.result.now family.budget.pairs (Done c.in_ok-meet.meet.elements c.in_ok-meet.meet.taken)) c.in_ok-by.ensures c.in_ok-meet.ensures.done)
    in
    let basis = unstripped_reduced family.baikov family.n c.args.sector.0 family.limits.few_variables family.limits.polynomial.variables c.requires.sector c.in_ok-unstripped.unstripped unstripped in
    (done_tells family.baikov family.n c.args.sector.0 family.limits.few_variables family.limits.polynomial.variables c.requires.sector family.budget c.args.tangent.now c.new.result c.in_ok-run.run'.elements c.in_ok-run.run'.taken
    (both_done family.baikov family.n c.args.sector.0 family.limits.few_variables family.limits.polynomial.variables c.requires.sector family.budget c.args.tangent.now c.in_ok-meet.meet.elements c.in_ok-meet.meet.taken meet c.in_ok-unstripped.unstripped basis c.in_ok-by_stripped.by_stripped c.in_ok-by_stripped.ensures c.deref-2.result.now second
    c.in_ok-run.run'.elements c.in_ok-run.run'.taken c.in_ok-run.ensures.done)).over
