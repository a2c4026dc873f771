use Rattle.std.proofs.Common.{◌≡◌, ◌*◌, ◌^◌, ◌≤◌, length, ◌∙◌, sym, ap, subst, arith}
use Rattle.mono_order.specs.declared.limits.TheConstants.{VARIABLES}
use Rattle.family.specs.declared.limits.TheConstants.{CANDIDATE_LIMIT}
use Rattle.family.specs.FamilyData.{FamilyData}
use Rattle.family.specs.FamilyView.{family_view}
use Rattle.sector_job.specs.Results.{opening_of}
use Rattle.neat_system.specs.Gathering.{Writes}
use Rattle.neat_system.specs.System.{all_candidates}
use Rattle.neat_system.proofs.ClosedRelay.{closed_with, fault_answers, system_is}
use Rattle.neat_system.proofs.GatheredWorks.{as_many_labels, few_gathered}
use Rattle.neat_system.proofs.Lengths.{few_candidates, few_pieces}
use Rattle.neat_system.proofs.closing.answer.Goals as goal

pub returns-in-Some : goal.returns-in-Some
returns-in-Some g c =
    let state = c.args.state.now in
    let closed = closed_with state c.pieces.result.now (c.is_closed.ensures.whole (c.is_closed.ensures.all_done.1 c.requires.closed)) c.requires.closed c.pieces.ensures.done c.pieces.ensures.ordered c.pieces.ensures.reached c.pieces.ensures.plans c.pieces.ensures.books in
    fault_answers (family_view state.plan) state.progress.books c.pieces.result.now closed state.plan.limits c.in-Some.fault c.in-Some.ensures

pub system_of-requires-clause-few : goal.system_of-requires-clause-few
system_of-requires-clause-few g c =
    let family = c.family-family.result.now in
    let gathers = c.in_ok-gathered.ensures in
    let powers : c.args.state.now.n ≡ family.n = c.plan.ensures.powers ∙ ap (λ p. (opening_of p).n) (sym c.family-family.ensures) in
    let pieces : length c.pieces-2.result.now ≤ 2 ^ VARIABLES = few_pieces (family_view family) family.limits (length c.pieces-2.result.now) (subst (λ n. length c.pieces-2.result.now ≤ 2 ^ n) powers c.pieces-2.ensures.few) in
    let few : length (all_candidates gathers.works) ≤ CANDIDATE_LIMIT * length c.pieces-2.result.now = few_candidates c.pieces-2.result.now gathers.works gathers.are_works in
    let fewer = few_gathered c.pieces-2.result.now c.in_ok-gathered.gathered gathers in
    omega (arith, pieces, few, fewer)

pub system_of-requires-clause-labels : goal.system_of-requires-clause-labels
system_of-requires-clause-labels g c = as_many_labels c.pieces-2.result.now c.in_ok-gathered.gathered c.in_ok-gathered.ensures

pub returns : goal.returns
returns g c =
    let state = c.args.state.now in
    let gathered = c.in_ok-gathered.gathered in
    let closed = closed_with state c.pieces-2.result.now (c.is_closed.ensures.whole (c.is_closed.ensures.all_done.1 c.requires.closed)) c.requires.closed c.pieces-2.ensures.done c.pieces-2.ensures.ordered c.pieces-2.ensures.reached c.pieces-2.ensures.plans c.pieces-2.ensures.books in
    let same : family_view c.family-family.result.now ≡ family_view state.plan = ap family_view (c.family-family.ensures ∙ c.plan.ensures.value) in
    let writes : Writes (family_view state.plan) gathered c.in_ok-system.system = subst (λ (f : FamilyData). Writes f gathered c.in_ok-system.system) same c.in_ok-system.ensures in
    system_is (family_view state.plan) state.progress.books c.pieces-2.result.now closed gathered c.in_ok-system.system c.in_ok-gathered.ensures writes
