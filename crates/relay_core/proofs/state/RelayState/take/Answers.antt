use Rattle.std.proofs.Common.{◌≡◌, ◌≢◌, ◌∙◌, inl, [], ◌∷◌, ◌++◌, ◌≤◌, ◌+◌, length, length-append, sym, refl, ap, subst, arith}
use Rattle.std.specs.Prelude.{map, None, vec_capacity}
use Rattle.std.proofs.lemmas.Bool.Decides.{nat_tests}
use Rattle.std.proofs.lemmas.List.{nil_from_length}
use Rattle.sector_lattice.specs.Sectors.{Ascends}
use Rattle.relay_core.specs.Jobs.{AreAlike}
use Rattle.relay_core.proofs.Kept.{kept_as, kept_after, ascends_of, alike_of, powers_of, in_given, done_of, waits_of, final_of, old_fits, same_progress}
use Rattle.relay_core.specs.Family.{book}
use Rattle.relay_core.proofs.Calls.{on_err, can_at}
use Rattle.relay_core.specs.Relay.{Progress, CanBeTaken, IsNext, holder_of}
use Rattle.relay_core.specs.State.{seen, IsKept}
use Rattle.relay_core.proofs.Held.{taken_is_held}
use Rattle.relay_core.specs.declared.event.Event.TheVariants.{Take}
use Rattle.relay_core.proofs.state.RelayState.take.Given.{Over}
use Rattle.relay_core.proofs.state.RelayState.take.Goals as goal

pub returns-then-is_empty-clause-taken : goal.returns-then-is_empty-clause-taken
returns-then-is_empty-clause-taken g c =
    let laws = g.met.W.Piece g.world.𝓛 g.world.𝓜 g.world.𝓡 ((λ s x. x), (λ x. x), (λ x. x), λ x. x) in
    let is = same_progress _ _ _ _ _ _ c.as_slice.ensures.value c.as_slice-2.ensures.value (ap (map g.W.Piece.sector) c.as_slice-3.ensures.value) ∙ ap (λ r. r.progress) c.self.view_is in
    let long : length c.self.inside.held.items ≡ 0 = grind (arith, nat_tests, c.self.inside.held.ok.0) in
    let free : c.args.self.now.progress.held ≡ [] = sym (ap (λ r. r.progress.held) c.self.view_is) ∙ nil_from_length c.self.inside.held.items long in
    (done_of c.args.self.now laws.opened laws.lawful (kept_as c.args.self.now c.self.view_is c.self.invariant.0) (λ s can. c.in_default.ensures s (subst (λ (p : Progress). CanBeTaken s p) (sym is) can)) free, refl)

pub returns-in_default-clause-taken : goal.returns-in_default-clause-taken
returns-in_default-clause-taken g c =
    let laws = g.met.W.Piece g.world.𝓛 g.world.𝓜 g.world.𝓡 ((λ s x. x), (λ x. x), (λ x. x), λ x. x) in
    let is = same_progress _ _ _ _ _ _ c.as_slice.ensures.value c.as_slice-2.ensures.value (ap (map g.W.Piece.sector) c.as_slice-3.ensures.value) ∙ ap (λ r. r.progress) c.self.view_is in
    let some : c.self.inside.held.items ≢ [] = λ none. (let long : length c.self.inside.held.items ≡ 0 = ap length none in grind (arith, nat_tests, c.self.inside.held.ok.0)) in (
      λ s can. c.in_default.ensures s (subst (λ (p : Progress). CanBeTaken s p) (sym is) can),
      λ none. some (ap (λ r. r.progress.held) c.self.view_is ∙ none),
      waits_of _ _ c.self.view_is laws.opened laws.lawful c.self.invariant.0 some,
      refl,
    )

pub returns-in_err-job-clause-short : goal.returns-in_err-job-clause-short
returns-in_err-job-clause-short g c =
    let is = same_progress _ _ _ _ _ _ c.as_slice.ensures.value c.as_slice-2.ensures.value (ap (map g.W.Piece.sector) c.as_slice-3.ensures.value) ∙ ap (λ r. r.progress) c.self.view_is in
    on_err c.from_residual.result _ (can_at _ _ _ is c.in-Some.ensures)

pub returns-in_err-reserve-clause-short : goal.returns-in_err-reserve-clause-short
returns-in_err-reserve-clause-short g c =
    let is = same_progress _ _ _ _ _ _ c.as_slice.ensures.value c.as_slice-2.ensures.value (ap (map g.W.Piece.sector) c.as_slice-3.ensures.value) ∙ ap (λ r. r.progress) c.self.view_is in
    on_err c.from_residual-in_err-reserve.result _ (can_at _ _ _ is c.in-Some.ensures)

pub returns-in_err-push-clause-short : goal.returns-in_err-push-clause-short
returns-in_err-push-clause-short g c =
    let is = same_progress _ _ _ _ _ _ c.as_slice.ensures.value c.as_slice-2.ensures.value (ap (map g.W.Piece.sector) c.as_slice-3.ensures.value) ∙ ap (λ r. r.progress) c.self.view_is in
    on_err c.from_residual-in_err-push.result _ (can_at _ _ _ is c.in-Some.ensures)

pub job_for-requires-clause-ascend : goal.job_for-requires-clause-ascend
job_for-requires-clause-ascend g c =
    let laws = g.met.W.Piece g.world.𝓛 g.world.𝓜 g.world.𝓡 ((λ s x. x), (λ x. x), (λ x. x), λ x. x) in
    subst (λ xs. Ascends xs) (sym c.as_slice-4.ensures.value) (ascends_of _ laws.opened laws.lawful c.self.invariant.0)

pub job_for-requires-clause-alike : goal.job_for-requires-clause-alike
job_for-requires-clause-alike g c =
    let laws = g.met.W.Piece g.world.𝓛 g.world.𝓜 g.world.𝓡 ((λ s x. x), (λ x. x), (λ x. x), λ x. x) in
    subst (λ xs. AreAlike xs) (sym c.as_slice-4.ensures.value) (alike_of _ laws.opened laws.lawful c.self.invariant.0)

-- the relay after the take keeps its facts, and the journal has room
entered : (g : Over) (c : goal.After-enter g) → IsKept g.W.Piece.opening g.W.Piece.are_tails g.W.Plan.PartialEq.eq g.W.Piece.plan g.W.Piece.sector g.W.Piece.targets
    (seen g.W.Piece.sector c.self.inside.plan c.self.inside.n c.self.inside.books.items c.push.new.self.items c.self.inside.pieces.items c.enter.new.journal.items)
    × (length c.enter.new.journal.items + length c.push.new.self.items ≤ vec_capacity c.enter.new.journal)
entered g c =
    let laws = g.met.W.Piece g.world.𝓛 g.world.𝓜 g.world.𝓡 ((λ s x. x), (λ x. x), (λ x. x), λ x. x) in
    let old = seen g.W.Piece.sector c.self.inside.plan c.self.inside.n c.self.inside.books.items c.self.inside.held.items c.self.inside.pieces.items c.self.inside.journal.items in
    let new = seen g.W.Piece.sector c.self.inside.plan c.self.inside.n c.self.inside.books.items c.push.new.self.items c.self.inside.pieces.items c.enter.new.journal.items in
    let is = same_progress _ _ _ _ _ _ c.as_slice.ensures.value c.as_slice-2.ensures.value (ap (map g.W.Piece.sector) c.as_slice-3.ensures.value) in
    let next : IsNext c.in-Some.sector.0 old.progress = subst (λ (p : Progress). IsNext c.in-Some.sector.0 p) is c.in-Some.ensures in
    let written : c.enter.new.journal.items ≡ c.self.inside.journal.items ++ Take c.args.worker c.in-Some.sector ∷ [] = c.enter.ensures.items ∙ ap (λ xs. xs ++ Take c.args.worker c.in-Some.sector ∷ []) c.in_ok-reserve.ensures.items in (
      kept_after old new (Take c.args.worker c.in-Some.sector) laws.opened laws.lawful c.self.invariant.0
          (record { plan = refl; n = refl; leads = (next, same_progress _ _ _ _ _ _ refl c.in_ok-push.ensures.items refl); journal = written })
          (old_fits old c.self.invariant.0 refl),
      omega (arith, ap length written, length-append c.self.inside.journal.items, ap length c.in_ok-push.ensures.items, length-append c.self.inside.held.items, c.in_ok-reserve.ensures.ok, c.in_ok-reserve.ensures.len, c.enter.ensures.capacity, c.self.inside.journal.ok.0, c.self.inside.held.ok.0, c.len.ensures),
    )

pub invariant_of-self-2 : goal.invariant_of-self-2
invariant_of-self-2 g c = entered g c

pub returns-clause-powers : goal.returns-clause-powers
returns-clause-powers g c =
    let laws = g.met.W.Piece g.world.𝓛 g.world.𝓜 g.world.𝓡 ((λ s x. x), (λ x. x), (λ x. x), λ x. x) in
    let old = seen g.W.Piece.sector c.self.inside.plan c.self.inside.n c.self.inside.books.items c.self.inside.held.items c.self.inside.pieces.items c.self.inside.journal.items in
    λ t inside. powers_of old laws.opened laws.lawful c.self.invariant.0 t (in_given c.in_ok-job.job.sector.0 c.self.inside.books.items c.in_ok-job.job.targets (c.in_ok-job.ensures.2 ∙ ap (λ s. book s.0 c.as_slice-4.result.now) (sym c.in_ok-job.ensures.1) ∙ ap (book c.in_ok-job.job.sector.0) c.as_slice-4.ensures.value) t inside)

pub returns-clause-settled : goal.returns-clause-settled
returns-clause-settled g c =
    let laws = g.met.W.Piece g.world.𝓛 g.world.𝓜 g.world.𝓡 ((λ s x. x), (λ x. x), (λ x. x), λ x. x) in
    let new = seen g.W.Piece.sector c.self.inside.plan c.self.inside.n c.self.inside.books.items c.push.new.self.items c.self.inside.pieces.items c.enter.new.journal.items in
    let held : holder_of c.in_ok-job.job.sector.0 c.push.new.self.items ≢ None =
    subst (λ xs. holder_of c.in_ok-job.job.sector.0 xs ≢ None) (sym c.in_ok-push.ensures.items)
    (taken_is_held c.in_ok-job.job.sector.0 c.self.inside.held.items (record { sector = c.in-Some.sector; worker = c.args.worker }) (ap (λ s. s.0) (sym c.in_ok-job.ensures.1))) in
    final_of new laws.opened laws.lawful (entered g c).0 c.in_ok-job.job.sector.0 (inl held)
