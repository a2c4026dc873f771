use Rattle.std.proofs.lemmas.List.{length-map}
use Rattle.std.proofs.Common.{◌≡◌, ◌∙◌, ◌≤◌, ◌^◌, length, true, sym, ap, subst}
use Rattle.std.specs.Prelude.{All, map}
use Rattle.relay_core.specs.Family.{book, IsReached}
use Rattle.relay_core.proofs.Kept.{kept_as, ordered_of, few_of, pieces_reached_of, plans_of, books_of}
use Rattle.relay_core.proofs.state.RelayState.pieces.Goals as goal

pub returns-clause-done : goal.returns-clause-done
returns-clause-done g c = sym (ap (λ r. r.progress.done) c.self.view_is) ∙ ap (map g.W.Piece.sector) (sym c.as_slice.ensures.value)

pub returns-clause-ordered : goal.returns-clause-ordered
returns-clause-ordered g c =
    let laws = g.met.W.Piece g.world.𝓛 g.world.𝓜 g.world.𝓡 ((λ s x. x), (λ x. x), (λ x. x), λ x. x) in
    ordered_of c.args.self.now laws.opened laws.lawful (kept_as c.args.self.now c.self.view_is c.self.invariant.0)

pub returns-clause-plans : goal.returns-clause-plans
returns-clause-plans g c =
    subst (λ ps. All (λ piece. g.W.Plan.PartialEq.eq (g.W.Piece.plan piece) c.args.self.now.plan ≡ true) ps) (sym (ap (λ r. r.pieces) c.self.view_is) ∙ sym c.as_slice.ensures.value)
    (plans_of c.args.self.now (kept_as c.args.self.now c.self.view_is c.self.invariant.0))

pub returns-clause-books : goal.returns-clause-books
returns-clause-books g c =
    subst (λ ps. All (λ piece. g.W.Piece.targets piece ≡ book (g.W.Piece.sector piece) c.args.self.now.progress.books) ps) (sym (ap (λ r. r.pieces) c.self.view_is) ∙ sym c.as_slice.ensures.value)
    (books_of c.args.self.now (kept_as c.args.self.now c.self.view_is c.self.invariant.0))

pub returns-clause-few : goal.returns-clause-few
returns-clause-few g c =
    let laws = g.met.W.Piece g.world.𝓛 g.world.𝓜 g.world.𝓡 ((λ s x. x), (λ x. x), (λ x. x), λ x. x) in
    subst (λ k. k ≤ 2 ^ c.args.self.now.n) (ap length (returns-clause-done g c) ∙ length-map c.as_slice.result.now g.W.Piece.sector)
    (few_of c.args.self.now laws.opened laws.lawful (kept_as c.args.self.now c.self.view_is c.self.invariant.0))

pub returns-clause-reached : goal.returns-clause-reached
returns-clause-reached g c =
    let laws = g.met.W.Piece g.world.𝓛 g.world.𝓜 g.world.𝓡 ((λ s x. x), (λ x. x), (λ x. x), λ x. x) in
    subst (λ ps. All (λ piece. IsReached (g.W.Piece.sector piece) c.args.self.now.progress.books) ps) (sym (ap (λ r. r.pieces) c.self.view_is) ∙ sym c.as_slice.ensures.value)
    (pieces_reached_of c.args.self.now laws.opened laws.lawful (kept_as c.args.self.now c.self.view_is c.self.invariant.0) (sym (ap (λ r. r.progress.done) c.self.view_is) ∙ ap (λ r. map g.W.Piece.sector r.pieces) c.self.view_is))
