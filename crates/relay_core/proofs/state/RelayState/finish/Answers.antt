use Rattle.std.proofs.Common.{◌≡◌, ◌∙◌, ◌∷◌, ◌+◌, ◌≤◌, [], inl, inr, sym, refl, ap, subst, length, length-append, arith, rules}
use Rattle.std.specs.Prelude.{Some, map, Contains}
use Rattle.sector_lattice.specs.declared.sector.Sector.{Sector}
use Rattle.sector_lattice.specs.Sectors.{Ascends, integral_cmp, sector_cmp}
use Rattle.relay_core.specs.declared.event.Event.TheVariants.{Finish}
use Rattle.relay_core.specs.Family.{Adds, book}
use Rattle.relay_core.specs.Relay.{holder_of, IsHeldBy}
use Rattle.relay_core.specs.State.{seen, Moves, IsStranger, Gains}
use Rattle.relay_core.proofs.Calls.{is_stranger_if, stranger_at, no_stranger, adds_at, IsPlace, held_is_held}
use Rattle.relay_core.proofs.Adding.{from_insert}
use Rattle.relay_core.proofs.Kept.{kept_after, old_fits, unclosed_of, ascends_of, sound_of, Fits, without_shorter}
use Rattle.relay_core.proofs.state.RelayState.finish.Given.{Over}
use Rattle.relay_core.proofs.state.RelayState.finish.Goals as goal

pub book_of-book-requires : goal.book_of-book-requires
book_of-book-requires g c =
    let laws = g.met.W.Piece g.world.𝓛 g.world.𝓜 g.world.𝓡 ((λ s x. x), (λ x. x), (λ x. x), λ x. x) in
    subst (λ xs. Ascends xs) (sym c.as_slice-2.ensures.value) (ascends_of _ laws.opened laws.lawful c.self.invariant.0)

pub with_all-requires : goal.with_all-requires
with_all-requires g c =
    let laws = g.met.W.Piece g.world.𝓛 g.world.𝓜 g.world.𝓡 ((λ s x. x), (λ x. x), (λ x. x), λ x. x) in
    subst (λ xs. Ascends xs) (sym c.as_slice-3.ensures.value) (ascends_of _ laws.opened laws.lawful c.self.invariant.0)

pub returns-then-not-fits-clause-answers : goal.returns-then-not-fits-clause-answers
returns-then-not-fits-clause-answers g c =
    let held : holder_of (g.W.Piece.sector c.args.piece) c.self.inside.held.items ≡ Some c.args.worker = search rules in
    let is_book : c.book_of-book.result.now ≡ book (g.W.Piece.sector c.args.piece) c.self.inside.books.items =
    c.book_of-book.ensures ∙ ap (λ s. book s c.as_slice-2.result.now) c.sector-sector.ensures ∙ ap (book (g.W.Piece.sector c.args.piece)) c.as_slice-2.ensures.value in
    let stranger = is_stranger_if c.fits.result (g.W.Plan.PartialEq.eq (g.W.Piece.plan c.args.piece) c.self.inside.plan) c.if-not-fits.true c.fits.ensures in
    let old = seen g.W.Piece.sector c.self.inside.plan c.self.inside.n c.self.inside.books.items c.self.inside.held.items c.self.inside.pieces.items c.self.inside.journal.items in
    subst (λ r. (c.args.piece ≡ c.args.piece) × IsHeldBy c.args.worker (g.W.Piece.sector c.args.piece) r.progress × IsStranger g.W.Plan.PartialEq.eq g.W.Piece.plan g.W.Piece.sector g.W.Piece.targets c.args.piece r) c.self.view_is
    (refl, held, stranger_at g.W.Plan.PartialEq.eq g.W.Piece.plan g.W.Piece.sector g.W.Piece.targets old c.args.piece c.book_of-book.result.now is_book stranger)

moved : (g : Over) (c : goal.After-enter g) → Moves g.W.Piece.are_tails
    (seen g.W.Piece.sector c.self.inside.plan c.self.inside.n c.self.inside.books.items c.self.inside.held.items c.self.inside.pieces.items c.self.inside.journal.items)
    (Finish c.args.worker c.sector-sector.result)
    (seen g.W.Piece.sector c.self.inside.plan c.self.inside.n c.in-Ok.books.items c.let_go.new.held.items c.insert.new.self.items c.enter.new.journal.items)
    × Adds integral_cmp c.self.inside.books.items (g.W.Piece.tails c.args.piece) c.in-Ok.books.items
    × Fits g.W.Plan.PartialEq.eq g.W.Piece.plan g.W.Piece.sector g.W.Piece.targets (seen g.W.Piece.sector c.self.inside.plan c.self.inside.n c.self.inside.books.items c.self.inside.held.items c.self.inside.pieces.items c.self.inside.journal.items) c.args.piece
    × (length c.let_go.new.held.items + 1 ≤ length c.self.inside.held.items)
moved g c =
    let laws = g.met.W.Piece g.world.𝓛 g.world.𝓜 g.world.𝓡 ((λ s x. x), (λ x. x), (λ x. x), λ x. x) in
    let old = seen g.W.Piece.sector c.self.inside.plan c.self.inside.n c.self.inside.books.items c.self.inside.held.items c.self.inside.pieces.items c.self.inside.journal.items in
    let held : holder_of c.sector-sector.result.0 c.self.inside.held.items ≡ Some c.args.worker = search rules in
    let is_book : c.book_of-book.result.now ≡ book c.sector-sector.result.0 c.self.inside.books.items = c.book_of-book.ensures ∙ ap (book c.sector-sector.result.0) c.as_slice-2.ensures.value in
    let fit = c.fits.ensures.0 c.if-not-fits.false in
    let named : g.W.Piece.are_tails (g.W.Piece.plan c.args.piece) c.sector-sector.result.0 (book c.sector-sector.result.0 c.self.inside.books.items) (g.W.Piece.tails c.args.piece) =
    subst (λ s. g.W.Piece.are_tails (g.W.Piece.plan c.args.piece) s (book c.sector-sector.result.0 c.self.inside.books.items) (g.W.Piece.tails c.args.piece)) (sym c.sector-sector.ensures)
    (subst (λ ts. g.W.Piece.are_tails (g.W.Piece.plan c.args.piece) (g.W.Piece.sector c.args.piece) ts (g.W.Piece.tails c.args.piece)) (fit.1 ∙ is_book) c.tails.ensures.named) in
    let posted : Adds integral_cmp c.self.inside.books.items (g.W.Piece.tails c.args.piece) c.in-Ok.books.items =
    subst (λ xs. Adds integral_cmp xs (g.W.Piece.tails c.args.piece) c.in-Ok.books.items) c.as_slice-3.ensures.value
    (subst (λ xs. Adds integral_cmp c.as_slice-3.result.now xs c.in-Ok.books.items) c.tails.ensures.value c.in-Ok.ensures) in
    let sound = sound_of old laws.opened laws.lawful c.self.invariant.0 in
    let work = sound.held c.sector-sector.result.0 c.args.worker held in
    let place = subst (λ ps. IsPlace g.W.Piece.sector ps c.place_in-place.result c.sector-sector.result.0) c.as_slice-4.ensures.value (c.place_in-place.ensures.within, c.place_in-place.ensures.below, c.place_in-place.ensures.here) in
    let added : Adds sector_cmp old.progress.done (c.sector-sector.result.0 ∷ []) (map g.W.Piece.sector c.insert.new.self.items) =
    adds_at g.W.Piece.sector c.self.inside.pieces.items c.place_in-place.result c.args.piece c.sector-sector.result.0 c.insert.new.self.items (sym c.sector-sector.ensures) c.in_default-insert.ensures.items sound.ordered place work.undone in (
      record {
        plan = refl;
        n = refl;
        leads = record {
          held = held;
          all = g.W.Piece.tails c.args.piece;
          named = laws.same_tails (g.W.Piece.plan c.args.piece) c.self.inside.plan c.sector-sector.result.0 (book c.sector-sector.result.0 c.self.inside.books.items) (g.W.Piece.tails c.args.piece) fit.0 named;
          posted = posted;
          freed = c.let_go.ensures;
          done = added;
        };
        journal = c.enter.ensures.items;
      },
      posted,
      record {
        taken = inl (held_is_held (g.W.Piece.sector c.args.piece) c.args.worker c.self.inside.held.items (subst (λ s. holder_of s c.self.inside.held.items ≡ Some c.args.worker) c.sector-sector.ensures held));
        own = fit.0;
        all = fit.1 ∙ is_book ∙ ap (λ s. book s c.self.inside.books.items) c.sector-sector.ensures;
      },
      subst (λ xs. length xs + 1 ≤ length c.self.inside.held.items) (sym c.let_go.ensures) (without_shorter c.sector-sector.result.0 c.args.worker c.self.inside.held.items held),
    )

pub invariant_of-self-2 : goal.invariant_of-self-2
invariant_of-self-2 g c =
    let laws = g.met.W.Piece g.world.𝓛 g.world.𝓜 g.world.𝓡 ((λ s x. x), (λ x. x), (λ x. x), λ x. x) in
    let old = seen g.W.Piece.sector c.self.inside.plan c.self.inside.n c.self.inside.books.items c.self.inside.held.items c.self.inside.pieces.items c.self.inside.journal.items in
    let new = seen g.W.Piece.sector c.self.inside.plan c.self.inside.n c.in-Ok.books.items c.let_go.new.held.items c.insert.new.self.items c.enter.new.journal.items in
    let all = moved g c in (
      kept_after old new (Finish c.args.worker c.sector-sector.result) laws.opened laws.lawful c.self.invariant.0 all.0
          (λ piece inside. elim (from_insert c.self.inside.pieces.items c.place_in-place.result c.args.piece piece (subst (λ ps. Contains ps piece) c.in_default-insert.ensures.items inside)) [
            | inl before ↦ old_fits old c.self.invariant.0 refl piece before
            | inr same ↦ subst (λ w. Fits g.W.Plan.PartialEq.eq g.W.Piece.plan g.W.Piece.sector g.W.Piece.targets old w) same all.2
          ]),
      omega (arith, ap length all.0.journal, length-append c.self.inside.journal.items, all.3, c.enter.ensures.capacity, c.self.invariant.1),
    )

pub returns-clause-answers : goal.returns-clause-answers
returns-clause-answers g c =
    let new = seen g.W.Piece.sector c.self.inside.plan c.self.inside.n c.in-Ok.books.items c.let_go.new.held.items c.insert.new.self.items c.enter.new.journal.items in
    let old = seen g.W.Piece.sector c.self.inside.plan c.self.inside.n c.self.inside.books.items c.self.inside.held.items c.self.inside.pieces.items c.self.inside.journal.items in
    let all = moved g c in (
      no_stranger g.W.Plan.PartialEq.eq g.W.Piece.plan g.W.Piece.sector g.W.Piece.targets old _ c.args.piece c.self.view_is all.2.own all.2.all,
      subst (λ s. Moves g.W.Piece.are_tails c.args.self.now (Finish c.args.worker (let r : Sector = record { 0 = s } in r)) new) c.sector-sector.ensures
          (subst (λ r. Moves g.W.Piece.are_tails r (Finish c.args.worker c.sector-sector.result) new) c.self.view_is all.0),
      subst (λ r. Adds integral_cmp r.progress.books (g.W.Piece.tails c.args.piece) c.in-Ok.books.items) c.self.view_is all.1,
      subst (λ r. Gains r.pieces c.args.piece c.insert.new.self.items) c.self.view_is
          (let place = subst (λ ps. IsPlace g.W.Piece.sector ps c.place_in-place.result c.sector-sector.result.0) c.as_slice-4.ensures.value (c.place_in-place.ensures.within, c.place_in-place.ensures.below, c.place_in-place.ensures.here) in
          record { place = c.place_in-place.result; within = place.0; is = c.in_default-insert.ensures.items }),
    )

pub returns-clause-unclosed : goal.returns-clause-unclosed
returns-clause-unclosed g c =
    let laws = g.met.W.Piece g.world.𝓛 g.world.𝓜 g.world.𝓡 ((λ s x. x), (λ x. x), (λ x. x), λ x. x) in
    let held : holder_of c.sector-sector.result.0 c.self.inside.held.items ≡ Some c.args.worker = search rules in
    unclosed_of _ _ c.self.view_is laws.opened laws.lawful c.self.invariant.0 c.sector-sector.result.0 c.args.worker held
