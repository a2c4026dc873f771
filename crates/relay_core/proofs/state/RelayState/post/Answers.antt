use Rattle.std.proofs.Common.{◌≡◌, inl, inr, ◌∙◌, ◌++◌, ◌∷◌, [], sym, refl, ap, subst, length, length-append, arith, rules}
use Rattle.std.specs.Prelude.{Some, slice_range}
use Rattle.sector_lattice.specs.declared.sector.Sector.{Sector}
use Rattle.sector_lattice.specs.Sectors.{Ascends, integral_cmp}
use Rattle.relay_core.specs.declared.event.Event.TheVariants.{Post}
use Rattle.relay_core.specs.Family.{Adds, book}
use Rattle.relay_core.specs.Relay.{holder_of, IsHeldBy}
use Rattle.relay_core.specs.State.{seen, Moves, IsStranger}
use Rattle.relay_core.proofs.Calls.{is_stranger_if, stranger_at, no_stranger}
use Rattle.relay_core.proofs.Kept.{kept_after, old_fits, unclosed_of, ascends_of}
use Rattle.relay_core.proofs.state.RelayState.post.Given.{Over}
use Rattle.relay_core.proofs.state.RelayState.post.Goals as goal

pub book_of-book-requires : goal.book_of-book-requires
book_of-book-requires g c =
    let laws = g.met.W.Piece g.world.𝓛 g.world.𝓜 g.world.𝓡 ((λ s x. x), (λ x. x), (λ x. x), λ x. x) in
    subst (λ xs. Ascends xs) (sym c.as_slice-2.ensures.value) (ascends_of _ laws.opened laws.lawful c.self.invariant.0)

pub with_all-requires : goal.with_all-requires
with_all-requires g c =
    let laws = g.met.W.Piece g.world.𝓛 g.world.𝓜 g.world.𝓡 ((λ s x. x), (λ x. x), (λ x. x), λ x. x) in
    subst (λ xs. Ascends xs) (sym c.as_slice-3.ensures.value) (ascends_of _ laws.opened laws.lawful c.self.invariant.0)

pub returns-then-not-fits-clause-answers : goal.returns-then-not-fits-clause-answers
returns-then-not-fits-clause-answers g c =
    let held : holder_of (g.W.Piece.sector c.args.piece.now) c.self.inside.held.items ≡ Some c.args.worker = search rules in
    let is_book : c.book_of-book.result.now ≡ book (g.W.Piece.sector c.args.piece.now) c.self.inside.books.items =
    c.book_of-book.ensures ∙ ap (λ s. book s c.as_slice-2.result.now) c.sector-sector.ensures ∙ ap (book (g.W.Piece.sector c.args.piece.now)) c.as_slice-2.ensures.value in
    let stranger = is_stranger_if c.fits.result (g.W.Plan.PartialEq.eq (g.W.Piece.plan c.args.piece.now) c.self.inside.plan) c.if-not-fits.true c.fits.ensures in
    let old = seen g.W.Piece.sector c.self.inside.plan c.self.inside.n c.self.inside.books.items c.self.inside.held.items c.self.inside.pieces.items c.self.inside.journal.items in
    subst (λ r. IsHeldBy c.args.worker (g.W.Piece.sector c.args.piece.now) r.progress × IsStranger g.W.Plan.PartialEq.eq g.W.Piece.plan g.W.Piece.sector g.W.Piece.targets c.args.piece.now r) c.self.view_is
    (held, stranger_at g.W.Plan.PartialEq.eq g.W.Piece.plan g.W.Piece.sector g.W.Piece.targets old c.args.piece.now c.book_of-book.result.now is_book stranger)

moved : (g : Over) (c : goal.After-enter g) → Moves g.W.Piece.are_tails
    (seen g.W.Piece.sector c.self.inside.plan c.self.inside.n c.self.inside.books.items c.self.inside.held.items c.self.inside.pieces.items c.self.inside.journal.items)
    (Post c.args.worker c.sector-sector.result c.args.first c.args.end)
    (seen g.W.Piece.sector c.self.inside.plan c.self.inside.n c.in-Ok.books.items c.self.inside.held.items c.self.inside.pieces.items c.enter.new.journal.items)
    × Adds integral_cmp c.self.inside.books.items (slice_range (g.W.Piece.tails c.args.piece.now) c.args.first c.args.end) c.in-Ok.books.items
moved g c =
    let laws = g.met.W.Piece g.world.𝓛 g.world.𝓜 g.world.𝓡 ((λ s x. x), (λ x. x), (λ x. x), λ x. x) in
    let held : holder_of c.sector-sector.result.0 c.self.inside.held.items ≡ Some c.args.worker = search rules in
    let is_book : c.book_of-book.result.now ≡ book c.sector-sector.result.0 c.self.inside.books.items = c.book_of-book.ensures ∙ ap (book c.sector-sector.result.0) c.as_slice-2.ensures.value in
    let fit = c.fits.ensures.0 c.if-not-fits.false in
    let named : g.W.Piece.are_tails (g.W.Piece.plan c.args.piece.now) c.sector-sector.result.0 (book c.sector-sector.result.0 c.self.inside.books.items) (g.W.Piece.tails c.args.piece.now) =
    subst (λ s. g.W.Piece.are_tails (g.W.Piece.plan c.args.piece.now) s (book c.sector-sector.result.0 c.self.inside.books.items) (g.W.Piece.tails c.args.piece.now)) (sym c.sector-sector.ensures)
    (subst (λ ts. g.W.Piece.are_tails (g.W.Piece.plan c.args.piece.now) (g.W.Piece.sector c.args.piece.now) ts (g.W.Piece.tails c.args.piece.now)) (fit.1 ∙ is_book) c.tails-tails.ensures.named) in
    let posted : Adds integral_cmp c.self.inside.books.items (slice_range (g.W.Piece.tails c.args.piece.now) c.args.first c.args.end) c.in-Ok.books.items =
    subst (λ xs. Adds integral_cmp xs (slice_range (g.W.Piece.tails c.args.piece.now) c.args.first c.args.end) c.in-Ok.books.items) c.as_slice-3.ensures.value
    (subst (λ xs. Adds integral_cmp c.as_slice-3.result.now (slice_range xs c.args.first c.args.end) c.in-Ok.books.items) c.tails-tails.ensures.value c.in-Ok.ensures) in (
      record {
        plan = refl;
        n = refl;
        leads = record {
          held = held;
          all = g.W.Piece.tails c.args.piece.now;
          named = laws.same_tails (g.W.Piece.plan c.args.piece.now) c.self.inside.plan c.sector-sector.result.0 (book c.sector-sector.result.0 c.self.inside.books.items) (g.W.Piece.tails c.args.piece.now) fit.0 named;
          ordered = omega arith;
          within = omega (arith, ap length c.tails-tails.ensures.value);
          posted = posted;
          same_held = refl;
          same_done = refl;
        };
        journal = c.enter.ensures.items ∙ ap (λ xs. xs ++ Post c.args.worker c.sector-sector.result c.args.first c.args.end ∷ []) c.in-Ok-reserve.ensures.items;
      },
      posted,
    )

pub invariant_of-self-2 : goal.invariant_of-self-2
invariant_of-self-2 g c =
    let laws = g.met.W.Piece g.world.𝓛 g.world.𝓜 g.world.𝓡 ((λ s x. x), (λ x. x), (λ x. x), λ x. x) in
    let old = seen g.W.Piece.sector c.self.inside.plan c.self.inside.n c.self.inside.books.items c.self.inside.held.items c.self.inside.pieces.items c.self.inside.journal.items in
    let new = seen g.W.Piece.sector c.self.inside.plan c.self.inside.n c.in-Ok.books.items c.self.inside.held.items c.self.inside.pieces.items c.enter.new.journal.items in
    let moves = (moved g c).0 in (
      kept_after old new (Post c.args.worker c.sector-sector.result c.args.first c.args.end) laws.opened laws.lawful c.self.invariant.0 moves (old_fits old c.self.invariant.0 refl),
      omega (arith, ap length moves.journal, length-append c.self.inside.journal.items, c.in-Ok-reserve.ensures.ok, c.in-Ok-reserve.ensures.len, c.enter.ensures.capacity, c.self.inside.journal.ok.0, c.self.inside.held.ok.0, c.len.ensures),
    )

pub returns-clause-answers : goal.returns-clause-answers
returns-clause-answers g c =
    let new = seen g.W.Piece.sector c.self.inside.plan c.self.inside.n c.in-Ok.books.items c.self.inside.held.items c.self.inside.pieces.items c.enter.new.journal.items in
    let old = seen g.W.Piece.sector c.self.inside.plan c.self.inside.n c.self.inside.books.items c.self.inside.held.items c.self.inside.pieces.items c.self.inside.journal.items in
    let is_book : c.book_of-book.result.now ≡ book (g.W.Piece.sector c.args.piece.now) c.self.inside.books.items =
    c.book_of-book.ensures ∙ ap (λ s. book s c.as_slice-2.result.now) c.sector-sector.ensures ∙ ap (book (g.W.Piece.sector c.args.piece.now)) c.as_slice-2.ensures.value in
    let fit = c.fits.ensures.0 c.if-not-fits.false in
    let both = moved g c in (
      no_stranger g.W.Plan.PartialEq.eq g.W.Piece.plan g.W.Piece.sector g.W.Piece.targets old _ c.args.piece.now c.self.view_is fit.0 (fit.1 ∙ is_book),
      λ out. elim out [ inl crossed ↦ omega arith | inr beyond ↦ omega (arith, ap length c.tails-tails.ensures.value) ],
      subst (λ s. Moves g.W.Piece.are_tails c.args.self.now (Post c.args.worker (let r : Sector = record { 0 = s } in r) c.args.first c.args.end) new) c.sector-sector.ensures
          (subst (λ r. Moves g.W.Piece.are_tails r (Post c.args.worker c.sector-sector.result c.args.first c.args.end) new) c.self.view_is both.0),
      subst (λ r. Adds integral_cmp r.progress.books (slice_range (g.W.Piece.tails c.args.piece.now) c.args.first c.args.end) c.in-Ok.books.items) c.self.view_is both.1,
      ap (λ r. r.pieces) c.self.view_is,
    )

pub returns-clause-unclosed : goal.returns-clause-unclosed
returns-clause-unclosed g c =
    let laws = g.met.W.Piece g.world.𝓛 g.world.𝓜 g.world.𝓡 ((λ s x. x), (λ x. x), (λ x. x), λ x. x) in
    let held : holder_of c.sector-sector.result.0 c.self.inside.held.items ≡ Some c.args.worker = search rules in
    unclosed_of _ _ c.self.view_is laws.opened laws.lawful c.self.invariant.0 c.sector-sector.result.0 c.args.worker held
