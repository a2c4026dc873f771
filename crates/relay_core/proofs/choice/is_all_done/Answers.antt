use Rattle.std.proofs.Common.{refl, sym, subst, arith}
use Rattle.std.specs.Prelude.{Contains, map, IsTrue}
use Rattle.std.proofs.lemmas.List.Elements.{AllWithin-more, at_read}
use Rattle.sector_lattice.specs.Sectors.{sector_of}
use Rattle.ibp_base.proofs.Members.{everywhere, read}
use Rattle.relay_core.proofs.SectorBooks.{reached_by, a_member}
use Rattle.relay_core.proofs.choice.is_all_done.Goals as goal

pub returns-then-not-is_done : goal.returns-then-not-is_done
returns-then-not-is_done g c = (
  λ never. absurd (cc),
  λ all.
      let inside = read c.args.books.now c.loop-integral.integral-index c.integral-item.result (omega arith) c.integral-item.is in
      let done = all c.sector.result.0 (reached_by c.sector.result.0 c.args.books.now c.integral-item.result inside (sym c.sector.ensures.value)) in
      subst (λ b. IsTrue b) c.if-not-is_done.true (c.is_done.ensures.1 done),
)

pub loop-integral-preserved : goal.loop-integral-preserved
loop-integral-preserved g c =
    let done : Contains (map g.W.Piece.sector c.args.pieces.now) c.sector.result.0 = c.is_done.ensures.0 (subst (λ b. IsTrue b) (sym c.if-not-is_done.false) refl) in
    AllWithin-more (λ t. Contains (map g.W.Piece.sector c.args.pieces.now) (sector_of t)) c.args.books.now 0 c.loop-integral.integral-index c.loop-integral.invariant
    (at_read c.args.books.now (λ t. Contains (map g.W.Piece.sector c.args.pieces.now) (sector_of t)) c.loop-integral.integral-index c.integral-item.result (omega arith) c.integral-item.is
    (subst (λ s. Contains (map g.W.Piece.sector c.args.pieces.now) s) c.sector.ensures.value done))

pub returns : goal.returns
returns g c = (
  λ _ sector reached.
      let m = a_member sector c.args.books.now reached in
      subst (λ s. Contains (map g.W.Piece.sector c.args.pieces.now) s) m.same
      (everywhere (λ t. Contains (map g.W.Piece.sector c.args.pieces.now) (sector_of t)) c.args.books.now c.loop-integral.integral-index c.loop-integral.invariant (omega arith) m.integral m.inside),
  λ _. refl,
)
