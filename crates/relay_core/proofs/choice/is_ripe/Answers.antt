use Rattle.std.proofs.Common.{refl, sym, subst, arith}
use Rattle.std.specs.Prelude.{Contains, map, IsTrue}
use Rattle.sector_lattice.specs.Sectors.{sector_of, IsProperSubsector}
use Rattle.ibp_base.proofs.Members.{everywhere, read}
use Rattle.ibp_base.proofs.Tests.{differ}
use Rattle.relay_core.proofs.SectorBooks.{reached_by, a_member}
use Rattle.relay_core.proofs.choice.is_ripe.Goals as goal

pub returns-then-not-is_done : goal.returns-then-not-is_done
returns-then-not-is_done g c = (
  λ never. absurd (cc),
  λ all.
      let inside = read c.args.books.now c.loop-integral.integral-index c.integral-item.result (omega arith) c.integral-item.is in
      let reached = reached_by c.sector-outer.result.0 c.args.books.now c.integral-item.result inside (sym c.sector-outer.ensures.value) in
      let proper : IsProperSubsector c.args.sector.0 c.sector-outer.result.0 = record { within = c.is_subsector.ensures.0 c.if-is_subsector.true; other = differ c.args.sector.0 c.sector-outer.result.0 c.ne.result c.ne.ensures c.if-ne.true } in
      subst (λ b. IsTrue b) c.if-not-is_done.true (c.is_done.ensures.1 (all c.sector-outer.result.0 proper reached)),
)

pub returns : goal.returns
returns g c = (
  λ _ outer proper reached.
      let m = a_member outer c.args.books.now reached in
      subst (λ s. Contains (map g.W.Piece.sector c.args.pieces.now) s) m.same
      (everywhere (λ t. IsProperSubsector c.args.sector.0 (sector_of t) → Contains (map g.W.Piece.sector c.args.pieces.now) (sector_of t)) c.args.books.now c.loop-integral.integral-index c.loop-integral.invariant (omega arith) m.integral m.inside
      (subst (λ s. IsProperSubsector c.args.sector.0 s) (sym m.same) proper)),
  λ _. refl,
)
