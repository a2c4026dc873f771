use Rattle.std.proofs.Common.{◌+◌, Some, sym, ap, ◌∙◌, subst, arith, rules}
use Rattle.std.specs.Prelude.{map}
use Rattle.ibp_base.proofs.Members.{read}
use Rattle.relay_core.proofs.SectorBooks.{reached_by}
use Rattle.relay_core.proofs.BestSoFar.{IsBest, best_stays, best_taken, best_of_all}
use Rattle.relay_core.specs.Relay.{Progress, CanBeTaken}
use Rattle.relay_core.proofs.choice.next_sector.Goals as goal
use Rattle.relay_core.proofs.choice.next_sector.Goals.{then-can_be_taken, else-can_be_taken}

pub can_be_taken-requires : goal.can_be_taken-requires
can_be_taken-requires g c =
    let inside = read c.args.books.now c.loop-integral.integral-index c.integral-item.result (omega arith) c.integral-item.is in
    let reached = reached_by c.sector-sector.result.0 c.args.books.now c.integral-item.result inside (sym c.sector-sector.ensures.value) in
    (search rules, (search rules, reached))

pub loop-integral-preserved : goal.loop-integral-preserved
loop-integral-preserved g c =
    let progress : Progress = record { books = c.args.books.now; held = c.args.held.now; done = map g.W.Piece.sector c.args.pieces.now } in
    let stays = best_stays progress c.args.books.now c.loop-integral.integral-index c.integral-item.result (omega arith) c.integral-item.is c.loop-integral.next c.loop-integral.invariant in
    let taken = best_taken progress c.args.books.now c.loop-integral.integral-index c.integral-item.result (omega arith) c.integral-item.is c.loop-integral.next c.sector-sector.result c.loop-integral.invariant c.sector-sector.ensures.value in
    elim c.if-can_be_taken.branch [
      | then-can_be_taken w ↦ subst (λ best. IsBest progress c.args.books.now (c.loop-integral.integral-index + 1) best) (sym (w.next-is ∙ ap Some w.earlier.ensures))
          (taken (c.can_be_taken.ensures.0 w.if-can_be_taken.true))
      | else-can_be_taken w ↦ subst (λ best. IsBest progress c.args.books.now (c.loop-integral.integral-index + 1) best) (sym w.next-is)
          (stays (λ can. let yes = c.can_be_taken.ensures.1 (subst (λ s. CanBeTaken s progress) (sym c.sector-sector.ensures.value) can) in let no = w.if-can_be_taken.false in cc))
    ]

pub returns : goal.returns
returns g c = best_of_all (record { books = c.args.books.now; held = c.args.held.now; done = map g.W.Piece.sector c.args.pieces.now }) c.loop-integral.integral-index c.loop-integral.next c.loop-integral.invariant (omega arith)
