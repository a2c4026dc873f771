use Rattle.neat_system.proofs.GatheredWorks.{gathers_none, gathers_more}
use Rattle.neat_system.proofs.gathering.gather.Goals as goal

pub loop-piece-init : goal.loop-piece-init
loop-piece-init c = gathers_none (record { blocks = c.new.result; labels = c.new-2.result; candidates = c.new-3.result }) c.new.ensures.items c.new-2.ensures.items c.new-3.ensures.items

pub loop-piece-preserved : goal.loop-piece-preserved
loop-piece-preserved c =
    gathers_more c.args.pieces.now c.loop-piece.piece-index c.piece-item.result c.loop-piece.gathered c.add_piece.new.gathered
    c.loop-piece-test.true c.piece-item.is c.loop-piece.invariant c.in_ok-add_piece.ensures
