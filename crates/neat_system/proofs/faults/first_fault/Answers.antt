use Rattle.std.proofs.Common.{sym}
use Rattle.neat_system.proofs.faults.first_fault.Goals as goal

pub returns-in-Some : goal.returns-in-Some
returns-in-Some c = record {
  place = c.loop-piece.piece-index;
  piece = c.piece-item.result;
  within = c.loop-piece-test.true;
  is = c.piece-item.is;
  is_result = c.in-Some.ensures.right;
  has = sym c.in-Some.ensures.value;
  earlier = c.loop-piece.invariant;
}
