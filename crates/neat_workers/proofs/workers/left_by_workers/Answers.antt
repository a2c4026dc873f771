use Rattle.std.proofs.Common.{arith}
use Rattle.neat_workers.proofs.SeatsKept.{still_all}
use Rattle.neat_workers.proofs.workers.left_by_workers.Goals as goal

pub into_state-state-requires-clause-whole : goal.into_state-state-requires-clause-whole
into_state-state-requires-clause-whole g c = λ _ _.
    still_all c.as_mut_slice.result.now c.work_at_all.new.seats c.in_ok-desk.field-0.seats.items c.in_ok-desk.field-0.seats.len g.L.Ledger.parts g.C.Ledger.parts c.work_at_all.auto.seats (omega (arith, c.as_mut_slice.ensures.len)) c.as_mut_slice.ensures.value c.work_at_all.ensures c.in_ok-desk.ensures.whole
