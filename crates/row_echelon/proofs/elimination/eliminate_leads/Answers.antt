use Rattle.std.proofs.Common.{subst, arith, ◌≡◌, Some}
use Rattle.std.specs.Prelude.{slice_get}
use Rattle.row_echelon.proofs.Eliminating.{IsElimination-step, step_falls}
use Rattle.row_echelon.proofs.elimination.eliminate_leads.Goals as goal

pub loop-found-smaller : goal.loop-found-smaller
loop-found-smaller c =
    let at : slice_get c.loop-found.left.rest 0 ≡ Some c.in-Some.found.term =
    subst (λ n. slice_get c.loop-found.left.rest n ≡ Some c.in-Some.found.term) c.in-Some.ensures.at c.in-Some.ensures.term
    in
    step_falls _ _ _ c.loop-found.left.steps.items c.subtract.new.self.steps.items 0 c.in-Some.found.place c.in-Some.found.term c.in-Some.found.kept.now c.requires.form
    (record {
      entry = c.in-Some.ensures.found;
      term = at;
      sum = c.in_ok-subtract.ensures.rest;
      more = c.in_ok-subtract.ensures.steps;
      canonical = c.in_ok-subtract.ensures.canonical;
    })
    0 (omega arith) c.loop-found.invariant.canonical

pub loop-found-preserved : goal.loop-found-preserved
loop-found-preserved c =
    IsElimination-step _ c.loop-found.left.rest c.subtract.new.self.rest c.loop-found.left.steps.items c.subtract.new.self.steps.items c.in-Some.found.at c.in-Some.found.place
    c.in-Some.found.term c.in-Some.found.kept.now c.requires.form
    (record {
      entry = c.in-Some.ensures.found;
      term = c.in-Some.ensures.term;
      sum = c.in_ok-subtract.ensures.rest;
      more = c.in_ok-subtract.ensures.steps;
      canonical = c.in_ok-subtract.ensures.canonical;
    })
    c.args.row.now c.loop-found.invariant
