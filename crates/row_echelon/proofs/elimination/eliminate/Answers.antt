use Rattle.std.proofs.Common.{length, arith}
use Rattle.row_echelon.proofs.Eliminating.{IsStep, IsElimination-step, step_below, step_falls, untouched_join, untouched_kept, length_kept, untouched_whole}
use Rattle.row_echelon.proofs.elimination.eliminate.Goals as goal

pub loop-found-smaller : goal.loop-found-smaller
loop-found-smaller c =
    step_falls _ _ _ c.loop-found.left.steps.items c.subtract.new.self.steps.items c.in-Some.found.at c.in-Some.found.place c.in-Some.found.term c.in-Some.found.kept.now c.requires.form
    (record {
      entry = c.in-Some.ensures.found;
      term = c.in-Some.ensures.term;
      sum = c.in_ok-subtract.ensures.rest;
      more = c.in_ok-subtract.ensures.steps;
      canonical = c.in_ok-subtract.ensures.canonical;
    })
    c.loop-found.from c.in-Some.ensures.within.0 c.loop-found.invariant.eliminated.canonical

pub loop-found-preserved : goal.loop-found-preserved
loop-found-preserved c =
    let es = c.args.kept.now.entries in
    let rest = c.loop-found.left.rest in
    let rest' = c.subtract.new.self.rest in
    let at = c.in-Some.found.at in
    let step : IsStep es rest rest' c.loop-found.left.steps.items c.subtract.new.self.steps.items at c.in-Some.found.place c.in-Some.found.term c.in-Some.found.kept.now =
    record {
      entry = c.in-Some.ensures.found;
      term = c.in-Some.ensures.term;
      sum = c.in_ok-subtract.ensures.rest;
      more = c.in_ok-subtract.ensures.steps;
      canonical = c.in_ok-subtract.ensures.canonical;
    }
    in
    let below = step_below es rest rest' _ _ at c.in-Some.found.place c.in-Some.found.term c.in-Some.found.kept.now c.requires.form step c.loop-found.invariant.eliminated.canonical in
    record {
      eliminated = IsElimination-step es rest rest' _ _ at c.in-Some.found.place c.in-Some.found.term c.in-Some.found.kept.now c.requires.form step c.args.row.now
          c.loop-found.invariant.eliminated;
      within = length_kept rest rest' at below.0 (omega (arith, c.in-Some.ensures.within.1));
      untouched = untouched_kept es rest rest' at below.0 (untouched_join es rest c.loop-found.from at c.loop-found.invariant.untouched c.in-Some.ensures.before);
    }

pub returns-clause-reduced : goal.returns-clause-reduced
returns-clause-reduced c =
    untouched_whole c.args.kept.now.entries c.loop-found.left.rest
    (untouched_join c.args.kept.now.entries c.loop-found.left.rest c.loop-found.from (length c.loop-found.left.rest) c.loop-found.invariant.untouched c.in_default.ensures.none)
