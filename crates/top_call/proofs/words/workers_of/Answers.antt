use Rattle.std.proofs.Common.{sym, ap₂, ◌∙◌}
use Rattle.clap.specs.Matches.{found_of}
use Rattle.clap.specs.Walk.{rows_of}
use Rattle.clap.proofs.WalkLemmas.{first_value-rows}
use Rattle.commands.proofs.Rows.{command_given}
use Rattle.top_call.specs.Words.{workers_of_parts, workers_of_rows}
use Rattle.top_call.proofs.words.workers_of.Goals as goal

pub returns-clause-value : goal.returns-clause-value
returns-clause-value c =
    let f = found_of c.in-Ok.matches in
    let command_is = c.get_str.ensures ∙ first_value-rows f _ in
    let number_is = c.get_str-2.ensures ∙ first_value-rows f _ in
    let workers_is = c.get_str-3.ensures ∙ first_value-rows f _ in
    let parts = c.workers_of_parts.ensures.value ∙ ap₂ (λ a b. a b) (ap₂ workers_of_parts command_is number_is) workers_is in
    sym (command_given _ workers_of_rows (rows_of f) _ c.in-Ok.ensures.rows parts)
