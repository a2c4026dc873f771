use Rattle.std.proofs.Common.{ℕ, ap, ◌∙◌}
use Rattle.system_text.specs.Summaries.{summary_text}
use Rattle.commands.proofs.drill.summary_text.Goals as goal

-- the text is the summary of the system that the run gave
pub returns-in_ok-print_summary-in-Ok : goal.returns-in_ok-print_summary-in-Ok
returns-in_ok-print_summary-in-Ok c = record {
  of = record { system = c.in-Ok.system; is_system = c.in-Ok.ensures.system };
  is = c.into_vec.ensures ∙ c.in_ok-print_summary-in-Ok.ensures ∙ ap (λ (number : ℕ). summary_text number c.in-Ok.system) c.from.ensures;
}
