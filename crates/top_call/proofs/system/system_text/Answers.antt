use Rattle.std.proofs.Common.{◌∙◌}
use Rattle.top_call.proofs.system.system_text.Goals as goal

-- the text is that of the system that the run gave
pub returns-in_ok-print_system-in-Ok : goal.returns-in_ok-print_system-in-Ok
returns-in_ok-print_system-in-Ok g c = record {
  of = record { system = c.in-Ok.system; is_system = c.in-Ok.ensures.system };
  is = c.into_vec.ensures ∙ c.in_ok-print_system-in-Ok.ensures;
}
