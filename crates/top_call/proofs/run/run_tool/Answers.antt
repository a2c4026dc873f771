use Rattle.std.proofs.Common.{◌≡◌, ◌∙◌, ◌⊎◌, sym, ℕ, Option, None, Some, map, string_bytes, Global}
use Rattle.std.specs.Prelude.{IsOkAnd}
use Rattle.ibp_outside.specs.Causes.{Rose}
use Rattle.commands.specs.Causes.{Accepts, IfGiven, IsRefused, IsAnswered}
use Rattle.commands.specs.declared.status.Status.TheVariants.{Done, NoMemory}
use Rattle.top_call.specs.Words.{workers_of}
use Rattle.top_call.proofs.Asked.{for_command, for_plain}
use Rattle.top_call.proofs.run.run_tool.Goals as goal

pub returns-in-Ok-Some-clause-refused : goal.returns-in-Ok-Some-clause-refused
returns-in-Ok-Some-clause-refused g c command status =
    let words = map (string_bytes {Z = Global}) c.args.words.now in
    let is : Some c.in-Ok-Some.workers ≡ workers_of words = sym c.in-Ok-Some.field-0-is ∙ c.in-Ok-Some.ensures.value in
    for_plain words (workers_of words) (λ asked. IfGiven asked (g.S.Source.left c.args.source.now) (λ given. IsRefused asked given status → IsAnswered status c.run_system.result)) c.in-Ok-Some.workers is (c.run_system.ensures.refused status) command

pub returns-in-Ok-None-clause-complete : goal.returns-in-Ok-None-clause-complete
returns-in-Ok-None-clause-complete g c =
    let words = map (string_bytes {Z = Global}) c.args.words.now in
    let is : ◌≡◌ {A = Option ℕ} None (workers_of words) = sym c.in-Ok-None.field-0-is ∙ c.in-Ok-None.ensures.value in
    let read_faults = g.S.Source.faults in
    let write_faults = g.K.Sink.faults in
    for_command words (workers_of words) (λ asked. IfGiven asked (g.S.Source.left c.args.source.now) (λ given. IsOkAnd given (Accepts asked) → ¬ Rose (read_faults c.args.source.now) (read_faults c.run_calm.new.source) → ¬ Rose (write_faults c.args.sink.now) (write_faults c.run_calm.new.sink) → (c.run_calm.result ≡ Done) ⊎ (c.run_calm.result ≡ NoMemory))) is c.run_calm.ensures.complete
