use Rattle.std.proofs.Common.{◌≡◌, ap, ◌∙◌, refl, Some, inr, Err}
use Rattle.std.specs.Prelude.{IsOkAnd, ◌⊎◌}
use Rattle.ibp_outside.specs.Causes.{Rose}
use Rattle.commands.specs.declared.status.Status.TheVariants.{Done, WriteFault, NoMemory}
use Rattle.commands.specs.declared.words.Command.TheVariants.{Plain}
use Rattle.commands.specs.Causes.{given_of, Accepts, Tells, IsRefused, IsAnswered}
use Rattle.commands.specs.Statuses.{status_of}
use Rattle.commands.proofs.Exact.{answered}
use Rattle.commands.proofs.Told.{given_within, of_bytes, refused, told_of, told_refusal}
use Rattle.top_call.proofs.run.run_system.Goals as goal

pub returns-in-Err-text_of-clause-told : goal.returns-in-Err-text_of-clause-told
returns-in-Err-text_of-clause-told g c =
    let taken = g.K.Sink.taken c.args.sink.now in
    told_of (λ asked given. Tells asked given taken taken c.from-in-Err-text_of.result) (Some Plain) Plain _ _ c.in-Ok.bytes.items refl c.in-Ok.ensures.bytes
    (rw c.from-in-Err-text_of.ensures (told_refusal c.in-Err-text_of.refusal Plain (given_of Plain c.in-Ok.bytes.items) taken (of_bytes Plain _ _ (Err c.in-Err-text_of.refusal) c.deref.ensures.value c.in-Err-text_of.ensures))) Plain refl

pub returns-in-Ok-write_text-clause-told : goal.returns-in-Ok-write_text-clause-told
returns-in-Ok-write_text-clause-told g c =
    told_of (λ asked given. Tells asked given (g.K.Sink.taken c.args.sink.now) (g.K.Sink.taken c.write_text.new.sink) Done) (Some Plain) Plain _ _ c.in-Ok.bytes.items refl c.in-Ok.ensures.bytes
    (c.in-Ok-text_of.text.items, rw c.deref.ensures.value at c.in-Ok-text_of.ensures, rw c.deref-2.ensures.value at c.in-Ok-write_text.ensures.ok) Plain refl

pub returns-clause-told : goal.returns-clause-told
returns-clause-told g c =
    told_of (λ asked given. Tells asked given (g.K.Sink.taken c.args.sink.now) (g.K.Sink.taken c.write_text.new.sink) WriteFault) (Some Plain) Plain _ _ c.in-Ok.bytes.items refl c.in-Ok.ensures.bytes
    (c.in-Ok-text_of.text.items, rw c.deref.ensures.value at c.in-Ok-text_of.ensures, rw c.deref-2.ensures.value at c.in-Err-write_text.ensures.err) Plain refl

pub returns-in-Err-text_of-clause-complete : goal.returns-in-Err-text_of-clause-complete
returns-in-Err-text_of-clause-complete g c =
    let read_faults = g.S.Source.faults in
    let write_faults = g.K.Sink.faults in
    told_of (λ asked given. IsOkAnd given (Accepts asked) → ¬ Rose (read_faults c.args.source.now) (read_faults c.read_input.new.source) → ¬ Rose (write_faults c.args.sink.now) (write_faults c.args.sink.now) → (c.from-in-Err-text_of.result ≡ Done) ⊎ (c.from-in-Err-text_of.result ≡ NoMemory)) (Some Plain) Plain _ _ c.in-Ok.bytes.items refl c.in-Ok.ensures.bytes
    (λ meets read write. inr (c.from-in-Err-text_of.ensures ∙ ap status_of (refused c.in-Err-text_of.refusal Plain (given_of Plain c.in-Ok.bytes.items) (given_within Plain tt c.in-Ok.bytes.items) (of_bytes Plain _ _ (Err c.in-Err-text_of.refusal) c.deref.ensures.value c.in-Err-text_of.ensures) meets))) Plain refl

pub returns-in-Err-text_of-clause-refused : goal.returns-in-Err-text_of-clause-refused
returns-in-Err-text_of-clause-refused g c status =
    let taken = g.K.Sink.taken c.args.sink.now in
    told_of (λ asked given. IsRefused asked given status → IsAnswered status c.from-in-Err-text_of.result) (Some Plain) Plain _ _ c.in-Ok.bytes.items refl c.in-Ok.ensures.bytes
    (answered Plain _ (given_within Plain tt c.in-Ok.bytes.items) taken taken status c.from-in-Err-text_of.result (rw c.from-in-Err-text_of.ensures (told_refusal c.in-Err-text_of.refusal Plain (given_of Plain c.in-Ok.bytes.items) taken (of_bytes Plain _ _ (Err c.in-Err-text_of.refusal) c.deref.ensures.value c.in-Err-text_of.ensures)))) Plain refl

pub returns-in-Ok-write_text-clause-refused : goal.returns-in-Ok-write_text-clause-refused
returns-in-Ok-write_text-clause-refused g c status =
    told_of (λ asked given. IsRefused asked given status → IsAnswered status Done) (Some Plain) Plain _ _ c.in-Ok.bytes.items refl c.in-Ok.ensures.bytes
    (answered Plain _ (given_within Plain tt c.in-Ok.bytes.items) (g.K.Sink.taken c.args.sink.now) (g.K.Sink.taken c.write_text.new.sink) status Done (c.in-Ok-text_of.text.items, rw c.deref.ensures.value at c.in-Ok-text_of.ensures, rw c.deref-2.ensures.value at c.in-Ok-write_text.ensures.ok)) Plain refl

pub returns-clause-refused : goal.returns-clause-refused
returns-clause-refused g c status =
    told_of (λ asked given. IsRefused asked given status → IsAnswered status WriteFault) (Some Plain) Plain _ _ c.in-Ok.bytes.items refl c.in-Ok.ensures.bytes
    (answered Plain _ (given_within Plain tt c.in-Ok.bytes.items) (g.K.Sink.taken c.args.sink.now) (g.K.Sink.taken c.write_text.new.sink) status WriteFault (c.in-Ok-text_of.text.items, rw c.deref.ensures.value at c.in-Ok-text_of.ensures, rw c.deref-2.ensures.value at c.in-Err-write_text.ensures.err)) Plain refl
