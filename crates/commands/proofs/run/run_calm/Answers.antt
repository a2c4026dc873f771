use Rattle.std.proofs.Common.{◌≡◌, ap, ◌∙◌, inl, inr, refl, Err}
use Rattle.std.specs.Prelude.{IsOkAnd, ◌⊎◌}
use Rattle.std.proofs.lemmas.Bool.{false≢true}
use Rattle.ibp_outside.specs.Causes.{Rose}
use Rattle.commands.specs.declared.status.Status.TheVariants.{Done, WriteFault, NoMemory}
use Rattle.commands.specs.Causes.{given_of, Accepts, Tells, IsRefused, IsAnswered}
use Rattle.commands.specs.Statuses.{status_of}
use Rattle.commands.proofs.Exact.{answered}
use Rattle.commands.proofs.Told.{given_within, of_any, of_bytes, refused, told_of, told_refusal, unread_answers, unread_complete, unread_told, words_answer, words_complete, words_told, words_unreached}
use Rattle.commands.proofs.Drills.{through, unread, within_drills}
use Rattle.commands.proofs.run.run_calm.Goals as goal

pub returns-in-Err-text_of-clause-told : goal.returns-in-Err-text_of-clause-told
returns-in-Err-text_of-clause-told g c =
    let taken = g.K.Sink.taken c.args.sink.now in
    told_of (λ asked given. Tells asked given taken taken c.from-in-Err-text_of.result) _ c.in-Ok.command _ _ c.in-Ok-input_of.bytes.items c.in-Ok.ensures.command c.in-Ok-input_of.ensures.bytes
    (rw c.from-in-Err-text_of.ensures (told_refusal c.in-Err-text_of.refusal c.in-Ok.command (given_of c.in-Ok.command c.in-Ok-input_of.bytes.items) taken (of_bytes c.in-Ok.command _ _ (Err c.in-Err-text_of.refusal) c.deref.ensures.value c.in-Err-text_of.ensures)))

pub returns-in-Ok-write_text-clause-told : goal.returns-in-Ok-write_text-clause-told
returns-in-Ok-write_text-clause-told g c =
    told_of (λ asked given. Tells asked given (g.K.Sink.taken c.args.sink.now) (g.K.Sink.taken c.write_text.new.sink) Done) _ c.in-Ok.command _ _ c.in-Ok-input_of.bytes.items c.in-Ok.ensures.command c.in-Ok-input_of.ensures.bytes
    (c.in-Ok-text_of.text.items, rw c.deref.ensures.value at c.in-Ok-text_of.ensures, rw c.deref-2.ensures.value at c.in-Ok-write_text.ensures.ok)

pub returns-clause-told : goal.returns-clause-told
returns-clause-told g c =
    told_of (λ asked given. Tells asked given (g.K.Sink.taken c.args.sink.now) (g.K.Sink.taken c.write_text.new.sink) WriteFault) _ c.in-Ok.command _ _ c.in-Ok-input_of.bytes.items c.in-Ok.ensures.command c.in-Ok-input_of.ensures.bytes
    (c.in-Ok-text_of.text.items, rw c.deref.ensures.value at c.in-Ok-text_of.ensures, rw c.deref-2.ensures.value at c.in-Err-write_text.ensures.err)

pub returns-in-Err-text_of-clause-complete : goal.returns-in-Err-text_of-clause-complete
returns-in-Err-text_of-clause-complete g c =
    let read_faults = g.S.Source.faults in
    let write_faults = g.K.Sink.faults in
    told_of (λ asked given. IsOkAnd given (Accepts asked) → ¬ Rose (read_faults c.args.source.now) (read_faults c.input_of.new.source) → ¬ Rose (write_faults c.args.sink.now) (write_faults c.args.sink.now) → (c.from-in-Err-text_of.result ≡ Done) ⊎ (c.from-in-Err-text_of.result ≡ NoMemory)) _ c.in-Ok.command _ _ c.in-Ok-input_of.bytes.items c.in-Ok.ensures.command c.in-Ok-input_of.ensures.bytes
    (λ meets read write. inr (c.from-in-Err-text_of.ensures ∙ ap status_of (refused c.in-Err-text_of.refusal c.in-Ok.command (given_of c.in-Ok.command c.in-Ok-input_of.bytes.items) (given_within c.in-Ok.command (within_drills _ c.in-Ok.command c.in-Ok.ensures.command) c.in-Ok-input_of.bytes.items) (of_bytes c.in-Ok.command _ _ (Err c.in-Err-text_of.refusal) c.deref.ensures.value c.in-Err-text_of.ensures) meets)))

pub returns-in-Err-text_of-clause-refused : goal.returns-in-Err-text_of-clause-refused
returns-in-Err-text_of-clause-refused g c command status =
    let taken = g.K.Sink.taken c.args.sink.now in
    told_of (λ asked given. IsRefused asked given status → IsAnswered status c.from-in-Err-text_of.result) _ c.in-Ok.command _ _ c.in-Ok-input_of.bytes.items c.in-Ok.ensures.command c.in-Ok-input_of.ensures.bytes
    (answered _ _ (given_within c.in-Ok.command (within_drills _ c.in-Ok.command c.in-Ok.ensures.command) c.in-Ok-input_of.bytes.items) taken taken status c.from-in-Err-text_of.result (rw c.from-in-Err-text_of.ensures (told_refusal c.in-Err-text_of.refusal c.in-Ok.command (given_of c.in-Ok.command c.in-Ok-input_of.bytes.items) taken (of_bytes c.in-Ok.command _ _ (Err c.in-Err-text_of.refusal) c.deref.ensures.value c.in-Err-text_of.ensures)))) command

pub returns-in-Ok-write_text-clause-refused : goal.returns-in-Ok-write_text-clause-refused
returns-in-Ok-write_text-clause-refused g c command status =
    told_of (λ asked given. IsRefused asked given status → IsAnswered status Done) _ c.in-Ok.command _ _ c.in-Ok-input_of.bytes.items c.in-Ok.ensures.command c.in-Ok-input_of.ensures.bytes
    (answered _ _ (given_within c.in-Ok.command (within_drills _ c.in-Ok.command c.in-Ok.ensures.command) c.in-Ok-input_of.bytes.items) (g.K.Sink.taken c.args.sink.now) (g.K.Sink.taken c.write_text.new.sink) status Done (c.in-Ok-text_of.text.items, rw c.deref.ensures.value at c.in-Ok-text_of.ensures, rw c.deref-2.ensures.value at c.in-Ok-write_text.ensures.ok)) command

pub returns-clause-refused : goal.returns-clause-refused
returns-clause-refused g c command status =
    told_of (λ asked given. IsRefused asked given status → IsAnswered status WriteFault) _ c.in-Ok.command _ _ c.in-Ok-input_of.bytes.items c.in-Ok.ensures.command c.in-Ok-input_of.ensures.bytes
    (answered _ _ (given_within c.in-Ok.command (within_drills _ c.in-Ok.command c.in-Ok.ensures.command) c.in-Ok-input_of.bytes.items) (g.K.Sink.taken c.args.sink.now) (g.K.Sink.taken c.write_text.new.sink) status WriteFault (c.in-Ok-text_of.text.items, rw c.deref.ensures.value at c.in-Ok-text_of.ensures, rw c.deref-2.ensures.value at c.in-Err-write_text.ensures.err)) command

pub returns-in-Err-input_of-clause-told : goal.returns-in-Err-input_of-clause-told
returns-in-Err-input_of-clause-told g c command is =
    let taken = g.K.Sink.taken c.args.sink.now in
    of_any (λ given. Tells command given taken taken c.from-in-Err-input_of.result) (λ given. rw c.from-in-Err-input_of.ensures (unread_told c.in-Err-input_of.fault command given taken)) command (g.S.Source.left c.args.source.now)

pub returns-in-Err-input_of-clause-refused : goal.returns-in-Err-input_of-clause-refused
returns-in-Err-input_of-clause-refused g c command status is =
    of_any (λ given. IsRefused command given status → IsAnswered status c.from-in-Err-input_of.result) (λ given refused. rw c.from-in-Err-input_of.ensures (unread_answers c.in-Err-input_of.fault status)) command (g.S.Source.left c.args.source.now)

pub text_of-requires-clause-number : goal.text_of-requires-clause-number
text_of-requires-clause-number g c = within_drills _ c.in-Ok.command c.in-Ok.ensures.command

pub returns-in-Err-text_of-clause-read_through : goal.returns-in-Err-text_of-clause-read_through
returns-in-Err-text_of-clause-read_through g c command is reads reached = through _ c.in-Ok.command _ _ c.in-Ok-input_of.bytes.items c.in-Ok.ensures.command c.in-Ok-input_of.ensures.bytes command is reads

pub returns-in-Ok-write_text-clause-read_through : goal.returns-in-Ok-write_text-clause-read_through
returns-in-Ok-write_text-clause-read_through g c command is reads reached = through _ c.in-Ok.command _ _ c.in-Ok-input_of.bytes.items c.in-Ok.ensures.command c.in-Ok-input_of.ensures.bytes command is reads

pub returns-clause-read_through : goal.returns-clause-read_through
returns-clause-read_through g c command is reads reached = through _ c.in-Ok.command _ _ c.in-Ok-input_of.bytes.items c.in-Ok.ensures.command c.in-Ok-input_of.ensures.bytes command is reads

pub returns-in-Err-input_of-clause-no_file : goal.returns-in-Err-input_of-clause-no_file
returns-in-Err-input_of-clause-no_file g c = unread _ c.in-Ok.command _ c.in-Ok.ensures.command c.input_of.ensures.untouched

pub returns-in-Err-text_of-clause-no_file : goal.returns-in-Err-text_of-clause-no_file
returns-in-Err-text_of-clause-no_file g c = unread _ c.in-Ok.command _ c.in-Ok.ensures.command c.input_of.ensures.untouched

pub returns-in-Ok-write_text-clause-no_file : goal.returns-in-Ok-write_text-clause-no_file
returns-in-Ok-write_text-clause-no_file g c = unread _ c.in-Ok.command _ c.in-Ok.ensures.command c.input_of.ensures.untouched

pub returns-clause-no_file : goal.returns-clause-no_file
returns-clause-no_file g c = unread _ c.in-Ok.command _ c.in-Ok.ensures.command c.input_of.ensures.untouched

pub returns-in-Err-input_of-clause-complete : goal.returns-in-Err-input_of-clause-complete
returns-in-Err-input_of-clause-complete g c command is =
    let read_faults = g.S.Source.faults in
    let write_faults = g.K.Sink.faults in
    of_any (λ given. IsOkAnd given (Accepts command) → ¬ Rose (read_faults c.args.source.now) (read_faults c.input_of.new.source) → ¬ Rose (write_faults c.args.sink.now) (write_faults c.args.sink.now) → (c.from-in-Err-input_of.result ≡ Done) ⊎ (c.from-in-Err-input_of.result ≡ NoMemory))
    (λ given meets read write. rw c.from-in-Err-input_of.ensures (unread_complete c.in-Err-input_of.fault (Rose (read_faults c.args.source.now) (read_faults c.input_of.new.source)) (λ failed. c.in-Err-input_of.ensures.failed (ap Err failed)) read)) command (g.S.Source.left c.args.source.now)

pub returns-in-Err-clause-told : goal.returns-in-Err-clause-told
returns-in-Err-clause-told g c command is =
    let taken = g.K.Sink.taken c.args.sink.now in
    of_any (λ given. Tells command given taken taken c.from.result) (λ given. rw c.from.ensures (words_told c.in-Err.fault _ (λ usage. c.in-Err.ensures.usage (ap Err usage)) command given taken is)) command (g.S.Source.left c.args.source.now)

pub returns-in-Err-clause-refused : goal.returns-in-Err-clause-refused
returns-in-Err-clause-refused g c command status is =
    of_any (λ given. IsRefused command given status → IsAnswered status c.from.result) (λ given refused. rw c.from.ensures (words_answer c.in-Err.fault _ (λ usage. c.in-Err.ensures.usage (ap Err usage)) command status is)) command (g.S.Source.left c.args.source.now)

pub returns-in-Err-clause-complete : goal.returns-in-Err-clause-complete
returns-in-Err-clause-complete g c command is =
    let read_faults = g.S.Source.faults in
    let write_faults = g.K.Sink.faults in
    of_any (λ given. IsOkAnd given (Accepts command) → ¬ Rose (read_faults c.args.source.now) (read_faults c.args.source.now) → ¬ Rose (write_faults c.args.sink.now) (write_faults c.args.sink.now) → (c.from.result ≡ Done) ⊎ (c.from.result ≡ NoMemory))
    (λ given meets read write. rw c.from.ensures (words_complete c.in-Err.fault _ (λ usage. c.in-Err.ensures.usage (ap Err usage)) command is)) command (g.S.Source.left c.args.source.now)

-- a drill gives its bytes in any case
pub returns-in-Err-input_of-clause-no_read_fault : goal.returns-in-Err-input_of-clause-no_read_fault
returns-in-Err-input_of-clause-no_read_fault g c = unread _ c.in-Ok.command _ c.in-Ok.ensures.command (λ none. absurd (false≢true (c.in-Err-input_of.ensures.given none)))

pub returns-in-Err-clause-read_through : goal.returns-in-Err-clause-read_through
returns-in-Err-clause-read_through g c command is reads reached = absurd (words_unreached c.in-Err.fault (rw c.from.ensures at reached))

pub returns-in-Ok-write_text-clause-complete : goal.returns-in-Ok-write_text-clause-complete
returns-in-Ok-write_text-clause-complete g c command is =
    let read_faults = g.S.Source.faults in
    let write_faults = g.K.Sink.faults in
    of_any (λ given. IsOkAnd given (Accepts command) → ¬ Rose (read_faults c.args.source.now) (read_faults c.input_of.new.source) → ¬ Rose (write_faults c.args.sink.now) (write_faults c.write_text.new.sink) → (Done ≡ Done) ⊎ (Done ≡ NoMemory))
    (λ given meets read write. inl refl) command (g.S.Source.left c.args.source.now)

pub returns-clause-complete : goal.returns-clause-complete
returns-clause-complete g c command is =
    let read_faults = g.S.Source.faults in
    let write_faults = g.K.Sink.faults in
    of_any (λ given. IsOkAnd given (Accepts command) → ¬ Rose (read_faults c.args.source.now) (read_faults c.input_of.new.source) → ¬ Rose (write_faults c.args.sink.now) (write_faults c.write_text.new.sink) → (WriteFault ≡ Done) ⊎ (WriteFault ≡ NoMemory))
    (λ given meets read write. absurd (write c.in-Err-write_text.ensures.cause.failed)) command (g.S.Source.left c.args.source.now)
