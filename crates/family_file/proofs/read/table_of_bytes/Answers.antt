use Rattle.std.proofs.Common.{◌∙◌, sym, refl}
use Rattle.std.proofs.lemmas.Bool.{false≢true}
use Rattle.std.proofs.lemmas.Str.{is_utf8-from_IsUtf8}
use Rattle.family_file.specs.Family.{table_of_bytes}
use Rattle.family_file.proofs.Toml.{is_no_document}
use Rattle.family_file.proofs.read.table_of_bytes.Goals as goal

pub returns-in-Ok : goal.returns-in-Ok
unfolding table_of_bytes
returns-in-Ok c = rw (is_utf8-from_IsUtf8 c.args.bytes.now c.in-Ok.ensures.ok.0, c.in-Ok.ensures.ok.1) refl

pub returns-in-Err-2 : goal.returns-in-Err-2
returns-in-Err-2 c = is_no_document c.args.bytes.now (c.in-Err.ensures.refused (λ memory. false≢true (sym c.if-is_memory.false ∙ c.is_memory.ensures.1 memory)))
