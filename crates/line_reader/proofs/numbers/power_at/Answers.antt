use Rattle.std.proofs.Common.{rules, w16}
use Rattle.std.specs.Prelude.{FitsSigned}
use Rattle.std.proofs.lemmas.Int.{to_z-of_z}
use Rattle.line_reader.proofs.Words.{not_none, some_holds}
use Rattle.line_reader.proofs.Signs.{sign_cases, signed_gives}
use Rattle.line_reader.proofs.numbers.power_at.Goals as goal

pub returns-in_err-number-clause-reads : goal.returns-in_err-number-clause-reads
returns-in_err-number-clause-reads c z rest low high ends e =
    let s = sign_cases z rest c.args.bytes.now c.sign_at-negative.result.1.now c.sign_at-negative.result.0 low high e c.sign_at-negative.ensures.minus c.sign_at-negative.ensures.plain in
    absurd (not_none c.whole_at.result _ (c.whole_at.ensures.reads s.0 rest s.1 ends s.3) c.in_err-number.was)

pub returns-in_err-signed-clause-reads : goal.returns-in_err-signed-clause-reads
returns-in_err-signed-clause-reads c z rest low high ends e =
    let s = sign_cases z rest c.args.bytes.now c.sign_at-negative.result.1.now c.sign_at-negative.result.0 low high e c.sign_at-negative.ensures.minus c.sign_at-negative.ensures.plain in
    let read = some_holds c.whole_at.result _ (c.in_ok-number.number, c.in_ok-number.rest) (c.whole_at.ensures.reads s.0 rest s.1 ends s.3) c.in_ok-number.was in
    absurd (not_none c.signed.result _ (signed_gives c.sign_at-negative.result.0 z s.0 c.in_ok-number.number c.signed.result s.4 read.0 s.2 c.signed.ensures.plain c.signed.ensures.minus) c.in_err-signed.was)

pub returns-clause-reads : goal.returns-clause-reads
returns-clause-reads c z rest low high ends e =
    let s = sign_cases z rest c.args.bytes.now c.sign_at-negative.result.1.now c.sign_at-negative.result.0 low high e c.sign_at-negative.ensures.minus c.sign_at-negative.ensures.plain in
    let read = some_holds c.whole_at.result _ (c.in_ok-number.number, c.in_ok-number.rest) (c.whole_at.ensures.reads s.0 rest s.1 ends s.3) c.in_ok-number.was in
    let power = some_holds c.signed.result _ c.in_ok-signed.field-0 (signed_gives c.sign_at-negative.result.0 z s.0 c.in_ok-number.number c.signed.result s.4 read.0 s.2 c.signed.ensures.plain c.signed.ensures.minus) c.in_ok-signed.was in
    let fits : FitsSigned w16 c.in_ok-signed.field-0 = search rules in
    (simp to_z-of_z power, read.1)
