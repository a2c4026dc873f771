use Rattle.std.proofs.Common.{◌≡◌}
use Rattle.std.specs.Prelude.{Some, None}
use Rattle.line_reader.proofs.Digits.{whole_found, none_some}
use Rattle.line_reader.proofs.numbers.whole_at.Goals as goal

pub returns-in_err-whole-clause-reads : goal.returns-in_err-whole-clause-reads
returns-in_err-whole-clause-reads c k rest small ends e =
    let found = whole_found k rest c.args.bytes.now c.split_at.result.0.now c.split_at.result.1.now c.digits_len.result None
    small ends e c.digits_len.ensures.front c.split_at.ensures.front c.split_at.ensures.back c.in_err-whole.ensures in
    absurd (none_some k found.0)

pub returns-clause-reads : goal.returns-clause-reads
returns-clause-reads c k rest small ends e =
    let found = whole_found k rest c.args.bytes.now c.split_at.result.0.now c.split_at.result.1.now c.digits_len.result (Some c.in_ok-whole.field-0)
    small ends e c.digits_len.ensures.front c.split_at.ensures.front c.split_at.ensures.back c.in_ok-whole.ensures in
    let some : Some c.in_ok-whole.field-0 ≡ Some k = found.0 in
    let same : c.in_ok-whole.field-0 ≡ k = cc in
    (same, found.1)
