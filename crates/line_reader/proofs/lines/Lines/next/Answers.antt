use Rattle.std.proofs.Common.{inl, inr}
use Rattle.line_reader.proofs.Cutting.{none_next, next_line}
use Rattle.line_reader.proofs.lines.Lines.next.Goals as goal

pub returns-then-len-eq0-clause-none : goal.returns-then-len-eq0-clause-none
returns-then-len-eq0-clause-none c =
    none_next c.args.self.now.rest.now c.line_len-len.result c.line_len-len.ensures.front (inl c.if-len-eq0.true)

pub returns-then-len-self-clause-none : goal.returns-then-len-self-clause-none
returns-then-len-self-clause-none c =
    none_next c.args.self.now.rest.now c.line_len-len.result c.line_len-len.ensures.front (inr c.if-len-self.true)

pub returns-clause-line : goal.returns-clause-line
returns-clause-line c =
    next_line c.args.self.now.rest.now c.split_at.result.0.now c.split_at.result.1.now c.line_len-len.result c.line_len-len.ensures.front
    c.if-len-self.false c.line_len-len.ensures.within c.split_at.ensures.front c.split_at.ensures.back
