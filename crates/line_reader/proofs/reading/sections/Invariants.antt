use Rattle.std.proofs.Common.{◌≡◌, length}
use Rattle.line_reader.specs.Lines.{lines}
use Rattle.line_reader.proofs.Loops.{ReadSoFar}
use Rattle.line_reader.proofs.reading.sections.Given as goal

abbrev pub invariant-loop-place : goal.invariant-loop-place
invariant-loop-place g l = record {
  count : length l.values.items ≡ l.place;
  so_far : ReadSoFar g.S.Section.text 1 (g.S.Section.is_value l.fn.n) (lines l.fn.text.rest.now) l.fn.text.taken l.values.items (lines l.text.rest.now) l.text.taken;
}
