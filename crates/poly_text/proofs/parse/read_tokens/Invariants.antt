use Rattle.std.proofs.Common.{◌≡◌, ◌≤◌, ◌-◌, map, length}
use Rattle.poly_text.specs.Scanning.{tokens, tokens_from}
use Rattle.poly_text.specs.Reading.{reading_of, read_tokens, first_reading, placed}
use Rattle.poly_text.specs.PolyText.{value_in}
use Rattle.poly_text.proofs.parse.read_tokens.Given as goal

abbrev pub invariant-loop-first : goal.invariant-loop-first
invariant-loop-first l = record {
  within : length l.rest ≤ length l.text;
  told : read_tokens l.n (value_in l.numbers) (reading_of l.reader) (map placed (tokens_from 0 (length l.text - length l.rest) l.rest))
      ≡ read_tokens l.n (value_in l.numbers) first_reading (map placed (tokens l.text));
}

abbrev pub decreases-loop-first : goal.decreases-loop-first
decreases-loop-first l = length l.rest
