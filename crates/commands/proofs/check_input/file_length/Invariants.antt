use Rattle.std.proofs.Common.{◌≡◌, ◌+◌, drop, length, ℕ}
use Rattle.commands.specs.CheckInput.{file_from, file_part}
use Rattle.commands.proofs.check_input.file_length.Given as goal

abbrev pub invariant-loop-place : goal.invariant-loop-place
invariant-loop-place l = length (file_part l.input) ≡ l.place + length (file_from l.begins (drop l.place l.input))
