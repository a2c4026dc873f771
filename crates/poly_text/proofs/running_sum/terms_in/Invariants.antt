use Rattle.std.proofs.Common.{◌≡◌, ◌++◌}
use Rattle.poly_text.proofs.running_sum.terms_in.Given as goal

abbrev pub invariant-loop-key : goal.invariant-loop-key
invariant-loop-key l = l.terms.items ++ l.key-iterator ≡ l.others.entries
