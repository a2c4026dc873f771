use Rattle.std.proofs.Common.{◌≡◌, ◌++◌, length, OnOk}
use Rattle.fast_division.proofs.dividend.drain.Given as goal

abbrev pub invariant-terms : goal.invariant-terms
invariant-terms g l = OnOk l.answer (l.terms.items ++ l.window ≡ l.fn.terms.items ++ l.fn.window)

abbrev pub decreases-terms : goal.decreases-terms
decreases-terms g l = length l.window
