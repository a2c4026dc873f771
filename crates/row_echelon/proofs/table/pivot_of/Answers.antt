use Rattle.std.proofs.Common.{sym}
use Rattle.row_echelon.proofs.Finding.{NoPivot-from_lookup, found_entry}
use Rattle.row_echelon.proofs.table.pivot_of.Goals as goal

pub returns-in_err-place-clause-none : goal.returns-in_err-place-clause-none
returns-in_err-place-clause-none c = rw c.from_residual.ensures (λ _. NoPivot-from_lookup _ _ (sym c.in_err-place.ensures.value))

pub returns-then-look-clause-found : goal.returns-then-look-clause-found
returns-then-look-clause-found c = found_entry _ _ _ _ _ c.in_ok-place.ensures.entry c.in_ok-place.ensures.key
