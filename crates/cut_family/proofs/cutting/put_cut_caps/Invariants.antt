use Rattle.std.proofs.Common.{◌≡◌, ◌++◌, take}
use Rattle.cut_family.specs.Cutting.{cut_caps}
use Rattle.cut_family.proofs.cutting.put_cut_caps.Given as goal

abbrev pub invariant-loop-entry : goal.invariant-loop-entry
invariant-loop-entry l = l.into.items ≡ l.fn.into.items ++ cut_caps l.n l.cut.0 (take l.entry-index l.caps)
