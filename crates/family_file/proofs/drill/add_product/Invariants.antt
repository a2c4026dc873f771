use Rattle.std.proofs.Common.{◌≡◌, ◌++◌, take}
use Rattle.family_file.specs.Drill.{product_by}
use Rattle.family_file.proofs.drill.add_product.Given as goal

abbrev pub invariant-loop-term : goal.invariant-loop-term
invariant-loop-term l = l.into.items ≡ l.fn.into.items ++ product_by l.factor (take l.term-index l.left) l.right
