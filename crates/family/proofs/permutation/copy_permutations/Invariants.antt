use Rattle.std.proofs.Common.{◌≡◌, take}
use Rattle.family.proofs.permutation.copy_permutations.Given as goal

abbrev pub invariant-loop-permutation : goal.invariant-loop-permutation
invariant-loop-permutation l = l.copies.items ≡ take l.permutation-index l.permutations
