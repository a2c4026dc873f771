use Rattle.std.proofs.Common.{length}
use Rattle.family.proofs.permutation.+is_product.Given as goal

abbrev pub decreases-is_product : goal.decreases-is_product
decreases-is_product l = length l.first.now
