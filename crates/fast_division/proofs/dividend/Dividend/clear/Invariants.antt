use Rattle.std.proofs.Common.{length}
use Rattle.fast_division.proofs.dividend.Dividend.clear.Given as goal

abbrev pub decreases-terms : goal.decreases-terms
decreases-terms g l = length l.self
