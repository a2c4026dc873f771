use Rattle.std.proofs.Common.{◌≡◌, length}
use Rattle.family.specs.Caps.{have_one_sector}
use Rattle.family_file.specs.Arrays.{are_distinct}
use Rattle.family_file.proofs.caps.are_distinct.Given as goal

abbrev pub invariant-loop-rest : goal.invariant-loop-rest
invariant-loop-rest l = are_distinct have_one_sector l.rest ≡ are_distinct have_one_sector l.caps

abbrev pub decreases-loop-rest : goal.decreases-loop-rest
decreases-loop-rest l = length l.rest
