use Rattle.std.proofs.Common.{length}
use Rattle.family.specs.FamilyView.{family_view}
use Rattle.relation_pick.proofs.Pieces.{front}
use Rattle.sector_job.specs.Candidates.{AreCandidates}
use Rattle.sector_job.proofs.candidates.candidates_at_once.Given as goal

abbrev pub invariant-loop-piece : goal.invariant-loop-piece
invariant-loop-piece g l = AreCandidates (family_view l.family) l.fields (front l.seeds l.size (length l.yielded)) l.rows.items
