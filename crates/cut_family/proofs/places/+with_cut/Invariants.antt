use Rattle.cut_family.proofs.places.+with_cut.Given as goal

abbrev pub decreases-with_cut : goal.decreases-with_cut
decreases-with_cut l = l.n
