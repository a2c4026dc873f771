use Rattle.cut_family.proofs.places.+without_cut.Given as goal

abbrev pub decreases-without_cut : goal.decreases-without_cut
decreases-without_cut l = l.n
