use Rattle.cut_family.proofs.places.+put_filled.Given as goal

abbrev pub decreases-put_filled : goal.decreases-put_filled
decreases-put_filled g l = l.n
