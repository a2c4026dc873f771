use Rattle.symmetry_fold.proofs.images.+image_number.Given as goal

abbrev pub decreases-image_number : goal.decreases-image_number
decreases-image_number l = l.n
