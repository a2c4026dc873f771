use Rattle.symmetry_fold.proofs.images.+put_image.Given as goal

abbrev pub decreases-put_image : goal.decreases-put_image
decreases-put_image l = l.count
