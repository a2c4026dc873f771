use Rattle.cut_family.proofs.lifting.+put_lifted_polynomials.Given as goal

abbrev pub decreases-put_lifted_polynomials : goal.decreases-put_lifted_polynomials
decreases-put_lifted_polynomials l = l.n
