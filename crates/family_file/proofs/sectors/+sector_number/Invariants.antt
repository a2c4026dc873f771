use Rattle.family_file.proofs.sectors.+sector_number.Given as goal

abbrev pub decreases-sector_number : goal.decreases-sector_number
decreases-sector_number l = l.n
