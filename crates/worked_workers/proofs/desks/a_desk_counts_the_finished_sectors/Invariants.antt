use Rattle.worked_workers.proofs.desks.a_desk_counts_the_finished_sectors.Given as goal

abbrev pub ghosts-count_of-L-Ledger : goal.ghosts-count_of-L-Ledger
ghosts-count_of-L-Ledger g a = record { name = a.finishes.name; parts = a.finishes.parts }

abbrev pub ghosts-count_of-C-Ledger : goal.ghosts-count_of-C-Ledger
ghosts-count_of-C-Ledger g a = record { name = a.closings.name; parts = a.closings.parts }
