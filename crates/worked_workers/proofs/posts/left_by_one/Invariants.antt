use Rattle.worked_workers.proofs.posts.left_by_one.Given as goal

abbrev pub ghosts-left_by_workers-L-Ledger : goal.ghosts-left_by_workers-L-Ledger
ghosts-left_by_workers-L-Ledger g a = record { name = a.finishes.name; parts = a.finishes.parts }

abbrev pub ghosts-left_by_workers-C-Ledger : goal.ghosts-left_by_workers-C-Ledger
ghosts-left_by_workers-C-Ledger g a = record { name = a.closings.name; parts = a.closings.parts }
