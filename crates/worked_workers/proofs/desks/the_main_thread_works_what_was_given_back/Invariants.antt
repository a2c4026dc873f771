use Rattle.worked_workers.proofs.desks.the_main_thread_works_what_was_given_back.Given as goal

abbrev pub ghosts-given_back-L-Ledger : goal.ghosts-given_back-L-Ledger
ghosts-given_back-L-Ledger g a = record { name = a.finishes.name; parts = a.finishes.parts }

abbrev pub ghosts-given_back-C-Ledger : goal.ghosts-given_back-C-Ledger
ghosts-given_back-C-Ledger g a = record { name = a.closings.name; parts = a.closings.parts }
