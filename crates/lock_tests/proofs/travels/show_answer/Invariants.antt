use Rattle.lock_tests.proofs.travels.show_answer.Given as goal

-- the lock is the perch's
abbrev pub ghosts-come_back : goal.ghosts-come_back
ghosts-come_back g a = record { table = a.shared.now.table.shared.table_id }
