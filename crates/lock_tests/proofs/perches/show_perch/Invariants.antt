use Rattle.lock_tests.proofs.perches.show_perch.Given as goal

-- the lock is the perch's
abbrev pub ghosts-rest_on : goal.ghosts-rest_on
ghosts-rest_on a = record { table = a.shared.now.table.shared.table_id }
