use Rattle.turn_tests.proofs.crew.serve_from.Given as goal

-- the lock is the one that was opened
abbrev pub ghosts-play_named : goal.ghosts-play_named
ghosts-play_named g a = record { table = a.shared.now.table.shared.table_id }
