use Rattle.level_run.proofs.run.run_mirror.Given as goal

-- the store that is just opened
abbrev pub ghosts-run_named : goal.ghosts-run_named
ghosts-run_named g a = record { book = a.blank; most = 1000000 }
