use Rattle.measures.proofs.storing.store.Given as goal

-- the store that is just opened
abbrev pub ghosts-measured : goal.ghosts-measured
ghosts-measured g a = record { book = a.blank; most = 1000000 }
