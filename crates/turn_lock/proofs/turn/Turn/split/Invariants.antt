use Rattle.turn_lock.proofs.turn.Turn.split.Given as goal

abbrev pub ghosts-deal : goal.ghosts-deal
ghosts-deal g a = record { owner = a.owner; turns = a.turns }
