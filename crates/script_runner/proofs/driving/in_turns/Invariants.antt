use Rattle.script_runner.proofs.driving.in_turns.Given as goal

-- the ledger that the blank opens
abbrev pub ghosts-drive : goal.ghosts-drive
ghosts-drive g a = record { name = a.blank.name; parts = a.blank.parts }
