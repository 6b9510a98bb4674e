-- Logs of the driver as lists of entries.
use Rattle.std.proofs.Common.{◌≡◌, ℕ, List, [], ◌∷◌, None, refl, subst}
use Rattle.teb_rules.specs.declared.names.Entry.{Entry}
use Rattle.teb_rules.specs.Driver.{Drive, Follows, Turns, drive, drive_after, driven, seated, turn_after}
use Rattle.teb_rules.specs.Run.{history_after, requests_of}
use Rattle.teb_rules.specs.Scripts.{Script}
use Rattle.teb_rules.specs.Setup.{Store}
use Rattle.driver_laws.proofs.Ends.{drive_follows}

-- if no session has a turn after the driver's log, the log is a whole log of turns
pub turns_made : (n : ℕ) (X : Store) (scripts : List Script) (log : List Entry) → drive n X [] (seated scripts) ≡ log → turn_after X scripts log ≡ None → Turns X scripts log
turns_made n X scripts log e k = record { follows = subst (Follows X [] (seated scripts)) e (drive_follows X n [] (seated scripts)); ends = k }

-- the driver's history is that of its log
pub drive_history : (X : Store) (log : List Entry) (d : Drive) → (drive_after X d log).history ≡ history_after X d.history (requests_of log)
unfolding drive_after history_after
drive_history X [] d = refl
drive_history X (e ∷ log) d = drive_history X log (driven X d e)
