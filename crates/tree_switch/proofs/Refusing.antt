-- Why a phase may not be followed by another.
use Rattle.std.proofs.Common.{◌≡◌, ◌==◌, true, List, [], ◌∷◌, length, refl, arith, eqb-true}
use Rattle.std.proofs.lemmas.Bool.{and_parts}
use Rattle.std.proofs.lemmas.Bool.Decides.{nat_tests}
use Rattle.teb_rules.specs.declared.history.Event.{Event}
use Rattle.teb_rules.specs.history.Phases.{session_of}
use Rattle.teb_rules.specs.Setup.{Setup}
use Rattle.teb_rules.specs.laws.Lawful.{Lawful}
use Rattle.teb_rules.proofs.lemmas.laws.Holding.{held_began, held_holds}
use Rattle.teb_rules.proofs.lemmas.laws.Sessions.{session_range}
use Rattle.engine_core.proofs.Running.{unfinished_numbered}
use Rattle.tree_switch.specs.Refusals.{AreNumbered, AreOfSessions}

pub are_numbered : (S : Setup) (H : List Event) → Lawful S H → AreNumbered H
are_numbered S H l t u = unfinished_numbered S H t l u

pub are_of_sessions : (S : Setup) (H : List Event) → Lawful S H → AreOfSessions H
are_of_sessions S H l s u =
    let h = held_holds H s u.txn u.holds in
    let range = session_range S H u.txn l (held_began S H s u.txn l h) in
    let same : session_of H u.txn ≡ s = eqb-true _ _ (and_parts _ _ h).0 in
    (omega (arith, range.0, same), omega (arith, range.1, same))

pub no_rows : {X : Type 0} (xs : List X) → length xs == 0 ≡ true → xs ≡ []
no_rows [] e = refl
no_rows (x ∷ xs) e = absurd (let n : length (x ∷ xs) ≡ 0 = grind (arith, nat_tests) in omega arith)
