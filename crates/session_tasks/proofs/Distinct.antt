-- Scripts in ascending order have distinct sessions.
use Rattle.std.proofs.Common.{◌≡◌, ℕ, zero, suc, ◌≤◌, List, [], ◌∷◌, map, Some, refl, ap, arith}
use Rattle.std.specs.List.{slice_get}
use Rattle.teb_rules.specs.declared.names.Session.{Session}
use Rattle.teb_rules.specs.declared.names.Request.{Request}
use Rattle.script_text.specs.declared.Line.{Line}
use Rattle.teb_rules.specs.Driver.{Ascending}
use Rattle.script_walk.specs.ScriptStates.{requests_on}
use Rattle.session_tasks.specs.Scripted.{Scripted, AreDistinct}

-- the sessions rise and are at least low
abbrev Rising : ℕ → Scripted → Type 0
Rising low [] = Unit {0}
Rising low (y ∷ ys) = (low ≤ y.0.0) × Rising (suc y.0.0) ys

at_least : (low : ℕ) (scripts : Scripted) (i : ℕ) (s : Session) (l : List Line) → Rising low scripts → slice_get scripts i ≡ Some (s, l) → low ≤ s.0
at_least low [] i s l a e = absurd (cc)
at_least low (y ∷ ys) zero s l a e = let z : y ≡ (s, l) = cc in let w : y.0.0 ≡ s.0 = ap (λ (v : Session × List Line). v.0.0) z in let b = a.0 in omega arith
at_least low (y ∷ ys) (suc i) s l a e = let r = at_least (suc y.0.0) ys i s l a.1 e in let b = a.0 in omega arith

rising_distinct : (low : ℕ) (scripts : Scripted) → Rising low scripts → AreDistinct scripts
rising_distinct low [] a i j s k l e f = absurd (cc)
rising_distinct low (y ∷ ys) a zero zero s k l e f = refl
rising_distinct low (y ∷ ys) a zero (suc j) s k l e f = let z : y ≡ (s, k) = cc in let w : y.0.0 ≡ s.0 = ap (λ (v : Session × List Line). v.0.0) z in let b = at_least (suc y.0.0) ys j s l a.1 f in
    absurd (omega arith)
rising_distinct low (y ∷ ys) a (suc i) zero s k l e f = let z : y ≡ (s, l) = cc in let w : y.0.0 ≡ s.0 = ap (λ (v : Session × List Line). v.0.0) z in let b = at_least (suc y.0.0) ys i s k a.1 e in
    absurd (omega arith)
rising_distinct low (y ∷ ys) a (suc i) (suc j) s k l e f = ap suc (rising_distinct (suc y.0.0) ys a.1 i j s k l e f)

-- the requests of the scripts
abbrev pub asked_by : Scripted → List (Session × List Request)
asked_by scripts = map (λ s. (s.0, requests_on s.1)) scripts

ascending_rises : (least : ℕ) (scripts : Scripted) → Ascending least (asked_by scripts) → Rising (suc least) scripts
ascending_rises least [] a = tt
ascending_rises least (y ∷ ys) a = ((let z = a.0 in omega arith), ascending_rises y.0.0 ys a.2)

pub ascending_distinct : (least : ℕ) (scripts : Scripted) → Ascending least (asked_by scripts) → AreDistinct scripts
ascending_distinct least scripts a = rising_distinct (suc least) scripts (ascending_rises least scripts a)
