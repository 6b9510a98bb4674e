-- The walks of the sessions of a closed hall, from what its passes have seen.
use Rattle.std.proofs.Common.{◌≡◌, ◌≢◌, ℕ, zero, suc, ◌+◌, ◌<◌, ◌≤◌, ◌==◌, if◌then◌else◌, Bool, true, false, List, [], ◌∷◌, map, Some, All, slice_get, eqb, refl, sym, ◌∙◌, ap, subst, arith, inl, inr}
use Rattle.std.proofs.lemmas.Bool.{eqb-true, cases_lt}
use Rattle.teb_rules.specs.declared.names.TheConstants.{SESSIONS}
use Rattle.teb_rules.specs.declared.names.Entry.{Entry}
use Rattle.teb_rules.specs.declared.names.Session.{Session}
use Rattle.teb_rules.specs.history.Phases.{numbers}
use Rattle.teb_rules.specs.Driver.{Ascending}
use Rattle.teb_rules.specs.Scripts.{IsWalk, entries_of}
use Rattle.turn_lock.specs.Counts.{Has, times}
use Rattle.session_server.specs.Halls.{Ghosts, Hall, Pass}
use Rattle.script_text.specs.declared.Line.{Line}
use Rattle.script_walk.specs.ScriptStates.{requests_on}
use Rattle.script_runner.specs.turns.Seats.{scripts_on}
use Rattle.session_server.specs.Passes.{IsWithin, number_of}
use Rattle.session_server.proofs.Numbers.{has_all}
use Rattle.session_tasks.specs.Scripted.{Scripted}
use Rattle.session_tasks.specs.Served.{IsServed}

-- an element with the number s that has P
pick : {A : Type 0} (f : A → ℕ) (P : A → Type 0) (xs : List A) (s : ℕ) → Has (map f xs) s → All P xs → (x : A) × (f x ≡ s) × P x
pick f P [] s has all = absurd (omega (arith, has))
pick {A} f P (x ∷ xs) s has all = go (s == f x) refl has (λ h. pick f P xs s h (λ k d low. all (suc k) d (omega (arith, low))))
  where
    go : (b : Bool) → (s == f x) ≡ b → 0 < (if b then 1 else 0) + times s (map f xs) → (Has (map f xs) s → (y : A) × (f y ≡ s) × P y) → (y : A) × (f y ≡ s) × P y
    go true e h more = (x, sym (eqb-true s (f x) e), all zero x (omega arith))
    go false e h more = more (let w : 0 < 0 + times s (map f xs) = h in let z : 0 < times s (map f xs) = omega (arith, w) in z)

-- the sessions of ascending scripts are 1 to SESSIONS
session_in : (scripts : Scripted) (least : ℕ) → Ascending least (scripts_on scripts) → (i : ℕ) (s : Session) (lines : List Line) → slice_get scripts i ≡ Some (s, lines) → (1 ≤ s.0) × (s.0 ≤ SESSIONS)
session_in [] least a i s lines e = absurd (cc)
session_in (x ∷ xs) least a zero s lines e = let z : x.0.0 ≡ s.0 = some_session x s lines e in (omega (arith, a.0, z), omega (arith, a.1, z))
  where
    some_session : (y : Session × List Line) (t : Session) (ls : List Line) → Some y ≡ Some (t, ls) → y.0.0 ≡ t.0
    some_session y t ls f = let k : y ≡ (t, ls) = cc in ap (λ (w : Session × List Line). w.0.0) k
session_in (x ∷ xs) least a (suc i) s lines e = session_in xs x.0.0 a.2 i s lines e

-- no entry is of a session outside 1 to SESSIONS
none_outside : (s : ℕ) (entries : List Entry) → All (λ (e : Entry). (1 ≤ e.session.0) × (e.session.0 ≤ SESSIONS)) entries → ((1 ≤ s) × (s ≤ SESSIONS) → ⊥) → entries_of s entries ≡ []
none_outside s [] within out = refl
none_outside s (e ∷ es) within out = go (eqb e.session.0 s) refl (none_outside s es (λ k d low. within (suc k) d (omega (arith, low))) out)
  where
    go : (b : Bool) → eqb e.session.0 s ≡ b → entries_of s es ≡ [] → (if b then e ∷ entries_of s es else entries_of s es) ≡ []
    go true q more = let w = within zero e (omega arith) in let z = eqb-true e.session.0 s q in absurd (out (omega (arith, w.0, z), omega (arith, w.1, z)))
    go false q more = more

module _ {C : Type 0} {g : Ghosts C} (h : Hall C g) (scripts : Scripted) (entries : List Entry) (passes : List (Pass C g)) (numbered : map number_of passes ≡ numbers SESSIONS)
    (served : All (IsServed h scripts) passes) (within : All (IsWithin entries) passes) where
  abbrev Both : Pass C g → Type 0
  Both p = IsServed h scripts p × IsWithin entries p

  pass_of : (s : Session) → 1 ≤ s.0 → s.0 ≤ SESSIONS → (p : Pass C g) × (p.session ≡ s) × Both p
  pass_of s low high =
      let p = pick number_of Both passes s.0 (has_all (map number_of passes) numbered s.0 low high) (λ k d below. (served k d below, within k d below)) in
      (p.0, ap (λ (n : ℕ). record { 0 = n }) p.1, p.2)

  pub walks_of : Ascending 0 (scripts_on scripts) → (i : ℕ) (s : Session) (lines : List Line) → slice_get scripts i ≡ Some (s, lines) → IsWalk (requests_on lines) (entries_of s.0 entries)
  walks_of ascending i s lines is =
      let b = session_in scripts 0 ascending i s lines is in
      let p = pass_of s b.0 b.1 in
      let walk = p.2.0.walk i lines (subst (λ (t : Session). slice_get scripts i ≡ Some (t, lines)) (sym p.1) is) in
      subst (λ (t : Session). IsWalk (requests_on lines) (entries_of t.0 entries)) p.1 (subst (IsWalk (requests_on lines)) (sym p.2.1.mine) walk)

  pub others_of : All (λ (e : Entry). (1 ≤ e.session.0) × (e.session.0 ≤ SESSIONS)) entries → (s : Session) → ((i : ℕ) (lines : List Line) → slice_get scripts i ≢ Some (s, lines))
      → entries_of s.0 entries ≡ []
  others_of bounds s none = elim (cases_lt 0 s.0) [
    | inr l ↦ none_outside s.0 entries bounds (λ w. omega (arith, w.0, l))
    | inl l ↦ elim (cases_lt SESSIONS s.0) [
      | inl m ↦ none_outside s.0 entries bounds (λ w. omega (arith, w.1, m))
      | inr m ↦ (
          let p = pass_of s (omega (arith, l)) m in
          let idle = p.2.0.idle (λ i lines e. none i lines (subst (λ (t : Session). slice_get scripts i ≡ Some (t, lines)) p.1 e)) in
          subst (λ (t : Session). entries_of t.0 entries ≡ []) p.1 (p.2.1.mine ∙ ap (entries_of p.0.session.0) idle.seen))
    ]
  ]
