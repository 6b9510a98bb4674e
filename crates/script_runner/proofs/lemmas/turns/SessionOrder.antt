-- The scripts of lines are in ascending order of their sessions.
use Rattle.std.proofs.Common.{◌≡◌, ℕ, zero, suc, ◌+◌, ◌<◌, ◌≤◌, ◌==◌, Bool, true, false, not, cond, List, [], ◌∷◌, length, filter, map, refl, arith}
use Rattle.std.specs.List.{range_with_len}
use Rattle.std.proofs.lemmas.Bool.{eqb-true}
use Rattle.teb_rules.specs.declared.names.TheConstants.{SESSIONS}
use Rattle.teb_rules.specs.declared.names.Session.{Session}
use Rattle.script_text.specs.declared.Line.{Line}
use Rattle.script_text.specs.Scripts.{session, session_numbers, lines_for, scripts_of}
use Rattle.teb_rules.specs.Driver.{Ascending}
use Rattle.script_runner.specs.turns.Seats.{scripts_on}
use Rattle.script_text.specs.Sessions.{AreOfSessions}

-- a number that has a line is a session number
of_session : (lines : List Line) (n : ℕ) → AreOfSessions lines → not (length (filter (λ (l : Line). l.session.0 == n) lines) == 0) ≡ true → (0 < n) × (n ≤ SESSIONS)
of_session [] n a h = absurd (cc)
of_session (l ∷ ls) n a h = go (l.session.0 == n) refl h (of_session ls n a.2)
  where
    go : (b : Bool) → (l.session.0 == n) ≡ b → not (length (cond b (l ∷ filter (λ (k : Line). k.session.0 == n) ls) (filter (λ (k : Line). k.session.0 == n) ls)) == 0) ≡ true →
        (not (length (filter (λ (k : Line). k.session.0 == n) ls) == 0) ≡ true → (0 < n) × (n ≤ SESSIONS)) → (0 < n) × (n ≤ SESSIONS)
    go true e k ih = let s = eqb-true l.session.0 n e in (omega (arith, a.0, s), omega (arith, a.1, s))
    go false e k ih = ih k

abbrev kept : List Line → ℕ → ℕ → List (Session × List Line)
kept lines a n = filter (λ (s : Session × List Line). not (length s.1 == 0)) (map (λ (k : ℕ). (session k, lines_for lines k)) (range_with_len a n))

ascend_from : (lines : List Line) → AreOfSessions lines → (least a n : ℕ) → ((k : ℕ) → a ≤ k → 0 < k → least < k) → Ascending least (scripts_on (kept lines a n))
unfolding lines_for
ascend_from lines s least a zero p = tt
ascend_from lines s least a (suc n) p = go (not (length (lines_for lines a) == 0)) refl (ascend_from lines s a (a + 1) n (λ k h z. omega (arith, h)))
    (ascend_from lines s least (a + 1) n (λ k h z. p k (omega (arith, h)) z))
  where
    go : (b : Bool) → not (length (lines_for lines a) == 0) ≡ b → Ascending a (scripts_on (kept lines (a + 1) n)) → Ascending least (scripts_on (kept lines (a + 1) n)) →
        Ascending least (scripts_on (cond b ((session a, lines_for lines a) ∷ kept lines (a + 1) n) (kept lines (a + 1) n)))
    go true e more same = let z = of_session lines a s e in (p a (omega arith) z.0, z.1, more)
    go false e more same = same

pub scripts_ascend : (lines : List Line) → AreOfSessions lines → Ascending 0 (scripts_on (scripts_of lines))
unfolding scripts_of session_numbers
scripts_ascend lines s = ascend_from lines s 0 0 256 (λ k h z. z)
