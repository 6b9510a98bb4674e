-- Which sessions have a script, and how often each occurs in the lists.
use Rattle.std.proofs.Common.{◌≡◌, ◌≢◌, ℕ, suc, ◌+◌, ◌-◌, ◌≤◌, Bool, true, false, cond, List, [], ◌∷◌, length, filter, Option, Some, None, refl, sym, ap, ◌∙◌, subst, arith}
use Rattle.std.specs.Option.{is_some}
use mathlib.Core.Logic.{dite}
use native.Mathlib.Decide.{dec_le}
use Rattle.teb_rules.specs.history.Phases.{numbers}
use Rattle.turn_lock.specs.Counts.{same, times, count_from}
use Rattle.turn_lock.proofs.Counts.{same_no, times-count_from}
use Rattle.session_tasks.specs.Scripted.{Scripted, place_in}
use Rattle.session_tasks.proofs.InOrder.{all_sessions, sessions_from}
use Rattle.session_tasks.proofs.Placing.{place_lacks, place_script}
use Rattle.session_tasks.specs.pool.Rising.{Rising}
use Rattle.session_tasks.specs.pool.Taken.{HasScript}
use Rattle.session_tasks.specs.pool.Waits.{scripted_of, scripted}
use Rattle.session_tasks.proofs.lemmas.pool.Risings.{rising_filter, rising_from, rising_lower}
use Rattle.teb_rules.specs.declared.names.TheConstants.{SESSIONS}

module _ (test : ℕ → Bool) (s : ℕ) where
  pub times_kept : (xs : List ℕ) → test s ≡ true → times s (filter test xs) ≡ times s xs
  times_kept [] e = refl
  times_kept (x ∷ xs) e = go (test x) refl (times_kept xs e)
    where
      go : (b : Bool) → test x ≡ b → times s (filter test xs) ≡ times s xs → times s (cond b (x ∷ filter test xs) (filter test xs)) ≡ same s x + times s xs
      go true q h = omega arith
      go false q h = let n : s ≢ x = (λ p. let z : true ≡ false = sym e ∙ (ap test p ∙ q) in cc) in let z = same_no s x n in omega arith

  pub times_dropped : (xs : List ℕ) → test s ≡ false → times s (filter test xs) ≡ 0
  times_dropped [] e = refl
  times_dropped (x ∷ xs) e = go (test x) refl (times_dropped xs e)
    where
      go : (b : Bool) → test x ≡ b → times s (filter test xs) ≡ 0 → times s (cond b (x ∷ filter test xs) (filter test xs)) ≡ 0
      go true q h = let n : s ≢ x = (λ p. let z : true ≡ false = sym q ∙ (ap test (sym p) ∙ e) in cc) in let z = same_no s x n in omega arith
      go false q h = h

  pub times_less : (xs : List ℕ) → times s (filter test xs) ≤ times s xs
  times_less [] = omega arith
  times_less (x ∷ xs) = go (test x) (times_less xs)
    where
      go : (b : Bool) → times s (filter test xs) ≤ times s xs → times s (cond b (x ∷ filter test xs) (filter test xs)) ≤ same s x + times s xs
      go true h = omega arith
      go false h = omega arith

pub numbers_once : (s : ℕ) → times s (numbers SESSIONS) ≤ 1
numbers_once s =
    let o = times-count_from SESSIONS 1 s in
    let e : times s (count_from 1 SESSIONS) ≡ times s (numbers SESSIONS) = ap (times s) all_sessions in
    dite (dec_le 1 s)
    (λ (low : 1 ≤ s). dite (dec_le (suc SESSIONS) s) (λ (out : suc SESSIONS ≤ s). let z = o.2 out in omega arith) (λ n. let z = o.0 low (omega arith) in omega arith))
    (λ n. let z = o.1 (omega arith) in omega arith)

numbers_within : (s : ℕ) → 1 ≤ s → s ≤ SESSIONS → times s (numbers SESSIONS) ≡ 1
numbers_within s low high = ap (times s) (sym all_sessions) ∙ (times-count_from SESSIONS 1 s).0 low (omega arith)

numbers_outside : (s : ℕ) → ((1 ≤ s) × (s ≤ SESSIONS) → ⊥) → times s (numbers SESSIONS) ≡ 0
numbers_outside s out =
    let o = times-count_from SESSIONS 1 s in
    let e : times s (count_from 1 SESSIONS) ≡ times s (numbers SESSIONS) = ap (times s) all_sessions in
    dite (dec_le 1 s)
    (λ (low : 1 ≤ s). dite (dec_le (suc SESSIONS) s) (λ (far : suc SESSIONS ≤ s). let z = o.2 far in omega arith) (λ n. absurd (out (low, omega arith))))
    (λ n. let z = o.1 (omega arith) in omega arith)

length_filter : (test : ℕ → Bool) (xs : List ℕ) → length (filter test xs) ≤ length xs
length_filter test [] = omega arith
length_filter test (x ∷ xs) = go (test x) (length_filter test xs)
  where
    go : (b : Bool) → length (filter test xs) ≤ length xs → length (cond b (x ∷ filter test xs) (filter test xs)) ≤ suc (length xs)
    go true h = omega arith
    go false h = omega arith

pub numbers_rise : Rising 0 (numbers SESSIONS)
numbers_rise = subst (Rising 0) all_sessions (rising_lower 1 0 (count_from 1 SESSIONS) (omega arith) (rising_from SESSIONS 1))

module _ (scripts : Scripted) where
  abbrev test : ℕ → Bool
  test s = is_some (place_in scripts s)

  yes_script : (s : ℕ) → HasScript scripts s → (o : Option ℕ) → place_in scripts s ≡ o → is_some o ≡ true
  yes_script s h None q = absurd (place_lacks scripts 0 s q h.place h.lines h.script)
  yes_script s h (Some i) q = refl

  no_script : (s : ℕ) → (HasScript scripts s → ⊥) → 1 ≤ s → s ≤ SESSIONS → (o : Option ℕ) → place_in scripts s ≡ o → is_some o ≡ false
  no_script s none low high None q = refl
  no_script s none low high (Some i) q = let f = place_script scripts s i q in absurd (none record { low = low; high = high; place = i; lines = f.0; script = f.1 })

  -- a session with a script occurs once in the list of such sessions, and no other session does
  pub scripted_once : (s : ℕ) → HasScript scripts s → times s (scripted scripts) ≡ 1
  scripted_once s h = times_kept test s (numbers SESSIONS) (yes_script s h (place_in scripts s) refl) ∙ numbers_within s h.low h.high

  pub scripted_none : (s : ℕ) → (HasScript scripts s → ⊥) → times s (scripted scripts) ≡ 0
  scripted_none s none = dite (dec_le 1 s)
      (λ (low : 1 ≤ s). dite (dec_le s SESSIONS)
      (λ (high : s ≤ SESSIONS). times_dropped test s (numbers SESSIONS) (no_script s none low high (place_in scripts s) refl))
      (λ n. let z = numbers_outside s (λ w. n w.1) in let l = times_less test s (numbers SESSIONS) in omega arith))
      (λ n. let z = numbers_outside s (λ w. n w.0) in let l = times_less test s (numbers SESSIONS) in omega arith)

  pub scripted_rises : Rising 0 (scripted scripts)
  scripted_rises = rising_filter test 0 (numbers SESSIONS) numbers_rise

  pub scripted_few : length (scripted scripts) ≤ SESSIONS
  scripted_few =
      let a = length_filter test (numbers SESSIONS) in
      let b : length (count_from 1 SESSIONS) ≡ length (numbers SESSIONS) = ap length all_sessions in
      let c : length (count_from 1 SESSIONS) ≡ SESSIONS = refl in omega arith

  -- the last of the sessions that are left is added to the divided ones
  pub one_more : (n k : ℕ) → n ≡ suc k → n ≤ SESSIONS → count_from (suc k) (SESSIONS - k) ≡ suc k ∷ count_from (suc n) (SESSIONS - n)
  one_more n k e l =
      sessions_from k (omega arith) ∙ ap (λ (p : ℕ × ℕ). suc k ∷ count_from p.0 p.1)
      (λ i. ((let a : suc (suc k) ≡ suc n = omega arith in a) i, (let b : SESSIONS - suc k ≡ SESSIONS - n = omega arith in b) i))

  filtered : (k : ℕ) (rest : List ℕ) (b : Bool) → test k ≡ b → scripted_of scripts (k ∷ rest) ≡ cond b (k ∷ scripted_of scripts rest) (scripted_of scripts rest)
  filtered k rest b e = ap (λ t. cond t (k ∷ scripted_of scripts rest) (scripted_of scripts rest)) e

  pub one_waits : (n k : ℕ) → n ≡ suc k → n ≤ SESSIONS → test (suc k) ≡ true → scripted_of scripts (count_from (suc k) (SESSIONS - k)) ≡ suc k ∷ scripted_of scripts (count_from (suc n) (SESSIONS - n))
  one_waits n k e l t = ap (scripted_of scripts) (one_more n k e l) ∙ filtered (suc k) (count_from (suc n) (SESSIONS - n)) true t

  pub one_idles : (n k : ℕ) → n ≡ suc k → n ≤ SESSIONS → test (suc k) ≡ false → scripted_of scripts (count_from (suc k) (SESSIONS - k)) ≡ scripted_of scripts (count_from (suc n) (SESSIONS - n))
  one_idles n k e l t = ap (scripted_of scripts) (one_more n k e l) ∙ filtered (suc k) (count_from (suc n) (SESSIONS - n)) false t
