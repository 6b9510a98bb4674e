-- After the End of a session it holds no transaction, and all other sessions hold what they held.
use Rattle.std.proofs.Common.{◌≡◌, ◌≢◌, ℕ, Bool, true, false, cond, ◌&&◌, ◌||◌, eqb, leb, List, [], ◌∷◌, find, Some, None, refl, sym, ◌∙◌, ap, subst, inl, inr, arith, eqb-true, unwrap_or}
use Rattle.std.proofs.lemmas.Bool.{and_from, and_parts, both_ways, cases_eq, false_from_ne_true, le-leb}
use Rattle.teb_rules.specs.declared.names.TheConstants.{SESSIONS}
use Rattle.teb_rules.specs.declared.names.Session.{Session}
use Rattle.teb_rules.specs.declared.names.Cause.TheVariants.{Asked, Ended}
use Rattle.teb_rules.specs.declared.names.Reply.TheVariants.{Aborted}
use Rattle.teb_rules.specs.declared.names.Request.{Request}
use Rattle.teb_rules.specs.declared.names.Request.TheVariants as request
use Rattle.teb_rules.specs.declared.history.Event.{Event}
use Rattle.teb_rules.specs.declared.history.Event.TheVariants.{Told}
use Rattle.teb_rules.specs.history.Phases.{aborted, begun_count, cause_of, held, numbers, session_of, txns, unfinished, untold}
use Rattle.teb_rules.specs.Setup.{Setup, Store}
use Rattle.teb_rules.specs.Accepted.{IsSound}
use Rattle.teb_rules.specs.Answer.{Answered, answer, answer_of}
use Rattle.teb_rules.specs.Cascade.{abort, txn}
use Rattle.teb_rules.specs.laws.Lawful.{Lawful}
use Rattle.teb_rules.specs.laws.Laws.{reached}
use Rattle.teb_rules.proofs.lemmas.laws.Answers.{Good}
use Rattle.teb_rules.proofs.lemmas.laws.Holding.{Holds, count_abort, held_began, held_holds, holds_abort_other, holds_abort_self, holds_cases, holds_told, holds_told_self}
use Rattle.teb_rules.proofs.lemmas.laws.Reachable.{empty_good, run_good, untold_gone}
use Rattle.teb_rules.proofs.lemmas.laws.Sessions.{holds_one, session_range}
use Rattle.teb_rules.proofs.lemmas.laws.Sound.{tree_facts}
use Rattle.shell_runner.specs.Holders.{IsReleased}

-- tests that agree find the same number
find_same : (p q : ℕ → Bool) (us : List ℕ) → ((u : ℕ) → p u ≡ q u) → find p us ≡ find q us
find_same p q [] e = refl
find_same p q (u ∷ us) e = rw (e u, find_same p q us e) refl

find_nobody : (p : ℕ → Bool) (us : List ℕ) → ((u : ℕ) → p u ≡ false) → find p us ≡ None
find_nobody p [] e = refl
find_nobody p (u ∷ us) e = rw (e u, find_nobody p us e) refl

-- a session holds at most one transaction
same_holder : (S : Setup) (H : List Event) (s t v : ℕ) → Lawful S H → Holds H s t ≡ true → Holds H s v ≡ true → t ≡ v
same_holder S H s t v l a b =
    let p = and_parts _ _ a in
    let q = and_parts _ _ b in
    holds_one S H t v l (held_began S H s t l a) (held_began S H s v l b) p.1 q.1 (eqb-true _ _ p.0 ∙ sym (eqb-true _ _ q.0))

-- s held t and no session holds t any more: everything else is held as before
module _ (S : Setup) (H K : List Event) (s t : ℕ) (l : Lawful S H) (h : held H s ≡ Some t) (count : begun_count K ≡ begun_count H) (gone : (n : ℕ) → Holds K n t ≡ false)
    (kept : (n v : ℕ) → t ≢ v → Holds K n v ≡ Holds H n v) where
  is_held : Holds H s t ≡ true
  is_held = held_holds H s t h

  nobody : (v : ℕ) → Holds K s v ≡ false
  nobody v = elim (cases_eq t v) [
    | inl e ↦ subst (λ (z : ℕ). Holds K s z ≡ false) e (gone s)
    | inr ne ↦ kept s v ne ∙ false_from_ne_true _ (λ b. ne (same_holder S H s t v l is_held b))
  ]

  not_other : (n : ℕ) → n ≢ s → Holds H n t ≡ false
  not_other n ne = false_from_ne_true _ (λ b. ne (sym (eqb-true _ _ (and_parts _ _ b).0) ∙ eqb-true _ _ (and_parts _ _ is_held).0))

  as_before : (n : ℕ) → n ≢ s → (v : ℕ) → Holds K n v ≡ Holds H n v
  as_before n other v = elim (cases_eq t v) [
    | inl e ↦ subst (λ (z : ℕ). Holds K n z ≡ Holds H n z) e (gone n ∙ sym (not_other n other))
    | inr ne ↦ kept n v ne
  ]

  released_by : IsReleased s H K
  unfolding held txns
  released_by = record {
    none = find_nobody (Holds K s) (txns K) nobody;
    others = λ n other. find_same (Holds K n) (Holds H n) (txns K) (as_before n other) ∙ ap (λ (c : ℕ). find (Holds H n) (numbers c)) count;
  }

good : (X : Store) (H : List Event) → IsSound X.setup → (asked : _) → H ≡ reached X asked → Good X.setup H
good X H sound asked e = subst (Good X.setup) (sym e) (run_good X (tree_facts X.setup sound) sound.profiles asked [] (empty_good X.setup))

-- a session that holds a transaction has a number from 1 to SESSIONS
holder_range : (S : Setup) (H : List Event) (s t : ℕ) → Lawful S H → held H s ≡ Some t → leb 1 s && leb s SESSIONS ≡ true
holder_range S H s t l h =
    let holds : Holds H s t ≡ true = held_holds H s t h in
    let of : session_of H t ≡ s = eqb-true (session_of H t) s (and_parts (eqb (session_of H t) s) (unfinished H t || untold H t) holds).0 in
    let r = session_range S H t l (held_began S H s t l holds) in
    and_from _ _ (le-leb 1 s (omega (arith, of, r.0))) (le-leb s SESSIONS (omega (arith, of, r.1)))

-- the answer to the End of a session that holds t
ended : (X : Store) (H : List Event) (s : Session) (t : ℕ) → Lawful X.setup H → held H s.0 ≡ Some t
    → answer X H s request.End ≡ cond (aborted H t) (Aborted (unwrap_or (cause_of H t) Asked), Told (txn t) ∷ H) (Aborted Ended, abort H t Ended)
unfolding answer answer_of
ended X H s t l h = rw (holder_range X.setup H s.0 t l h, h) refl

-- after its End a session holds no transaction, and all others hold what they held
pub released : (X : Store) (H : List Event) (s : Session) (t : ℕ) → IsSound X.setup → (asked : List (Session × Request)) → H ≡ reached X asked → held H s.0 ≡ Some t
    → IsReleased s.0 H (answer X H s request.End).1
released X H s t sound asked leads h =
    let g = good X H sound asked leads in
    subst (λ (a : Answered). IsReleased s.0 H a.1) (sym (ended X H s t g.legal h)) (go (aborted H t) refl g)
  where
    holds : Holds H s.0 t ≡ true
    holds = held_holds H s.0 t h

    go : (b : Bool) → aborted H t ≡ b → Good X.setup H → IsReleased s.0 H (cond {A = Answered} b (Aborted (unwrap_or (cause_of H t) Asked), Told (txn t) ∷ H) (Aborted Ended, abort H t Ended)).1
    go true e g = released_by X.setup H (Told (txn t) ∷ H) s.0 t g.legal h (unfold begun_count in refl) (λ n. holds_told_self t H n e) (λ n v ne. holds_told t H n v ne)
    go false e g =
        let u : unfinished H t ≡ true = elim (holds_cases H s.0 t holds) [ inl u ↦ u | inr w ↦ absurd (both_ways _ e (untold_gone H t w)) ] in
        let a = tree_facts X.setup sound in
        released_by X.setup H (abort H t Ended) s.0 t g.legal h (count_abort H t Ended) (λ n. holds_abort_self X.setup a H t Ended g u refl n)
        (λ n v ne. holds_abort_other X.setup a H t Ended g u n v ne)
