-- A session holds the transaction that it began last, or none.
use Rattle.std.proofs.Common.{◌≡◌, ℕ, suc, ◌<◌, ◌≤◌, List, [], ◌∷◌, Bool, true, false, cond, eqb, Option, Some, None, eq-eqb, eqb-true, ne_eqb, refl, sym, ◌∙◌, ap, subst, inl, inr, arith}
use Rattle.std.proofs.lemmas.Bool.{both_ways, cases_eq, and_parts, and_from, or_left}
use Rattle.teb_rules.specs.declared.names.Txn.{Txn}
use Rattle.teb_rules.specs.declared.names.Session.{Session}
use Rattle.teb_rules.specs.declared.names.Kind.{Kind}
use Rattle.teb_rules.specs.declared.names.Cause.{Cause}
use Rattle.teb_rules.specs.declared.history.Event.{Event}
use Rattle.teb_rules.specs.declared.history.Event.TheVariants.{Began, Got, Put, Ready, Done, Gone, Told}
use Rattle.teb_rules.specs.history.Phases.{begun_count, held, session_of, unfinished, untold}
use Rattle.teb_rules.specs.history.Live.{is_live}
use Rattle.teb_rules.specs.history.Written.{held_txn, txn_of}
use Rattle.teb_rules.specs.Setup.{Setup}
use Rattle.teb_rules.specs.laws.Lawful.{Lawful}
use Rattle.teb_rules.proofs.lemmas.laws.Holding.{Holds, held_holds, none_holds, held_began, holds_inert, holds_began, holds_done, holds_done_self, holds_gone, holds_told, holds_told_self}
use Rattle.teb_rules.proofs.lemmas.laws.Timeline.{begun_counted}
use Rattle.engine_core.specs.Latest.{latest_txn}

-- the session's latest transaction is one of those that have begun
latest-begun : (S : Setup) (H : List Event) (s : ℕ) → Lawful S H → (latest_txn H s).0 ≤ begun_count H
unfolding Lawful latest_txn begun_count
latest-begun S [] s l = omega arith
latest-begun S (Began t a k i ∷ P) s l = go (eqb a.0 s) l.0.0 (latest-begun S P s l.1)
  where
    go : (b : Bool) → t.0 ≡ suc (begun_count P) → (latest_txn P s).0 ≤ begun_count P → (cond b t (latest_txn P s)).0 ≤ suc (begun_count P)
    go true n h = omega arith
    go false n h = omega arith
latest-begun S (Got u x w z ∷ P) s l = latest-begun S P s l.1
latest-begun S (Put u x z ∷ P) s l = latest-begun S P s l.1
latest-begun S (Ready u ∷ P) s l = latest-begun S P s l.1
latest-begun S (Done u ∷ P) s l = latest-begun S P s l.1
latest-begun S (Gone u c ∷ P) s l = latest-begun S P s l.1
latest-begun S (Told u ∷ P) s l = latest-begun S P s l.1

-- the session's latest transaction was begun by that session
latest-session : (S : Setup) (H : List Event) (s : ℕ) → Lawful S H → 0 < (latest_txn H s).0 → session_of H (latest_txn H s).0 ≡ s
unfolding Lawful latest_txn session_of
latest-session S [] s l h = absurd (omega arith)
latest-session S (Began t a k i ∷ P) s l h = go (eqb a.0 s) refl h (latest-session S P s l.1)
  where
    older : (latest_txn P s).0 ≤ begun_count P → t.0 ≡ suc (begun_count P) → t.0 ≡ (latest_txn P s).0 → ⊥
    older b n e = absurd (omega arith)

    go : (b : Bool) → eqb a.0 s ≡ b → 0 < (cond b t (latest_txn P s)).0 → (0 < (latest_txn P s).0 → session_of P (latest_txn P s).0 ≡ s)
        → cond (eqb t.0 (cond b t (latest_txn P s)).0) a.0 (session_of P (cond b t (latest_txn P s)).0) ≡ s
    go true q h ih = rw (eq-eqb t.0 t.0 refl) (eqb-true _ _ q)
    go false q h ih = rw (ne_eqb t.0 (latest_txn P s).0 (older (latest-begun S P s l.1) l.0.0)) (ih h)
latest-session S (Got u x w z ∷ P) s l h = latest-session S P s l.1 h
latest-session S (Put u x z ∷ P) s l h = latest-session S P s l.1 h
latest-session S (Ready u ∷ P) s l h = latest-session S P s l.1 h
latest-session S (Done u ∷ P) s l h = latest-session S P s l.1 h
latest-session S (Gone u c ∷ P) s l h = latest-session S P s l.1 h
latest-session S (Told u ∷ P) s l h = latest-session S P s l.1 h

session_now : (t : Txn) (a : Session) (k : Kind) (i : ℕ) (P : List Event) (v : ℕ) → t.0 ≡ v → session_of (Began t a k i ∷ P) v ≡ a.0
unfolding session_of
session_now t a k i P v e = rw (eq-eqb t.0 v e) refl

held_before : (u : Txn) (c : Cause) (P : List Event) (s v : ℕ) → unfinished P v ≡ true → Holds (Gone u c ∷ P) s v ≡ true → Holds P s v ≡ true
unfolding session_of
held_before u c P s v w h = and_from _ _ (and_parts _ _ h).0 (or_left (unfinished P v) (untold P v) w)

-- the transaction that a session holds is the one that it began last
held-latest : (S : Setup) (H : List Event) (s v : ℕ) → Lawful S H → Holds H s v ≡ true → v ≡ (latest_txn H s).0
unfolding Lawful latest_txn
held-latest S [] s v l h = absurd (let z = held_began S [] s v l h in omega arith)
held-latest S (Began t a k i ∷ P) s v l h = elim (cases_eq t.0 v) [
  | inl e ↦ own e (eqb-true _ _ (and_parts _ _ h).0)
  | inr ne ↦ older (eqb a.0 s) refl (sym (holds_began t.0 a (record { kind = k; instance = i }) P s v ne) ∙ h) (held-latest S P s v l.1)
]
  where
    own : t.0 ≡ v → session_of (Began t a k i ∷ P) v ≡ s → v ≡ (cond (eqb a.0 s) t (latest_txn P s)).0
    own e q = rw (eq-eqb a.0 s (sym (session_now t a k i P v e) ∙ q)) (sym e)

    older : (b : Bool) → eqb a.0 s ≡ b → Holds P s v ≡ true → (Holds P s v ≡ true → v ≡ (latest_txn P s).0) → v ≡ (cond b t (latest_txn P s)).0
    older true q o ih = absurd (both_ways _ (none_holds S P a.0 l.1 l.0.3 v) (subst (λ (z : ℕ). Holds P z v ≡ true) (sym (eqb-true _ _ q)) o))
    older false q o ih = ih o
held-latest S (Got u x w z ∷ P) s v l h = held-latest S P s v l.1 (sym (holds_inert (Got u x w z) P s v refl) ∙ h)
held-latest S (Put u x z ∷ P) s v l h = held-latest S P s v l.1 (sym (holds_inert (Put u x z) P s v refl) ∙ h)
held-latest S (Ready u ∷ P) s v l h = held-latest S P s v l.1 (sym (holds_inert (Ready u) P s v refl) ∙ h)
held-latest S (Done u ∷ P) s v l h = elim (cases_eq u.0 v) [
  | inl e ↦ absurd (both_ways _ (holds_done_self S u.0 P s l.0.unfinished) (subst (λ (z : ℕ). Holds (Done u ∷ P) s z ≡ true) (sym e) h))
  | inr ne ↦ held-latest S P s v l.1 (sym (holds_done u.0 P s v ne) ∙ h)
]
held-latest S (Gone u c ∷ P) s v l h = elim (cases_eq u.0 v) [
  | inl e ↦ held-latest S P s v l.1 (held_before u c P s v (subst (λ (z : ℕ). unfinished P z ≡ true) e l.0) h)
  | inr ne ↦ held-latest S P s v l.1 (sym (holds_gone u.0 c P s v ne) ∙ h)
]
held-latest S (Told u ∷ P) s v l h = elim (cases_eq u.0 v) [
  | inl e ↦ absurd (both_ways _ (holds_told_self u.0 P s l.0) (subst (λ (z : ℕ). Holds (Told u ∷ P) s z ≡ true) (sym e) h))
  | inr ne ↦ held-latest S P s v l.1 (sym (holds_told u.0 P s v ne) ∙ h)
]

-- a session holds its latest transaction if that is live, and none otherwise
pub held_txn-latest : (S : Setup) (H : List Event) (s : Session) → Lawful S H → held_txn H s ≡ cond (is_live H (latest_txn H s.0).0) (Some (latest_txn H s.0)) None
held_txn-latest S H s l = go (is_live H (latest_txn H s.0).0) refl (held H s.0) refl
  where
    numbered : is_live H (latest_txn H s.0).0 ≡ true → 0 < (latest_txn H s.0).0
    numbered q = (begun_counted S H (latest_txn H s.0).0 l
        (held_began S H (session_of H (latest_txn H s.0).0) (latest_txn H s.0).0 l (and_from _ _ (eq-eqb (session_of H (latest_txn H s.0).0) (session_of H (latest_txn H s.0).0) refl) q))).0

    go : (b : Bool) → is_live H (latest_txn H s.0).0 ≡ b → (o : Option ℕ) → held H s.0 ≡ o → txn_of o ≡ cond b (Some (latest_txn H s.0)) None
    go true q (Some v) e = ap (λ (n : ℕ). Some (record { 0 = n })) (held-latest S H s.0 v l (held_holds H s.0 v e))
    go true q None e = absurd (both_ways _ (none_holds S H s.0 l e (latest_txn H s.0).0) (and_from _ _ (eq-eqb _ _ (latest-session S H s.0 l (numbered q))) q))
    go false q (Some v) e = absurd (both_ways _ q (subst (λ (z : ℕ). is_live H z ≡ true) (held-latest S H s.0 v l (held_holds H s.0 v e)) (and_parts _ _ (held_holds H s.0 v e)).1))
    go false q None e = refl
