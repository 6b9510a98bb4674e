-- An abort: the transactions of its cascade fall one at a time.
use Rattle.std.proofs.Common.{◌≡◌, ℕ, zero, suc, ◌+◌, ◌≤◌, true, List, [], ◌∷◌, length, map, drop, slice_get, Some, refl, sym, ap, ◌∙◌, subst, arith}
use Rattle.teb_rules.specs.declared.names.Cause.{Cause}
use Rattle.teb_rules.specs.declared.names.Cause.TheVariants.{After}
use Rattle.teb_rules.specs.declared.names.Txn.{Txn}
use Rattle.teb_rules.specs.declared.history.Event.{Event}
use Rattle.teb_rules.specs.declared.history.Event.TheVariants.{Gone}
use Rattle.teb_rules.specs.history.Phases.{unfinished}
use Rattle.teb_rules.specs.Setup.{Setup}
use Rattle.teb_rules.specs.Cascade.{cascade, blamed, fall_in_turn, abort, txn}
use Rattle.teb_rules.specs.laws.TreeFacts.{TreeFacts}
use Rattle.teb_rules.specs.laws.Lawful.{Lawful}
use Rattle.teb_rules.proofs.lemmas.laws.Answers.{Good}
use Rattle.teb_rules.proofs.lemmas.laws.Cascades.{abort_good}
use Rattle.abort_cascade.specs.Rounds.{blames}
use Rattle.engine_core.specs.declared.engine_state.EngineState.{EngineState}

-- progress of an abort of t: `first` is the state before it, `now` the state after i transactions of the cascade have fallen
pub record HasFallen {C : Type 0} {g : _} (first now : EngineState C g) (t : ℕ) (c : Cause) (i : ℕ) : Type 0 where
  pub events : fall_in_turn first.history.events t (drop i (cascade first.history.events t)) now.history.events ≡ abort first.history.events t c
  pub setup : now.setup ≡ first.setup
  pub left : length (cascade first.history.events t) ≤ i + now.room

-- p is the i-th transaction of the cascade, with the transaction that it blames
pub record IsNext (H : List Event) (t i : ℕ) (p : Txn × Txn) : Type 0 where
  pub rest : drop i (cascade H t) ≡ p.0.0 ∷ drop (i + 1) (cascade H t)
  pub blame : p.1 ≡ txn (blamed H t p.0.0)

pub next_fallen : (H : List Event) (t i : ℕ) (p : Txn × Txn) → slice_get (blames H t) i ≡ Some p → IsNext H t i p
next_fallen H t i p e = let r = go (cascade H t) i e in record { rest = r.0; blame = r.1 }
  where
    go : (us : List ℕ) (i : ℕ) → slice_get (map (λ u. (txn u, txn (blamed H t u))) us) i ≡ Some p → (drop i us ≡ p.0.0 ∷ drop (i + 1) us) × (p.1 ≡ txn (blamed H t p.0.0))
    go [] i e = absurd (cc)
    go (u ∷ us) zero e =
        let q : (txn u, txn (blamed H t u)) ≡ p = cc in
        let v : u ≡ p.0.0 = ap (λ (z : Txn × Txn). z.0.0) q in
        (ap (λ (w : ℕ). w ∷ us) v, sym (ap (λ (z : Txn × Txn). z.1) q) ∙ ap (λ (w : ℕ). txn (blamed H t w)) v)
    go (u ∷ us) (suc i) e = let r = go us i e in let n : suc i + 1 ≡ suc (i + 1) = omega arith in (r.0 ∙ ap (λ (m : ℕ). p.0.0 ∷ drop m (u ∷ us)) (sym n), r.1)

fall_cons : (H : List Event) (t u : ℕ) (us : List ℕ) (P : List Event) → fall_in_turn H t (u ∷ us) P ≡ fall_in_turn H t us (Gone (txn u) (After (txn (blamed H t u))) ∷ P)
unfolding fall_in_turn
fall_cons H t u us P = refl

fall_before : (S : Setup) (H : List Event) (t : ℕ) (us : List ℕ) (P : List Event) → Lawful S (fall_in_turn H t us P) → Lawful S P
unfolding fall_in_turn Lawful
fall_before S H t [] P l = l
fall_before S H t (u ∷ us) P l = (fall_before S H t us (Gone (txn u) (After (txn (blamed H t u))) ∷ P) l).1

fall_unfinished : (S : Setup) (H : List Event) (t u : ℕ) (us : List ℕ) (P : List Event) → Lawful S (fall_in_turn H t (u ∷ us) P) → unfinished P u ≡ true
unfolding Lawful
fall_unfinished S H t u us P l = (fall_before S H t us (Gone (txn u) (After (txn (blamed H t u))) ∷ P) (subst (Lawful S) (fall_cons H t u us P) l)).0

-- the next transaction of the cascade is still unfinished
pub next_unfinished : (S : Setup) (a : TreeFacts S) (H P : List Event) (t : ℕ) (c : Cause) (i : ℕ) (p : Txn × Txn) → Good S H → unfinished H t ≡ true
    → fall_in_turn H t (drop i (cascade H t)) P ≡ abort H t c → IsNext H t i p → unfinished P p.0.0 ≡ true
next_unfinished S a H P t c i p g u e n = fall_unfinished S H t p.0.0 (drop (i + 1) (cascade H t)) P
    (subst (λ (us : List ℕ). Lawful S (fall_in_turn H t us P)) n.rest (subst (Lawful S) (sym e) (abort_good S a H t c g u).legal))

pub next_events : (H P G : List Event) (t : ℕ) (c : Cause) (i : ℕ) (p : Txn × Txn) → fall_in_turn H t (drop i (cascade H t)) P ≡ abort H t c → IsNext H t i p → G ≡ Gone p.0 (After p.1) ∷ P
    → fall_in_turn H t (drop (i + 1) (cascade H t)) G ≡ abort H t c
next_events H P G t c i p e n q =
    ap (fall_in_turn H t (drop (i + 1) (cascade H t))) (q ∙ ap (λ (w : Txn). Gone p.0 (After w) ∷ P) n.blame)
    ∙ sym (fall_cons H t p.0.0 (drop (i + 1) (cascade H t)) P)
    ∙ sym (ap (λ (us : List ℕ). fall_in_turn H t us P) n.rest) ∙ e

-- the abort before the first transaction of its cascade falls, and after the last one
pub first_events : (H G : List Event) (t : Txn) (c : Cause) → G ≡ Gone t c ∷ H → fall_in_turn H t.0 (drop 0 (cascade H t.0)) G ≡ abort H t.0 c
unfolding abort
first_events H G t c q = ap (fall_in_turn H t.0 (cascade H t.0)) q

pub last_events : (H G : List Event) (t : ℕ) (c : Cause) (i : ℕ) → i ≡ length (cascade H t) → fall_in_turn H t (drop i (cascade H t)) G ≡ abort H t c → G ≡ abort H t c
unfolding fall_in_turn
last_events H G t c i n e = sym (ap (λ (us : List ℕ). fall_in_turn H t us G) (none (cascade H t) i n)) ∙ e
  where
    none : (us : List ℕ) (i : ℕ) → i ≡ length us → drop i us ≡ []
    none us i n = ap (λ (k : ℕ). drop k us) n ∙ drop_whole us
      where
        drop_whole : (us : List ℕ) → drop (length us) us ≡ []
        drop_whole [] = refl
        drop_whole (u ∷ us) = drop_whole us

-- a transaction that is lawfully aborted was unfinished
pub abort_unfinished : (S : Setup) (H : List Event) (t : ℕ) (c : Cause) → Lawful S (abort H t c) → unfinished H t ≡ true
unfolding abort Lawful
abort_unfinished S H t c l = (fall_before S H t (cascade H t) (Gone (txn t) c ∷ H) l).0
