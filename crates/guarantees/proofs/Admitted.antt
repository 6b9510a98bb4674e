-- No transaction began while a node told it to wait; so if the root is a leaf or admits one transaction per batch, each found its side idle.
use Rattle.std.proofs.Common.{◌≡◌, ◌≢◌, ◌⊎◌, ℕ, suc, ◌+◌, fold, ◌<◌, ◌≤◌, Bool, true, false, not, cond, ◌&&◌, ◌||◌, eqb, ltb, leb, List, [], ◌∷◌, length, find, filter}
use Rattle.std.proofs.Common.{count_by, Option, Some, None, refl, sym, ◌∙◌, ap, subst, inl, inr, arith, le_refl, lt-ltb, le-ltb, leb-true, le-leb, eq-eqb, ne_eqb}
use Rattle.std.proofs.lemmas.Bool.{and_from, or_cases, both_ways, cases_Bool, cases_lt, not_from_false}
use Rattle.teb_rules.specs.declared.names.Kind.{Kind}
use Rattle.teb_rules.specs.declared.names.Session.{Session}
use Rattle.teb_rules.specs.declared.names.Spot.{Spot}
use Rattle.teb_rules.specs.declared.names.Txn.{Txn}
use Rattle.teb_rules.specs.declared.names.Cause.{Cause}
use Rattle.teb_rules.specs.declared.names.ControlKind.{ControlKind}
use Rattle.teb_rules.specs.declared.names.ControlKind.TheVariants.{Locks, Pipeline, Timestamp, Snapshot}
use Rattle.teb_rules.specs.declared.history.Event.{Event}
use Rattle.teb_rules.specs.declared.history.Event.TheVariants.{Began, Got, Put, Ready, Done, Gone, Told}
use Rattle.teb_rules.specs.history.Positions.{upto}
use Rattle.teb_rules.specs.history.Phases.{began_at, is_began, spot_of, txns, unfinished}
use Rattle.teb_rules.specs.declared.Stop.TheVariants.{Wait as Waits}
use Rattle.teb_rules.specs.declared.Verdict.{Verdict}
use Rattle.teb_rules.specs.declared.Verdict.TheVariants.{Go, Wait}
use Rattle.teb_rules.specs.Verdicts.{wait_for}
use Rattle.teb_rules.specs.Setup.{Setup, Store, among}
use Rattle.teb_rules.specs.Tree.{has_batches, is_locks, is_pipeline, is_snapshot, is_timestamp, leaf, next_of, on, path, row, side, side_at}
use Rattle.teb_rules.specs.Accepted.{has_types}
use Rattle.teb_rules.specs.Batches.{start}
use Rattle.teb_rules.specs.Serializes.{In}
use Rattle.teb_rules.specs.Stops.{begin_stop, on_begin, stop_of, stop_with}
use Rattle.teb_rules.specs.Cascade.{abort, cascade, fall_in_turn, txn}
use Rattle.teb_rules.specs.laws.Lawful.{Lawful}
use Rattle.teb_rules.specs.laws.TreeFacts.{TreeFacts}
use Rattle.teb_rules.proofs.lemmas.laws.Batches.{idle_from}
use Rattle.teb_rules.proofs.lemmas.laws.Locks.{In-txns, find_none}
use Rattle.teb_rules.proofs.lemmas.laws.Meeting.{Linked, Rooted, end_is, path_good}
use Rattle.teb_rules.proofs.lemmas.laws.Serial.{In-filter, end_of, path_leaf}
use Rattle.teb_rules.proofs.lemmas.laws.Nodes.{front_of}
use Rattle.teb_rules.proofs.lemmas.laws.Timeline.{event_first, kind-lt, spot-upto, on-upto, side-upto, Lawful-upto, begun_there, upto-unfinished}
use Rattle.teb_rules.proofs.lemmas.laws.Waits.{node}
use Rattle.guarantees.specs.Shapes.{keeps_time, orders_by_commits}
use Rattle.guarantees.proofs.Following.{Keeps, is_plain}
use Rattle.guarantees.proofs.Strict.{BeginsIdle}

-- no transaction of the history began while a node told it to wait
abbrev pub Admits : Setup → List Event → Type 0
Admits S [] = Unit {0}
Admits S (Began t s k i ∷ P) = ((u n : ℕ) → begin_stop S P (record { kind = k; instance = i }) ≡ Waits (txn u) (node n) → ⊥) × Admits S P
Admits S (_ ∷ P) = Admits S P

plain_admits : (S : Setup) (e : Event) (P : List Event) → is_plain e ≡ true → Admits S P → Admits S (e ∷ P)
plain_admits S (Began t s k i) P h q = absurd (cc)
plain_admits S (Got t x w v) P h q = q
plain_admits S (Put t x v) P h q = q
plain_admits S (Ready t) P h q = q
plain_admits S (Done t) P h q = q
plain_admits S (Gone t c) P h q = absurd (cc)
plain_admits S (Told t) P h q = q

fall_admits : (S : Setup) (H : List Event) (t : ℕ) (us : List ℕ) (P : List Event) → Admits S P → Admits S (fall_in_turn H t us P)
unfolding fall_in_turn
fall_admits S H t [] P q = q
fall_admits S H t (u ∷ us) P q = fall_admits S H t us _ q

abort_admits : (S : Setup) (H : List Event) (t : ℕ) (c : Cause) → Admits S H → Admits S (abort H t c)
unfolding abort
abort_admits S H t c q = fall_admits S H t (cascade H t) _ q

pub keeps_admits : (X : Store) → Keeps X (Admits X.setup)
keeps_admits X = record {
  plain = plain_admits X.setup;
  begins = λ s k P f q. (f, q);
  aborts = λ H t c g u a q. abort_admits X.setup H t c q;
}

rest_admits : (S : Setup) (e : Event) (P : List Event) → Admits S (e ∷ P) → Admits S P
rest_admits S (Began t s k i) P q = q.1
rest_admits S (Got t x w v) P q = q
rest_admits S (Put t x v) P q = q
rest_admits S (Ready t) P q = q
rest_admits S (Done t) P q = q
rest_admits S (Gone t c) P q = q
rest_admits S (Told t) P q = q

Admits-upto : (S : Setup) (H : List Event) (i : ℕ) → Admits S H → Admits S (upto i H)
unfolding upto
Admits-upto S [] i q = tt
Admits-upto S (e ∷ P) i q = elim (cases_lt (length P) i) [
  | inl h ↦ rw (lt-ltb (length P) i h) q
  | inr h ↦ rw (le-ltb (length P) i h) (Admits-upto S P i (rest_admits S e P q))
]

spot_here : (u : Txn) (a : Session) (k : Kind) (i : ℕ) (P : List Event) (t : ℕ) → eqb u.0 t ≡ true → spot_of (Began u a k i ∷ P) t ≡ record { kind = k; instance = i }
unfolding spot_of
spot_here u a k i P t h = rw h refl

-- at the Began of t, no node told it to wait
began_free : (S : Setup) (H : List Event) (t : ℕ) → Admits S H → began_at H t < length H → spot_of (upto (suc (began_at H t)) H) t ≡ spot_of H t →
    (u n : ℕ) → begin_stop S (upto (began_at H t) H) (spot_of H t) ≡ Waits (txn u) (node n) → ⊥
unfolding began_at
began_free S H t q b same = let f = event_first (is_began t) H b in
    go f.event (upto (began_at H t) H) f.passes (subst (Admits S) f.is (Admits-upto S H (suc (began_at H t)) q)) (sym same ∙ ap (λ (Q : List Event). spot_of Q t) f.is)
  where
    go : (e : Event) (P : List Event) → is_began t e ≡ true → Admits S (e ∷ P) → spot_of H t ≡ spot_of (e ∷ P) t → (u n : ℕ) → begin_stop S P (spot_of H t) ≡ Waits (txn u) (node n) → ⊥
    go (Began s a k i) P h r e = subst (λ (z : Spot). (u n : ℕ) → begin_stop S P z ≡ Waits (txn u) (node n) → ⊥) (sym (e ∙ spot_here s a k i P t h)) r.0
    go (Got s x w v) P h r e = absurd (cc)
    go (Put s x v) P h r e = absurd (cc)
    go (Ready s) P h r e = absurd (cc)
    go (Done s) P h r e = absurd (cc)
    go (Gone s c) P h r e = absurd (cc)
    go (Told s) P h r e = absurd (cc)

-- if the stop of a path is not a wait, the first node does not wait
first_free : (f : ℕ → Verdict) (ns : List ℕ) → Rooted ns → ((u n : ℕ) → stop_of f ns ≡ Waits (txn u) (node n) → ⊥) → (u : ℕ) → f 0 ≡ Wait (txn u) → ⊥
unfolding stop_of
first_free f [] r h u e = absurd r
first_free f (n ∷ ns) r h u e = h u n (ap (λ (v : Verdict). stop_with n v (stop_of f ns)) (ap f r ∙ e))

wait_none : (o : Option ℕ) → ((u : ℕ) → wait_for o ≡ Wait (txn u) → ⊥) → o ≡ None
wait_none None h = refl
wait_none (Some u) h = absurd (h u refl)

cond_wait : (b : Bool) (v : Verdict) → b ≡ true → cond b v Go ≡ v
cond_wait b v h = rw h refl

-- if an element of a list passes the test, the count is not 0
counted_to : ℕ → (ℕ → Bool) → List ℕ → ℕ
counted_to a p us = fold (λ a u. a + cond (p u) 1 0) a us

at_least : (a d r : ℕ) → a + d ≤ r → a ≤ r
at_least a d r h = omega arith

count_grows : (p : ℕ → Bool) (us : List ℕ) (a : ℕ) → a ≤ counted_to a p us
unfolding counted_to
count_grows p [] a = le_refl a
count_grows p (v ∷ vs) a = at_least a (cond (p v) 1 0) _ (count_grows p vs (a + cond (p v) 1 0))

less_by : (a d r : ℕ) → d ≡ 1 → a + d ≤ r → a < r
less_by a d r e h = omega arith

less_than : (a d r : ℕ) → a + d < r → a < r
less_than a d r h = omega arith

count_has : (p : ℕ → Bool) (us : List ℕ) (u a : ℕ) → In u us → p u ≡ true → a < counted_to a p us
unfolding counted_to
count_has p [] u a i h = absurd i
count_has p (v ∷ vs) u a i h = elim i [
  | inl e ↦ less_by a (cond (p v) 1 0) _ (ap (λ (b : Bool). cond b 1 0) (ap p e ∙ h)) (unfold counted_to in count_grows p vs (a + cond (p v) 1 0))
  | inr j ↦ less_than a (cond (p v) 1 0) _ (count_has p vs u (a + cond (p v) 1 0) j h)
]

count_some : (p : ℕ → Bool) (us : List ℕ) (u : ℕ) → In u us → p u ≡ true → 0 < count_by p us
unfolding counted_to
count_some p us u i h = count_has p us u 0 i h

-- a path that does not end at the root leaves it on the same side for every transaction
inner_side : (xs : List ℕ) (t u : ℕ) → Rooted xs → end_of xs ≢ 0 → next_of 0 t xs ≡ next_of 0 u xs
unfolding next_of end_of
inner_side [] t u r h = absurd r
inner_side (x ∷ []) t u r h = absurd (h r)
inner_side (x ∷ y ∷ ys) t u r h = rw r refl

-- the leaf of a type of the store has types
types_some : (k : ℕ) (ks : List ℕ) → among k ks ≡ true → ltb 0 (length ks) ≡ true
types_some k [] h = absurd (cc)
types_some k (x ∷ xs) h = lt-ltb 0 (suc (length xs)) (omega arith)

inner_leaf : (S : Setup) (a : TreeFacts S) (s : Spot) → s.kind.0 < S.types → has_types S.tree 0 ≡ false → leaf S.tree s ≢ 0
inner_leaf S a s h f e = both_ways _ f (types_some s.kind.0 _ (subst (λ (n : ℕ). among s.kind.0 (row S.tree n).types ≡ true) e (a.housed s h).1))

path_end : (S : Setup) (a : TreeFacts S) (s : Spot) → s.kind.0 < S.types → end_of (path S.tree s) ≡ leaf S.tree s
path_end S a s h = ap end_of (path_leaf S a s h) ∙ end_is (leaf S.tree s) (front_of S a (leaf S.tree s))

-- if the root admits one transaction per batch, no transaction begins on a side that is not idle
one_a_batch : (S : Setup) (a : TreeFacts S) (H : List Event) → Lawful S H → Admits S H → has_batches S.tree 0 ≡ true → has_types S.tree 0 ≡ false → leb (row S.tree 0).batch 1 ≡ true → BeginsIdle S H
unfolding BeginsIdle begin_stop on_begin side side_at
one_a_batch S a H l q hb ht one t b =
    let i = began_at H t in
    let P = upto i H in
    let s = spot_of H t in
    let kt = kind-lt S H t l b in
    let il : i ≤ length H = omega arith in
    let lp = Lawful-upto S H i l in
    let members = filter (λ u. on S P 0 u && eqb (side S P 0 u) (side_at S.tree 0 s 0)) (txns P) in
    let full : ℕ → Bool = λ u. leb (row S.tree 0).batch (count_by (λ v. eqb (start S P 0 v) (start S P 0 u)) members) in
    let inner : (has_batches S.tree 0 && not (eqb 0 (leaf S.tree s))) ≡ true = and_from _ _ hb (not_from_false _ (ne_eqb 0 (leaf S.tree s) (λ e. inner_leaf S a s kt ht (sym e)))) in
    let free = first_free (on_begin S P s) (path S.tree s) (path_good S a s kt).rooted (began_free S H t q b (spot-upto S H (suc i) t l b (le_refl _))) in
    let none : find full (filter (unfinished P) members) ≡ None = wait_none (find full (filter (unfinished P) members)) (λ u e. free u (cond_wait _ _ inner ∙ e)) in
    idle_from S H 0 (side S H 0 t) i l il (λ u w.
    let ub = w.begun in
    let on_side : side S P 0 u ≡ side_at S.tree 0 s 0 = side-upto S H i 0 u l il ub ∙ w.on_side ∙ inner_side (path S.tree s) t 0 (path_good S a s kt).rooted
    (λ e. inner_leaf S a s kt ht (sym (path_end S a s kt) ∙ e)) in
    let m : In u members = In-filter _ u (txns P) (In-txns S P u lp (begun_there H i u il ub)) (and_from _ _ (on-upto S H i 0 u l il ub ∙ w.on_node) (eq-eqb _ _ on_side)) in
    let no = find_none full (filter (unfinished P) members) u none (In-filter (unfinished P) u members m (upto-unfinished H i u il ub w.undone w.ungone)) in
    let c = count_some (λ v. eqb (start S P 0 v) (start S P 0 u)) members u m (eq-eqb _ _ refl) in
    let z = leb-true _ _ one in
    both_ways _ no (le-leb _ _ (omega arith)))

-- if the root is a leaf, each side is one transaction
alone_there : (S : Setup) (a : TreeFacts S) (xs : List ℕ) (v : ℕ) → Rooted xs → Linked S xs → has_types S.tree 0 ≡ true → next_of 0 v xs ≡ v
unfolding next_of
alone_there S a [] v r k h = absurd r
alone_there S a (x ∷ []) v r k h = refl
alone_there S a (x ∷ y ∷ ys) v r k h = absurd (let e : (row S.tree 0).types ≡ [] = subst (λ (n : ℕ). (row S.tree n).types ≡ []) r (a.leaves y x k.0) in
    both_ways _ (ap (λ (ks : List ℕ). ltb 0 (length ks)) e) h)

own_side : (S : Setup) (a : TreeFacts S) (H : List Event) (v : ℕ) → Lawful S H → began_at H v < length H → has_types S.tree 0 ≡ true → side S H 0 v ≡ v
unfolding side side_at
own_side S a H v l b h = let g = path_good S a (spot_of H v) (kind-lt S H v l b) in alone_there S a (path S.tree (spot_of H v)) v g.rooted g.linked h

alone_on_side : (S : Setup) (a : TreeFacts S) (H : List Event) → Lawful S H → has_types S.tree 0 ≡ true → BeginsIdle S H
unfolding BeginsIdle
alone_on_side S a H l ht t b = idle_from S H 0 (side S H 0 t) (began_at H t) l (let z : began_at H t ≤ length H = omega arith in z) (λ u w.
    let ub = w.begun in
    let e : u ≡ t = sym (own_side S a H u l (let z : began_at H u < length H = omega arith in z) ht) ∙ w.on_side ∙ own_side S a H t l b ht in
    let z = ap (began_at H) e in absurd (omega arith))

-- `keeps_time` means that the root orders by commits or that every Began finds its side idle
pub in_time : (S : Setup) (a : TreeFacts S) (H : List Event) → Lawful S H → Admits S H → keeps_time S ≡ true → (orders_by_commits S ≡ true) ⊎ BeginsIdle S H
in_time S a H l q h = elim (or_cases (orders_by_commits S || has_types S.tree 0) _ h) [
  | inl k ↦ elim (or_cases (orders_by_commits S) _ k) [ inl o ↦ inl o | inr t ↦ inr (alone_on_side S a H l t) ]
  | inr one ↦ elim (cases_Bool (has_types S.tree 0)) [
    | inl t ↦ inr (alone_on_side S a H l t)
    | inr t ↦ elim (kinds (row S.tree 0).control) [ inl o ↦ inl o | inr b ↦ inr (one_a_batch S a H l q b t one) ]
  ]
]
  where
    kinds : (c : ControlKind) → ((is_locks c || is_pipeline c) ≡ true) ⊎ ((is_timestamp c || is_snapshot c) ≡ true)
    kinds Locks = inl refl
    kinds Pipeline = inl refl
    kinds Timestamp = inr refl
    kinds Snapshot = inr refl
