-- The laws of every run, from the facts of lawful histories.
use Rattle.std.proofs.Common.{unwrap_or, ◌≡◌, ℕ, ◌<◌, ◌≤◌, true, false, eqb, List, [], ◌∷◌, length, Option, sym, ◌∙◌, ap, subst, inl, inr, arith, ℤ, ltb-true, ltb-false, le_refl, eqb-true, eq-eqb}
use Rattle.teb_rules.specs.declared.history.Event.{Event}
use Rattle.teb_rules.specs.declared.history.Event.TheVariants.{Got}
use Rattle.teb_rules.specs.laws.Laws.{reached, OfEveryRun, OfEveryStore, EveryRunSerializes, IsWriter, OrdersVersions, is_read, OrdersConflicts}
use Rattle.teb_rules.specs.laws.Laws.{RanksAgree, BatchesNest, CascadesAreFew, WaitsForOlder, OnlyGrows, Stands, ReadsAreStable, ServesAlone}
use Rattle.std.proofs.lemmas.Bool.{and_from, and_parts, or_cases, false_from_ne_true}
use Rattle.std.specs.List.{list_any}
use Rattle.teb_rules.specs.history.Accesses.{put_at, wrote}
use Rattle.teb_rules.specs.history.Phases.{aborted, began_at, unfinished}
use Rattle.teb_rules.specs.history.Positions.{upto}
use Rattle.teb_rules.proofs.lemmas.laws.Answers.{Good}
use Rattle.teb_rules.proofs.lemmas.laws.Assembly.{suffix_got, suffix_next}
use Rattle.teb_rules.proofs.lemmas.laws.Cascades.{unfinished_times}
use Rattle.teb_rules.proofs.lemmas.laws.Grows.{aborted_on, answer_on, committed_on, not_aborted, not_committed}
use Rattle.teb_rules.proofs.lemmas.laws.Intervals.{apart_or_same, interval, nested, open_while}
use Rattle.teb_rules.proofs.lemmas.laws.Nodes.{above, among-cases, front_of, meets_sym, way_front}
use Rattle.teb_rules.proofs.lemmas.laws.Pivots.{no_stake_pivot}
use Rattle.teb_rules.proofs.lemmas.laws.Positions.{upto_all}
use Rattle.teb_rules.proofs.lemmas.laws.Ranks.{commits, rank_up}
use Rattle.teb_rules.proofs.lemmas.laws.Reachable.{answer_good, empty_good, run_good}
use Rattle.teb_rules.proofs.lemmas.laws.ReadRule.{GotAt}
use Rattle.teb_rules.proofs.lemmas.laws.Serial.{commits_from}
use Rattle.teb_rules.proofs.lemmas.laws.Sessions.{cascade_few}
use Rattle.teb_rules.proofs.lemmas.laws.Sound.{tree_facts}
use Rattle.teb_rules.proofs.lemmas.laws.Theorem.{lawful_serializes, node_law}
use Rattle.teb_rules.proofs.lemmas.names.SameCells.{same_cell-true}
use Rattle.teb_rules.proofs.lemmas.laws.Transitive.{writers_ordered}
use Rattle.teb_rules.proofs.lemmas.laws.VersionOrder.{Writer, precedes_at, precedes_irreflexive, writer_of, writer_unfinished, writers_total}
use Rattle.teb_rules.proofs.lemmas.laws.Waits.{again_fair}
use Rattle.teb_rules.specs.laws.Lawful.{Lawful, ReadsRows}
use Rattle.teb_rules.specs.laws.Pivots.{HoldsNoPivot}
use Rattle.teb_rules.specs.laws.TreeFacts.{IsAbove, TreeFacts}
use Rattle.teb_rules.specs.declared.names.Cell.{Cell}
use Rattle.teb_rules.specs.declared.names.Request.{Request}
use Rattle.teb_rules.specs.declared.names.Session.{Session}
use Rattle.teb_rules.specs.Accepted.{HasProfiles, IsSound}
use Rattle.teb_rules.specs.Answer.{answer}
use Rattle.teb_rules.specs.Batches.{start, close, one_batch}
use Rattle.teb_rules.specs.Cascade.{txn}
use Rattle.teb_rules.specs.Setup.{Setup, Store, among}
use Rattle.teb_rules.specs.Tree.{on, side}
use Rattle.std.proofs.Common.{None}
use Rattle.teb_rules.proofs.lemmas.laws.Alone.{alone_served, quiet_begins}
use Rattle.teb_rules.proofs.lemmas.laws.Assembly.{read_done, seen_at}
use Rattle.teb_rules.proofs.lemmas.laws.Meeting.{meets_exists}
use Rattle.teb_rules.proofs.lemmas.laws.ReadRule.{from_own, from_row, from_seen, got_case}
use Rattle.teb_rules.proofs.lemmas.laws.Serial.{Commits}
use Rattle.teb_rules.specs.declared.names.Txn.{Txn}
use Rattle.teb_rules.specs.history.Phases.{begun}
use Rattle.teb_rules.proofs.lemmas.laws.Sessions.{holds_one}
use Rattle.teb_rules.proofs.lemmas.laws.RowReads.{run_rows}
use Rattle.teb_rules.specs.laws.Laws.{SessionsHoldOne}

good_run : (X : Store) (s : IsSound X.setup) (asked : List (Session × Request)) → Good X.setup (reached X asked)
good_run X s asked = run_good X (tree_facts X.setup s) s.profiles asked [] (empty_good X.setup)

-- a property of every good history holds of every run
of_good : (P : Setup → List Event → Type 0) → ((S : Setup) → TreeFacts S → HasProfiles S → (H : List Event) → Good S H → P S H) → OfEveryRun P
of_good P f X s asked = f X.setup (tree_facts X.setup s) s.profiles (reached X asked) (good_run X s asked)

of_store : (P : Store → List Event → Type 0) → ((X : Store) → TreeFacts X.setup → HasProfiles X.setup → (H : List Event) → Good X.setup H → P X H) → OfEveryStore P
of_store P f X s asked = f X (tree_facts X.setup s) s.profiles (reached X asked) (good_run X s asked)

pub every_run_serializes : EveryRunSerializes
unfolding ReadsRows
every_run_serializes X s asked = lawful_serializes X (tree_facts X.setup s) s.profiles (reached X asked) (good_run X s asked).legal (run_rows X asked [] tt)

writer_is : (S : Setup) (H : List Event) (x : Cell) (who t : ℕ) → Lawful S H → IsWriter H x who t → Writer H x who t
unfolding wrote aborted
writer_is S H x who t l w = elim w.puts [
  | inl p ↦ writer_of S H x who t l (record { put = ltb-true _ _ p; stands = ltb-false _ _ w.stands })
  | inr p ↦ (let u = unfinished_times H t p.1 in subst (λ (z : ℕ). Writer H x z t) p.0 (writer_unfinished S H x t l u.0 u.1 u.2))
]

pub lawful_orders : (S : Setup) → TreeFacts S → (H : List Event) → Lawful S H → OrdersVersions S H
lawful_orders S a H l = record {
  irreflexive = λ x u. precedes_irreflexive S H x u;
  transitive = λ x who u v w pu pv pw p q. writers_ordered S a H l x who u v w (writer_is S H x who u l pu) (writer_is S H x who v l pv) (writer_is S H x who w l pw) p q;
  total = λ x who u w pu pw ne. writers_total S a H x who u w l (writer_is S H x who u l pu) (writer_is S H x who w l pw) ne;
}

pub orders_versions : OfEveryRun OrdersVersions
orders_versions = of_good OrdersVersions (λ S a hp H g. lawful_orders S a H g.legal)

-- a read of the history, as an event at a position
record ReadAt (H : List Event) (t : ℕ) (x : Cell) (w : ℕ) : Type 0 where
  place : ℕ
  value : Option ℤ
  is : GotAt H place (txn t) x (txn w) value

read_is : (e : Event) (t : ℕ) (x : Cell) (w : ℕ) → is_read t x w e ≡ true → (v : Option ℤ) × (e ≡ Got (txn t) x (txn w) v)
read_is (Got s y u v) t x w h =
    let p = and_parts _ _ h in let q = and_parts _ _ p.0 in
    let a : s ≡ txn t = ap (λ (z : ℕ). record { 0 = z }) (eqb-true s.0 t q.0) in
    let b : y ≡ x = same_cell-true y x q.1 in
    let c : u ≡ txn w = ap (λ (z : ℕ). record { 0 = z }) (eqb-true u.0 w p.1) in
    (v, λ i. Got (a i) (b i) (c i) v)
read_is _ t x w h = absurd (cc)

read_at : (H G : List Event) (t : ℕ) (x : Cell) (w : ℕ) → length H ≤ length G → upto (length H) G ≡ H → list_any (is_read t x w) H ≡ true → ReadAt G t x w
read_at [] G t x w h q r = absurd (cc)
read_at (e ∷ P) G t x w h q r = elim (or_cases (is_read t x w e) (list_any (is_read t x w) P) r) [
  | inr k ↦ read_at P G t x w (omega arith) (suffix_next G e P q) k
  | inl k ↦ (let f = read_is e t x w k in record { place = length P; value = f.0; is = suffix_got G (txn t) x (txn w) f.0 P h (subst (λ (d : Event). upto (length (d ∷ P)) G ≡ d ∷ P) f.1 q) })
]

read_here : (H : List Event) (t : ℕ) (x : Cell) (w : ℕ) → list_any (is_read t x w) H ≡ true → ReadAt H t x w
read_here H t x w r = read_at H H t x w (le_refl _) (upto_all (length H) H (le_refl _)) r

wrote_put : (H : List Event) (t : ℕ) (x : Cell) → wrote H t x ≡ true → put_at H t x < length H
unfolding wrote
wrote_put H t x h = ltb-true _ _ h

conflicts : (S : Setup) → TreeFacts S → HasProfiles S → (H : List Event) → Good S H → OrdersConflicts S H
conflicts S a hp H g = record {
  writes = λ n u w x cu cw m pu pw p. let du = commits_from H u cu in let dw = commits_from H w cw in
      let bu : began_at H u < length H = (let z = commits S H u g.legal du in omega arith) in
      let bw : began_at H w < length H = (let z = commits S H w g.legal dw in omega arith) in
      (node_law S a hp H g.legal n).write_write u w x du dw m (wrote_put H u x pu) (wrote_put H w x pw) (sym (precedes_at S a H n x u w g.legal bu bw m) ∙ p);
  reads = λ n u w x cu cw m r. let f = read_here H w x u r in
      (node_law S a hp H g.legal n).write_read f.place (txn w) x (txn u) f.value f.is (commits_from H w cw) (commits_from H u cu) (meets_sym S H n u w m);
  overwrites = λ n u w v x cu cw m r ne pw p. let f = read_here H u x v r in
      (node_law S a hp H g.legal n).read_write f.place (txn u) x (txn v) f.value w f.is (λ e. ne (sym e)) (commits_from H u cu) (commits_from H w cw) m (wrote_put H w x pw) p;
}

pub orders_conflicts : OfEveryRun OrdersConflicts
orders_conflicts = of_good OrdersConflicts conflicts

-- a Got in a suffix of the history is a Got of the history at its position
stands_at : (H G : List Event) (t : Txn) (x : Cell) (w : Txn) (v : Option ℤ) → length H ≤ length G → upto (length H) G ≡ H → Stands (Got t x w v) H → (i : ℕ) × GotAt G i t x w v
stands_at [] G t x w v h q r = absurd r
stands_at (e ∷ P) G t x w v h q r = elim r [
  | inr k ↦ stands_at P G t x w v (omega arith) (suffix_next G e P q) k
  | inl k ↦ (length P, suffix_got G t x w v P h (subst (λ (d : Event). upto (length (d ∷ P)) G ≡ d ∷ P) k q))
]

stable : (S : Setup) → TreeFacts S → HasProfiles S → (H : List Event) → Good S H → ReadsAreStable S H
stable S a hp H g = λ t w x v c r pos ne.
    let ct = commits_from H t.0 c in
    let f = stands_at H H t x w v (le_refl _) (upto_all (length H) H (le_refl _)) r in
    let h : f.0 ≤ length H = (let z = f.1.place in omega arith) in
    let k = got_case S H f.0 t x w v g.legal f.1 in
    elim k.1 [
      | from_own p e ↦ absurd (ne e)
      | from_row p e q ↦ absurd (omega arith)
      | from_seen p e ↦ (let s = seen_at S H f.0 t.0 x w.0 g.legal h e in
          let d = read_done S a H f.0 t x w v g.legal f.1 ct s in
          let cw : Commits H w.0 = omega arith in
          let bt : began_at H t.0 < length H = (let z = commits S H t.0 g.legal ct in omega arith) in
          let bw : began_at H w.0 < length H = (let z = s.began in omega arith) in
          let m = meets_exists S a H t.0 w.0 g.legal bt bw (λ z. ne (sym z)) in
          k.2 pos ∙ ap (λ (o : Option (Option ℤ)). unwrap_or o None) (sym ((node_law S a hp H g.legal m.node).stable f.0 t x w v f.1 ct cw m.meet)))
    ]

pub reads_are_stable : OfEveryRun ReadsAreStable
reads_are_stable = of_good ReadsAreStable stable

pub serves_alone : OfEveryStore ServesAlone
serves_alone = of_store ServesAlone (λ X a hp H g. record {
  alone = λ s t r b h u c. alone_served X a H s t r g.legal b h u c;
  begins = λ s k h q. quiet_begins X H s k g.legal h q;
})

-- a node above m is in the front of m
above-front : (S : Setup) (a : TreeFacts S) (n m : ℕ) → IsAbove S n m → among n (front_of S a m) ≡ true
above-front S a n m b = elim (among-cases n (front_of S a m) (m ∷ []) (subst (λ (ns : List ℕ). among n ns ≡ true) (way_front S a m) b.0)) [
  | inl i ↦ i
  | inr i ↦ absurd (elim (or_cases (eqb m n) false i) [ inl e ↦ b.1 (sym (eqb-true m n e)) | inr e ↦ cc ])
]

pub ranks_agree : OfEveryRun RanksAgree
ranks_agree = of_good RanksAgree (λ S a hp H g m n u w cu cw e b r. rank_up S a H m n u w g.legal (commits_from H u cu) (commits_from H w cw) e (above-front S a n m b) r)

shared : (S : Setup) (H : List Event) → Lawful S H → (n t u : ℕ) → unfinished H t ≡ true → unfinished H u ≡ true → on S H n t ≡ true → on S H n u ≡ true → side S H n t ≡ side S H n u
    → start S H n t ≡ start S H n u
shared S H l n t u wt wu ot ou e =
    let a = unfinished_times H t wt in
    let b = unfinished_times H u wu in
    let ct = open_while S H n t (length H) l ot a.0 (le_refl _) a.1 a.2 in
    let cu = open_while S H n u (length H) l ou b.0 (le_refl _) b.1 b.2 in
    let it = interval S H n t l a.0 ot in let iu = interval S H n u l b.0 ou in
    let st = it.by_began in let su = iu.by_began in let a0 = a.0 in let b0 = b.0 in
    elim (apart_or_same S H n t u l a.0 b.0 ot ou e) [ inl s ↦ s | inr o ↦ elim o [ inl s ↦ absurd (omega arith) | inr s ↦ absurd (omega arith) ] ]

on_above : (S : Setup) (a : TreeFacts S) (H : List Event) (n m t : ℕ) → Lawful S H → began_at H t < length H → on S H m t ≡ true → among n (front_of S a m) ≡ true → on S H n t ≡ true
on_above S a H n m t l b o i = (above S a H m n t t l b b o o i).0

began_of : (H : List Event) (t : ℕ) → begun H t ≡ true → began_at H t < length H
unfolding begun
began_of H t b = ltb-true _ _ b

-- the batch at m of a transaction that has begun lies within its batch at each node above m
within_above : (S : Setup) (a : TreeFacts S) (H : List Event) → Lawful S H → (n m t : ℕ) → began_at H t < length H → on S H m t ≡ true → IsAbove S n m → (start S H n t ≤ start S H m t)
    × (close S H m t ≤ close S H n t)
within_above S a H l n m t b o i = let f = above-front S a n m i in nested S H n m t l b (on_above S a H n m t l b o f) o (λ u bu ou su. above S a H m n u t l bu b ou o f)

-- so transactions of one batch at m are of one batch at each node above m
shared_above : (S : Setup) (a : TreeFacts S) (H : List Event) → Lawful S H → (n m t u : ℕ) → began_at H t < length H → began_at H u < length H → one_batch S H m t u ≡ true → IsAbove S n m
    → one_batch S H n t u ≡ true
unfolding one_batch
shared_above S a H l n m t u bt bu o i =
    let p = and_parts _ _ o in
    let q = and_parts _ _ p.0 in
    let r = and_parts _ _ q.0 in
    let same : start S H m t ≡ start S H m u = eqb-true _ _ p.1 in
    let f = above-front S a n m i in
    let at = above S a H m n t u l bt bu r.0 r.1 f in
    let au = above S a H m n u t l bu bt r.1 r.0 f in
    let wt = within_above S a H l n m t bt r.0 i in
    let wu = within_above S a H l n m u bu r.1 i in
    let vt = interval S H m t l bt r.0 in
    let vu = interval S H m u l bu r.1 in
    let t0 = wt.0 in let t1 = wt.1 in let u0 = wu.0 in let u1 = wu.1 in let tb = vt.by_began in let tc = vt.closes in let ub = vu.by_began in let uc = vu.closes in
    let e : start S H n t ≡ start S H n u = elim (apart_or_same S H n t u l bt bu at.0 au.0 at.1) [ inl e ↦ e | inr d ↦ elim d [ inl k ↦ absurd (omega arith) | inr k ↦ absurd (omega arith) ] ] in
    and_from _ _ (and_from _ _ (and_from _ _ at.0 au.0) (eq-eqb _ _ at.1)) (eq-eqb _ _ e)

pub batches_nest : OfEveryRun BatchesNest
batches_nest = of_good BatchesNest (λ S a hp H g. record {
  one_open = shared S H g.legal;
  nest = λ n m t b o i. within_above S a H g.legal n m t (began_of H t b) o i;
  shared = λ n m t u bt bu o i. shared_above S a H g.legal n m t u (began_of H t bt) (began_of H u bu) o i;
})

pub no_pivots : OfEveryRun HoldsNoPivot
no_pivots = of_good HoldsNoPivot (λ S a hp H g n p q r t c vp vq vr vt e f. false_from_ne_true _ (no_stake_pivot S a H n p q r t g.legal c vp vq vr vt e f))

pub sessions_hold_one : OfEveryRun SessionsHoldOne
unfolding begun
sessions_hold_one = of_good SessionsHoldOne (λ S a hp H g t u bt bu ht hu q. holds_one S H t u g.legal (ltb-true _ _ bt) (ltb-true _ _ bu) ht hu q)

pub cascades_are_few : OfEveryRun CascadesAreFew
cascades_are_few = of_good CascadesAreFew (λ S a hp H g t u. cascade_few S a H t g u)

pub waits_for_older : OfEveryStore WaitsForOlder
waits_for_older = of_store WaitsForOlder (λ X a hp H g s r u n e. let f = again_fair X H s r u n e in record { running = f.running; older = f.older })

pub only_grows : OfEveryStore OnlyGrows
only_grows = of_store OnlyGrows (λ X a hp H g. record {
  grows = λ s r. answer_on X H s r;
  commits_stay = λ s r t c. let k = committed_on H (answer X H s r).1 t (answer_on X H s r) c in (k, not_aborted X.setup (answer X H s r).1 t (answer_good X a hp H s r g).legal k);
  aborts_stay = λ s r t c. let k = aborted_on H (answer X H s r).1 t (answer_on X H s r) c in (k, not_committed X.setup (answer X H s r).1 t (answer_good X a hp H s r g).legal k);
})
