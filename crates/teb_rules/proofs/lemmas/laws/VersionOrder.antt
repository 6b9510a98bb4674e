-- The order of versions, by positions; any two versions are ordered.
use Rattle.std.proofs.Common.{◌≡◌, ◌≢◌, ◌⊎◌, ℕ, zero, suc, ◌<◌, ◌≤◌, Bool, true, false, cond, ltb, List, refl, sym, ◌∙◌, ap, inl, inr, arith, length, lt-ltb, le-ltb, le_refl, eqb-true}
use Rattle.std.proofs.lemmas.Bool.{cases_Bool, cases_order, and_parts}
use Rattle.teb_rules.specs.declared.names.Cell.{Cell}
use Rattle.teb_rules.specs.declared.history.Event.{Event}
use Rattle.teb_rules.specs.declared.history.Event.TheVariants.{Put}
use Rattle.teb_rules.specs.declared.names.ControlKind.{ControlKind}
use Rattle.teb_rules.specs.declared.names.ControlKind.TheVariants.{Timestamp}
use Rattle.teb_rules.specs.history.Accesses.{is_put, put_at}
use Rattle.teb_rules.specs.history.Phases.{began_at, gone_at}
use Rattle.teb_rules.specs.laws.Lawful.{Lawful}
use Rattle.teb_rules.specs.laws.TreeFacts.{TreeFacts}
use Rattle.teb_rules.specs.Batches.{start}
use Rattle.teb_rules.specs.Setup.{Setup}
use Rattle.teb_rules.specs.Tree.{row, meets, meet, is_timestamp}
use Rattle.teb_rules.specs.Versions.{orders, precedes}
use Rattle.teb_rules.proofs.lemmas.laws.Timeline.{begun_counted, put_order, apart}
use Rattle.teb_rules.proofs.lemmas.laws.Batches.{start_differs}
use Rattle.teb_rules.proofs.lemmas.laws.Nodes.{meets_parts, meets_sym, meet_is}
use Rattle.teb_rules.proofs.lemmas.laws.Meeting.{meets_exists}
use Rattle.teb_rules.specs.history.Phases.{done_at}
use Rattle.teb_rules.specs.history.Positions.{first_event, newest}
use Rattle.teb_rules.proofs.lemmas.laws.Positions.{first-le}
use Rattle.std.proofs.lemmas.Bool.{cases_lt}

-- t has put x and is not aborted
pub record Writes (H : List Event) (x : Cell) (t : ℕ) : Type 0 where
  pub put : put_at H t x < length H
  pub stands : length H ≤ gone_at H t

pub precedes_at : (S : Setup) (a : TreeFacts S) (H : List Event) (n : ℕ) (x : Cell) (u w : ℕ) → Lawful S H → began_at H u < length H → began_at H w < length H → meets S H n u w ≡ true
    → precedes S H x u w ≡ orders S H n x u w
precedes_at S a H n x zero w l bu bw m = let z = (begun_counted S H zero l bu).0 in absurd (omega arith)
precedes_at S a H n x (suc u) zero l bu bw m = let z = (begun_counted S H zero l bw).0 in absurd (omega arith)
precedes_at S a H n x (suc u) (suc w) l bu bw m = unfold precedes in ap (λ (k : ℕ). orders S H k x (suc u) (suc w)) (meet_is S a H n (suc u) (suc w) l bu bw m)

pub precedes_row : (S : Setup) (H : List Event) (x : Cell) (w : ℕ) → 0 < w → precedes S H x 0 w ≡ true
unfolding precedes
precedes_row S H x zero h = absurd (omega arith)
precedes_row S H x (suc w) h = refl

is_put_same : (e : Event) (t u : ℕ) (x : Cell) → is_put t x e ≡ true → is_put u x e ≡ true → t ≡ u
is_put_same (Put s y v) t u x h k = sym (eqb-true s.0 t (and_parts _ _ h).0) ∙ eqb-true s.0 u (and_parts _ _ k).0
is_put_same _ t u x h k = absurd (cc)

pub put_differs : (H : List Event) (t u : ℕ) (x : Cell) → t ≢ u → put_at H t x < length H → put_at H t x ≢ put_at H u x
unfolding put_at
put_differs H t u x ne h e = apart (is_put t x) (is_put u x) H (λ ev p q. ne (is_put_same ev t u x p q)) h e

-- the order at a timestamp node, and at the others
pub orders_start : (S : Setup) (H : List Event) (n : ℕ) (x : Cell) (u w : ℕ) → (row S.tree n).control ≡ Timestamp → orders S H n x u w ≡ ltb (start S H n u) (start S H n w)
unfolding orders
orders_start S H n x u w c = rw c refl

pub orders_put : (S : Setup) (H : List Event) (n : ℕ) (x : Cell) (u w : ℕ) → is_timestamp (row S.tree n).control ≡ false → orders S H n x u w ≡ ltb (put_at H u x) (put_at H w x)
unfolding orders
orders_put S H n x u w c = rw c refl

pub timestamp_is : (c : ControlKind) → is_timestamp c ≡ true → c ≡ Timestamp
timestamp_is Timestamp h = refl
timestamp_is _ h = absurd (cc)

put_at_le : (H : List Event) (t : ℕ) (x : Cell) → put_at H t x ≤ length H
unfolding put_at first_event
put_at_le H t x = first-le (newest (is_put t x)) H

-- t has put x, or is `who` and may still put it; then its Put counts as the last
pub record Writer (H : List Event) (x : Cell) (who t : ℕ) : Type 0 where
  pub put : (put_at H t x < length H) ⊎ (t ≡ who)
  pub began : began_at H t < put_at H t x
  pub undone : put_at H t x ≤ done_at H t
  pub ungone : put_at H t x ≤ gone_at H t
  pub place : put_at H t x ≤ length H
  pub stands : length H ≤ gone_at H t

pub Writer-began : (H : List Event) (x : Cell) (who t : ℕ) → Writer H x who t → began_at H t < length H
Writer-began H x who t w = let a = w.began in let b = w.place in omega arith

pub writer_order : (H : List Event) (x : Cell) (who t : ℕ) → Writer H x who t → (began_at H t < put_at H t x) × (put_at H t x ≤ done_at H t) × (put_at H t x ≤ gone_at H t)
writer_order H x who t w = (w.began, w.undone, w.ungone)

pub writer_of : (S : Setup) (H : List Event) (x : Cell) (who t : ℕ) → Lawful S H → Writes H x t → Writer H x who t
writer_of S H x who t l w = let o = put_order S H t x l w.put in let p = w.put in
    record { put = inl p; began = o.0; undone = (let z = o.1 in omega arith); ungone = (let z = o.2 in omega arith); place = omega arith; stands = w.stands }

-- an unfinished transaction is a writer, whether it has put x or not
pub writer_unfinished : (S : Setup) (H : List Event) (x : Cell) (t : ℕ) → Lawful S H → began_at H t < length H → length H ≤ done_at H t → length H ≤ gone_at H t → Writer H x t t
writer_unfinished S H x t l b d g = elim (cases_lt (put_at H t x) (length H)) [
  | inl p ↦ writer_of S H x t t l (record { put = p; stands = g })
  | inr p ↦ (let e : put_at H t x ≤ length H = put_at_le H t x in record { put = inr refl; began = omega arith; undone = omega arith; ungone = omega arith; place = e; stands = g })
]

pub writers_differ : (H : List Event) (x : Cell) (who t u : ℕ) → Writer H x who t → Writer H x who u → t ≢ u → put_at H t x ≢ put_at H u x
writers_differ H x who t u p q ne e = elim p.put [
  | inl h ↦ put_differs H t u x ne h e
  | inr h ↦ elim q.put [ inl k ↦ put_differs H u t x (λ z. ne (sym z)) k (sym e) | inr k ↦ ne (h ∙ sym k) ]
]

pub orders_total : (S : Setup) (H : List Event) (n : ℕ) (x : Cell) (who u w : ℕ) → Lawful S H → Writer H x who u → Writer H x who w → u ≢ w → meets S H n u w ≡ true → (orders S H n x u w ≡ true)
    ⊎ (orders S H n x w u ≡ true)
orders_total S H n x who u w l p q ne m = elim (cases_Bool (is_timestamp (row S.tree n).control)) [
  | inl t ↦ (let c = timestamp_is _ t in let k = meets_parts S H n u w m in let d = start_differs S H n u w l (Writer-began H x who u p) (Writer-began H x who w q) k.0 k.1 k.2 in
      elim (cases_order (start S H n u) (start S H n w))
      [ inl e ↦ absurd (d e) | inr o ↦ elim o [ inl r ↦ inl (orders_start S H n x u w c ∙ lt-ltb _ _ r) | inr r ↦ inr (orders_start S H n x w u c ∙ lt-ltb _ _ r) ] ])
  | inr f ↦ (let d = writers_differ H x who u w p q ne in
      elim (cases_order (put_at H u x) (put_at H w x))
      [ inl e ↦ absurd (d e) | inr o ↦ elim o [ inl r ↦ inl (orders_put S H n x u w f ∙ lt-ltb _ _ r) | inr r ↦ inr (orders_put S H n x w u f ∙ lt-ltb _ _ r) ] ])
]

-- any two writers are ordered
pub writers_total : (S : Setup) (a : TreeFacts S) (H : List Event) (x : Cell) (who u w : ℕ) → Lawful S H → Writer H x who u → Writer H x who w → u ≢ w → (precedes S H x u w ≡ true)
    ⊎ (precedes S H x w u ≡ true)
writers_total S a H x who u w l p q ne =
    let bu = Writer-began H x who u p in
    let bw = Writer-began H x who w q in
    let m = meets_exists S a H u w l bu bw ne in
    elim (orders_total S H m.node x who u w l p q ne m.meet) [
      | inl r ↦ inl (precedes_at S a H m.node x u w l bu bw m.meet ∙ r)
      | inr r ↦ inr (precedes_at S a H m.node x w u l bw bu (meets_sym S H m.node u w m.meet) ∙ r)
    ]

pub precedes_total : (S : Setup) (a : TreeFacts S) (H : List Event) (x : Cell) (u w : ℕ) → Lawful S H → Writes H x u → Writes H x w → u ≢ w → (precedes S H x u w ≡ true) ⊎ (precedes S H x w u ≡ true)
precedes_total S a H x u w l p q ne = writers_total S a H x 0 u w l (writer_of S H x 0 u l p) (writer_of S H x 0 w l q) ne

pub precedes_irreflexive : (S : Setup) (H : List Event) (x : Cell) (u : ℕ) → precedes S H x u u ≡ false
unfolding precedes orders
precedes_irreflexive S H x zero = refl
precedes_irreflexive S H x (suc u) = go (is_timestamp (row S.tree (meet S H (suc u) (suc u))).control)
  where
    go : (b : Bool) → cond b (ltb (start S H (meet S H (suc u) (suc u)) (suc u)) (start S H (meet S H (suc u) (suc u)) (suc u))) (ltb (put_at H (suc u) x) (put_at H (suc u) x)) ≡ false
    go true = le-ltb _ _ (le_refl _)
    go false = le-ltb _ _ (le_refl _)
