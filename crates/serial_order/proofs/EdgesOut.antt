-- The transactions with an edge at a snapshot node, and the marks of the batches with an edge out.
use Rattle.std.proofs.Common.{◌≡◌, ℕ, ◌+◌, ◌<◌, Bool, true, false, eqb, ◌&&◌, ◌||◌, List, get_or, set, replicate, refl, sym, ap, subst, ◌∙◌, inl, inr, arith, length, eq-eqb, ne_eqb}
use Rattle.std.specs.List.{list_any}
use Rattle.std.proofs.lemmas.Bool.{cases_eq, and_parts, or_right}
use Rattle.std.proofs.lemmas.List.{length-replicate, get_or-replicate, length-set, get_or-set_same, get_or-set_other}
use Rattle.teb_rules.proofs.lemmas.names.Bools.{and_false, or_false}
use Rattle.teb_rules.specs.declared.names.ControlKind.TheVariants.{Snapshot}
use Rattle.teb_rules.specs.declared.history.Event.{Event}
use Rattle.teb_rules.specs.history.Phases.{txns, numbers, begun_count, begun, began_at, committed}
use Rattle.teb_rules.specs.laws.Lawful.{Lawful}
use Rattle.teb_rules.specs.laws.TreeFacts.{TreeFacts}
use Rattle.teb_rules.specs.Batches.{start, one_batch}
use Rattle.teb_rules.specs.Ranks.{has_edge_out}
use Rattle.teb_rules.specs.Setup.{Setup}
use Rattle.teb_rules.specs.Tree.{row, on, side, is_snapshot}
use Rattle.teb_rules.proofs.lemmas.laws.Batches.{start_differs}
use Rattle.teb_rules.proofs.lemmas.laws.Intervals.{interval}
use Rattle.teb_rules.proofs.lemmas.laws.Ranks.{commits}
use Rattle.teb_rules.proofs.lemmas.laws.Serial.{commits_from}
use Rattle.candidate_reads.proofs.Sources.{begun_place}
use Rattle.snapshot_node.specs.Leaving.{has_edge}
use Rattle.serial_order.specs.Edges.{leads_out, leads_from, AreMarked, IsMarked, MarkEdges}
use Rattle.serial_order.proofs.AnyOf.{any_next, any_nobody}

leads_all : (S : Setup) (H : List Event) (n t : ℕ) → list_any (λ a. committed H a && one_batch S H n t a && has_edge S H n a) (txns H) ≡ has_edge_out S H n t
unfolding has_edge_out
leads_all S H n t = refl

module _ (S : Setup) (H : List Event) (n : ℕ) (l : Lawful S H) where
  -- a committed transaction on the node is of t's batch if and only if both batches start at the same position
  batch_by_start : (t a : ℕ) → began_at H t < length H → on S H n t ≡ true → committed H a ≡ true → on S H n a ≡ true → one_batch S H n t a ≡ eqb (start S H n a) (start S H n t)
  unfolding one_batch
  batch_by_start t a bt ot ca oa = rw (ot, oa) (elim (cases_eq (start S H n t) (start S H n a)) [
    | inl e ↦ (let ba : began_at H a < length H = (let d = commits_from H a ca in let z = commits S H a l d in omega arith) in
        let s : side S H n t ≡ side S H n a = elim (cases_eq (side S H n t) (side S H n a)) [ inl q ↦ q | inr ne ↦ absurd (start_differs S H n t a l bt ba ot oa ne e) ] in
        rw (eq-eqb _ _ s, eq-eqb _ _ e, eq-eqb _ _ (sym e)) refl)
    | inr ne ↦ rw (ne_eqb _ _ ne, ne_eqb (start S H n a) (start S H n t) (λ q. ne (sym q))) (and_false (eqb (side S H n t) (side S H n a)))
  ])

  leads_one : (t a : ℕ) → began_at H t < length H → on S H n t ≡ true → leads_from S H n (start S H n t) a ≡ (committed H a && one_batch S H n t a && has_edge S H n a)
  leads_one t a bt ot = go (committed H a) refl (on S H n a) refl
    where
      off : on S H n a ≡ false → one_batch S H n t a ≡ false
      off e = unfold one_batch in rw (ot, e) refl

      turn : (x y : Bool) → (x && y) ≡ (y && x)
      turn true true = refl
      turn true false = refl
      turn false true = refl
      turn false false = refl

      go : (c : Bool) → committed H a ≡ c → (o : Bool) → on S H n a ≡ o → (c && o && has_edge S H n a && eqb (start S H n a) (start S H n t)) ≡ (c && one_batch S H n t a && has_edge S H n a)
      go false p o q = refl
      go true p false q = ap (λ (b : Bool). b && has_edge S H n a) (sym (off q))
      go true p true q = turn (has_edge S H n a) (eqb (start S H n a) (start S H n t)) ∙ ap (λ (b : Bool). b && has_edge S H n a) (sym (batch_by_start t a bt ot p q))

  -- marks made over all transactions say which batches have an edge out
  pub marks_say : (ms : List Bool) → AreMarked S H n (txns H) ms → (t : ℕ) → begun H t ≡ true → on S H n t ≡ true → IsMarked S H n t ms
  marks_say ms m t b o =
      let bt = begun_place H t b in
      let i = interval S H n t l bt o in
      let low : start S H n t < length H = (let z = i.by_began in omega arith) in
      record {
        within = (let z = m.one_each in omega arith);
        says = m.marked (start S H n t) low ∙ (λ j. list_any (λ a. leads_one t a bt o j) (txns H)) ∙ leads_all S H n t;
      }

  -- there are no marks at first, and what one more transaction adds
  pub marks_none : (ms : List Bool) → ms ≡ replicate (length H) false → AreMarked S H n (numbers 0) ms
  marks_none ms e = record {
    one_each = ap length e ∙ length-replicate (length H) false;
    marked = λ i lt. ap (λ (bs : List Bool). get_or bs i false) e ∙ get_or-replicate (length H) i false false lt ∙ sym (any_nobody (leads_from S H n i));
  }

  pub marks_same : (k : ℕ) (ms : List Bool) → AreMarked S H n (numbers k) ms → leads_out S H n (k + 1) ≡ false → AreMarked S H n (numbers (k + 1)) ms
  marks_same k ms m f = record {
    one_each = m.one_each;
    marked = λ i lt. m.marked i lt ∙ sym (or_false (list_any (leads_from S H n i) (numbers k))) ∙ ap (λ (b : Bool). list_any (leads_from S H n i) (numbers k) || (b && eqb (start S H n (k + 1)) i))
        (sym f) ∙ sym (any_next (leads_from S H n i) k);
  }

  pub marks_more : (k : ℕ) (ms : List Bool) → AreMarked S H n (numbers k) ms → leads_out S H n (k + 1) ≡ true → start S H n (k + 1) < length ms
      → AreMarked S H n (numbers (k + 1)) (set ms (start S H n (k + 1)) true)
  marks_more k ms m f low = record {
    one_each = length-set ms (start S H n (k + 1)) true ∙ m.one_each;
    marked = λ i lt. here i lt ∙ ap (λ (b : Bool). list_any (leads_from S H n i) (numbers k) || (b && eqb (start S H n (k + 1)) i)) (sym f) ∙ sym (any_next (leads_from S H n i) k);
  }
    where
      here : (i : ℕ) → i < length H → get_or (set ms (start S H n (k + 1)) true) i false ≡ (list_any (leads_from S H n i) (numbers k) || eqb (start S H n (k + 1)) i)
      here i lt = elim (cases_eq (start S H n (k + 1)) i) [
        | inl e ↦ sym (ap (λ (j : ℕ). get_or (set ms (start S H n (k + 1)) true) j false) e) ∙ get_or-set_same ms (start S H n (k + 1)) true false low
            ∙ sym (or_right (list_any (leads_from S H n i) (numbers k)) _ (eq-eqb _ _ e))
        | inr ne ↦ get_or-set_other ms (start S H n (k + 1)) i true false (λ e. ne (sym e)) ∙ m.marked i lt ∙ sym (or_false (list_any (leads_from S H n i) (numbers k)))
            ∙ ap (λ (b : Bool). list_any (leads_from S H n i) (numbers k) || b) (sym (ne_eqb _ _ ne))
      ]

  -- a transaction that leads out is committed and on the node, and its batch starts within the history
  pub leads_here : (a : ℕ) → leads_out S H n a ≡ true → (committed H a ≡ true) × (on S H n a ≡ true)
  leads_here a h = let p = and_parts _ _ h in and_parts _ _ p.0

  pub leads_within : (a : ℕ) → leads_out S H n a ≡ true → start S H n a < length H
  leads_within a h =
      let p = leads_here a h in
      let d = commits_from H a p.0 in
      let y = (commits S H a l d).0 in
      let i = interval S H n a l (let z : began_at H a < length H = omega arith in z) p.1 in
      let z = i.by_began in omega arith

  pub marks_all : (ms : List Bool) (k : ℕ) → k ≡ begun_count H → AreMarked S H n (numbers k) ms → AreMarked S H n (txns H) ms
  unfolding txns
  marks_all ms k e m = subst (λ (j : ℕ). AreMarked S H n (numbers j) ms) e m

-- only the root can be a snapshot node
pub root_marks : (S : Setup) (f : TreeFacts S) (H : List Event) (ms : List Bool) → Lawful S H → AreMarked S H 0 (txns H) ms → MarkEdges S H ms
root_marks S f H ms l m n t c b o =
    let z : n ≡ 0 = f.snapshots n (ap is_snapshot c) in
    subst (λ (k : ℕ). on S H k t ≡ true → IsMarked S H k t ms) (sym z) (λ p. marks_say S H 0 l ms m t b p) o

pub no_marks : (S : Setup) (f : TreeFacts S) (H : List Event) (ms : List Bool) → ((row S.tree 0).control ≡ Snapshot → ⊥) → MarkEdges S H ms
no_marks S f H ms other n t c b o = absurd (other (subst (λ (k : ℕ). (row S.tree k).control ≡ Snapshot) (f.snapshots n (ap is_snapshot c)) c))
