-- The law of a locks node.
use Rattle.std.proofs.Common.{◌≡◌, ◌≢◌, ℕ, suc, ◌<◌, ◌≤◌, true, false, List, Option, refl, sym, ◌∙◌, ap, inl, inr, arith, ℤ, length, ltb-true, lt-ltb, eq-eqb}
use Rattle.std.proofs.lemmas.Bool.{cases_lt, both_ways, and_from}
use Rattle.teb_rules.specs.declared.names.Txn.{Txn}
use Rattle.teb_rules.specs.declared.names.Cell.{Cell}
use Rattle.teb_rules.specs.declared.history.Event.{Event}
use Rattle.teb_rules.specs.declared.history.Event.TheVariants.{Got}
use Rattle.teb_rules.specs.declared.names.ControlKind.TheVariants.{Locks}
use Rattle.teb_rules.specs.history.Accesses.{is_put, is_got, put_at, got_at}
use Rattle.teb_rules.specs.history.Phases.{done_at, committed}
use Rattle.teb_rules.specs.history.Positions.{upto, newest}
use Rattle.teb_rules.specs.laws.Lawful.{Lawful}
use Rattle.teb_rules.specs.laws.TreeFacts.{TreeFacts}
use Rattle.teb_rules.specs.Setup.{Setup}
use Rattle.teb_rules.specs.Tree.{row}
use Rattle.teb_rules.specs.Versions.{sees_by}
use Rattle.teb_rules.proofs.lemmas.laws.Timeline.{granted_at, unfinished-upto, put_order, committed-upto, put_may, first_event-le, event_first}
use Rattle.teb_rules.proofs.lemmas.laws.Nodes.{meets_parts, meets_sym}
use Rattle.teb_rules.proofs.lemmas.laws.Ranks.{commits}
use Rattle.teb_rules.proofs.lemmas.laws.ReadRule.{GotAt, got_case}
use Rattle.teb_rules.proofs.lemmas.laws.Assembly.{IsOrdered}
use Rattle.teb_rules.proofs.lemmas.laws.NodeFacts.{got_time, read_meets, seen_clash, last_put-stable}
use Rattle.teb_rules.proofs.lemmas.laws.Ranks.{done_rank}
use Rattle.teb_rules.proofs.lemmas.laws.Timeline.{put_granted}
use Rattle.teb_rules.proofs.lemmas.laws.VersionOrder.{orders_put}
use Rattle.teb_rules.proofs.lemmas.laws.Assembly.{NodeLaw, read_done}
use Rattle.teb_rules.proofs.lemmas.laws.Locks.{locks_access, locks_writes}

pub got-le : (H : List Event) (i : ℕ) (t : Txn) (x : Cell) (w : Txn) (v : Option ℤ) → GotAt H i t x w v → got_at H t.0 x ≤ i
unfolding got_at
got-le H i t x w v g = first_event-le (is_got t.0 x) H i (Got t x w v) g.place g.is (and_from _ _ (eq-eqb t.0 t.0 refl) (and_from _ _ (eq-eqb x.table.0 x.table.0 refl) (eq-eqb x.key x.key refl)))

-- the position of a Got is not that of a first Put
pub got_not_put : (H : List Event) (i : ℕ) (t : Txn) (x : Cell) (w : Txn) (v : Option ℤ) (b : ℕ) → GotAt H i t x w v → put_at H b x < length H → i ≢ put_at H b x
unfolding put_at
got_not_put H i t x w v b g h e =
    let f = event_first (is_put b x) H h in
    both_ways (is_put b x (Got t x w v)) refl (ap (newest (is_put b x)) (sym g.is ∙ ap (λ (z : ℕ). upto (suc z) H) e ∙ f.is) ∙ f.passes)

sees_locks : (S : Setup) (P : List Event) (n : ℕ) (x : Cell) (t b : ℕ) → (row S.tree n).control ≡ Locks → sees_by (row S.tree n).control S P n x t b ≡ committed P b
unfolding sees_by
sees_locks S P n x t b c = rw c refl

pub locks_law : (S : Setup) (a : TreeFacts S) (H : List Event) (n : ℕ) → Lawful S H → ((j : ℕ) → IsOrdered S (upto j H)) → (row S.tree n).control ≡ Locks → NodeLaw S H n
locks_law S a H n l ord c = record {
  write_write = λ u w x cu cw m pu pw o.
      let q : put_at H u x < put_at H w x = ltb-true _ _ (sym (orders_put S H n x u w (rw c refl)) ∙ o) in
      let k = meets_parts S H n u w m in
      let d = locks_writes S H n u w x l c k.1 (meets_sym S H n u w m) cu pw q in
      let e = put_order S H w x l pw in
      let z = done_rank S H n u (inl c) in let y = done_rank S H n w (inl c) in let f = e.1 in omega arith;
  write_read = λ i t x w v g ct cw m.
      let r = read_meets S a H i n t x w v l g ct cw m in
      let d = read_done S a H i t x w v l g ct r.seen in
      let z = done_rank S H n w.0 (inl c) in let y = done_rank S H n t.0 (inl c) in omega arith;
  read_write = λ i t x w v b g ne ct cb m pb e.
      let k = got_time S H i t x w v l g ct in
      let h : i ≤ length H = (let z = k.0 in omega arith) in
      let ob = put_order S H b x l pb in
      let db = commits S H b l cb in
      let dt = commits S H t.0 l ct in
      let mp = meets_parts S H n t.0 b m in
      let z = done_rank S H n t.0 (inl c) in let y = done_rank S H n b (inl c) in
      elim (cases_lt (put_at H b x) i) [
        | inl p ↦ absurd (elim (locks_access S H i n t.0 b x false l h (got_case S H i t x w v l g).0 c mp.0 m k.1 (let f = ob.0 in omega arith) (inl p)) [
          | inl d ↦ seen_clash S a H i n t x w v b l (ord i) g ne ct cb m p e (sees_locks S (upto i H) n x t.0 b c ∙ committed-upto H i b h ∙ lt-ltb _ _ d)
          | inr d ↦ (let f = db.1 in omega arith)
        ])
        | inr p ↦ (let q = got_not_put H i t x w v b g pb in
            elim (locks_access S H (put_at H b x) n b t.0 x true l (let f : put_at H b x ≤ length H = omega arith in f) (put_granted S H b x l pb) c mp.1 (meets_sym S H n t.0 b m) ob.0
            (let f = k.1 in omega arith) (inr (refl, (let f = got-le H i t x w v g in omega arith)))) [
              | inl d ↦ (let f = ob.1 in omega arith)
              | inr d ↦ (let f = dt.1 in absurd (omega arith))
            ])
      ];
  stable = λ i t x w v g ct cw m.
      let r = read_meets S a H i n t x w v l g ct cw m in
      let d : done_at H w.0 < i = ltb-true _ _ (sym (committed-upto H i w.0 r.place) ∙ sym (sees_locks S (upto i H) n x t.0 w.0 c) ∙ r.visible) in
      last_put-stable H i w.0 x r.place
      (λ j e p q s f. let u = unfinished-upto H j w.0 (let z : j ≤ length H = omega arith in z) (put_may S (upto j H) e w.0 x f (granted_at S H j e l s)).unfinished in let y = u.1 in omega arith);
}
