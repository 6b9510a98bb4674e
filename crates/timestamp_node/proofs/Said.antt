-- The answers of a timestamp node.
use Rattle.std.proofs.Common.{◌≡◌, ℕ, suc, ◌<◌, Bool, true, false, cond, not, ◌&&◌, ◌||◌, eqb, ltb, List, [], ◌∷◌, find, length, slice_get}
use Rattle.std.proofs.Common.{Option, Some, None, refl, sym, ◌∙◌, ap, subst, inl, inr, arith, eq-eqb, lt-ltb, le-leb, ltb-true}
use Rattle.std.specs.List.{list_any}
use Rattle.std.proofs.lemmas.Bool.{cases_Bool, and_parts, or_left, ltb-false, eqb-true}
use Rattle.teb_rules.specs.declared.names.Txn.{Txn}
use Rattle.teb_rules.specs.declared.names.Cell.{Cell}
use Rattle.teb_rules.specs.declared.names.Spot.{Spot}
use Rattle.teb_rules.specs.declared.names.ControlKind.{ControlKind}
use Rattle.teb_rules.specs.declared.names.ControlKind.TheVariants.{Timestamp}
use Rattle.teb_rules.proofs.lemmas.names.Bools.{and_false}
use Rattle.teb_rules.specs.declared.history.Event.{Event}
use Rattle.teb_rules.specs.history.Phases.{txns, unfinished, begun_count}
use Rattle.teb_rules.specs.history.Written.{txn_of}
use Rattle.teb_rules.specs.history.Live.{is_live, live_txns, is_numbered}
use Rattle.teb_rules.proofs.lemmas.history.FirstLive.{first_live}
use Rattle.teb_rules.specs.Setup.{Setup}
use Rattle.teb_rules.specs.Tree.{row, leaf, meets, side_at, has_batches, is_timestamp, is_snapshot}
use Rattle.teb_rules.specs.Batches.{start}
use Rattle.teb_rules.specs.Versions.{precedes, sees_by, orders}
use Rattle.teb_rules.specs.Verdicts.{wait_for, break_for}
use Rattle.teb_rules.specs.declared.Broken.TheVariants.{Late}
use Rattle.teb_rules.specs.declared.Verdict.{Verdict}
use Rattle.teb_rules.specs.declared.Verdict.TheVariants.{Go, Break}
use Rattle.teb_rules.specs.Controls.{is_late, on_access, validate, gate}
use Rattle.teb_rules.specs.Stops.{on_begin}
use Rattle.phase_api.specs.FactsView.{IsOrderly}
use Rattle.phase_api.specs.Versions.{IsPlaceOf}
use Rattle.version_chain.specs.Lists.{first_place, next_place}
use Rattle.access_conflicts.specs.Waits.{wait_for_txn}
use Rattle.access_conflicts.proofs.Orderly.{unfinished_begun}
use Rattle.batch_book.specs.Histories.{full_at}
use Rattle.batch_book.proofs.Telling.{begin_waits}
use Rattle.teb_rules.proofs.lemmas.history.LeastNumbers.{find_alike, nobody}

wait_txn : (o : Option ℕ) → wait_for_txn (txn_of o) ≡ wait_for o
wait_txn None = refl
wait_txn (Some u) = refl

-- a break for the reader that was found
abbrev pub break_by : Cell → Option Txn → Verdict
break_by x None = Go
break_by x (Some u) = Break (Late u x)

break_txn : (x : Cell) (o : Option ℕ) → break_by x (txn_of o) ≡ break_for o (λ u. Late (record { 0 = u }) x)
break_txn x None = refl
break_txn x (Some u) = refl

-- u is unfinished, meets t, and its batch started before t's
abbrev pub holds_back : Setup → List Event → ℕ → ℕ → ℕ → Bool
holds_back S H n t u = unfinished H u && meets S H n t u && ltb (start S H n u) (start S H n t)

module _ (S : Setup) (H : List Event) (n : ℕ) (k : (row S.tree n).control ≡ Timestamp) where
  pub stamps_read : (t : ℕ) (x : Cell) → Go ≡ on_access (row S.tree n).control S H n t x false
  unfolding on_access
  stamps_read t x = rw k refl

  pub stamps_write : (t : ℕ) (x : Cell) (r : Option Txn) → r ≡ txn_of (find (is_late S H n t x) (txns H)) → break_by x r ≡ on_access (row S.tree n).control S H n t x true
  unfolding on_access
  stamps_write t x r h = rw k (ap (break_by x) h ∙ break_txn x (find (is_late S H n t x) (txns H)))

  pub stamps_validate : (t : ℕ) → Go ≡ validate (row S.tree n).control S H n t
  unfolding validate
  stamps_validate t = rw k refl

  pub stamps_sees : (t w : ℕ) (x : Cell) → ltb (start S H n w) (start S H n t) ≡ sees_by (row S.tree n).control S H n x t w
  unfolding sees_by
  stamps_sees t w x = rw k refl

  pub stamps_orders : (u w : ℕ) (x : Cell) → ltb (start S H n u) (start S H n w) ≡ orders S H n x u w
  unfolding orders
  stamps_orders u w x = rw k refl

  -- a leaf does not delay a Begin
  pub begin_leaf : (s : Spot) → n ≡ leaf S.tree s → Go ≡ on_begin S H s n
  begin_leaf s e = sym (begin_waits S H s n ∙ go (has_batches S.tree n) (eqb n (leaf S.tree s)) (eq-eqb n (leaf S.tree s) e))
    where
      go : (b o : Bool) → o ≡ true → cond (b && not o) (wait_for (full_at S H n (side_at S.tree n s 0) (row S.tree n).batch)) Go ≡ Go
      go true o h = rw h refl
      go false o h = refl

  pub begin_inner : (s : Spot) (m size : ℕ) → (n ≡ leaf S.tree s → ⊥) → m ≡ side_at S.tree n s 0 → size ≡ (row S.tree n).batch → wait_for_txn (txn_of (full_at S H n m size)) ≡ on_begin S H s n
  begin_inner s m size ne e z =
      wait_txn (full_at S H n m size) ∙ (λ j. wait_for (full_at S H n (e j) (z j))) ∙ sym (begin_waits S H s n ∙ go)
    where
      keeps : has_batches S.tree n ≡ true
      keeps = ap (λ (c : ControlKind). is_timestamp c || is_snapshot c) k

      inner : eqb n (leaf S.tree s) ≡ false
      inner = elim (cases_Bool (eqb n (leaf S.tree s))) [ inl h ↦ absurd (ne (eqb-true n (leaf S.tree s) h)) | inr h ↦ h ]

      go : cond (has_batches S.tree n && not (eqb n (leaf S.tree s))) (wait_for (full_at S H n (side_at S.tree n s 0) (row S.tree n).batch)) Go ≡ wait_for
          (full_at S H n (side_at S.tree n s 0) (row S.tree n).batch)
      go = λ j. cond (keeps j && not (inner j)) (wait_for (full_at S H n (side_at S.tree n s 0) (row S.tree n).batch)) Go

  gate_is : (t u : ℕ) (b : Bool) → b ≡ (row S.tree n).ordered → gate (row S.tree n).control S H n t u ≡ (b && unfinished H u && meets S H n t u && ltb (start S H n u) (start S H n t))
  unfolding gate
  gate_is t u b o = rw (k, o) refl

  -- if the node is not ordered, no transaction holds t back
  pub gate_open : (t : ℕ) → false ≡ (row S.tree n).ordered → Go ≡ wait_for (find (gate (row S.tree n).control S H n t) (txns H))
  gate_open t o = ap wait_for (sym (find_alike _ (λ (u : ℕ). false) (λ u. gate_is t u false o) (txns H) ∙ nobody (txns H)))

  -- the transaction that holds t back is found among the live ones
  pub gate_found : (t : ℕ) → IsOrderly S H → true ≡ (row S.tree n).ordered → (r : Option Txn) → r ≡ find (λ (u : Txn). holds_back S H n t u.0) (live_txns H)
      → wait_for_txn r ≡ wait_for (find (gate (row S.tree n).control S H n t) (txns H))
  gate_found t w o r h =
      ap wait_for_txn (h ∙ find_alike _ _ numbered (live_txns H) ∙ first_live H (holds_back S H n t) live)
      ∙ wait_txn (find (holds_back S H n t) (txns H)) ∙ ap wait_for (sym (find_alike _ _ (λ u. gate_is t u true o) (txns H)))
    where
      running : (u : ℕ) → holds_back S H n t u ≡ true → unfinished H u ≡ true
      running u b = (and_parts _ _ (and_parts _ _ b).0).0

      live : (u : ℕ) → holds_back S H n t u ≡ true → is_live H u ≡ true
      live u b = or_left _ _ (running u b)

      numbered : (u : Txn) → holds_back S H n t u.0 ≡ (is_numbered H u && holds_back S H n t u.0)
      numbered u = elim (cases_Bool (holds_back S H n t u.0)) [
        | inl b ↦ (let m = w.numbered u.0 (unfinished_begun H u.0 (running u.0 b)) in
            b ∙ sym (λ j. lt-ltb 0 u.0 m.0 j && le-leb u.0 (begun_count H) m.1 j && b j))
        | inr b ↦ b ∙ sym (ap (λ (c : Bool). is_numbered H u && c) b ∙ and_false (is_numbered H u))
      ]

-- a place that is found in a longer list is one more than its place in the rest
place_next : (o : Option ℕ) (i : ℕ) → next_place o ≡ Some i → (j : ℕ) × (i ≡ suc j) × (o ≡ Some j)
place_next None i e = absurd (cc)
place_next (Some j) i e = (j, (let z : Some (suc j) ≡ Some i = e in cc), refl)

pub found_place : (ws : List ℕ) (w i : ℕ) → first_place (λ v. eqb v w) ws ≡ Some i → (i < length ws) × (slice_get ws i ≡ Some w)
found_place [] w i e = absurd (cc)
found_place (v ∷ ws) w i e = elim (cases_Bool (eqb v w)) [
  | inl h ↦ (let z : Some 0 ≡ Some i = rw h at e in let y : 0 ≡ i = cc in
      subst (λ (i : ℕ). (i < suc (length ws)) × (slice_get (v ∷ ws) i ≡ Some w)) y (omega arith, ap (λ (k : ℕ). Some k) (eqb-true v w h)))
  | inr h ↦ (let z : next_place (first_place (λ v. eqb v w) ws) ≡ Some i = rw h at e in
      let p = place_next (first_place (λ v. eqb v w) ws) i z in
      let r = found_place ws w p.0 p.2 in
      subst (λ (i : ℕ). (i < suc (length ws)) × (slice_get (v ∷ ws) i ≡ Some w)) (sym p.1) (omega (arith, r.0), r.1))
]

pub not_found : (ws : List ℕ) (w : ℕ) → first_place (λ v. eqb v w) ws ≡ None → list_any (λ v. eqb v w) ws ≡ false
not_found [] w e = refl
not_found (v ∷ ws) w e = elim (cases_Bool (eqb v w)) [
  | inl h ↦ absurd (let z : Some 0 ≡ None = rw h at e in cc)
  | inr h ↦ ap (λ (b : Bool). b || list_any (λ v. eqb v w) ws) h ∙ not_found ws w (rest (first_place (λ v. eqb v w) ws) (rw h at e))
]
  where
    rest : (o : Option ℕ) → next_place o ≡ None → o ≡ None
    rest None e = refl
    rest (Some i) e = absurd (cc)

-- a version precedes t's if and only if its place is below that of t's
pub place_tells : (S : Setup) (H : List Event) (x : Cell) (t at : ℕ) (ws : List ℕ) (w i : ℕ) → IsPlaceOf S H x t at ws → slice_get ws i ≡ Some w → ltb i at ≡ precedes S H x w t
place_tells S H x t at ws w i p h = elim (cases_Bool (ltb i at)) [
  | inl l ↦ l ∙ sym (p.before i w (ltb-true i at l) h)
  | inr l ↦ l ∙ sym (p.behind i w (ltb-false i at l) h)
]
