-- The answers of a pipeline node, found among the transactions that are ahead and the holders of a cell.
use Rattle.std.proofs.Common.{◌≡◌, ℕ, zero, suc, ◌<◌, ◌≤◌, Bool, true, false, cond, not, ◌||◌, ◌&&◌, ltb, List, [], ◌∷◌}
use Rattle.std.proofs.Common.{length, map, filter, find, get_or, Option, Some, None, refl, sym, ◌∙◌, ap, arith, IsTrue}
use Rattle.std.proofs.lemmas.Bool.{and_parts}
use Rattle.teb_rules.specs.declared.names.Txn.{Txn}
use Rattle.teb_rules.specs.declared.names.Cell.{Cell}
use Rattle.teb_rules.specs.declared.names.Spot.{Spot}
use Rattle.teb_rules.specs.declared.names.ControlKind.TheVariants.{Pipeline}
use Rattle.teb_rules.proofs.lemmas.names.Bools.{and_true}
use Rattle.teb_rules.specs.declared.history.Event.{Event}
use Rattle.teb_rules.specs.history.Phases.{txns, begun, unfinished, committed, kind_of}
use Rattle.teb_rules.specs.history.Accesses.{put_at}
use Rattle.teb_rules.proofs.lemmas.history.LeastNumbers.{nobody}
use Rattle.teb_rules.specs.Setup.{Setup}
use Rattle.teb_rules.specs.Tree.{row, meets}
use Rattle.teb_rules.specs.Steps.{passed, rank_of_table, rank_of_step, cursor}
use Rattle.teb_rules.specs.Versions.{sees_by, orders}
use Rattle.teb_rules.specs.Verdicts.{wait_for, or_else}
use Rattle.teb_rules.specs.declared.Verdict.TheVariants.{Go, Wait}
use Rattle.teb_rules.specs.Controls.{earlier, blocks, entry_blocks, on_access, validate, gate}
use Rattle.teb_rules.specs.Stops.{on_begin}
use Rattle.phase_api.specs.declared.facts.Facts.{Facts}
use Rattle.phase_api.specs.FactsView.{IsOrderly, IsTyped, setup_of, events_of}
use Rattle.hold_book.specs.declared.Hold.{Hold}
use Rattle.hold_book.specs.Holders.{holds_in}
use Rattle.access_conflicts.specs.Waits.{some_txn, wait_for_txn}
use Rattle.access_conflicts.proofs.Orderly.{unfinished_begun}
use Rattle.access_conflicts.specs.Blockers.{in_the_way}
use Rattle.access_conflicts.proofs.Blockers.{holder, blocks_holds, blocks_held, found_among_holders}
use Rattle.cursor_book.specs.Cursors.{CursorsOf}
use Rattle.cursor_book.proofs.Moves.{length-cursors}
use Rattle.runtime_pipeline.specs.Predecessors.{numbered, is_ahead, before_in}
use Rattle.runtime_pipeline.specs.Standing.{passed_some, holds_up}
use Rattle.runtime_pipeline.proofs.Aheads.{ahead_unfinished}

-- the first transaction that holds t up is found among those that are ahead of t
module _ (S : Setup) (H : List Event) (n t : ℕ) where
  finds_up : (p : ℕ → Bool) (us : List ℕ) → find (λ (u : Txn). p u.0) (map numbered (filter (is_ahead S H n t) us)) ≡ some_txn (find (λ u. is_ahead S H n t u && p u) us)
  finds_up p [] = refl
  finds_up p (u ∷ us) = go (is_ahead S H n t u) (p u) refl (finds_up p us)
    where
      go : (a b : Bool) → p u ≡ b → find (λ (u : Txn). p u.0) (map numbered (filter (is_ahead S H n t) us)) ≡ some_txn (find (λ u. is_ahead S H n t u && p u) us)
          → find (λ (u : Txn). p u.0) (map numbered (cond a (u ∷ filter (is_ahead S H n t) us) (filter (is_ahead S H n t) us))) ≡ some_txn
          (cond (a && p u) (Some u) (find (λ u. is_ahead S H n t u && p u) us))
      go true true e ih = rw e refl
      go true false e ih = rw e ih
      go false b e ih = ih

  pub first_up : (k : Option ℕ) → find (λ (u : Txn). not (passed_some S H n u.0 k)) (before_in S H n t) ≡ some_txn (find (holds_up S H n t k) (txns H))
  first_up k = finds_up (λ u. not (passed_some S H n u k)) (txns H)

  -- each of them is unfinished
  ahead_at : (us : List ℕ) (i : ℕ) (d : Txn) → i < length (map numbered (filter (is_ahead S H n t) us)) → unfinished H (get_or (map numbered (filter (is_ahead S H n t) us)) i d).0 ≡ true
  ahead_at [] i d l = absurd (omega arith)
  ahead_at (u ∷ us) i d l = go (is_ahead S H n t u) refl i (ahead_at us) l
    where
      go : (a : Bool) → is_ahead S H n t u ≡ a → (i : ℕ)
          → ((j : ℕ) (d : Txn) → j < length (map numbered (filter (is_ahead S H n t) us)) → unfinished H (get_or (map numbered (filter (is_ahead S H n t) us)) j d).0 ≡ true)
          → i < length (map numbered (cond a (u ∷ filter (is_ahead S H n t) us) (filter (is_ahead S H n t) us)))
          → unfinished H (get_or (map numbered (cond a (u ∷ filter (is_ahead S H n t) us) (filter (is_ahead S H n t) us))) i d).0 ≡ true
      go true e zero ih l = ahead_unfinished S H n t u e
      go true e (suc j) ih l = ih j d (omega arith)
      go false e i ih l = ih i d l

-- so each has begun, with a type of the tree
pub ahead_typed : (f : Facts) (n t : ℕ) (us : List Txn) (i : ℕ) (d : Txn) → IsOrderly (setup_of f) (events_of f) → us ≡ before_in (setup_of f) (events_of f) n t → i < length us
    → IsTyped f (get_or us i d).0
ahead_typed f n t us i d o e l =
    let there : i < length (before_in (setup_of f) (events_of f) n t) = omega (arith, ap (λ (l : List Txn). length l) e) in
    let open_ : unfinished (events_of f) (get_or us i d).0 ≡ true = ap (λ (l : List Txn). unfinished (events_of f) (get_or l i d).0) e
    ∙ ahead_at (setup_of f) (events_of f) n t (txns (events_of f)) i d there in
    let b = unfinished_begun (events_of f) (get_or us i d).0 open_ in
    record { begun = b; kind = o.typed (get_or us i d).0 b }

-- a holder that blocks the access and has not passed
abbrev pub stops : Setup → List Event → ℕ → ℕ → Bool → ℕ → Hold → Bool
stops S H n t write k h = in_the_way S H n t write h && not (passed S H n h.txn.0 k)

pub first_stop : (S : Setup) (H : List Event) (n t : ℕ) (x : Cell) (write : Bool) (k : ℕ) → holder (find (stops S H n t write k) (holds_in S H n x)) ≡ some_txn
    (find (λ u. blocks S H n t x write u && not (passed S H n u k)) (txns H))
first_stop S H n t x write k = found_among_holders S H n x (λ u. blocks S H n t x write u && not (passed S H n u k)) (stops S H n t write k) (λ u h. blocks_holds S H n t x write u (and_parts _ _ h).0)
    (λ u h. ap (λ (b : Bool). b && not (passed S H n u k)) (blocks_held S H n t x write u h))

waits : (o : Option ℕ) → wait_for_txn (some_txn o) ≡ wait_for o
waits None = refl
waits (Some u) = refl

module _ (S : Setup) (H : List Event) (n : ℕ) (is : (row S.tree n).control ≡ Pipeline) where
  pub pipeline_start : (s : Spot) → Go ≡ on_begin S H s n
  unfolding on_begin
  pipeline_start s = rw is refl

  pub pipeline_validate : (t : ℕ) → Go ≡ validate (row S.tree n).control S H n t
  unfolding validate
  pipeline_validate t = rw is refl

  pub pipeline_orders : (u w : ℕ) (x : Cell) → ltb (put_at H u x) (put_at H w x) ≡ orders S H n x u w
  unfolding orders
  pipeline_orders u w x = rw is refl

  pub pipeline_sees : (t w : ℕ) (x : Cell) → (committed H w || passed S H n w (rank_of_table S n x.table.0)) ≡ sees_by (row S.tree n).control S H n x t w
  unfolding sees_by
  pipeline_sees t w x = rw is refl

  pub pipeline_gate : (t : ℕ) → wait_for_txn (some_txn (find (holds_up S H n t None) (txns H))) ≡ wait_for (find (gate (row S.tree n).control S H n t) (txns H))
  unfolding gate
  pipeline_gate t = rw is (waits (find (holds_up S H n t None) (txns H)) ∙ (λ j. wait_for (find (λ u. and_true (unfinished H u && meets S H n t u && earlier H u t) j) (txns H))))

  enters_none : (t : ℕ) (x : Cell) → ltb (rank_of_step S n (kind_of H t) (cursor S H t)) (rank_of_table S n x.table.0) ≡ false → find (entry_blocks S H n t x) (txns H) ≡ None
  unfolding entry_blocks
  enters_none t x e = (λ j. find (λ u. e j && unfinished H u && meets S H n t u && earlier H u t && not (passed S H n u (rank_of_table S n x.table.0))) (txns H)) ∙ nobody (txns H)

  enters_up : (t : ℕ) (x : Cell) → ltb (rank_of_step S n (kind_of H t) (cursor S H t)) (rank_of_table S n x.table.0) ≡ true
      → find (entry_blocks S H n t x) (txns H) ≡ find (holds_up S H n t (Some (rank_of_table S n x.table.0))) (txns H)
  unfolding entry_blocks
  enters_up t x e = λ j. find (λ u. e j && unfinished H u && meets S H n t u && earlier H u t && not (passed S H n u (rank_of_table S n x.table.0))) (txns H)

  said : (t : ℕ) (x : Cell) (write : Bool) → on_access (row S.tree n).control S H n t x write ≡ or_else (wait_for (find (entry_blocks S H n t x) (txns H)))
      (wait_for (find (λ u. blocks S H n t x write u && not (passed S H n u (rank_of_table S n x.table.0))) (txns H)))
  unfolding on_access
  said t x write = rw is refl

  -- an access that does not enter a step of greater rank
  pub access_stays : (t : ℕ) (x : Cell) (write : Bool) → ltb (rank_of_step S n (kind_of H t) (cursor S H t)) (rank_of_table S n x.table.0) ≡ false
      → wait_for_txn (some_txn (find (λ u. blocks S H n t x write u && not (passed S H n u (rank_of_table S n x.table.0))) (txns H))) ≡ on_access (row S.tree n).control S H n t x write
  access_stays t x write e = waits _
      ∙ sym (said t x write ∙ ap (λ (o : Option ℕ). or_else (wait_for o) (wait_for (find (λ u. blocks S H n t x write u && not (passed S H n u (rank_of_table S n x.table.0))) (txns H))))
      (enters_none t x e))

  -- an access that enters one: if no transaction holds it up, and if one does
  pub access_enters : (t : ℕ) (x : Cell) (write : Bool) → ltb (rank_of_step S n (kind_of H t) (cursor S H t)) (rank_of_table S n x.table.0) ≡ true
      → None ≡ some_txn (find (holds_up S H n t (Some (rank_of_table S n x.table.0))) (txns H))
      → wait_for_txn (some_txn (find (λ u. blocks S H n t x write u && not (passed S H n u (rank_of_table S n x.table.0))) (txns H))) ≡ on_access (row S.tree n).control S H n t x write
  access_enters t x write e f = waits _
      ∙ sym (said t x write ∙ ap (λ (o : Option ℕ). or_else (wait_for o) (wait_for (find (λ u. blocks S H n t x write u && not (passed S H n u (rank_of_table S n x.table.0))) (txns H))))
      (enters_up t x e ∙ none_is _ f))
    where
      none_is : (o : Option ℕ) → None ≡ some_txn o → o ≡ None
      none_is None q = refl
      none_is (Some u) q = absurd (cc)

  pub access_held : (t : ℕ) (x : Cell) (write : Bool) (u : Txn) → ltb (rank_of_step S n (kind_of H t) (cursor S H t)) (rank_of_table S n x.table.0) ≡ true
      → Some u ≡ some_txn (find (holds_up S H n t (Some (rank_of_table S n x.table.0))) (txns H))
      → Wait u ≡ on_access (row S.tree n).control S H n t x write
  access_held t x write u e f = go (find (holds_up S H n t (Some (rank_of_table S n x.table.0))) (txns H)) (enters_up t x e) f
    where
      go : (o : Option ℕ) → find (entry_blocks S H n t x) (txns H) ≡ o → Some u ≡ some_txn o → Wait u ≡ on_access (row S.tree n).control S H n t x write
      go None q f = absurd (cc)
      go (Some v) q f =
          let same : u ≡ record { 0 = v } = cc in
          ap Wait same ∙ sym (said t x write
          ∙ ap (λ (o : Option ℕ). or_else (wait_for o) (wait_for (find (λ u. blocks S H n t x write u && not (passed S H n u (rank_of_table S n x.table.0))) (txns H)))) q)

-- every begun transaction has a cursor
pub has_cursor : (cs : List ℕ) (S : Setup) (H : List Event) (u : ℕ) → IsOrderly S H → CursorsOf cs S H → IsTrue (begun H u) → (0 < u) × (u ≤ length cs)
has_cursor cs S H u o h b = let m = o.numbered u b in (m.0, omega (arith, m.1, length-cursors cs S H h))
