-- The accesses of a transaction, before and after one more event.
use Rattle.std.proofs.Common.{◌≡◌, ℕ, suc, ◌+◌, Bool, true, false, cond, eqb, ◌&&◌, List, [], ◌∷◌, filter, refl, sym, ◌∙◌, ap, arith, inl, inr, eqb-true}
use Rattle.std.specs.List.{count_by}
use Rattle.std.proofs.lemmas.Bool.{cases_Bool, both_ways, or_left}
use Rattle.teb_rules.specs.declared.names.Cell.{Cell}
use Rattle.teb_rules.specs.declared.names.Txn.{Txn}
use Rattle.teb_rules.specs.declared.names.Session.{Session}
use Rattle.teb_rules.specs.declared.names.Kind.{Kind}
use Rattle.teb_rules.specs.names.Cells.{same_cell}
use Rattle.teb_rules.specs.declared.history.Event.{Event}
use Rattle.teb_rules.specs.declared.history.Event.TheVariants.{Began, Got, Put}
use Rattle.teb_rules.specs.history.Phases.{is_began, begun_count}
use Rattle.teb_rules.specs.history.Accesses.{wrote, got}
use Rattle.teb_rules.specs.history.OwnEvents.{event_txn, is_of, own_events}
use Rattle.teb_rules.specs.Setup.{Setup}
use Rattle.teb_rules.specs.Tree.{on}
use Rattle.version_chain.proofs.Cells.{same_cell-itself}
use Rattle.phase_api.specs.FactsView.{IsOrderly}
use Rattle.batch_book.proofs.Numbered.{is_began_event, on_kept}
use Rattle.access_conflicts.proofs.Orderly.{new_accesses_none}
use Rattle.access_book.specs.Touched.{Touched, Reads, Puts, is_put, any_reads, any_puts, puts_among, touched_in}
use Rattle.snapshot_node.specs.Committed.{is_any_put, puts_of}
use Rattle.snapshot_node.proofs.Accessed.{accesses_of, reads_own, puts_own}
use Rattle.snapshot_node.proofs.Pending.{count_step}

-- the number of puts among the accesses is the number of Put events
puts_counted : (es : List Event) → puts_among (touched_in es) ≡ count_by is_any_put es
puts_counted [] = refl
puts_counted (Got t y w v ∷ es) = omega (arith, count_step is_put (Reads y) (touched_in es), count_step is_any_put (Got t y w v) es, puts_counted es)
puts_counted (Put t y v ∷ es) = omega (arith, count_step is_put (Puts y) (touched_in es), count_step is_any_put (Put t y v) es, puts_counted es)
puts_counted (e ∷ es) = omega (arith, count_step is_any_put e es, puts_counted es)

-- the accesses of t, if node n is on its path
abbrev pub touched_at : Setup → List Event → ℕ → ℕ → List Touched
touched_at S H n t = cond (on S H n t) (accesses_of H t) []

module _ (S : Setup) (H : List Event) (n t : ℕ) where
  pub puts_at : (x : Cell) → any_puts x (touched_at S H n t) ≡ (on S H n t && wrote H t x)
  puts_at x = go (on S H n t)
    where
      go : (b : Bool) → any_puts x (cond b (accesses_of H t) []) ≡ (b && wrote H t x)
      go true = puts_own H t x
      go false = refl

  pub reads_at : (x : Cell) → any_reads x (touched_at S H n t) ≡ (on S H n t && got H t x)
  reads_at x = go (on S H n t)
    where
      go : (b : Bool) → any_reads x (cond b (accesses_of H t) []) ≡ (b && got H t x)
      go true = reads_own H t x
      go false = refl

  pub count_at : puts_among (touched_at S H n t) ≡ cond (on S H n t) (puts_of H t) 0
  count_at = go (on S H n t)
    where
      go : (b : Bool) → puts_among (cond b (accesses_of H t) []) ≡ cond b (puts_of H t) 0
      go true = puts_counted (own_events H t)
      go false = refl

-- a list of accesses without any cell is empty
no_cells : (zs : List Touched) → ((x : Cell) → any_puts x zs ≡ false) → ((x : Cell) → any_reads x zs ≡ false) → zs ≡ []
no_cells [] p r = refl
no_cells (Reads y ∷ zs) p r = absurd (both_ways _ (r y) (or_left (same_cell y y) _ (same_cell-itself y)))
no_cells (Puts y ∷ zs) p r = absurd (both_ways _ (p y) (or_left (same_cell y y) _ (same_cell-itself y)))

-- a transaction that has put and read nothing has no accesses
idle : (H : List Event) (t : ℕ) → ((x : Cell) → (wrote H t x ≡ false) × (got H t x ≡ false)) → accesses_of H t ≡ []
idle H t h = no_cells _ (λ x. puts_own H t x ∙ (h x).0) (λ x. reads_own H t x ∙ (h x).1)

pub touched_none : (S : Setup) (n t : ℕ) → [] ≡ touched_at S [] n t
unfolding own_events
touched_none S n t = go (on S [] n t)
  where
    go : (b : Bool) → [] ≡ cond b (touched_in []) []
    go true = refl
    go false = refl

pub count_none : begun_count [] ≡ 0
unfolding begun_count
count_none = refl

touched_step : (e : Event) (P : List Event) (u : ℕ) → accesses_of (e ∷ P) u ≡ cond (is_of u e) (touched_in (e ∷ own_events P u)) (accesses_of P u)
unfolding own_events
touched_step e P u = go (is_of u e)
  where
    go : (b : Bool) → touched_in (cond b (e ∷ filter (is_of u) P) (filter (is_of u) P)) ≡ cond b (touched_in (e ∷ filter (is_of u) P)) (touched_in (filter (is_of u) P))
    go true = refl
    go false = refl

pub count_kept : (e : Event) (P : List Event) → is_began_event e ≡ false → begun_count (e ∷ P) ≡ begun_count P
unfolding begun_count
count_kept (Began t s k i) P h = absurd (cc)
count_kept _ P h = refl

pub count_began : (t : Txn) (s : Session) (k : Kind) (i : ℕ) (P : List Event) → begun_count (Began t s k i ∷ P) ≡ begun_count P + 1
unfolding begun_count
count_began t s k i P = omega arith

module _ (S : Setup) (P : List Event) (n : ℕ) where
  -- an event that is not an access
  untouched : (e : Event) (u : ℕ) → ((es : List Event) → touched_in (e ∷ es) ≡ touched_in es) → accesses_of (e ∷ P) u ≡ accesses_of P u
  untouched e u h = touched_step e P u ∙ go (is_of u e)
    where
      go : (b : Bool) → cond b (touched_in (e ∷ own_events P u)) (accesses_of P u) ≡ accesses_of P u
      go true = h (own_events P u)
      go false = refl

  pub still_touched : (e : Event) (u : ℕ) → is_began u e ≡ false → ((es : List Event) → touched_in (e ∷ es) ≡ touched_in es) → touched_at S (e ∷ P) n u ≡ touched_at S P n u
  still_touched e u b h = λ j. cond (on_kept S e P n u b j) (untouched e u h j) []

  -- t begins; it has no accesses yet
  pub began_touched : (t : Txn) (s : Session) (k : Kind) (i : ℕ) → IsOrderly S P → t.0 ≡ suc (begun_count P) → (u : ℕ) → touched_at S (Began t s k i ∷ P) n u ≡ touched_at S P n u
  began_touched t s k i o new u = elim (cases_Bool (eqb t.0 u)) [
    | inl q ↦ bare (on S (Began t s k i ∷ P) n u) _ (untouched (Began t s k i) u (λ es. refl) ∙ none q) ∙ sym (bare (on S P n u) _ (none q))
    | inr q ↦ still_touched (Began t s k i) u q (λ es. refl)
  ]
    where
      bare : (b : Bool) (zs : List Touched) → zs ≡ [] → cond b zs [] ≡ []
      bare true zs h = h
      bare false zs h = refl

      none : eqb t.0 u ≡ true → accesses_of P u ≡ []
      none q = ap (λ (v : ℕ). accesses_of P v) (sym (eqb-true t.0 u q)) ∙ idle P t.0 (λ x. new_accesses_none S P t.0 x o new)

  -- an event that is not a Began
  module _ (e : Event) (b : (u : ℕ) → is_began u e ≡ false) (u : ℕ) where
    steps : touched_at S (e ∷ P) n u ≡ cond (on S P n u) (cond (is_of u e) (touched_in (e ∷ own_events P u)) (accesses_of P u)) []
    steps = λ j. cond (on_kept S e P n u (b u) j) (touched_step e P u j) []

    -- an access by a transaction that has n on its path
    pub more_touched : (z : Touched) → ((es : List Event) → touched_in (e ∷ es) ≡ z ∷ touched_in es) → on S P n (event_txn e).0 ≡ true
        → touched_at S (e ∷ P) n u ≡ cond (is_of u e) (z ∷ touched_at S P n u) (touched_at S P n u)
    more_touched z a o = steps ∙ go (is_of u e) refl
      where
        go : (q : Bool) → is_of u e ≡ q → cond (on S P n u) (cond q (touched_in (e ∷ own_events P u)) (accesses_of P u)) [] ≡ cond q (z ∷ touched_at S P n u) (touched_at S P n u)
        go true q =
            let h : on S P n u ≡ true = ap (on S P n) (sym (eqb-true (event_txn e).0 u q)) ∙ o in
            (λ j. cond (h j) (a (own_events P u) j) []) ∙ sym (λ j. z ∷ cond (h j) (accesses_of P u) [])
        go false q = refl

    -- an access by a transaction that does not have n on its path
    pub touched_elsewhere : on S P n (event_txn e).0 ≡ false → touched_at S (e ∷ P) n u ≡ touched_at S P n u
    touched_elsewhere o = steps ∙ go (is_of u e) refl
      where
        go : (q : Bool) → is_of u e ≡ q → cond (on S P n u) (cond q (touched_in (e ∷ own_events P u)) (accesses_of P u)) [] ≡ touched_at S P n u
        go true q =
            let h : on S P n u ≡ false = ap (on S P n) (sym (eqb-true (event_txn e).0 u q)) ∙ o in
            (λ j. cond (h j) (touched_in (e ∷ own_events P u)) []) ∙ sym (λ j. cond (h j) (accesses_of P u) [])
        go false q = refl
