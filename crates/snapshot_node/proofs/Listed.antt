-- The transactions of a history that pass a test, in ascending number: the writers of a cell, and its readers.
use Rattle.std.proofs.Common.{◌≡◌, ℕ, zero, suc, ◌<◌, Bool, true, false, cond, not, ◌&&◌, eqb, List, [], ◌∷◌, length, map, filter, find, get_or, Some, refl, sym, ◌∙◌, inl, inr, arith}
use Rattle.std.proofs.lemmas.Bool.{and_parts, or_cases, both_ways, eqb-true, eq-eqb, or_left, or_right, cases_Bool, false_from_ne_true}
use Rattle.teb_rules.specs.declared.names.Cell.{Cell}
use Rattle.teb_rules.specs.declared.names.Txn.{Txn}
use Rattle.teb_rules.specs.declared.history.Event.{Event}
use Rattle.teb_rules.specs.history.Phases.{begun, begun_count, numbers, txns, committed, aborted}
use Rattle.teb_rules.specs.history.Accesses.{wrote, got}
use Rattle.teb_rules.specs.history.Ascending.{AllAbove, IsAscendingBy}
use Rattle.teb_rules.specs.history.Live.{number_of}
use Rattle.teb_rules.proofs.lemmas.history.AscendingLists.{ascending-filter}
use Rattle.teb_rules.specs.Setup.{Setup}
use Rattle.teb_rules.specs.Tree.{on}
use Rattle.teb_rules.specs.Serializes.{In}
use Rattle.teb_rules.proofs.lemmas.laws.AscendingNumbers.{number, numbers_ascending}
use Rattle.teb_rules.proofs.lemmas.laws.Locks.{In-numbers}
use Rattle.teb_rules.proofs.lemmas.laws.Serial.{In-filter, filter-In}
use Rattle.phase_api.specs.declared.facts.Facts.{Facts}
use Rattle.phase_api.specs.FactsView.{IsOrderly, setup_of, events_of}
use Rattle.phase_api.specs.Calls.{IsHere}
use Rattle.access_conflicts.specs.Waits.{some_txn}
use Rattle.access_conflicts.proofs.Noting.{typed_now}
use Rattle.access_book.specs.Books.{is_among}
use Rattle.snapshot_node.specs.Standing.{counts, has_put_in, writers_in, has_committed_in, has_read_in, readers_in}
use Rattle.snapshot_node.specs.Pivots.{AreHere}
use Rattle.snapshot_node.proofs.Among.{among_same}

abbrev pub as_txn : ℕ → Txn
as_txn u = record { 0 = u }

above_txns : (n : ℕ) (us : List ℕ) → AllAbove number n us → AllAbove number_of n (map as_txn us)
above_txns n [] h = tt
above_txns n (u ∷ us) h = (h.0, above_txns n us h.1)

ascending_txns : (us : List ℕ) → IsAscendingBy number us → IsAscendingBy number_of (map as_txn us)
ascending_txns [] h = tt
ascending_txns (u ∷ us) h = (above_txns u us h.0, ascending_txns us h.1)

among_in : (us : List ℕ) (u : ℕ) → is_among u (map as_txn us) ≡ true → In u us
among_in [] u h = absurd (cc)
among_in (v ∷ vs) u h = elim (or_cases (eqb v u) _ h) [ inl e ↦ inl (eqb-true v u e) | inr j ↦ inr (among_in vs u j) ]

in_among : (us : List ℕ) (u : ℕ) → In u us → is_among u (map as_txn us) ≡ true
in_among [] u i = absurd i
in_among (v ∷ vs) u i = elim i [ inl e ↦ or_left (eqb v u) _ (eq-eqb v u e) | inr j ↦ or_right (eqb v u) _ (in_among vs u j) ]

-- the transactions that pass a test
module _ (p : ℕ → Bool) (H : List Event) where
  pub those_ascend : IsAscendingBy number_of (map as_txn (filter p (txns H)))
  unfolding txns
  those_ascend = ascending_txns _ (ascending-filter number p (numbers (begun_count H)) (numbers_ascending (begun_count H)))

  -- a test that only they pass finds the same in their list as in the whole history
  module _ (q : ℕ → Bool) (r : Txn → Bool) (only : (u : ℕ) → q u ≡ true → p u ≡ true) (same : (u : ℕ) → p u ≡ true → q u ≡ r (as_txn u)) where
    finds_in : (us : List ℕ) → find r (map as_txn (filter p us)) ≡ some_txn (find q us)
    finds_in [] = refl
    finds_in (u ∷ us) = go (p u) refl (q u) refl (finds_in us)
      where
        go : (a : Bool) → p u ≡ a → (b : Bool) → q u ≡ b → find r (map as_txn (filter p us)) ≡ some_txn (find q us)
            → find r (map as_txn (cond a (u ∷ filter p us) (filter p us))) ≡ some_txn (cond b (Some u) (find q us))
        go true e true f ih = rw (sym (same u e) ∙ f) refl
        go true e false f ih = rw (sym (same u e) ∙ f) ih
        go false e true f ih = absurd (both_ways _ e (only u f))
        go false e false f ih = ih

    pub finds : find r (map as_txn (filter p (txns H))) ≡ some_txn (find q (txns H))
    finds = finds_in (txns H)

  -- each of them has begun
  module _ {S : Setup} (o : IsOrderly S H) (came : (u : ℕ) → p u ≡ true → begun H u ≡ true) where
    there : (u : ℕ) → p u ≡ true → In u (txns H)
    unfolding txns
    there u h = let z = o.numbered u (came u h) in In-numbers (begun_count H) u z.0 z.1

    pub among_those : (u : ℕ) → is_among u (map as_txn (filter p (txns H))) ≡ p u
    among_those u = elim (cases_Bool (p u)) [
      | inl e ↦ in_among _ u (In-filter p u (txns H) (there u e) e) ∙ sym e
      | inr e ↦ false_from_ne_true _ (λ k. both_ways _ e (filter-In p u (txns H) (among_in _ u k)).1) ∙ sym e
    ]

    -- an ascending list with the same members is the list of them
    pub listed : (ts : List Txn) → IsAscendingBy number_of ts → ((u : ℕ) → is_among u ts ≡ p u) → ts ≡ map as_txn (filter p (txns H))
    listed ts a h = among_same ts _ a those_ascend (λ u. h u ∙ sym (among_those u))

-- the element at a place of a list is a member of it
pub at_among : (ts : List Txn) (i : ℕ) (d : Txn) → i < length ts → is_among (get_or ts i d).0 ts ≡ true
at_among [] i d l = absurd (omega arith)
at_among (t ∷ ts) zero d l = or_left _ _ (eq-eqb t.0 t.0 refl)
at_among (t ∷ ts) (suc i) d l = or_right _ _ (at_among ts i d (omega arith))

module _ (S : Setup) (H : List Event) (n : ℕ) (x : Cell) where
  pub puts_parts : (u : ℕ) → has_put_in S H n x u ≡ true → (on S H n u ≡ true) × (counts H u ≡ true) × (wrote H u x ≡ true)
  puts_parts u h =
      let p = and_parts (on S H n u && counts H u) (wrote H u x) h in
      let q = and_parts (on S H n u) (counts H u) p.0 in
      (q.0, q.1, p.1)

  pub putter_begun : IsOrderly S H → (u : ℕ) → has_put_in S H n x u ≡ true → begun H u ≡ true
  putter_begun o u h = o.wrote u x (puts_parts u h).2

  pub committer_begun : IsOrderly S H → (u : ℕ) → has_committed_in S H n x u ≡ true → begun H u ≡ true
  committer_begun o u h = o.wrote u x (and_parts (on S H n u && committed H u) (wrote H u x) h).1

  pub among_writers : (u : ℕ) → IsOrderly S H → is_among u (writers_in S H n x) ≡ has_put_in S H n x u
  among_writers u o = among_those (has_put_in S H n x) H o (putter_begun o) u

  pub writers_ascend : IsAscendingBy number_of (writers_in S H n x)
  writers_ascend = those_ascend (has_put_in S H n x) H

module _ (S : Setup) (H : List Event) (n : ℕ) (x : Cell) where
  pub reads_parts : (u : ℕ) → has_read_in S H n x u ≡ true → (on S H n u ≡ true) × (not (aborted H u) ≡ true) × (got H u x ≡ true)
  reads_parts u h =
      let p = and_parts (on S H n u && not (aborted H u)) (got H u x) h in
      let q = and_parts (on S H n u) (not (aborted H u)) p.0 in
      (q.0, q.1, p.1)

  pub reader_begun : IsOrderly S H → (u : ℕ) → has_read_in S H n x u ≡ true → begun H u ≡ true
  reader_begun o u h = o.got u x (reads_parts u h).2

  pub among_readers : (u : ℕ) → IsOrderly S H → is_among u (readers_in S H n x) ≡ has_read_in S H n x u
  among_readers u o = among_those (has_read_in S H n x) H o (reader_begun o) u

  pub readers_ascend : IsAscendingBy number_of (readers_in S H n x)
  readers_ascend = those_ascend (has_read_in S H n x) H

-- a transaction that has begun and has the node on its path is on the node
pub here_from : (f : Facts) (n u : ℕ) → IsOrderly (setup_of f) (events_of f) → begun (events_of f) u ≡ true → on (setup_of f) (events_of f) n u ≡ true → IsHere f n u
here_from f n u o b h = record { typed = typed_now f u o b; on = h }

-- so each writer and each reader of a cell is on the node
module _ (f : Facts) (n : ℕ) (x : Cell) (o : IsOrderly (setup_of f) (events_of f)) where
  pub writers_here : AreHere f n (writers_in (setup_of f) (events_of f) n x)
  writers_here u a =
      let h = sym (among_writers (setup_of f) (events_of f) n x u o) ∙ a in
      here_from f n u o (putter_begun (setup_of f) (events_of f) n x o u h) (puts_parts (setup_of f) (events_of f) n x u h).0

  pub readers_here : AreHere f n (readers_in (setup_of f) (events_of f) n x)
  readers_here u a =
      let h = sym (among_readers (setup_of f) (events_of f) n x u o) ∙ a in
      here_from f n u o (reader_begun (setup_of f) (events_of f) n x o u h) (reads_parts (setup_of f) (events_of f) n x u h).0
