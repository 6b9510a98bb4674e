-- The accesses of a transaction, and the steps of a walk along them.
use Rattle.std.proofs.Common.{◌≡◌, ℕ, ℤ, Bool, true, false, cond, ◌||◌, List, [], ◌∷◌, is_some, Option, Some, None, refl, sym, ◌∙◌, subst}
use Rattle.std.specs.Borrow.{Bor}
use Rattle.std.specs.List.{list_any}
use Rattle.teb_rules.specs.declared.names.Cell.{Cell}
use Rattle.teb_rules.specs.declared.names.Txn.{Txn}
use Rattle.teb_rules.specs.names.Cells.{same_cell}
use Rattle.teb_rules.specs.declared.history.Event.{Event}
use Rattle.teb_rules.specs.declared.history.Event.TheVariants.{Got, Put}
use Rattle.teb_rules.specs.history.Accesses.{wrote, got}
use Rattle.teb_rules.specs.history.Ascending.{IsAscendingBy}
use Rattle.teb_rules.specs.history.Live.{number_of}
use Rattle.teb_rules.specs.history.OwnEvents.{own_events, put_in, got_in}
use Rattle.teb_rules.proofs.lemmas.history.OwnWalks.{wrote_own, got_own}
use Rattle.teb_rules.specs.Setup.{Setup}
use Rattle.phase_api.specs.FactsView.{setup_of, events_of}
use Rattle.access_book.specs.declared.accesses.Access.{Access}
use Rattle.access_book.specs.declared.accesses.Access.TheVariants as access
use Rattle.access_book.specs.Touched.{Touched, Reads, Puts, any_reads, any_puts, touched_in}
use Rattle.access_book.specs.Books.{Shown, IsAccess, Walk, Steps}
use Rattle.snapshot_node.specs.declared.asked.Asked.{Asked}
use Rattle.snapshot_node.specs.Asking.{AreThere, there}
use Rattle.snapshot_node.specs.Standing.{has_put_in, writers_in, has_read_in, readers_in}
use Rattle.snapshot_node.proofs.Listed.{listed, putter_begun, reader_begun, writers_ascend, readers_ascend, writers_here, readers_here}

pub some_if : (b : Bool) (v : Option ℤ) → is_some (cond b (Some v) None) ≡ b
some_if true v = refl
some_if false v = refl

reads_in : (x : Cell) (es : List Event) → any_reads x (touched_in es) ≡ list_any (λ e. is_some (got_in x e)) es
reads_in x [] = refl
reads_in x (Got t y w v ∷ es) = λ j. sym (some_if (same_cell y x) v) j || reads_in x es j
reads_in x (_ ∷ es) = reads_in x es

puts_in : (x : Cell) (es : List Event) → any_puts x (touched_in es) ≡ list_any (λ e. is_some (put_in x e)) es
puts_in x [] = refl
puts_in x (Put t y v ∷ es) = λ j. sym (some_if (same_cell y x) v) j || puts_in x es j
puts_in x (_ ∷ es) = puts_in x es

-- the accesses of t, the newest first
abbrev pub accesses_of : List Event → ℕ → List Touched
accesses_of H t = touched_in (own_events H t)

-- the accesses of t include a read of each cell that it has read, and a put of each cell that it has put
pub reads_own : (H : List Event) (t : ℕ) (x : Cell) → any_reads x (accesses_of H t) ≡ got H t x
reads_own H t x = reads_in x (own_events H t) ∙ sym (got_own H t x)

pub puts_own : (H : List Event) (t : ℕ) (x : Cell) → any_puts x (accesses_of H t) ≡ wrote H t x
puts_own H t x = puts_in x (own_events H t) ∙ sym (wrote_own H t x)

-- the next access is a read, and the list that it lends is the writers of the cell
pub record ReadsNext (a : Asked) (s t : Walk) (ts : Bor (List Txn)) : Type 0 where
  pub cell : Cell
  pub left : s.left ≡ Reads cell ∷ t.left
  pub those : ts.now ≡ there a writers_in cell

-- the next access is a put, and the list that it lends is the readers of the cell
pub record PutsNext (a : Asked) (s t : Walk) (ts : Bor (List Txn)) : Type 0 where
  pub cell : Cell
  pub left : s.left ≡ Puts cell ∷ t.left
  pub those : ts.now ≡ there a readers_in cell

-- at the end of a walk, nothing is left
pub walk_end : (s t : Walk) → Steps s None t → s.left ≡ []
walk_end s t h = h.1.0

module _ (a : Asked) where
  abbrev S : Setup
  S = setup_of a.facts.now

  abbrev H : List Event
  H = events_of a.facts.now

  abbrev n : ℕ
  n = a.register.now.node.0

  -- a walk along the control's own book
  module _ (s t : Walk) (own : s.book ≡ a.register.now.accesses) (i : Access) (steps : Steps s (Some i) t) where
    pub book_next : t.book ≡ a.register.now.accesses
    book_next = steps.0 ∙ own

    shown : IsAccess a.register.now.accesses i steps.1.0
    shown = subst (λ (b : Shown). IsAccess b i steps.1.0) own steps.1.2

    pub reads_next : (ts : Bor (List Txn)) → i ≡ access.Read ts → ReadsNext a s t ts
    reads_next ts e = go steps.1.0 steps.1.1 (subst (λ (k : Access). IsAccess a.register.now.accesses k steps.1.0) e shown)
      where
        go : (z : Touched) → s.left ≡ z ∷ t.left → IsAccess a.register.now.accesses (access.Read ts) z → ReadsNext a s t ts
        go (Reads x) l h = record {
          cell = x;
          left = l;
          those = h ∙ listed (has_put_in S H n x) H a.stands.orderly (putter_begun S H n x a.stands.orderly) _ (a.stands.filed.writers x)
              (a.stands.put x);
        }
        go (Puts x) l h = absurd h

    pub puts_next : (ts : Bor (List Txn)) → i ≡ access.Put ts → PutsNext a s t ts
    puts_next ts e = go steps.1.0 steps.1.1 (subst (λ (k : Access). IsAccess a.register.now.accesses k steps.1.0) e shown)
      where
        go : (z : Touched) → s.left ≡ z ∷ t.left → IsAccess a.register.now.accesses (access.Put ts) z → PutsNext a s t ts
        go (Puts x) l h = record {
          cell = x;
          left = l;
          those = h ∙ listed (has_read_in S H n x) H a.stands.orderly (reader_begun S H n x a.stands.orderly) _ (a.stands.filed.readers x)
              (a.stands.read x);
        }
        go (Reads x) l h = absurd h

    -- an access that is not a read is a put, and one that is not a put is a read
    pub puts_else : ((ts : Bor (List Txn)) → i ≡ access.Read ts → ⊥) → (x : Cell) × (s.left ≡ Puts x ∷ t.left)
    puts_else none = go i none steps.1.0 steps.1.1 shown
      where
        go : (k : Access) → ((ts : Bor (List Txn)) → k ≡ access.Read ts → ⊥) → (z : Touched) → s.left ≡ z ∷ t.left → IsAccess a.register.now.accesses k z → (x : Cell) × (s.left ≡ Puts x ∷ t.left)
        go (access.Read ts) never z l h = absurd (never ts refl)
        go (access.Put ts) never (Puts x) l h = (x, l)
        go (access.Put ts) never (Reads x) l h = absurd h

    pub reads_else : ((ts : Bor (List Txn)) → i ≡ access.Put ts → ⊥) → (x : Cell) × (s.left ≡ Reads x ∷ t.left)
    reads_else none = go i none steps.1.0 steps.1.1 shown
      where
        go : (k : Access) → ((ts : Bor (List Txn)) → k ≡ access.Put ts → ⊥) → (z : Touched) → s.left ≡ z ∷ t.left → IsAccess a.register.now.accesses k z → (x : Cell) × (s.left ≡ Reads x ∷ t.left)
        go (access.Put ts) never z l h = absurd (never ts refl)
        go (access.Read ts) never (Reads x) l h = (x, l)
        go (access.Read ts) never (Puts x) l h = absurd h

  -- the list that an access lends ascends, and the node is on the path of each of its transactions
  module _ {s t : Walk} {ts : Bor (List Txn)} where
    pub next_writers_ascend : ReadsNext a s t ts → IsAscendingBy number_of ts.now
    next_writers_ascend r = subst (IsAscendingBy number_of) (sym r.those) (writers_ascend S H n r.cell)

    pub next_readers_ascend : PutsNext a s t ts → IsAscendingBy number_of ts.now
    next_readers_ascend r = subst (IsAscendingBy number_of) (sym r.those) (readers_ascend S H n r.cell)

    -- the same facts, stated for an equal control
    module _ {b : Asked} (same : b ≡ a) where
      pub next_writers_here : ReadsNext a s t ts → AreThere b ts.now
      next_writers_here r = subst (λ (k : Asked). AreThere k ts.now) (sym same) (subst (AreThere a) (sym r.those) (writers_here a.facts.now n r.cell a.stands.orderly))

      pub next_readers_here : PutsNext a s t ts → AreThere b ts.now
      next_readers_here r = subst (λ (k : Asked). AreThere k ts.now) (sym same) (subst (AreThere a) (sym r.those) (readers_here a.facts.now n r.cell a.stands.orderly))
