-- What edits do to the lists of cells.
use Rattle.std.proofs.Common.{◌≡◌, ℕ, suc, ◌+◌, Bool, true, false, cond, List, [], ◌∷◌, sym, ◌∙◌, ap, arith}
use Rattle.std.specs.List.{count_by}
use Rattle.teb_rules.specs.declared.names.Cell.{Cell}
use Rattle.dependency_book.specs.declared.registers.Registers.{Registers}
use Rattle.teb_rules.specs.declared.history.Event.{Event}
use Rattle.sorted_multimap.specs.LastMatches.{without_last, without_lasts}
pub use Rattle.sorted_multimap.proofs.TxnKeys.{one_txn}
use Rattle.dependency_book.specs.Places.{Room, HasRoom}
use Rattle.dependency_book.specs.Books.{HasRooms}
use Rattle.sorted_multimap.proofs.TakenMatches.{lasts_after, count_cons}

-- for each event that passes at a cell, the last value that passes is removed from a; b is the state while the events `left` of `all` remain
pub record IsForgetting {V : Type 0} (p : V → Bool) (q : Cell → Event → Bool) (a b : Cell → List V) (all left : List Event) : Type 0 where
  pub values : (x : Cell) → without_lasts (count_by (q x) left) p (b x) ≡ without_lasts (count_by (q x) all) p (a x)

module _ {V : Type 0} (p : V → Bool) (q : Cell → Event → Bool) (a : Cell → List V) (all : List Event) where
  pub forgetting_next : (b c : Cell → List V) (left rest : List Event) (e : Event) → IsForgetting p q a b all left → left ≡ e ∷ rest
      → ((x : Cell) → c x ≡ cond (q x e) (without_last p (b x)) (b x))
      → IsForgetting p q a c all rest
  forgetting_next b c left rest e was is taken = record {
    values = λ x.
        ap (without_lasts (count_by (q x) rest) p) (taken x) ∙ one_more (q x e) (count_by (q x) rest) (b x)
        ∙ ap (λ (n : ℕ). without_lasts n p (b x)) (sym (count_cons (q x) true e rest) ∙ ap (count_by (q x)) (sym is)) ∙ was.values x;
  }
    where
      one_more : (c : Bool) (n : ℕ) (vs : List V) → without_lasts n p (cond c (without_last p vs) vs) ≡ without_lasts (n + cond c 1 0) p vs
      one_more true n vs = lasts_after p n vs ∙ ap (λ (m : ℕ). without_lasts m p vs) (let e : suc n ≡ n + 1 = omega arith in e)
      one_more false n vs = ap (λ (m : ℕ). without_lasts m p vs) (let e : n ≡ n + 0 = omega arith in e)

  -- an event that does not pass changes nothing
  pub forgetting_other : (b c : Cell → List V) (left rest : List Event) (e : Event) → IsForgetting p q a b all left → left ≡ e ∷ rest → ((x : Cell) → q x e ≡ false) → ((x : Cell) → c x ≡ b x)
      → IsForgetting p q a c all rest
  forgetting_other b c left rest e was is off same = forgetting_next b c left rest e was is (λ x. same x ∙ sym (ap (λ (o : Bool). cond o (without_last p (b x)) (b x)) (off x)))

  -- no event remains
  pub forgotten : (b : Cell → List V) (left : List Event) → IsForgetting p q a b all left → left ≡ [] → (x : Cell) → b x ≡ without_lasts (count_by (q x) all) p (a x)
  forgotten b left was is x = ap (λ (es : List Event). without_lasts (count_by (q x) es) p (b x)) (sym is) ∙ was.values x

less_room : (r : Room) (n : ℕ) → HasRoom r (n + 1) → HasRoom r n
less_room r n h = record { cells = omega (arith, h.cells); readers = omega (arith, h.readers); writers = omega (arith, h.writers) }

pub less_rooms : (r : Registers) (n : ℕ) → HasRooms r (n + 1) → HasRooms r n
less_rooms r n h = record { cells = less_room r.cells.room n h.cells; sources = omega (arith, h.sources); unfinished = omega (arith, h.unfinished) }
