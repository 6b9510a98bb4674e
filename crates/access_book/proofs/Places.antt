-- The lists of cells by place, after a transaction was put among the accessors of one cell.
use Rattle.std.proofs.Common.{◌≡◌, ℕ, suc, zero, ◌<◌, Bool, true, false, cond, eqb, ◌&&◌, ◌||◌, List, [], ◌∷◌, length, get_or, set, inl, inr, refl, sym, ◌∙◌, ap, subst, arith}
use Rattle.std.specs.List.{IsDistinct, AllByRecursion}
use Rattle.std.proofs.lemmas.Bool.{cases_lt}
use Rattle.std.proofs.lemmas.List.{get_or_past}
use Rattle.teb_rules.specs.declared.names.Cell.{Cell}
use Rattle.teb_rules.specs.declared.names.Txn.{Txn}
use Rattle.teb_rules.specs.names.Cells.{same_cell}
use Rattle.teb_rules.specs.history.Ascending.{IsAscendingBy, put_by}
use Rattle.teb_rules.specs.history.Live.{number_of}
use Rattle.teb_rules.proofs.lemmas.history.AscendingLists.{ascending-put}
use Rattle.cell_index.specs.Cells.{place_in, with_cell, with_place}
use Rattle.teb_rules.proofs.lemmas.names.SameCells.{same_cell-true}
use Rattle.cell_index.proofs.Places.{place_back}
use Rattle.cell_index.proofs.ListEdits.{placed, placed_list, placed_edited}
use Rattle.arena_multimap.specs.NumberedLists.{list_in}
use Rattle.access_book.specs.Books.{is_among, is_accessor, list_of, AreKept}
use Rattle.access_book.specs.Places.{cell_at}
use Rattle.access_book.proofs.Among.{among_put, put_cond}

pub list_of-is : (cells : List Cell) (lists : List (List Txn)) (x : Cell) → list_of cells lists x ≡ list_in lists (place_in cells x)
unfolding list_of
list_of-is cells lists x = refl

pub nobody_of : (cells : List Cell) (lists : List (List Txn)) (x : Cell) → lists ≡ [] → list_of cells lists x ≡ []
nobody_of cells lists x e = list_of-is cells lists x ∙ ap (λ (ls : List (List Txn)). list_in ls (place_in cells x)) e

pub at_all : {A : Type 0} (P : A → Type 0) (xs : List A) (i : ℕ) (d : A) → AllByRecursion P xs → i < length xs → P (get_or xs i d)
at_all P [] i d h lt = absurd (omega arith)
at_all P (x ∷ xs) zero d h lt = h.0
at_all P (x ∷ xs) (suc i) d h lt = at_all P xs i d h.1 (omega arith)

module _ (cells : List Cell) (lists : List (List Txn)) (unique : IsDistinct same_cell cells) where
  -- the list at a place is the list of the place's cell
  pub list_back : (p : ℕ) → p < length cells → list_of cells lists (cell_at cells p) ≡ list_in lists p
  list_back p lt = list_of-is cells lists (cell_at cells p) ∙ ap (list_in lists) (place_back cells p _ unique lt)

  -- all lists ascend if the lists of all cells do
  pub all_ascend : length lists ≡ length cells → ((x : Cell) → IsAscendingBy number_of (list_of cells lists x)) → (i : ℕ) → IsAscendingBy number_of (list_in lists i)
  all_ascend paired h i = elim (cases_lt i (length cells)) [
    | inl lt ↦ subst (IsAscendingBy number_of) (list_back i lt) (h (cell_at cells i))
    | inr ge ↦ subst (IsAscendingBy number_of) (sym (get_or_past lists i [] (omega (arith, ge, paired)))) tt
  ]

pub filed_back : (cells : List Cell) (lists : List (List Txn)) → ((i : ℕ) → IsAscendingBy number_of (list_in lists i)) → (x : Cell) → IsAscendingBy number_of (list_of cells lists x)
filed_back cells lists h x = subst (IsAscendingBy number_of) (sym (list_of-is cells lists x)) (h (place_in cells x))

module _ (cells : List Cell) (lists : List (List Txn)) (c : Cell) (paired : length lists ≡ length cells) (cells' : List Cell) (lists1 : List (List Txn)) (e : cells' ≡ with_cell cells c)
    (f : lists1 ≡ with_place cells c lists) where
  -- the accessors of each cell stay
  pub kept : AreKept (list_of cells lists) (list_of cells' lists1)
  kept x = list_of-is cells' lists1 x ∙ placed cells lists c paired cells' lists1 e f x ∙ sym (list_of-is cells lists x)

  pub kept_filed : ((x : Cell) → IsAscendingBy number_of (list_of cells lists x)) → (x : Cell) → IsAscendingBy number_of (list_of cells' lists1 x)
  kept_filed all x = subst (IsAscendingBy number_of) (sym (kept x)) (all x)

  module _ (p : ℕ) (here : p ≡ place_in cells c) where
    own : list_in lists1 p ≡ list_of cells lists c
    own = placed_list cells lists c paired cells' lists1 e f p here ∙ sym (list_of-is cells lists c)

    pub put_ascends : ((x : Cell) → IsAscendingBy number_of (list_of cells lists x)) → IsAscendingBy number_of (list_in lists1 p)
    put_ascends all = subst (IsAscendingBy number_of) (sym own) (all c)

    -- t is put among the accessors of c
    module _ (t : Txn) (lists' : List (List Txn)) (put : lists' ≡ set lists1 p (put_by number_of t (list_in lists1 p))) where
      put_is : (x : Cell) → list_of cells' lists' x ≡ cond (same_cell c x) (put_by number_of t (list_of cells lists c)) (list_of cells lists x)
      put_is x =
          list_of-is cells' lists' x
          ∙ placed_edited cells lists c paired cells' lists1 e f p here lists' _ put x
          ∙ (λ j. cond (same_cell c x) (put_by number_of t (own j)) (sym (list_of-is cells lists x) j))

      pub put_filed : ((x : Cell) → IsAscendingBy number_of (list_of cells lists x)) → (x : Cell) → IsAscendingBy number_of (list_of cells' lists' x)
      put_filed all x = go (same_cell c x) (put_is x)
        where
          go : (b : Bool) → list_of cells' lists' x ≡ cond b (put_by number_of t (list_of cells lists c)) (list_of cells lists x) → IsAscendingBy number_of (list_of cells' lists' x)
          go true z = subst (IsAscendingBy number_of) (sym z) (ascending-put number_of t (list_of cells lists c) (all c))
          go false z = subst (IsAscendingBy number_of) (sym z) (all x)

      pub put_among : (x : Cell) (u : ℕ) → is_accessor (list_of cells' lists') x u ≡ (is_accessor (list_of cells lists) x u || (same_cell c x && eqb t.0 u))
      put_among x u = go (same_cell c x) refl (put_is x)
        where
          go : (b : Bool) → same_cell c x ≡ b → list_of cells' lists' x ≡ cond b (put_by number_of t (list_of cells lists c)) (list_of cells lists x)
              → is_among u (list_of cells' lists' x) ≡ (is_among u (list_of cells lists x) || (b && eqb t.0 u))
          go true s z = ap (is_among u) z ∙ among_put t (list_of cells lists c) u ∙ ap (λ (y : Cell). is_among u (list_of cells lists y) || eqb t.0 u) (same_cell-true c x s)
          go false s z = ap (is_among u) z ∙ put_cond false (is_among u (list_of cells lists x)) (eqb t.0 u)
