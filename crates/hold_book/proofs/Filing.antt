-- The lists of holds after an access and after a release.
use Rattle.std.proofs.Common.{◌≡◌, ℕ, suc, ◌<◌, ◌≤◌, Bool, true, false, cond, ◌&&◌, ◌||◌, List, [], ◌∷◌, get_or, set, Result, Ok, Err, refl, sym, ◌∙◌, ap, subst, arith, inl, inr}
use Rattle.std.specs.Ordering.{is_eq}
use Rattle.std.specs.Result.{is_err}
use Rattle.std.proofs.lemmas.Bool.{cases_order, eq-eqb, ne_eqb}
use Rattle.std.proofs.lemmas.List.{set-get_or}
use Rattle.teb_rules.specs.declared.names.Txn.{Txn}
use Rattle.teb_rules.specs.declared.names.Cell.{Cell}
use Rattle.teb_rules.specs.names.Cells.{same_cell, cell_cmp}
use Rattle.teb_rules.proofs.lemmas.names.CellOrder.{same_cell-cell_cmp}
use Rattle.teb_rules.specs.history.Ascending.{AllAbove, IsAscendingBy, next_place, place_of, put_by}
use Rattle.teb_rules.proofs.lemmas.history.AscendingLists.{place_below, place_here, place_above, put-set, ascending-put, ascending-filter}
use Rattle.sorted_multimap.specs.Multimap.{Shown, values_in}
use Rattle.teb_rules.proofs.lemmas.names.SameCells.{same_cell-true}
use Rattle.teb_rules.proofs.lemmas.names.Bools.{or_false}
use Rattle.hold_book.specs.declared.Hold.{Hold}
use Rattle.hold_book.specs.Books.{hold_number, has_put, accessed, released, IsFiled}

-- a transaction whose number is below all holds has no put among them
none_above : (t : ℕ) (hs : List Hold) → AllAbove hold_number t hs → has_put t hs ≡ false
none_above t [] a = refl
none_above t (h ∷ hs) a = rw (ne_eqb h.txn.0 t (let l = a.0 in λ e. omega arith)) (none_above t hs a.1)

above_less : (m n : ℕ) (hs : List Hold) → m ≤ n → AllAbove hold_number n hs → AllAbove hold_number m hs
above_less m n [] l h = tt
above_less m n (x ∷ xs) l h = (omega (arith, h.0), above_less m n xs l h.1)

-- the hold of a transaction, if there is one, says whether the transaction has put
put_found : (t : ℕ) (hs : List Hold) (i : ℕ) (d : Hold) → IsAscendingBy hold_number hs → place_of hold_number hs t ≡ Ok i → ((get_or hs i d).txn.0 ≡ t) × (has_put t hs ≡ (get_or hs i d).wrote)
put_found t [] i d a h = absurd (cc)
put_found t (g ∷ hs) i d a h = elim (cases_order g.txn.0 t) [
  | inl e ↦ here e (let z = place_here hold_number g hs t e in cc)
  | inr o ↦ elim o [
    | inl l ↦ below l (place_of hold_number hs t) (λ k q. put_found t hs k d a.1 q) (sym (place_below hold_number g hs t l) ∙ h)
    | inr l ↦ absurd (let z : Err 0 ≡ Ok i = sym (place_above hold_number g hs t l) ∙ h in cc)
  ]
]
  where
    here : g.txn.0 ≡ t → 0 ≡ i → ((get_or (g ∷ hs) i d).txn.0 ≡ t) × (has_put t (g ∷ hs) ≡ (get_or (g ∷ hs) i d).wrote)
    here e q =
        subst (λ (k : ℕ). ((get_or (g ∷ hs) k d).txn.0 ≡ t) × (has_put t (g ∷ hs) ≡ (get_or (g ∷ hs) k d).wrote)) q
        (e, (λ j. (eq-eqb g.txn.0 t e j && g.wrote) || none_above t hs (above_less t g.txn.0 hs (omega arith) a.0) j) ∙ or_false g.wrote)

    below : g.txn.0 < t → (p : Result ℕ ℕ) → ((k : ℕ) → p ≡ Ok k → ((get_or hs k d).txn.0 ≡ t) × (has_put t hs ≡ (get_or hs k d).wrote)) → next_place p ≡ Ok i → ((get_or (g ∷ hs) i d).txn.0 ≡ t)
        × (has_put t (g ∷ hs) ≡ (get_or (g ∷ hs) i d).wrote)
    below l (Ok k) rec q =
        let next : suc k ≡ i = cc in
        let ih = rec k refl in
        subst (λ (m : ℕ). ((get_or (g ∷ hs) m d).txn.0 ≡ t) × (has_put t (g ∷ hs) ≡ (get_or (g ∷ hs) m d).wrote)) next
        (ih.0, ap (λ (b : Bool). (b && g.wrote) || has_put t hs) (ne_eqb g.txn.0 t (λ e. omega arith)) ∙ ih.1)
    below l (Err k) e q = absurd (cc)

put_absent : (t : ℕ) (hs : List Hold) (i : ℕ) → IsAscendingBy hold_number hs → place_of hold_number hs t ≡ Err i → has_put t hs ≡ false
put_absent t [] i a h = refl
put_absent t (g ∷ hs) i a h = elim (cases_order g.txn.0 t) [
  | inl e ↦ absurd (let z : Ok 0 ≡ Err i = sym (place_here hold_number g hs t e) ∙ h in cc)
  | inr o ↦ elim o [
    | inl l ↦ below l (place_of hold_number hs t) (λ k q. put_absent t hs k a.1 q) (sym (place_below hold_number g hs t l) ∙ h)
    | inr l ↦ ap (λ (b : Bool). (b && g.wrote) || has_put t hs) (ne_eqb g.txn.0 t (λ e. omega arith)) ∙ none_above t hs (above_less t g.txn.0 hs (omega arith) a.0)
  ]
]
  where
    below : g.txn.0 < t → (p : Result ℕ ℕ) → ((k : ℕ) → p ≡ Err k → has_put t hs ≡ false) → next_place p ≡ Err i → has_put t (g ∷ hs) ≡ false
    below l (Ok k) e q = absurd (cc)
    below l (Err k) rec q = ap (λ (b : Bool). (b && g.wrote) || has_put t hs) (ne_eqb g.txn.0 t (λ e. omega arith)) ∙ rec k refl

-- a read by a holder changes nothing
read_again : (t : Txn) (wrote : Bool) (hs : List Hold) (i : ℕ) → wrote ≡ false → IsAscendingBy hold_number hs → place_of hold_number hs t.0 ≡ Ok i → hs ≡ accessed t wrote hs
read_again t true hs i e a p = absurd (cc)
read_again t false hs i e a p =
    let made : ℕ → Bool → Hold = λ n b. record { txn = record { 0 = n }; wrote = b } in
    let d = made t.0 false in
    let found = put_found t.0 hs i d a p in
    sym (set-get_or hs i d) ∙ ap (λ (h : Hold). set hs i h) (ap (λ (n : ℕ). made n (get_or hs i d).wrote) found.0 ∙ ap (made t.0) (sym found.1))
    ∙ sym (put-set hold_number (made t.0 (has_put t.0 hs)) hs i p)

-- a put replaces the hold of its transaction, or adds one
pub put_again : (t : Txn) (wrote : Bool) (hs : List Hold) → wrote ≡ true → put_by hold_number (record { txn = t; wrote = wrote }) hs ≡ accessed t wrote hs
put_again t true hs e = refl
put_again t false hs e = absurd (cc)

-- a read by a transaction without a hold adds one
put_anew : (t : Txn) (wrote : Bool) (hs : List Hold) (i : ℕ) → IsAscendingBy hold_number hs → place_of hold_number hs t.0 ≡ Err i
    → put_by hold_number (record { txn = t; wrote = wrote }) hs ≡ accessed t wrote hs
put_anew t wrote hs i a p =
    let made : Bool → Hold = λ b. record { txn = t; wrote = b } in
    ap (λ (b : Bool). put_by hold_number (made b) hs) (sym (or_false wrote) ∙ ap (λ (b : Bool). wrote || b) (sym (put_absent t.0 hs i a p)))

-- a read adds a hold if its transaction has none
pub put_unless : (t : Txn) (wrote : Bool) (hs : List Hold) (added : Bool) → wrote ≡ false → IsAscendingBy hold_number hs → added ≡ is_err (place_of hold_number hs t.0)
    → cond added (put_by hold_number (record { txn = t; wrote = wrote }) hs) hs ≡ accessed t wrote hs
put_unless t wrote hs added e a told = ap (λ (b : Bool). cond b (put_by hold_number (record { txn = t; wrote = wrote }) hs) hs) told ∙ go (place_of hold_number hs t.0) refl
  where
    go : (r : Result ℕ ℕ) → place_of hold_number hs t.0 ≡ r → cond (is_err r) (put_by hold_number (record { txn = t; wrote = wrote }) hs) hs ≡ accessed t wrote hs
    go (Ok i) p = read_again t wrote hs i e a p
    go (Err i) p = put_anew t wrote hs i a p

-- the hold is written by a put, and by a read if there is none
pub put_joined : (t : Txn) (wrote : Bool) (hs : List Hold) → IsAscendingBy hold_number hs → cond (wrote || is_err (place_of hold_number hs t.0))
    (put_by hold_number (record { txn = t; wrote = wrote }) hs) hs ≡ accessed t wrote hs
put_joined t true hs a = put_again t true hs refl
put_joined t false hs a = put_unless t false hs _ refl a refl

-- an edit of the holds of one cell
pub edited_cell : (f : Cell → List Hold) (x : Cell) (g : List Hold → List Hold) (new : List Hold) → new ≡ g (f x) → (y : Cell) → cond (is_eq (cell_cmp x y)) new (f y) ≡ cond (same_cell x y) (g (f y))
    (f y)
edited_cell f x g new e y = go (same_cell x y) refl
  where
    go : (b : Bool) → same_cell x y ≡ b → cond (is_eq (cell_cmp x y)) new (f y) ≡ cond b (g (f y)) (f y)
    go true h = ap (λ (o : Bool). cond o new (f y)) (sym (same_cell-cell_cmp x y) ∙ h) ∙ e ∙ ap (λ (z : Cell). g (f z)) (same_cell-true x y h)
    go false h = ap (λ (o : Bool). cond o new (f y)) (sym (same_cell-cell_cmp x y) ∙ h)

-- an edit of the holds of one cell keeps all holds in order, if it keeps its list in order
pub filed_edit : (a a' : Shown Cell Hold) (x : Cell) (g : List Hold → List Hold) → IsFiled a → ((hs : List Hold) → IsAscendingBy hold_number hs → IsAscendingBy hold_number (g hs))
    → ((y : Cell) → values_in cell_cmp a' y ≡ cond (same_cell x y) (g (values_in cell_cmp a y)) (values_in cell_cmp a y)) → IsFiled a'
filed_edit a a' x g filed keeps edit = record { ascending = λ y. subst (λ (hs : List Hold). IsAscendingBy hold_number hs) (sym (edit y)) (go y (same_cell x y)) }
  where
    go : (y : Cell) (b : Bool) → IsAscendingBy hold_number (cond b (g (values_in cell_cmp a y)) (values_in cell_cmp a y))
    go y true = keeps (values_in cell_cmp a y) (filed.ascending y)
    go y false = filed.ascending y

pub filed_access : (a a' : Shown Cell Hold) (x : Cell) (t : Txn) (wrote : Bool) → IsFiled a
    → ((y : Cell) → values_in cell_cmp a' y ≡ cond (same_cell x y) (accessed t wrote (values_in cell_cmp a y)) (values_in cell_cmp a y)) → IsFiled a'
filed_access a a' x t wrote filed = filed_edit a a' x (accessed t wrote) filed (λ hs h. ascending-put hold_number _ hs h)

pub filed_join : (a a' : Shown Cell Hold) (x : Cell) (t : Txn) (wrote joined : Bool) → IsFiled a
    → (joined ≡ true → (y : Cell) → values_in cell_cmp a' y ≡ cond (same_cell x y) (accessed t wrote (values_in cell_cmp a y)) (values_in cell_cmp a y)) → (joined ≡ false → a' ≡ a) → IsFiled a'
filed_join a a' x t wrote true filed edit kept = filed_access a a' x t wrote filed (edit refl)
filed_join a a' x t wrote false filed edit kept = subst IsFiled (sym (kept refl)) filed

pub filed_release : (a a' : Shown Cell Hold) (x : Cell) (t : Txn) → IsFiled a
    → ((y : Cell) → values_in cell_cmp a' y ≡ cond (same_cell x y) (released t.0 (values_in cell_cmp a y)) (values_in cell_cmp a y)) → IsFiled a'
filed_release a a' x t filed = filed_edit a a' x (released t.0) filed (λ hs h. ascending-filter hold_number _ hs h)
