-- How an edit at one cell changes the holds that a book shows.
use Rattle.std.proofs.Common.{◌≡◌, ◌==◌, ℕ, Bool, true, false, cond, not, eqb, ◌||◌, List, [], ◌∷◌, length, Vec, Option, Some, None, refl, sym, ◌∙◌, ap, subst, arith, le-ltb}
use Rattle.std.proofs.lemmas.Bool.{eq-eqb, ne_eqb}
use Rattle.std.proofs.lemmas.List.{with_items_is}
use Rattle.std.specs.Vec.{with_items}
use Rattle.std.specs.declared.alloc.Global.{Global}
use Rattle.std.specs.Option.{is_some}
use Rattle.teb_rules.specs.declared.names.Txn.{Txn}
use Rattle.teb_rules.specs.declared.names.Cell.{Cell}
use Rattle.teb_rules.specs.names.Cells.{same_cell, cell_cmp}
use Rattle.sorted_multimap.specs.Multimap.{Shown, values_in}
use Rattle.teb_rules.proofs.lemmas.names.SameCells.{same_cell-true}
use Rattle.teb_rules.proofs.lemmas.names.Bools.{or_false}
use Rattle.hold_book.specs.declared.Hold.{Hold}
use Rattle.hold_book.specs.declared.slots.Alone.{Alone}
use Rattle.hold_book.specs.Slots.{only_hold, only_or}
use Rattle.hold_book.specs.Books.{Held, shown, accessed, released, shown_in, IsFiled, IsApart}

pub same_either : {B : Type 0} (b : Bool) (a : B) → a ≡ cond b a a
same_either true a = refl
same_either false a = refl

-- the slots and the other lists are edited only at c
pub edited : (c : Cell) (h h' : Cell → Option Hold) (f f' : Cell → List Hold) (g : List Hold → List Hold) (k : Option Hold) (v : List Hold → List Hold)
    → ((x : Cell) → h' x ≡ cond (same_cell c x) k (h x)) → ((x : Cell) → f' x ≡ cond (same_cell c x) (v (f x)) (f x)) → only_or k (v (f c)) ≡ g (only_or (h c) (f c))
    → (x : Cell) → only_or (h' x) (f' x) ≡ cond (same_cell c x) (g (only_or (h x) (f x))) (only_or (h x) (f x))
edited c h h' f f' g k v slots others here x = (λ j. only_or (slots x j) (others x j)) ∙ go (same_cell c x) refl
  where
    go : (b : Bool) → same_cell c x ≡ b → only_or (cond b k (h x)) (cond b (v (f x)) (f x)) ≡ cond b (g (only_or (h x) (f x))) (only_or (h x) (f x))
    go true e = subst (λ (z : Cell). only_or k (v (f z)) ≡ g (only_or (h z) (f z))) (same_cell-true c x e) here
    go false e = refl

-- only the slot of c is edited
pub edited_slots : (c : Cell) (h h' : Cell → Option Hold) (f : Cell → List Hold) (g : List Hold → List Hold) (k : Option Hold)
    → ((x : Cell) → h' x ≡ cond (same_cell c x) k (h x)) → only_or k (f c) ≡ g (only_or (h c) (f c))
    → (x : Cell) → only_or (h' x) (f x) ≡ cond (same_cell c x) (g (only_or (h x) (f x))) (only_or (h x) (f x))
edited_slots c h h' f g k slots here = edited c h h' f f g k (λ hs. hs) slots (λ x. same_either (same_cell c x) (f x)) here

-- only the list of c is edited, and c is not in its slot
pub edited_others : (c : Cell) (h : Cell → Option Hold) (f f' : Cell → List Hold) (g : List Hold → List Hold) → h c ≡ None → ((x : Cell) → f' x ≡ cond (same_cell c x) (g (f x)) (f x))
    → (x : Cell) → only_or (h x) (f' x) ≡ cond (same_cell c x) (g (only_or (h x) (f x))) (only_or (h x) (f x))
edited_others c h f f' g none others =
    edited c h h f f' g None g (λ x. absent x (same_cell c x) refl) others (λ j. g (only_or (sym none j) (f c)))
  where
    absent : (x : Cell) (b : Bool) → same_cell c x ≡ b → h x ≡ cond b None (h x)
    absent x true e = subst (λ (z : Cell). h z ≡ None) (same_cell-true c x e) none
    absent x false e = refl

-- if no list has holds of the cell that goes to its slot, slots and lists stay apart
pub apart_slots : (c : Cell) (ss ss' : List (Option Alone)) (o : Shown Cell Hold) (k : Option Hold) → IsApart ss o → ((x : Cell) → only_hold ss' x ≡ cond (same_cell c x) k (only_hold ss x))
    → values_in cell_cmp o c ≡ [] → IsApart ss' o
apart_slots c ss ss' o k apart slots none = record { filed = apart.filed; alone = λ x. go x (same_cell c x) refl (slots x) }
  where
    go : (x : Cell) (b : Bool) → same_cell c x ≡ b → only_hold ss' x ≡ cond b k (only_hold ss x) → is_some (only_hold ss' x) ≡ true → values_in cell_cmp o x ≡ []
    go x true e q s = subst (λ (z : Cell). values_in cell_cmp o z ≡ []) (same_cell-true c x e) none
    go x false e q s = apart.alone x (sym (ap is_some q) ∙ s)

-- an access by the only holder
pub held_again : (t : Txn) (wrote : Bool) (h : Hold) → h.txn.0 ≡ t.0 → (let k : Hold = record { txn = t; wrote = wrote || h.wrote } in k ∷ []) ≡ accessed t wrote (h ∷ [])
held_again t wrote h e =
    rw (le-ltb h.txn.0 t.0 (omega (arith, e)), eq-eqb h.txn.0 t.0 e) (ap (λ (b : Bool). let k : Hold = record { txn = t; wrote = wrote || b } in k ∷ []) (sym (or_false h.wrote)))

-- an access of a cell that no transaction holds
pub held_anew : (t : Txn) (wrote : Bool) → (let k : Hold = record { txn = t; wrote = wrote } in k ∷ []) ≡ accessed t wrote []
held_anew t wrote = ap (λ (b : Bool). let k : Hold = record { txn = t; wrote = b } in k ∷ []) (sym (or_false wrote))

-- a release by the only holder
pub let_go : (t : ℕ) (h : Hold) → eqb h.txn.0 t ≡ true → [] ≡ released t (h ∷ [])
let_go t h e = ap (λ (b : Bool). cond (not b) (h ∷ []) []) (sym e)

-- two edits, one after the other
pub twice : (c : Cell) (f f' f'' : Cell → List Hold) (g g' : List Hold → List Hold) → ((x : Cell) → f' x ≡ cond (same_cell c x) (g (f x)) (f x))
    → ((x : Cell) → f'' x ≡ cond (same_cell c x) (g' (f' x)) (f' x))
    → (x : Cell) → f'' x ≡ cond (same_cell c x) (g' (g (f x))) (f x)
twice c f f' f'' g g' one two x = two x ∙ ap (λ (hs : List Hold). cond (same_cell c x) (g' hs) hs) (one x) ∙ go (same_cell c x)
  where
    go : (b : Bool) → cond b (g' (cond b (g (f x)) (f x))) (cond b (g (f x)) (f x)) ≡ cond b (g' (g (f x))) (f x)
    go true = refl
    go false = refl

pub nothing_in : (hs : List Hold) → false ≡ not (length hs == 0) → hs ≡ []
nothing_in [] e = refl
nothing_in (h ∷ hs) e = absurd (let z : false ≡ true = e ∙ ap not (ne_eqb (length (h ∷ hs)) 0 (λ q. omega arith)) in cc)

-- a cell whose holds are in a list is not in its slot
pub held_elsewhere : (c : Cell) (ss : List (Option Alone)) (o : Shown Cell Hold) → IsApart ss o → true ≡ not (length (values_in cell_cmp o c) == 0) → only_hold ss c ≡ None
held_elsewhere c ss o apart held = go (only_hold ss c) refl
  where
    go : (k : Option Hold) → only_hold ss c ≡ k → k ≡ None
    go None e = refl
    go (Some h) e = absurd (let z : true ≡ false = held ∙ ap (λ (hs : List Hold). not (length hs == 0)) (apart.alone c (ap is_some e)) in cc)

-- the list of a cell that is not in its slot is edited
pub apart_others : (c : Cell) (ss : List (Option Alone)) (o o' : Shown Cell Hold) (g : List Hold → List Hold) → IsApart ss o → IsFiled o' → only_hold ss c ≡ None
    → ((x : Cell) → values_in cell_cmp o' x ≡ cond (same_cell c x) (g (values_in cell_cmp o x)) (values_in cell_cmp o x)) → IsApart ss o'
apart_others c ss o o' g apart filed none others = record { filed = filed; alone = λ x s. others x ∙ go x (same_cell c x) refl s }
  where
    go : (x : Cell) (b : Bool) → same_cell c x ≡ b → is_some (only_hold ss x) ≡ true → cond b (g (values_in cell_cmp o x)) (values_in cell_cmp o x) ≡ []
    go x true e s = absurd (let z : false ≡ true = sym (ap is_some (subst (λ (y : Cell). only_hold ss y ≡ None) (same_cell-true c x e) none)) ∙ s in cc)
    go x false e s = apart.alone x s

-- an edit of the borrowed slots and of the lists is an edit of the book b
pub edited_lent : (c : Cell) (b : Held) (vs : Vec (Option Alone) Global) (ss ss' : List (Option Alone)) (o o' : Shown Cell Hold) (n : ℕ) (g : List Hold → List Hold)
    → (let k : Held = record { slots = vs.items; others = o; spare = n } in k) ≡ b → ss ≡ vs.items → length ss' ≡ vs.len
    → ((x : Cell) → shown_in ss' o' x ≡ cond (same_cell c x) (g (shown_in ss o x)) (shown_in ss o x))
    → (x : Cell) → shown_in (with_items vs ss').items o' x ≡ cond (same_cell c x) (g (shown b x)) (shown b x)
edited_lent c b vs ss ss' o o' n g view lent len edit x =
    ap (λ (ts : List (Option Alone)). shown_in ts o' x) (with_items_is vs ss' len) ∙ edit x
    ∙ ap (λ (hs : List Hold). cond (same_cell c x) (g hs) hs) (ap (λ (ts : List (Option Alone)). shown_in ts o x) lent ∙ ap (λ (k : Held). shown k x) view)
