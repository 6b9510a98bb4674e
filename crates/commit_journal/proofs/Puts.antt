-- The last Puts of a transaction, one event at a time.
use Rattle.std.proofs.Common.{◌≡◌, ◌≤◌, ◌<◌, ◌+◌, ℕ, zero, suc, Bool, true, false, cond, not, ◌||◌, List, [], ◌∷◌, ◌++◌, Option, Some, None, ℤ, refl, sym}
use Rattle.std.proofs.Common.{ap, ap₂, subst, ◌∙◌, arith, inl, inr, length, length-append, filter, get_or, take, append_assoc, if◌then◌else◌, lt-ltb}
use Rattle.std.specs.List.{list_any}
use Rattle.std.specs.BTreeMap.{is_at}
use Rattle.std.specs.BTreeSet.{BTreeSet, contains}
use Rattle.std.specs.Option.{option_or}
use Rattle.std.proofs.lemmas.Bool.{cases_lt}
use Rattle.std.proofs.lemmas.List.Elements.{filter-append}
use Rattle.std.proofs.lemmas.List.{append-nil, take_more}
use Rattle.teb_rules.specs.declared.names.Cell.{Cell}
use Rattle.teb_rules.specs.declared.names.Txn.{Txn}
use Rattle.teb_rules.specs.names.Cells.{same_cell, cell_cmp}
use Rattle.teb_rules.proofs.lemmas.names.Bools.{or_false}
use Rattle.teb_rules.proofs.lemmas.names.CellOrder.{same_cell-cell_cmp}
use Rattle.teb_rules.specs.declared.history.Event.{Event}
use Rattle.teb_rules.specs.declared.history.Event.TheVariants.{Began, Got, Put, Ready, Done, Gone, Told}
use Rattle.teb_rules.proofs.lemmas.names.SameCells.{same_cell-true, same_itself, same_laws}
use Rattle.record_journal.specs.declared.change.Change.{Change}
use Rattle.record_journal.specs.Format.{Record}
use Rattle.commit_laws.specs.Records.{last_puts, has, puts_of}
use Rattle.commit_journal.specs.Kept.{with_event, AreCells}
use Rattle.commit_laws.proofs.Lookup.{lookup, lookup_puts}
use Rattle.teb_rules.specs.history.Accesses.{wrote, put_at, last_put}
use Rattle.teb_rules.specs.history.OwnEvents.{own_events}
use Rattle.teb_rules.proofs.lemmas.history.OwnWalks.{last_put_own}
use Rattle.teb_rules.proofs.lemmas.laws.ReadRule.{last_put-none}

-- the changes of cells that `seen` does not have
abbrev pub fresh : Record → Record → Record
fresh seen cs = filter (λ c. not (has seen c.cell)) cs

pub fresh_first : (cs : Record) → fresh [] cs ≡ cs
fresh_first [] = refl
fresh_first (c ∷ cs) = ap (λ (l : Record). c ∷ l) (fresh_first cs)

-- removing the changes of a cell that is already there removes nothing fresh
pub same_fresh : (seen cs : Record) (y : Cell) → has seen y ≡ true → fresh seen (filter (λ c. not (same_cell c.cell y)) cs) ≡ fresh seen cs
same_fresh seen [] y h = refl
same_fresh seen (c ∷ cs) y h = go (same_cell c.cell y) refl (same_fresh seen cs y h)
  where
    go : (b : Bool) → same_cell c.cell y ≡ b → fresh seen (filter (λ c. not (same_cell c.cell y)) cs) ≡ fresh seen cs
        → fresh seen (cond (not b) (c ∷ filter (λ c. not (same_cell c.cell y)) cs) (filter (λ c. not (same_cell c.cell y)) cs)) ≡ fresh seen (c ∷ cs)
    go true e ih = ih ∙ sym (ap (λ (b : Bool). cond (not b) (c ∷ fresh seen cs) (fresh seen cs)) (ap (has seen) (same_cell-true c.cell y e) ∙ h))
    go false e ih = ap (λ (l : Record). cond (not (has seen c.cell)) (c ∷ l) l) ih

has_push : (seen : Record) (c : Change) (x : Cell) → has (seen ++ c ∷ []) x ≡ cond (has seen x) true (same_cell c.cell x)
has_push [] c x = or_false (same_cell c.cell x)
has_push (d ∷ seen) c x = go (same_cell d.cell x) (has_push seen c x)
  where
    go : (b : Bool) → has (seen ++ c ∷ []) x ≡ cond (has seen x) true (same_cell c.cell x) → (b || has (seen ++ c ∷ []) x) ≡ cond (b || has seen x) true (same_cell c.cell x)
    go true ih = refl
    go false ih = ih

either : (b : Bool) → cond b true true ≡ true
either true = refl
either false = refl

itself : (b : Bool) → cond b true false ≡ b
itself true = refl
itself false = refl

-- a change of a cell that is not there yet is fresh
pub more_fresh : (seen cs : Record) (d : Change) → has seen d.cell ≡ false → fresh seen (d ∷ filter (λ c. not (same_cell c.cell d.cell)) cs) ≡ d ∷ fresh (seen ++ d ∷ []) cs
more_fresh seen cs d absent = ap (λ (b : Bool). cond (not b) (d ∷ rest) rest) absent ∙ ap (λ (l : Record). d ∷ l) (others cs)
  where
    rest : Record
    rest = fresh seen (filter (λ c. not (same_cell c.cell d.cell)) cs)

    others : (cs : Record) → fresh seen (filter (λ c. not (same_cell c.cell d.cell)) cs) ≡ fresh (seen ++ d ∷ []) cs
    others [] = refl
    others (c ∷ cs) = go (same_cell c.cell d.cell) refl (has seen c.cell) refl (others cs)
      where
        go : (b : Bool) → same_cell c.cell d.cell ≡ b → (s : Bool) → has seen c.cell ≡ s → fresh seen (filter (λ c. not (same_cell c.cell d.cell)) cs) ≡ fresh (seen ++ d ∷ []) cs
            → fresh seen (cond (not b) (c ∷ filter (λ c. not (same_cell c.cell d.cell)) cs) (filter (λ c. not (same_cell c.cell d.cell)) cs)) ≡ fresh (seen ++ d ∷ []) (c ∷ cs)
        go true e s f ih =
            let there : has (seen ++ d ∷ []) c.cell ≡ true = has_push seen d c.cell ∙ ap (λ (t : Bool). cond (has seen c.cell) true t) (same_laws.symm d.cell c.cell ∙ e) ∙ either (has seen c.cell) in
            ih ∙ sym (ap (λ (t : Bool). cond (not t) (c ∷ fresh (seen ++ d ∷ []) cs) (fresh (seen ++ d ∷ []) cs)) there)
        go false e s f ih =
            let same : has (seen ++ d ∷ []) c.cell ≡ has seen c.cell = has_push seen d c.cell ∙ ap (λ (t : Bool). cond (has seen c.cell) true t) (same_laws.symm d.cell c.cell ∙ e)
            ∙ itself (has seen c.cell) in
            ap (λ (l : Record). cond (not (has seen c.cell)) (c ∷ l) l) ih ∙ ap (λ (t : Bool). cond (not t) (c ∷ fresh (seen ++ d ∷ []) cs) (fresh (seen ++ d ∷ []) cs)) (sym same)

-- the changes found so far, and those that the remaining events add, are the last Puts
abbrev pub AreSoFar : Record → List Event → Record → Type 0
AreSoFar all left so_far = all ≡ so_far ++ fresh so_far (last_puts left)

pub none_so_far : (es : List Event) → AreSoFar (last_puts es) es []
none_so_far es = sym (fresh_first (last_puts es))

pub all_found : (all so_far : Record) → AreSoFar all [] so_far → all ≡ so_far
unfolding last_puts
all_found all so_far is = is ∙ append-nil so_far

-- one more Put
pub one_put : (all so_far next : Record) (left rest : List Event) (t : Txn) (y : Cell) (v : Option ℤ) → AreSoFar all left so_far → left ≡ Put t y v ∷ rest
    → next ≡ (if has so_far y then so_far else so_far ++ record { cell = y; value = v } ∷ []) → AreSoFar all rest next
unfolding last_puts
one_put all so_far next left rest t y v is step adds = subst (λ (n : Record). AreSoFar all rest n) (sym adds) (go (has so_far y) refl)
  where
    c : Change
    c = record { cell = y; value = v }

    was : all ≡ so_far ++ fresh so_far (record { cell = y; value = v } ∷ filter (λ d. not (same_cell d.cell y)) (last_puts rest))
    was = is ∙ ap (λ (es : List Event). so_far ++ fresh so_far (last_puts es)) step

    go : (b : Bool) → has so_far y ≡ b → AreSoFar all rest (if b then so_far else so_far ++ record { cell = y; value = v } ∷ [])
    go true e =
        was
        ∙ ap (λ (b : Bool). so_far ++ cond (not b) (record { cell = y; value = v } ∷ fresh so_far (filter (λ d. not (same_cell d.cell y)) (last_puts rest)))
        (fresh so_far (filter (λ d. not (same_cell d.cell y)) (last_puts rest)))) e
        ∙ ap (λ (l : Record). so_far ++ l) (same_fresh so_far (last_puts rest) y e)
    go false e =
        was
        ∙ ap (λ (l : Record). so_far ++ l) (more_fresh so_far (last_puts rest) (record { cell = y; value = v }) e)
        ∙ sym (append_assoc so_far (record { cell = y; value = v } ∷ []) (fresh (so_far ++ record { cell = y; value = v } ∷ []) (last_puts rest)))

-- an event other than a Put adds no change
pub other_event : (all so_far : Record) (left rest : List Event) (e : Event) → AreSoFar all left so_far → left ≡ e ∷ rest → last_puts (e ∷ rest) ≡ last_puts rest → AreSoFar all rest so_far
other_event all so_far left rest e is step same = is ∙ ap (λ (es : List Event). so_far ++ fresh so_far (last_puts es)) step ∙ ap (λ (l : Record). so_far ++ fresh so_far l) same

-- ---- each cell in the last Puts was written

found_at : (cs : Record) (i : ℕ) (d : Change) → i < length cs → (v : Option ℤ) × (lookup cs (get_or cs i d).cell ≡ Some v)
found_at [] i d lt = absurd (omega arith)
found_at (c ∷ cs) zero d lt = go (lookup cs c.cell)
  where
    go : (o : Option (Option ℤ)) → (v : Option ℤ) × (option_or o (cond (same_cell c.cell c.cell) (Some c.value) None) ≡ Some v)
    go (Some v) = (v, refl)
    go None = (c.value, ap (λ (b : Bool). cond b (Some c.value) None) (same_itself c.cell))
found_at (c ∷ cs) (suc i) d lt = let r = found_at cs i d (omega arith) in (r.0, ap (λ (o : Option (Option ℤ)). option_or o (cond (same_cell c.cell (get_or cs i d).cell) (Some c.value) None)) r.1)

wrote_if : (H : List Event) (t : ℕ) (x : Cell) (v : Option ℤ) → last_put H t x ≡ Some v → wrote H t x ≡ true
unfolding wrote
wrote_if H t x v is = elim (cases_lt (put_at H t x) (length H)) [ inl lt ↦ lt-ltb _ _ lt | inr le ↦ absurd (differ (sym (last_put-none H t x le) ∙ is)) ]
  where
    differ : None ≡ Some v → ⊥
    differ e = absurd (cc)

pub put_wrote : (H : List Event) (t : ℕ) (cs : Record) (i : ℕ) (d : Change) → cs ≡ puts_of H t → i < length cs → wrote H t (get_or cs i d).cell ≡ true
put_wrote H t cs i d is lt =
    let f = found_at cs i d lt in
    let x = (get_or cs i d).cell in
    wrote_if H t x f.0 (sym (last_put_own H t x) ∙ sym (lookup_puts (own_events H t) x) ∙ sym (ap (λ (l : Record). lookup l x) is) ∙ f.1)

-- one more change is examined
pub chosen_more : (p : Change → Bool) (cs so_far : Record) (i : ℕ) (d : Change) (b : Bool) → i < length cs → p (get_or cs i d) ≡ b → so_far ≡ filter p (take i cs)
    → cond b (so_far ++ get_or cs i d ∷ []) so_far ≡ filter p (take (i + 1) cs)
chosen_more p cs so_far i d b lt test is = go b test ∙ sym (ap (filter p) (take_more cs i d lt) ∙ filter-append p (take i cs) (get_or cs i d ∷ []))
  where
    go : (b : Bool) → p (get_or cs i d) ≡ b → cond b (so_far ++ get_or cs i d ∷ []) so_far ≡ filter p (take i cs) ++ cond (p (get_or cs i d)) (get_or cs i d ∷ []) []
    go true e = ap (λ (l : Record). l ++ get_or cs i d ∷ []) is ∙ ap (λ (c : Bool). filter p (take i cs) ++ cond c (get_or cs i d ∷ []) []) (sym e)
    go false e = is ∙ sym (append-nil (filter p (take i cs))) ∙ ap (λ (c : Bool). filter p (take i cs) ++ cond c (get_or cs i d ∷ []) []) (sym e)

-- one more event
pub one_event : (all so_far next : Record) (left rest : List Event) (e : Event) → AreSoFar all left so_far → left ≡ e ∷ rest → next ≡ with_event so_far e → AreSoFar all rest next
unfolding last_puts
one_event all so_far next left rest (Put t y v) is step adds = one_put all so_far next left rest t y v is step adds
one_event all so_far next left rest (Began t s k i) is step adds = subst (λ (n : Record). AreSoFar all rest n) (sym adds) (other_event all so_far left rest (Began t s k i) is step refl)
one_event all so_far next left rest (Got t x w v) is step adds = subst (λ (n : Record). AreSoFar all rest n) (sym adds) (other_event all so_far left rest (Got t x w v) is step refl)
one_event all so_far next left rest (Ready t) is step adds = subst (λ (n : Record). AreSoFar all rest n) (sym adds) (other_event all so_far left rest (Ready t) is step refl)
one_event all so_far next left rest (Done t) is step adds = subst (λ (n : Record). AreSoFar all rest n) (sym adds) (other_event all so_far left rest (Done t) is step refl)
one_event all so_far next left rest (Gone t c) is step adds = subst (λ (n : Record). AreSoFar all rest n) (sym adds) (other_event all so_far left rest (Gone t c) is step refl)
one_event all so_far next left rest (Told t) is step adds = subst (λ (n : Record). AreSoFar all rest n) (sym adds) (other_event all so_far left rest (Told t) is step refl)

pub grown_few : (old new : Record) (c : Change) (i : ℕ) → new ≡ old ++ c ∷ [] → length old ≤ i → length new ≤ i + 1
grown_few old new c i is few = omega (arith, ap length is, length-append old (c ∷ []), few)

-- ---- the cells of changes

pub no_cells : (cells : BTreeSet Cell) → cells.keys ≡ [] → AreCells cells []
no_cells cells empty x = ap (λ (ks : List Cell). list_any (is_at (cell_cmp x)) ks) empty

either_way : (a b : Bool) → cond a true b ≡ cond b true a
either_way true true = refl
either_way true false = refl
either_way false true = refl
either_way false false = refl

pub cells_more : (old new : BTreeSet Cell) (cs : Record) (c : Change) → AreCells old cs → ((q : Cell) → contains cell_cmp new q ≡ cond (is_at (cell_cmp c.cell) q) true (contains cell_cmp old q))
    → AreCells new (cs ++ c ∷ [])
cells_more old new cs c are updates x =
    updates x
    ∙ ap₂ (λ (a b : Bool). cond a true b) (sym (same_cell-cell_cmp c.cell x)) (are x)
    ∙ either_way (same_cell c.cell x) (has cs x)
    ∙ sym (has_push cs c x)

pub cells_same : (old new : BTreeSet Cell) (cs : Record) → AreCells old cs → new.keys ≡ old.keys → AreCells new cs
cells_same old new cs are same x = ap (λ (ks : List Cell). list_any (is_at (cell_cmp x)) ks) same ∙ are x

pub put_or_not : (cells : BTreeSet Cell) (cs : Record) (x : Cell) (v : Option ℤ) (added : Bool) → AreCells cells cs → added ≡ not (contains cell_cmp cells x)
    → (if has cs x then cs else cs ++ record { cell = x; value = v } ∷ []) ≡ cond added (cs ++ record { cell = x; value = v } ∷ []) cs
put_or_not cells cs x v added are is = go (has cs x) added (is ∙ ap not (are x))
  where
    go : (h b : Bool) → b ≡ not h → (if h then cs else cs ++ record { cell = x; value = v } ∷ []) ≡ cond b (cs ++ record { cell = x; value = v } ∷ []) cs
    go true true e = absurd (cc)
    go true false e = refl
    go false true e = refl
    go false false e = absurd (cc)
