-- The rows that records leave, change by change.
use Rattle.std.proofs.Common.{◌≡◌, ℕ, ◌+◌, ◌<◌, Bool, true, cond, List, [], ◌∷◌, ◌++◌, length, get_or, take, Option, Some, ℤ, Vec, Ordering, refl, sym, ◌∙◌, ap, arith}
use Rattle.std.specs.BTreeMap.{is_at}
use Rattle.std.specs.Map.{lookup, keys_of}
use Rattle.std.specs.List.{list_all, AllByRecursion}
use Rattle.std.specs.List.Sorted.{IsStrictlySortedBy}
use Rattle.std.specs.Ordering.{is_lt}
use Rattle.std.specs.declared.cmp.Ordering.TheVariants.{Less}
use Rattle.std.specs.declared.alloc.Global.{Global}
use Rattle.std.proofs.lemmas.List.{take_more, map_push}
use Rattle.std.proofs.lemmas.Bool.{and_from}
use Rattle.std.proofs.lemmas.Map.Keys.{sorted_tail, sorted_head}
use Rattle.std.proofs.lemmas.Grind.{common_steps}
use Rattle.teb_rules.specs.declared.names.Cell.{Cell}
use Rattle.teb_rules.specs.contracts.names.CellOrd.TheImpl.{ghosts}
use Rattle.teb_rules.specs.names.Cells.{same_cell, is_before}
use Rattle.teb_rules.specs.names.Rows.{row_of, is_ascending, IsAscending}
use Rattle.teb_rules.specs.Replay.{Values, put_in}
use Rattle.record_journal.specs.declared.change.Change.{Change}
use Rattle.record_journal.specs.Format.{Record}
use Rattle.record_journal.specs.Journal.{after_changes, after_records}
use Rattle.record_journal.specs.Views.{record_lists}

abbrev pub cell_cmp : Cell → Cell → Ordering
cell_cmp = ghosts.cmp

is_same : (x k : Cell) → is_at (cell_cmp x) k ≡ same_cell k x
is_same x k = grind (arith, common_steps)

pub row_of_entries : (es : List (Cell × ℤ)) (x : Cell) → row_of es x ≡ lookup (is_at (cell_cmp x)) es
row_of_entries [] x = refl
row_of_entries (e ∷ es) x = ap (λ (b : Bool). cond b (Some e.1) (row_of es x)) (sym (is_same x e.0)) ∙ ap (λ (r : Option ℤ). cond (is_at (cell_cmp x) e.0) (Some e.1) r) (row_of_entries es x)

less_before : (y k : Cell) → cell_cmp y k ≡ Less → is_before y k ≡ true
less_before y k h = ap is_lt h

all_before : (es : List (Cell × ℤ)) (y : Cell) → AllByRecursion (λ k. cell_cmp y k ≡ Less) (keys_of es) → list_all (λ s. is_before y s.0) es ≡ true
all_before [] y h = refl
all_before (e ∷ es) y h = and_from (is_before y e.0) (list_all (λ s. is_before y s.0) es) (less_before y e.0 h.0) (all_before es y h.1)

-- the entries of a map from cells are rows in ascending order
pub entries_ascend : (es : List (Cell × ℤ)) → IsStrictlySortedBy cell_cmp (keys_of es) → IsAscending es
entries_ascend [] s = refl
entries_ascend (e ∷ es) s = and_from (list_all (λ r. is_before e.0 r.0) es) (is_ascending es) (all_before es e.0 (sorted_head cell_cmp e.0 (keys_of es) s))
    (entries_ascend es (sorted_tail cell_cmp e.0 (keys_of es) s))

after_changes-push : (r : Record) (c : Change) (T : Values) (x : Cell) → after_changes (r ++ c ∷ []) T x ≡ put_in c.cell c.value (after_changes r T) x
after_changes-push [] c T x = refl
after_changes-push (d ∷ r) c T x = after_changes-push r c (put_in d.cell d.value T) x

pub change_more : (r : Record) (i : ℕ) (d : Change) (T now next : Values) (x : Cell) → i < length r → next x ≡ put_in (get_or r i d).cell (get_or r i d).value now x
    → now x ≡ after_changes (take i r) T x → next x ≡ after_changes (take (i + 1) r) T x
change_more r i d T now next x below puts so_far =
    puts
    ∙ ap (λ (v : Option ℤ). cond (same_cell (get_or r i d).cell x) (get_or r i d).value v) so_far
    ∙ sym (after_changes-push (take i r) (get_or r i d) T x)
    ∙ ap (λ (l : Record). after_changes l T x) (sym (take_more r i d below))

after_same : (r : Record) (T U : Values) → ((x : Cell) → T x ≡ U x) → (x : Cell) → after_changes r T x ≡ after_changes r U x
after_same [] T U same x = same x
after_same (c ∷ r) T U same x = after_same r (put_in c.cell c.value T) (put_in c.cell c.value U) (λ y. ap (λ (v : Option ℤ). cond (same_cell c.cell y) c.value v) (same y)) x

after_records-push : (rs : List Record) (r : Record) (T : Values) (x : Cell) → after_records (rs ++ r ∷ []) T x ≡ after_changes r (after_records rs T) x
after_records-push [] r T x = refl
after_records-push (q ∷ rs) r T x = after_records-push rs r (after_changes q T) x

pub record_more : (vs : List (Vec Change Global)) (i : ℕ) (d : Vec Change Global) (T now next : Values) → i < length vs → ((x : Cell) → next x ≡ after_changes (get_or vs i d).items now x)
    → ((x : Cell) → now x ≡ after_records (record_lists (take i vs)) T x)
    → (x : Cell) → next x ≡ after_records (record_lists (take (i + 1) vs)) T x
record_more vs i d T now next below puts so_far x =
    puts x
    ∙ after_same (get_or vs i d).items now (after_records (record_lists (take i vs)) T) so_far x
    ∙ sym (after_records-push (record_lists (take i vs)) (get_or vs i d).items T x)
    ∙ ap (λ (l : List Record). after_records l T x) (sym (map_push _ (take i vs) (get_or vs i d)))
    ∙ ap (λ (l : List (Vec Change Global)). after_records (record_lists l) T x) (sym (take_more vs i d below))
