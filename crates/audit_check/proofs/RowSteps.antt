-- The final rows that have been seen, and those that are missing.
use Rattle.std.proofs.Common.{◌≡◌, ℕ, ◌==◌, Bool, true, false, not, ◌&&◌, ◌||◌, if◌then◌else◌, List, [], ◌∷◌, ◌++◌, Option, refl, ap, sym, ◌∙◌, inl, inr}
use Rattle.std.specs.Prelude.{ℤ, is_some}
use Rattle.std.specs.List.{list_any}
use Rattle.std.proofs.lemmas.Bool.{and_parts, cases_Bool, eqb-true}
use Rattle.std.proofs.lemmas.Slice.Eq.{bytes_eq-Decides}
use Rattle.std.specs.Str.{bytes_eq}
use Rattle.std.proofs.lemmas.List.{map-append}
use Rattle.teb_rules.proofs.lemmas.names.Bools.{or_false, or_swap}
use Rattle.audit_check.specs.Items.{Item, RowKey, same_row_key}
use Rattle.audit_check.specs.Items.Item.{Start, Began, Got, Put, Ready, Done, Gone, Told, Order, Row, End}
use Rattle.audit_check.specs.Faults.{row_keys_in, is_missing}
use Rattle.audit_check.specs.Tables.{last_table}
use Rattle.audit_check.specs.Keeps.{HoldsTable, SeesRows, row_key_passes, value_at}
use Rattle.audit_check.specs.Views.{row_key_view, line_view, views, row_keys, has_row_key}
use Rattle.audit_check.specs.declared.line.RowKey.{RowKey as Key}
use Rattle.audit_check.specs.declared.line.Line.{Line}
use Rattle.audit_check.proofs.Cells.{has_push}
use Rattle.audit_check.proofs.FirstLines.{views_append}

pub same_row_keys : (x y : RowKey) → same_row_key x y ≡ true → x ≡ y
same_row_keys x y h =
    let (tables, keys) = and_parts (bytes_eq x.0 y.0) (x.1 == y.1) h in
    let table : x.0 ≡ y.0 = (bytes_eq-Decides x.0 y.0).0 tables in
    let key : x.1 ≡ y.1 = eqb-true x.1 y.1 keys in
    ap (λ (w : List ℕ). let p : RowKey = (w, x.1) in p) table ∙ ap (λ (k : ℕ). let p : RowKey = (y.0, k) in p) key

-- one more row, which may have been seen before
seen_push : (rows : List Key) (p : Key) (x : RowKey) (b : Bool) → has_row_key (row_keys rows) (row_key_view p) ≡ b
    → has_row_key (row_keys (if b then rows else rows ++ p ∷ [])) x ≡ (same_row_key x (row_key_view p) || has_row_key (row_keys rows) x)
seen_push rows p x true there = elim (cases_Bool (same_row_key x (row_key_view p))) [
  | inl same ↦ rw same (ap (has_row_key (row_keys rows)) (same_row_keys x (row_key_view p) same) ∙ there)
  | inr other ↦ rw other
]
seen_push rows p x false new = ap (λ (ps : List RowKey). has_row_key ps x) (map-append row_key_view rows (p ∷ [])) ∙ has_push (row_keys rows) (row_key_view p) x

pub row_seen : (rows rows' : List Key) (p : Key) (v : ℤ) (past : List Item) → rows' ≡ (if has_row_key (row_keys rows) (row_key_view p) then rows else rows ++ p ∷ [])
    → SeesRows rows past → SeesRows rows' (Row (row_key_view p) v ∷ past)
row_seen rows rows' p v past is seen = record {
  each = λ x. ap (λ (ks : List Key). has_row_key (row_keys ks) x) is ∙ seen_push rows p x (has_row_key (row_keys rows) (row_key_view p)) refl ∙ ap (λ b. same_row_key x (row_key_view p) || b)
      (seen.each x);
}

pub missed : (H past : List Item) (entries : List (Key × Option ℤ)) (rows : List Key) (p : Key) → HoldsTable entries (last_table H) → SeesRows rows past
    → (is_some (value_at entries p) && not (has_row_key (row_keys rows) (row_key_view p))) ≡ is_missing H past (row_key_view p)
missed H past entries rows p held seen = rw (held.each p, seen.each (row_key_view p))

-- the row keys of the lines, one by one
row_keys_more : (p : RowKey → Bool) (i : Item) (past : List Item) → list_any p (row_keys_in (i ∷ past)) ≡ (row_key_passes p i || list_any p (row_keys_in past))
unfolding row_keys_in
row_keys_more p (Start x v) past = refl
row_keys_more p (Put t x v) past = refl
row_keys_more p (Began t) past = refl
row_keys_more p (Got t x u v) past = refl
row_keys_more p (Ready t) past = refl
row_keys_more p (Done t) past = refl
row_keys_more p (Gone t) past = refl
row_keys_more p (Told t) past = refl
row_keys_more p (Order ts) past = refl
row_keys_more p (Row x v) past = refl
row_keys_more p End past = refl

no_row_keys : (p : RowKey → Bool) → list_any p (row_keys_in []) ≡ false
unfolding row_keys_in
no_row_keys p = refl

one_row_key : (p : RowKey → Bool) (i : Item) → list_any p (row_keys_in (i ∷ [])) ≡ row_key_passes p i
one_row_key p i = row_keys_more p i [] ∙ ap (λ b. row_key_passes p i || b) (no_row_keys p) ∙ or_false (row_key_passes p i)

row_keys_behind : (p : RowKey → Bool) (more past : List Item) → list_any p (row_keys_in (more ++ past)) ≡ (list_any p (row_keys_in more) || list_any p (row_keys_in past))
row_keys_behind p [] past = ap (λ b. b || list_any p (row_keys_in past)) (sym (no_row_keys p))
row_keys_behind p (i ∷ more) past =
    row_keys_more p i (more ++ past)
    ∙ ap (λ b. row_key_passes p i || b) (row_keys_behind p more past)
    ∙ or_assoc (row_key_passes p i) (list_any p (row_keys_in more)) (list_any p (row_keys_in past))
    ∙ ap (λ b. b || list_any p (row_keys_in past)) (sym (row_keys_more p i more))
  where
    or_assoc : (a b c : Bool) → (a || (b || c)) ≡ ((a || b) || c)
    or_assoc true b c = refl
    or_assoc false b c = refl

-- the row keys of the lines have one that passes if and only if a line has one
pub row_keys_pass : (p : RowKey → Bool) (lines : List Line) → list_any (λ l. row_key_passes p (line_view l)) lines ≡ list_any p (row_keys_in (views lines))
row_keys_pass p [] = sym (no_row_keys p)
row_keys_pass p (l ∷ ls) =
    ap (λ b. row_key_passes p (line_view l) || b) (row_keys_pass p ls)
    ∙ or_swap (row_key_passes p (line_view l)) (list_any p (row_keys_in (views ls)))
    ∙ ap (λ b. list_any p (row_keys_in (views ls)) || b) (sym (one_row_key p (line_view l)))
    ∙ sym (row_keys_behind p (views ls) (line_view l ∷ []))
    ∙ ap (λ (is : List Item). list_any p (row_keys_in is)) (sym (views_append (l ∷ []) ls))

pub none_seen : (rows : List Key) → rows ≡ [] → SeesRows rows []
none_seen rows is = rw is (record { each = λ x. refl })
