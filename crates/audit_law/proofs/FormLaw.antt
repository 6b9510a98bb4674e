-- A printed run is well-formed: its parts are in order, and no cell occurs twice in a part.
use Rattle.std.proofs.Common.{◌≡◌, ℕ, ◌≤◌, Bool, true, false, not, ◌&&◌, List, [], ◌∷◌, ◌++◌, map, refl, ap, ◌∙◌, arith}
use Rattle.std.specs.Prelude.{ℤ}
use Rattle.std.specs.List.{All, IsDistinct, list_any}
use Rattle.std.specs.Str.{bytes_eq}
use Rattle.std.proofs.lemmas.Bool.{and_from, or_from, not_from_false}
use Rattle.std.proofs.lemmas.Bool.Decides.{nat_tests}
use Rattle.std.proofs.lemmas.List.Elements.{All-head, All-tail}
use Rattle.teb_rules.specs.declared.names.Cell.{Cell}
use Rattle.teb_rules.specs.declared.names.naming.NameBook.{NameBook}
use Rattle.teb_rules.specs.names.Cells.{same_cell}
use Rattle.teb_rules.specs.declared.history.Event.{Event}
use Rattle.teb_rules.specs.declared.history.Event.TheVariants as event
use Rattle.script_text.specs.Named.{CellNamed}
use Rattle.audit_check.specs.Items.{Item, RowKey, same_row_key}
use Rattle.audit_check.specs.Items.Item.{Start, Order, Row, End}
use Rattle.audit_check.specs.Lines.{part_after, may_follow, part, fits, is_start, is_row}
use Rattle.audit_law.specs.Printed.{RowFits, row_key_of, event_item}
use Rattle.audit_law.proofs.Ascending.{Apart, OthersThan}
use Rattle.audit_law.proofs.RowKeys.{row_keys_same}
use Rattle.audit_law.proofs.Texts.{AllFit, onto}

pub all_fit_append : (past a b : List Item) → AllFit past a → AllFit (onto past a) b → AllFit past (a ++ b)
all_fit_append past [] b f g = g
all_fit_append past (i ∷ a) b f g = (f.0, all_fit_append (i ∷ past) a b f.1 g)

module _ (names : NameBook) (distinct : IsDistinct bytes_eq names.tables) where
  abbrev pub start_item : Cell × ℤ → Item
  start_item r = Start (row_key_of names r.0) r.1

  abbrev pub row_item : Cell × ℤ → Item
  row_item r = Row (row_key_of names r.0) r.1

  -- none of these rows has a line yet
  abbrev Fresh : (RowKey → Item → Bool) → List Item → List (Cell × ℤ) → Type 0
  Fresh is past [] = Unit {0}
  Fresh is past (r ∷ rs) = (list_any (is (row_key_of names r.0)) past ≡ false) × Fresh is past rs

  still_fresh : (is : RowKey → Item → Bool) (item : Cell × ℤ → Item) → ((x y : Cell) (v : ℤ) → is (row_key_of names y) (item (x, v)) ≡ same_row_key (row_key_of names y) (row_key_of names x))
      → (past : List Item) (r : Cell × ℤ) (rs : List (Cell × ℤ)) → CellNamed names r.0 → All (RowFits names) rs → OthersThan r.0 rs → Fresh is past rs → Fresh is (item r ∷ past) rs
  still_fresh is item at past r [] named fit others fresh = tt
  still_fresh is item at past r (s ∷ ss) named fit others fresh =
      let here : is (row_key_of names s.0) (item r) ≡ false = at r.0 s.0 r.1 ∙ row_keys_same names distinct s.0 r.0 (All-head (RowFits names) s ss fit).0.0 named ∙ turned r.0 s.0 others.0 in (
        or_from (is (row_key_of names s.0) (item r)) (list_any (is (row_key_of names s.0)) past) here fresh.0,
        still_fresh is item at past r ss named (All-tail (RowFits names) s ss fit) others.1 fresh.1,
      )
    where
      turned : (x y : Cell) → same_cell x y ≡ false → same_cell y x ≡ false
      turned x y h = grind (arith, nat_tests)

  starts_from : (rs : List (Cell × ℤ)) (past : List Item) → All (RowFits names) rs → Apart rs → part_after past ≡ 0 → Fresh is_start past rs → AllFit past (map start_item rs)
  starts_from [] past fit apart at fresh = tt
  starts_from (r ∷ rs) past fit apart at fresh = (
    and_from (may_follow (part_after past) 0) (not (list_any (is_start (row_key_of names r.0)) past)) (ap (λ p. may_follow p 0) at)
        (not_from_false (list_any (is_start (row_key_of names r.0)) past) fresh.0),
    starts_from rs (start_item r ∷ past) (All-tail (RowFits names) r rs fit) apart.1 refl
        (still_fresh is_start start_item (λ x y v. refl) past r rs (All-head (RowFits names) r rs fit).0.0 (All-tail (RowFits names) r rs fit) apart.0 fresh.1),
  )

  none_yet : (is : RowKey → Item → Bool) (rs : List (Cell × ℤ)) → Fresh is [] rs
  none_yet is [] = tt
  none_yet is (r ∷ rs) = (refl, none_yet is rs)

  pub starts_fit : (rs : List (Cell × ℤ)) → All (RowFits names) rs → Apart rs → AllFit [] (map start_item rs)
  starts_fit rs fit apart = starts_from rs [] fit apart refl (none_yet is_start rs)

  one_fits : (past : List Item) (e : Event) → part_after past ≤ 1 → fits past (event_item names e) ≡ true
  one_fits past e low = by e (grind (arith, nat_tests))
    where
      by : (d : Event) → may_follow (part_after past) 1 ≡ true → fits past (event_item names d) ≡ true
      by (event.Began t s k i) h = and_from (may_follow (part_after past) 1) true h refl
      by (event.Got t x u v) h = and_from (may_follow (part_after past) 1) true h refl
      by (event.Put t x v) h = and_from (may_follow (part_after past) 1) true h refl
      by (event.Ready t) h = and_from (may_follow (part_after past) 1) true h refl
      by (event.Done t) h = and_from (may_follow (part_after past) 1) true h refl
      by (event.Gone t c) h = and_from (may_follow (part_after past) 1) true h refl
      by (event.Told t) h = and_from (may_follow (part_after past) 1) true h refl

  event_part : (e : Event) → part (event_item names e) ≡ 1
  event_part (event.Began t s k i) = refl
  event_part (event.Got t x u v) = refl
  event_part (event.Put t x v) = refl
  event_part (event.Ready t) = refl
  event_part (event.Done t) = refl
  event_part (event.Gone t c) = refl
  event_part (event.Told t) = refl

  pub events_fit : (es : List Event) (past : List Item) → part_after past ≤ 1 → AllFit past (map (event_item names) es)
  events_fit [] past low = tt
  events_fit (e ∷ es) past low = (one_fits past e low, events_fit es (event_item names e ∷ past) (let one = event_part e in omega (arith, one)))

  pub part_of_events : (es : List Event) (past : List Item) → part_after past ≤ 1 → part_after (onto past (map (event_item names) es)) ≤ 1
  part_of_events [] past low = low
  part_of_events (e ∷ es) past low = part_of_events es (event_item names e ∷ past) (let one = event_part e in omega (arith, one))

  pub part_of_starts : (rs : List (Cell × ℤ)) (past : List Item) → part_after past ≤ 1 → part_after (onto past (map start_item rs)) ≤ 1
  part_of_starts [] past low = low
  part_of_starts (r ∷ rs) past low = part_of_starts rs (start_item r ∷ past) (omega arith)

  -- the lines of the report fit
  rows_from : (rs : List (Cell × ℤ)) (past : List Item) → All (RowFits names) rs → Apart rs → 2 ≤ part_after past → part_after past ≤ 3 → Fresh is_row past rs
      → AllFit past (map row_item rs ++ End ∷ [])
  rows_from [] past fit apart low high fresh = (end_fits (part_after past) low high, tt)
    where
      end_fits : (p : ℕ) → 2 ≤ p → p ≤ 3 → (may_follow p 4 && true) ≡ true
      end_fits p l h = grind (arith, nat_tests)
  rows_from (r ∷ rs) past fit apart low high fresh = (
    and_from (may_follow (part_after past) 3) (not (list_any (is_row (row_key_of names r.0)) past)) (row_follows (part_after past) low high)
        (not_from_false (list_any (is_row (row_key_of names r.0)) past) fresh.0),
    rows_from rs (row_item r ∷ past) (All-tail (RowFits names) r rs fit) apart.1 (omega arith) (omega arith)
        (still_fresh is_row row_item (λ x y v. refl) past r rs (All-head (RowFits names) r rs fit).0.0 (All-tail (RowFits names) r rs fit) apart.0 fresh.1),
  )
    where
      row_follows : (p : ℕ) → 2 ≤ p → p ≤ 3 → may_follow p 3 ≡ true
      row_follows p l h = grind (arith, nat_tests)

  pub report_fits : (ts : List ℕ) (rs : List (Cell × ℤ)) (past : List Item) → All (RowFits names) rs → Apart rs → part_after past ≤ 1 → Fresh is_row past rs
      → AllFit past (Order ts ∷ (map row_item rs ++ End ∷ []))
  report_fits ts rs past fit apart low fresh =
      (order_follows (part_after past) low, rows_from rs (Order ts ∷ past) fit apart (omega arith) (omega arith) (kept rs fresh))
    where
      order_follows : (p : ℕ) → p ≤ 1 → (may_follow p 2 && true) ≡ true
      order_follows p l = grind (arith, nat_tests)

      kept : (ss : List (Cell × ℤ)) → Fresh is_row past ss → Fresh is_row (Order ts ∷ past) ss
      kept [] f = tt
      kept (s ∷ ss) f = (f.0, kept ss f.1)

  -- no line so far is a final row
  abbrev NoRow : List Item → Type 0
  NoRow past = (x : RowKey) → list_any (is_row x) past ≡ false

  pub no_row_starts : (rs : List (Cell × ℤ)) (past : List Item) → NoRow past → NoRow (onto past (map start_item rs))
  no_row_starts [] past none = none
  no_row_starts (r ∷ rs) past none = no_row_starts rs (start_item r ∷ past) none

  pub no_row_events : (es : List Event) (past : List Item) → NoRow past → NoRow (onto past (map (event_item names) es))
  no_row_events [] past none = none
  no_row_events (event.Began t s k i ∷ es) past none = no_row_events es (event_item names (event.Began t s k i) ∷ past) none
  no_row_events (event.Got t x u v ∷ es) past none = no_row_events es (event_item names (event.Got t x u v) ∷ past) none
  no_row_events (event.Put t x v ∷ es) past none = no_row_events es (event_item names (event.Put t x v) ∷ past) none
  no_row_events (event.Ready t ∷ es) past none = no_row_events es (event_item names (event.Ready t) ∷ past) none
  no_row_events (event.Done t ∷ es) past none = no_row_events es (event_item names (event.Done t) ∷ past) none
  no_row_events (event.Gone t c ∷ es) past none = no_row_events es (event_item names (event.Gone t c) ∷ past) none
  no_row_events (event.Told t ∷ es) past none = no_row_events es (event_item names (event.Told t) ∷ past) none

  pub fresh_rows : (rs : List (Cell × ℤ)) (past : List Item) → NoRow past → Fresh is_row past rs
  fresh_rows [] past none = tt
  fresh_rows (r ∷ rs) past none = (none (row_key_of names r.0), fresh_rows rs past none)
