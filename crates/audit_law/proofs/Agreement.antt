-- The tables by row key are equal to the tables by cell.
use Rattle.std.proofs.Common.{◌≡◌, ℕ, ◌==◌, Bool, true, false, cond, if◌then◌else◌, List, [], ◌∷◌, map, Option, Some, refl, ap, sym, subst}
use Rattle.std.specs.Prelude.{ℤ}
use Rattle.std.specs.List.{All, IsDistinct}
use Rattle.std.specs.Str.{bytes_eq}
use Rattle.std.proofs.lemmas.List.Elements.{All-head, All-tail}
use Rattle.teb_rules.specs.declared.names.Cell.{Cell}
use Rattle.teb_rules.specs.declared.names.naming.NameBook.{NameBook}
use Rattle.teb_rules.specs.names.Cells.{same_cell}
use Rattle.teb_rules.specs.names.Rows.{row_of}
use Rattle.teb_rules.specs.declared.history.Event.{Event}
use Rattle.teb_rules.specs.declared.history.Event.TheVariants as event
use Rattle.teb_rules.specs.Replay as rule
use Rattle.script_text.specs.Named.{CellNamed}
use Rattle.audit_check.specs.Items.{RowKey}
use Rattle.audit_check.specs.Tables.{Values, put_at, after_puts, table_after, starts_in}
use Rattle.audit_law.specs.Printed.{EventFits, RowFits, row_key_of}
use Rattle.audit_law.proofs.Bridge.{items, starts}
use Rattle.audit_law.proofs.RowKeys.{row_keys_same}

-- the rows with row keys in place of cells
abbrev pub by_row_key : NameBook → List (Cell × ℤ) → List (RowKey × ℤ)
by_row_key names rows = map (λ r. (row_key_of names r.0, r.1)) rows

module _ (names : NameBook) (distinct : IsDistinct bytes_eq names.tables) where
  -- A and T have the same value in each named cell
  pub record Agree (A : Values) (T : rule.Values) : Type 0 where
    pub each : (x : Cell) → CellNamed names x → A (row_key_of names x) ≡ T x

  put_agrees : (x : Cell) (v : Option ℤ) (A : Values) (T : rule.Values) → CellNamed names x → Agree A T → Agree (put_at (row_key_of names x) v A) (rule.put_in x v T)
  put_agrees x v A T named agree = record {
    each = λ y there. rw (row_keys_same names distinct x y named there) (ap (λ o. if same_cell x y then v else o) (agree.each y there));
  }

  module _ (rows : List (RowKey × ℤ)) where
    starts_put_nothing : (s : List (RowKey × ℤ)) (t : ℕ) (A : Values) → after_puts (starts s) t A ≡ A
    unfolding after_puts
    starts_put_nothing [] t A = refl
    starts_put_nothing (r ∷ s) t A = starts_put_nothing s t A

    if_own : (b : Bool) (A B : Values) (T U : rule.Values) → Agree A T → Agree B U → Agree (if b then A else B) (cond b T U)
    if_own true A B T U a b = a
    if_own false A B T U a b = b

    pub puts_agree : (H : List Event) (t : ℕ) (A : Values) (T : rule.Values) → All (EventFits names) H → Agree A T → Agree (after_puts (items names rows H) t A) (rule.after_puts H t T)
    unfolding after_puts rule.after_puts
    puts_agree [] t A T fit agree = subst (λ (B : Values). Agree B T) (sym (starts_put_nothing rows t A)) agree
    puts_agree (event.Put u x v ∷ P) t A T fit agree =
        let more = puts_agree P t A T (All-tail (EventFits names) (event.Put u x v) P fit) agree in
        let here = All-head (EventFits names) (event.Put u x v) P fit in
        if_own (u.0 == t) (put_at (row_key_of names x) v (after_puts (items names rows P) t A)) (after_puts (items names rows P) t A) (rule.put_in x v (rule.after_puts P t T)) (rule.after_puts P t T)
        (put_agrees x v (after_puts (items names rows P) t A) (rule.after_puts P t T) here.1.0 more) more
    puts_agree (event.Began u s k i ∷ P) t A T fit agree = puts_agree P t A T (All-tail (EventFits names) (event.Began u s k i) P fit) agree
    puts_agree (event.Got u x w v ∷ P) t A T fit agree = puts_agree P t A T (All-tail (EventFits names) (event.Got u x w v) P fit) agree
    puts_agree (event.Ready u ∷ P) t A T fit agree = puts_agree P t A T (All-tail (EventFits names) (event.Ready u) P fit) agree
    puts_agree (event.Done u ∷ P) t A T fit agree = puts_agree P t A T (All-tail (EventFits names) (event.Done u) P fit) agree
    puts_agree (event.Gone u c ∷ P) t A T fit agree = puts_agree P t A T (All-tail (EventFits names) (event.Gone u c) P fit) agree
    puts_agree (event.Told u ∷ P) t A T fit agree = puts_agree P t A T (All-tail (EventFits names) (event.Told u) P fit) agree

    pub tables_agree : (H : List Event) (ts : List ℕ) (A : Values) (T : rule.Values) → All (EventFits names) H → Agree A T → Agree (table_after (items names rows H) ts A) (rule.table_after H ts T)
    unfolding table_after rule.table_after
    tables_agree H [] A T fit agree = agree
    tables_agree H (t ∷ ts) A T fit agree = tables_agree H ts (after_puts (items names rows H) t A) (rule.after_puts H t T) fit (puts_agree H t A T fit agree)

    starts_of_items : (H : List Event) → starts_in (items names rows H) ≡ starts_in (starts rows)
    unfolding starts_in
    starts_of_items [] = refl
    starts_of_items (event.Began u s k i ∷ P) = starts_of_items P
    starts_of_items (event.Got u x w v ∷ P) = starts_of_items P
    starts_of_items (event.Put u x v ∷ P) = starts_of_items P
    starts_of_items (event.Ready u ∷ P) = starts_of_items P
    starts_of_items (event.Done u ∷ P) = starts_of_items P
    starts_of_items (event.Gone u c ∷ P) = starts_of_items P
    starts_of_items (event.Told u ∷ P) = starts_of_items P

  no_rows : Agree (starts_in []) (row_of [])
  unfolding starts_in
  no_rows = record { each = λ x named. refl }

  one_row : (r : Cell × ℤ) (rs : List (Cell × ℤ)) → CellNamed names r.0 → Agree (starts_in (starts (by_row_key names rs))) (row_of rs) → Agree (starts_in (starts (by_row_key names (r ∷ rs))))
      (row_of (r ∷ rs))
  unfolding starts_in
  one_row r rs named agree = record { each = (put_agrees r.0 (Some r.1) (starts_in (starts (by_row_key names rs))) (row_of rs) named agree).each }

  rows_agree : (rs : List (Cell × ℤ)) → All (RowFits names) rs → Agree (starts_in (starts (by_row_key names rs))) (row_of rs)
  rows_agree [] fit = no_rows
  rows_agree (r ∷ rs) fit = one_row r rs (All-head (RowFits names) r rs fit).0.0 (rows_agree rs (All-tail (RowFits names) r rs fit))

  pub starts_agree : (rs : List (Cell × ℤ)) (H : List Event) → All (RowFits names) rs → Agree (starts_in (items names (by_row_key names rs) H)) (row_of rs)
  starts_agree rs H fit = subst (λ (A : Values). Agree A (row_of rs)) (sym (starts_of_items (by_row_key names rs) H)) (rows_agree rs fit)
