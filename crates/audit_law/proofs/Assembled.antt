-- A printed run has no wrong line.
use Rattle.std.proofs.Common.{◌≡◌, ℕ, true, false, List, [], ◌∷◌, ◌++◌, map, reverse, None, refl, ap, sym, subst, ◌∙◌, arith}
use Rattle.std.specs.Prelude.{ℤ, Ok, is_some}
use Rattle.std.specs.List.{All, list_any}
use Rattle.std.proofs.lemmas.List.{append-nil, reverse-reverse}
use Rattle.teb_rules.specs.declared.names.Cell.{Cell}
use Rattle.teb_rules.specs.declared.names.Txn.{Txn}
use Rattle.teb_rules.specs.declared.names.naming.NameBook.{NameBook}
use Rattle.teb_rules.specs.names.Rows.{row_of}
use Rattle.teb_rules.specs.declared.history.Event.{Event}
use Rattle.teb_rules.specs.declared.history.Event.TheVariants as event
use Rattle.teb_rules.specs.Replay as rule
use Rattle.teb_rules.specs.Serializes.{Serializes, final_table}
use Rattle.teb_rules.specs.Setup.{Store}
use Rattle.teb_rules.specs.laws.Lawful.{Lawful}
use Rattle.teb_rules.specs.laws.TreeFacts.{TreeFacts}
use Rattle.script_text.specs.Named.{CellNamed}
use Rattle.script_text.specs.Ranges.{TxnFits}
use Rattle.audit_check.specs.Audit.{IsAudited, first_line, fault_in, fault_of}
use Rattle.audit_check.specs.Faults.{wrong_txn, wrong_order, wrong_after, wrong_read, wrong_row}
use Rattle.audit_check.specs.Items.{Item, RowKey}
use Rattle.audit_check.specs.Items.Item.{Start, Order, Row, End}
use Rattle.audit_check.specs.Lines.{items_of, part_after, is_row}
use Rattle.audit_check.specs.Tables.{Values, before, table_before, last_table, table_after, starts_in}
use Rattle.audit_law.specs.Law.{printed_run, CanPrint}
use Rattle.audit_law.specs.Printed.{row_key_of, event_item, EventFits, RowFits}
use Rattle.audit_law.proofs.AfterPast.{after_along}
use Rattle.audit_law.proofs.Agreement.{Agree, by_row_key, starts_agree, tables_agree}
use Rattle.audit_law.proofs.Ascending.{Apart, HasRow, rows_stand, row_reverse}
use Rattle.audit_law.proofs.Behind.{with_report, row_items, none_reported, all_right, order_reported, starts_reported, table_reported, row_keys_reported}
use Rattle.audit_law.proofs.Bridge.{items, starts, lawful_txns}
use Rattle.audit_law.proofs.FormLaw.{all_fit_append, starts_fit, events_fit, part_of_events, part_of_starts, report_fits, fresh_rows, no_row_starts, no_row_events}
use Rattle.audit_law.proofs.OrderLaw.{order_right}
use Rattle.audit_law.proofs.Orders.{onto_append, onto_map, All-reverse}
use Rattle.audit_law.proofs.ReadLaw.{reads_of, reads_along}
use Rattle.audit_law.proofs.RowLaw.{lined, rows_right, none_missing}
use Rattle.audit_law.proofs.Suffixes.{Along, none_along}
use Rattle.audit_law.proofs.TextLaw.{lines_of, items_said, all_words, lines_say, text_is, map_map}
use Rattle.audit_law.proofs.Texts.{onto, AllFit, text_back}

-- the test of the order flags no event
orders_along : (names : NameBook) (R : List (RowKey × ℤ)) (W : List Item) (H : List Event) → Along (λ P e. wrong_order W (items names R P) (event_item names e) ≡ false) H
orders_along names R W [] = tt
orders_along names R W (event.Began t s k i ∷ P) = (refl, orders_along names R W P)
orders_along names R W (event.Got t x u v ∷ P) = (refl, orders_along names R W P)
orders_along names R W (event.Put t x v ∷ P) = (refl, orders_along names R W P)
orders_along names R W (event.Ready t ∷ P) = (refl, orders_along names R W P)
orders_along names R W (event.Done t ∷ P) = (refl, orders_along names R W P)
orders_along names R W (event.Gone t c ∷ P) = (refl, orders_along names R W P)
orders_along names R W (event.Told t ∷ P) = (refl, orders_along names R W P)

rows_along : (names : NameBook) (R : List (RowKey × ℤ)) (W : List Item) (H : List Event) → Along (λ P e. wrong_row W (items names R P) (event_item names e) ≡ false) H
rows_along names R W [] = tt
rows_along names R W (event.Began t s k i ∷ P) = (refl, rows_along names R W P)
rows_along names R W (event.Got t x u v ∷ P) = (refl, rows_along names R W P)
rows_along names R W (event.Put t x v ∷ P) = (refl, rows_along names R W P)
rows_along names R W (event.Ready t ∷ P) = (refl, rows_along names R W P)
rows_along names R W (event.Done t ∷ P) = (refl, rows_along names R W P)
rows_along names R W (event.Gone t c ∷ P) = (refl, rows_along names R W P)
rows_along names R W (event.Told t ∷ P) = (refl, rows_along names R W P)

no_fault : (W : List Item) → first_line wrong_txn W ≡ None → first_line (wrong_order W) W ≡ None → first_line wrong_after W ≡ None → first_line (wrong_read W) W ≡ None
    → first_line (wrong_row W) W ≡ None → fault_in W ≡ None
unfolding fault_in
no_fault W t o a r w = rw (t, o, a, r, w)

module _ (names : NameBook) (X : Store) (a : TreeFacts X.setup) (H : List Event) (order : List Txn) (rows : List (Cell × ℤ)) (can : CanPrint names X.rows H) (order_fits : All TxnFits order)
    (rows_fit : All (RowFits names) rows)
    (l : Lawful X.setup H) (ser : Serializes X H (map (λ t. t.0) order)) (first : Apart X.rows) (last : Apart rows) (final : (x : Cell) → row_of rows x ≡ final_table X H x) where
  abbrev ts : List ℕ
  ts = map (λ t. t.0) order

  abbrev R : List (RowKey × ℤ)
  R = by_row_key names (reverse X.rows)

  abbrev Rows : List (RowKey × ℤ)
  Rows = by_row_key names (reverse rows)

  abbrev Q : List Item
  Q = items names R H

  abbrev W : List Item
  W = with_report Rows ts Q

  start_fit : All (RowFits names) (reverse X.rows)
  start_fit = All-reverse (RowFits names) X.rows can.starts_fit

  row_fit : All (RowFits names) (reverse rows)
  row_fit = All-reverse (RowFits names) rows rows_fit

  -- the tables of the audit agree with those of the rules
  starting : Agree names can.names_differ (starts_in Q) (row_of X.rows)
  starting = let by = starts_agree names can.names_differ (reverse X.rows) H start_fit in record { each = λ x named. by.each x named ∙ row_reverse X.rows x first }

  after_some : (us : List ℕ) → Agree names can.names_differ (table_after W us (starts_in W)) (rule.table_after H us (row_of X.rows))
  after_some us =
      subst (λ (A : Values). Agree names can.names_differ A (rule.table_after H us (row_of X.rows)))
      (sym (ap (table_after W us) (starts_reported ts Q Rows) ∙ table_reported ts Q Rows us (starts_in Q)))
      (tables_agree names can.names_differ R H us (starts_in Q) (row_of X.rows) can.events_fit starting)

  begins : (t : ℕ) → Agree names can.names_differ (table_before W t) (rule.table_after H (before t ts) (row_of X.rows))
  begins t = subst (λ (us : List ℕ). Agree names can.names_differ (table_after W (before t us) (starts_in W)) (rule.table_after H (before t ts) (row_of X.rows))) (sym (order_reported ts Q Rows))
      (after_some (before t ts))

  ends : Agree names can.names_differ (last_table W) (rule.table_after H ts (row_of X.rows))
  ends = subst (λ (us : List ℕ). Agree names can.names_differ (table_after W us (starts_in W)) (rule.table_after H ts (row_of X.rows))) (sym (order_reported ts Q Rows)) (after_some ts)

  last_is : (x : Cell) → row_of rows x ≡ rule.table_after H ts (row_of X.rows) x
  last_is x = final x ∙ sym (ser.final x)

  no_txn : first_line wrong_txn W ≡ None
  no_txn = none_reported wrong_txn ts Q (lawful_txns names R X.setup H l) refl Rows (all_right wrong_txn (λ past x v. refl) Rows) refl

  no_order : first_line (wrong_order W) W ≡ None
  no_order =
      none_reported (wrong_order W) ts Q (none_along names R (wrong_order W) (λ past x v. refl) H (orders_along names R W H)) (order_right names R Rows X H ts ser Q)
      Rows (all_right (wrong_order W) (λ past x v. refl) Rows) refl

  no_after : first_line wrong_after W ≡ None
  no_after = none_reported wrong_after ts Q (none_along names R wrong_after (λ past x v. refl) H (after_along names R X.setup a H l)) refl Rows (all_right wrong_after (λ past x v. refl) Rows) refl

  no_read : first_line (wrong_read W) W ≡ None
  no_read =
      none_reported (wrong_read W) ts Q
      (none_along names R (wrong_read W) (λ past x v. refl) H
      (reads_along names can.names_differ R W ts (order_reported ts Q Rows) (row_of X.rows) H begins H can.events_fit (λ t among. reads_of H ts (row_of X.rows) t ser.reads among)))
      refl Rows (all_right (wrong_read W) (λ past x v. refl) Rows) refl

  has_line : (x : Cell) → CellNamed names x → is_some (row_of rows x) ≡ true → list_any (is_row (row_key_of names x)) (row_items Rows ++ Order ts ∷ Q) ≡ true
  has_line x named some = lined names can.names_differ x (reverse rows) (Order ts ∷ Q) named row_fit (ap is_some (row_reverse rows x last) ∙ some)

  no_row : first_line (wrong_row W) W ≡ None
  no_row =
      none_reported (wrong_row W) ts Q (none_along names R (wrong_row W) (λ past x v. refl) H (rows_along names R W H)) refl Rows
      (rows_right names can.names_differ W rows (rule.table_after H ts (row_of X.rows)) ends last_is (reverse rows) row_fit (All-reverse (HasRow rows) rows (rows_stand rows last)))
      (none_missing names can.names_differ W rows (rule.table_after H ts (row_of X.rows)) ends last_is (reverse X.rows) H ts (row_items Rows ++ Order ts ∷ Q) start_fit can.events_fit has_line
      (row_keys_reported ts Q Rows))

  -- the printed lines are parsed back
  abbrev said : List Item
  said = items_said names can.names_are X.rows (reverse H) order rows

  abbrev start_item : Cell × ℤ → Item
  start_item r = Start (row_key_of names r.0) r.1

  abbrev row_item : Cell × ℤ → Item
  row_item r = Row (row_key_of names r.0) r.1

  abbrev begun : List Item
  begun = onto [] (map start_item X.rows)

  abbrev told : List Item
  told = onto begun (map (event_item names) (reverse H))

  begun_is : begun ≡ starts R
  begun_is = onto_map start_item [] X.rows ∙ append-nil (map start_item (reverse X.rows))
      ∙ sym (map_map (λ (r : RowKey × ℤ). Start r.0 r.1) (λ (r : Cell × ℤ). (row_key_of names r.0, r.1)) (reverse X.rows))

  told_is : told ≡ Q
  told_is =
      onto_map (event_item names) begun (reverse H)
      ∙ ap (λ (es : List Event). map (event_item names) es ++ begun) (reverse-reverse H)
      ∙ ap (λ (past : List Item). map (event_item names) H ++ past) begun_is

  reported_is : (past : List Item) → onto past (Order ts ∷ (map row_item rows ++ End ∷ [])) ≡ with_report Rows ts past
  reported_is past =
      onto_append (Order ts ∷ past) (map row_item rows) (End ∷ [])
      ∙ ap (λ (is : List Item). End ∷ is) (onto_map row_item (Order ts ∷ past) rows
      ∙ ap (λ (is : List Item). is ++ Order ts ∷ past) (sym (map_map (λ (r : RowKey × ℤ). Row r.0 r.1) (λ (r : Cell × ℤ). (row_key_of names r.0, r.1)) (reverse rows))))

  whole : onto [] said ≡ W
  whole =
      onto_append [] (map start_item X.rows) (map (event_item names) (reverse H) ++ (Order ts ∷ (map row_item rows ++ End ∷ [])))
      ∙ onto_append begun (map (event_item names) (reverse H)) (Order ts ∷ (map row_item rows ++ End ∷ []))
      ∙ reported_is told
      ∙ ap (with_report Rows ts) told_is

  fits : AllFit [] said
  fits =
      all_fit_append [] (map start_item X.rows) (map (event_item names) (reverse H) ++ (Order ts ∷ (map row_item rows ++ End ∷ []))) (starts_fit names can.names_differ X.rows can.starts_fit first)
      (all_fit_append begun (map (event_item names) (reverse H)) (Order ts ∷ (map row_item rows ++ End ∷ []))
      (events_fit names can.names_differ (reverse H) begun (part_of_starts names can.names_differ X.rows [] (omega arith)))
      (report_fits names can.names_differ ts rows told rows_fit last
      (part_of_events names can.names_differ (reverse H) begun (part_of_starts names can.names_differ X.rows [] (omega arith)))
      (fresh_rows names can.names_differ rows told (no_row_events names can.names_differ (reverse H) begun (no_row_starts names can.names_differ X.rows [] (λ x. refl))))))

  read_back : items_of (printed_run names X.rows H order rows) ≡ Ok W
  read_back =
      let events = All-reverse (EventFits names) H can.events_fit in
      ap items_of (sym (text_is names can.names_are X.rows (reverse H) order rows can.starts_fit events order_fits rows_fit))
      ∙ text_back (lines_of names can.names_are X.rows (reverse H) order rows) said
      (all_words names can.names_are X.rows (reverse H) order rows can.starts_fit events order_fits rows_fit)
      (lines_say names can.names_are X.rows (reverse H) order rows can.starts_fit events order_fits rows_fit)
      fits (ap part_after whole)
      ∙ ap (λ (is : List Item). Ok is) whole

  pub audited : IsAudited (printed_run names X.rows H order rows)
  audited = ap fault_of read_back ∙ no_fault W no_txn no_order no_after no_read no_row
