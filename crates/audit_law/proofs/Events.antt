-- Printed event lines are parsed back.
use Rattle.std.proofs.Common.{◌≡◌, ℕ, zero, suc, ◌-◌, ◌^◌, ◌≤◌, ◌==◌, ◌++◌, false, map, true, List, [], ◌∷◌, Option, Some, refl, ap, ◌∙◌, arith}
use Rattle.std.specs.List.{list_all, join_with_byte}
use Rattle.std.specs.Prelude.{◌<◌, length, decimal, codes, ℤ, All}
use Rattle.std.specs.Fmt.{signed_decimal}
use Rattle.std.proofs.lemmas.Bool.Decides.{nat_tests}
use Rattle.std.proofs.lemmas.List.Elements.{All-head, All-tail}
use Rattle.teb_rules.specs.declared.names.TheConstants.{SESSIONS}
use Rattle.teb_rules.specs.declared.names.Txn.{Txn}
use Rattle.teb_rules.specs.declared.names.Cell.{Cell}
use Rattle.teb_rules.specs.declared.names.Node.{Node}
use Rattle.teb_rules.specs.declared.names.Cause.{Cause}
use Rattle.teb_rules.specs.declared.names.Cause.TheVariants as cause
use Rattle.teb_rules.specs.declared.names.naming.NameBook.{NameBook}
use Rattle.teb_rules.specs.declared.history.Event.{Event}
use Rattle.teb_rules.specs.declared.history.Event.TheVariants as event
use Rattle.script_text.specs.Texts.{name_of, event_words, cause_words, instance_words, cell_words, txn_text}
use Rattle.teb_rules.specs.names.Names.{is_name}
use Rattle.script_text.specs.Named.{NodeNamed}
use Rattle.script_text.specs.Ranges.{TxnFits, IntegerFits}
use Rattle.audit_law.specs.Printed.{AreNames, RowFits, CellFits, CauseFits, EventFits, row_key_of, event_item}
use Rattle.audit_check.specs.Items.{Item, RowKey}
use Rattle.audit_check.specs.Items.Item.{Start, Began, Order, Row, End}
use Rattle.audit_check.specs.Lines.{item_of, words_of}
use Rattle.audit_check.specs.Reading.{item_in, later_item, cause_in, began_in, row_in, txns_at, name_at, row_key_at}
use Rattle.audit_law.proofs.Digits.{number_is_word, integer_back, integer_is_word}
use Rattle.audit_law.proofs.Pieces.{txn_back, txn_is_word, key_is_word, from_one_back, name_back, name_is_word, name_of_is_name, row_key_back, value_back, value_is_word}
use Rattle.audit_law.proofs.Words.{is_word, words_back}

-- a line of plain words is parsed as its words
pub line_back : (w : List ℕ) (ws : List (List ℕ)) (o : Option Item) → list_all is_word (w ∷ ws) ≡ true → item_in (w ∷ ws) ≡ o → item_of (join_with_byte 32 (w ∷ ws)) ≡ o
unfolding item_of
line_back w ws o plain is = ap item_in (words_back w ws plain) ∙ is

words_line_back : (ws : List (List ℕ)) (i : Item) → list_all is_word ws ≡ true → item_in ws ≡ Some i → item_of (join_with_byte 32 ws) ≡ Some i
unfolding item_in
words_line_back [] i plain is = absurd (cc)
words_line_back (w ∷ ws) i plain is = line_back w ws (Some i) plain is

module _ (names : NameBook) (are : AreNames names) where
  -- the names of a cell and of a node are parsed back
  table_is_name : (x : Cell) → CellFits names x → is_name (name_of names.tables x.table.0) ≡ true
  table_is_name x h = name_of_is_name names.tables x.table.0 are.tables h.0

  node_is_name : (n : Node) → NodeNamed names n → is_name (name_of names.nodes n.0) ≡ true
  node_is_name n h = name_of_is_name names.nodes n.0 are.nodes h

  cell_back : (x : Cell) → CellFits names x → row_key_at (name_of names.tables x.table.0) (decimal x.key) ≡ Some (row_key_of names x)
  cell_back x h = row_key_back names x (table_is_name x h) h.1

  table_is_word : (x : Cell) → CellFits names x → is_word (name_of names.tables x.table.0) ≡ true
  table_is_word x h = name_is_word (name_of names.tables x.table.0) (table_is_name x h)

  node_is_word : (n : Node) → NodeNamed names n → is_word (name_of names.nodes n.0) ≡ true
  node_is_word n h = name_is_word (name_of names.nodes n.0) (node_is_name n h)

  node_back : (n : Node) → NodeNamed names n → name_at (name_of names.nodes n.0) ≡ Some (name_of names.nodes n.0)
  node_back n h = name_back (name_of names.nodes n.0) (node_is_name n h)

  kind_back : (k : ℕ) → k < length names.types → name_at (name_of names.types k) ≡ Some (name_of names.types k)
  kind_back k h = name_back (name_of names.types k) (name_of_is_name names.types k are.types h)

  kind_is_word : (k : ℕ) → k < length names.types → is_word (name_of names.types k) ≡ true
  kind_is_word k h = name_is_word (name_of names.types k) (name_of_is_name names.types k are.types h)

  -- causes are parsed back
  cause_back : (c : Cause) → CauseFits names c → cause_in (cause_words names c) ≡ Some tt
  unfolding cause_in
  cause_back (cause.Late n r x) h = rw (node_back n h.0, txn_back r h.1, cell_back x h.2)
  cause_back (cause.First n w x) h = rw (node_back n h.0, txn_back w h.1, cell_back x h.2)
  cause_back (cause.Pivot n a b c d) h = rw (node_back n h.0, txn_back a h.1, txn_back b h.2, txn_back c h.3, txn_back d h.4)
  cause_back (cause.Newer n u) h = rw (node_back n h.0, txn_back u h.1)
  cause_back (cause.After u) h = rw (txn_back u h)
  cause_back cause.Asked h = refl
  cause_back cause.Ended h = refl

  cause_are_words : (c : Cause) → CauseFits names c → list_all is_word (cause_words names c) ≡ true
  cause_are_words (cause.Late n r x) h = rw (node_is_word n h.0, txn_is_word r h.1, table_is_word x h.2, key_is_word x.key h.2.1)
  cause_are_words (cause.First n w x) h = rw (node_is_word n h.0, txn_is_word w h.1, table_is_word x h.2, key_is_word x.key h.2.1)
  cause_are_words (cause.Pivot n a b c d) h = rw (node_is_word n h.0, txn_is_word a h.1, txn_is_word b h.2, txn_is_word c h.3, txn_is_word d h.4)
  cause_are_words (cause.Newer n u) h = rw (node_is_word n h.0, txn_is_word u h.1)
  cause_are_words (cause.After u) h = rw (txn_is_word u h)
  cause_are_words cause.Asked h = refl
  cause_are_words cause.Ended h = refl

  -- the words of an event are parsed back
  began_back : (t : Txn) (s : ℕ) (k i : ℕ) → TxnFits t → 0 < s → s ≤ SESSIONS → k < length names.types → i < 2 ^ 32
      → began_in (txn_text t ∷ decimal s ∷ name_of names.types k ∷ instance_words i) ≡ Some (Began t.0)
  began_back t s k zero fits some most kind small = rw (txn_back t fits, from_one_back SESSIONS s some most (omega (arith, most)), kind_back k kind)
  began_back t s k (suc i) fits some most kind small =
      let told : (suc i == 0) ≡ false = grind (arith, nat_tests) in
      rw (
        told,
        txn_back t fits,
        from_one_back SESSIONS s some most (omega (arith, most)),
        kind_back k kind,
        from_one_back (2 ^ 32 - 1) (suc i) (omega arith) (omega (arith, small)) (omega (arith, small)),
      )

  began_are_words : (t : Txn) (s : ℕ) (k i : ℕ) → TxnFits t → s ≤ SESSIONS → k < length names.types → i < 2 ^ 32
      → list_all is_word (txn_text t ∷ decimal s ∷ name_of names.types k ∷ instance_words i) ≡ true
  began_are_words t s k zero fits most kind small = rw (txn_is_word t fits, number_is_word s (omega (arith, most)), kind_is_word k kind)
  began_are_words t s k (suc i) fits most kind small =
      let told : (suc i == 0) ≡ false = grind (arith, nat_tests) in
      rw (told, txn_is_word t fits, number_is_word s (omega (arith, most)), kind_is_word k kind, key_is_word (suc i) small)

  event_back : (e : Event) → EventFits names e → item_in (event_words names e) ≡ Some (event_item names e)
  unfolding item_in later_item
  event_back (event.Began t s k i) h = began_back t s.0 k.0 i h.0 h.1 h.2 h.3 h.4
  event_back (event.Got t x u v) h = rw (txn_back t h.0, cell_back x h.1, txn_back u h.2, value_back v h.3)
  event_back (event.Put t x v) h = rw (txn_back t h.0, cell_back x h.1, value_back v h.2)
  event_back (event.Ready t) h = rw (txn_back t h)
  event_back (event.Done t) h = rw (txn_back t h)
  event_back (event.Gone t c) h = rw (txn_back t h.0, cause_back c h.1)
  event_back (event.Told t) h = rw (txn_back t h)

  pub event_are_words : (e : Event) → EventFits names e → list_all is_word (event_words names e) ≡ true
  event_are_words (event.Began t s k i) h = began_are_words t s.0 k.0 i h.0 h.2 h.3 h.4
  event_are_words (event.Got t x u v) h = rw (txn_is_word t h.0, table_is_word x h.1, key_is_word x.key h.1.1, txn_is_word u h.2, value_is_word v h.3)
  event_are_words (event.Put t x v) h = rw (txn_is_word t h.0, table_is_word x h.1, key_is_word x.key h.1.1, value_is_word v h.2)
  event_are_words (event.Ready t) h = rw (txn_is_word t h)
  event_are_words (event.Done t) h = rw (txn_is_word t h)
  event_are_words (event.Gone t c) h = rw (txn_is_word t h.0, cause_are_words c h.1)
  event_are_words (event.Told t) h = rw (txn_is_word t h)

  pub event_line_back : (e : Event) → EventFits names e → item_of (join_with_byte 32 (event_words names e)) ≡ Some (event_item names e)
  event_line_back e h = words_line_back (event_words names e) (event_item names e) (event_are_words e h) (event_back e h)

  -- the words of a row are parsed back
  row_back : (item : RowKey → ℤ → Item) (x : Cell) (v : ℤ) → CellFits names x → IntegerFits v
      → row_in item (name_of names.tables x.table.0 ∷ decimal x.key ∷ signed_decimal v ∷ []) ≡ Some (item (row_key_of names x) v)
  row_back item x v cell value = rw (cell_back x cell, integer_back v value)

  pub row_are_words : (x : Cell) (v : ℤ) → CellFits names x → IntegerFits v
      → list_all is_word (name_of names.tables x.table.0 ∷ decimal x.key ∷ signed_decimal v ∷ []) ≡ true
  row_are_words x v cell value = rw (table_is_word x cell, key_is_word x.key cell.1, integer_is_word v value)

  -- the lines of rows are parsed back
  pub start_line_back : (x : Cell) (v : ℤ) → RowFits names (x, v)
      → item_of (join_with_byte 32 (codes "start" ∷ cell_words names x ++ signed_decimal v ∷ [])) ≡ Some (Start (row_key_of names x) v)
  unfolding item_in
  start_line_back x v h = line_back (codes "start") (cell_words names x ++ signed_decimal v ∷ []) _ (row_are_words x v h.0 h.1) (row_back Start x v h.0 h.1)

  pub row_line_back : (x : Cell) (v : ℤ) → RowFits names (x, v)
      → item_of (join_with_byte 32 (codes "row" ∷ cell_words names x ++ signed_decimal v ∷ [])) ≡ Some (Row (row_key_of names x) v)
  unfolding item_in later_item
  row_line_back x v h = line_back (codes "row") (cell_words names x ++ signed_decimal v ∷ []) _ (row_are_words x v h.0 h.1) (row_back Row x v h.0 h.1)

-- the line of the order is parsed back
txns_back : (ts : List Txn) → All TxnFits ts → txns_at (map txn_text ts) ≡ Some (map (λ t. t.0) ts)
unfolding txns_at
txns_back [] h = refl
txns_back (t ∷ ts) h = rw (txn_back t (All-head TxnFits t ts h), txns_back ts (All-tail TxnFits t ts h))

pub txns_are_words : (ts : List Txn) → All TxnFits ts → list_all is_word (map txn_text ts) ≡ true
txns_are_words [] h = refl
txns_are_words (t ∷ ts) h = rw (txn_is_word t (All-head TxnFits t ts h), txns_are_words ts (All-tail TxnFits t ts h))

pub order_line_back : (ts : List Txn) → All TxnFits ts → item_of (join_with_byte 32 (codes "order" ∷ map txn_text ts)) ≡ Some (Order (map (λ t. t.0) ts))
unfolding item_in later_item
order_line_back ts h = line_back (codes "order") (map txn_text ts) _ (txns_are_words ts h) (rw (txns_back ts h))

pub end_line_back : item_of (codes "end") ≡ Some End
unfolding item_of words_of item_in later_item
end_line_back = refl
