-- A printed run is parsed back into its items.
use Rattle.std.proofs.Common.{◌≡◌, ℕ, true, List, [], ◌∷◌, ◌++◌, map, Some, refl, ap, sym, ◌∙◌, append_assoc}
use Rattle.std.specs.Prelude.{ℤ, codes}
use Rattle.std.specs.Fmt.{signed_decimal}
use Rattle.std.specs.List.{All, list_all, flat_map, join_with_byte}
use Rattle.std.proofs.lemmas.Bool.{and_from}
use Rattle.std.proofs.lemmas.Grind.{flat_map-append}
use Rattle.std.proofs.lemmas.List.{map-append, append-nil}
use Rattle.std.proofs.lemmas.List.Elements.{All-head, All-tail}
use Rattle.std.proofs.lemmas.List.Folds.{list_all-append, flat_map-map}
use Rattle.teb_rules.specs.declared.names.Cell.{Cell}
use Rattle.teb_rules.specs.declared.names.Txn.{Txn}
use Rattle.teb_rules.specs.declared.names.naming.NameBook.{NameBook}
use Rattle.teb_rules.specs.declared.history.Event.{Event}
use Rattle.script_text.specs.Texts.{Words, line_text, cell_words, event_words, event_text, txn_text, rows_text, starts_text, report_text}
use Rattle.script_text.specs.Ranges.{TxnFits}
use Rattle.audit_check.specs.Items.{Item}
use Rattle.audit_check.specs.Items.Item.{Start, Order, Row, End}
use Rattle.audit_check.specs.Lines.{item_of}
use Rattle.audit_law.specs.Printed.{AreNames, RowFits, EventFits, row_key_of, event_item}
use Rattle.audit_law.proofs.Events.{event_line_back, start_line_back, row_line_back, order_line_back, end_line_back, event_are_words, row_are_words, txns_are_words}
use Rattle.audit_law.proofs.Texts.{Say, are_words}

say_append : (ls ms : List (List ℕ)) (is js : List Item) → Say ls is → Say ms js → Say (ls ++ ms) (is ++ js)
say_append [] ms [] js h g = g
say_append (l ∷ ls) ms (i ∷ is) js h g = (h.0, say_append ls ms is js h.1 g)
say_append [] ms (i ∷ is) js h g = absurd h
say_append (l ∷ ls) ms [] js h g = absurd h

say_map : {A : Type 0} (P : A → Type 0) (line : A → List ℕ) (item : A → Item) → ((x : A) → P x → item_of (line x) ≡ Some (item x)) → (xs : List A) → All P xs → Say (map line xs) (map item xs)
say_map P line item back [] h = tt
say_map P line item back (x ∷ xs) h = (back x (All-head P x xs h), say_map P line item back xs (All-tail P x xs h))

words_map : {A : Type 0} (P : A → Type 0) (words : A → Words) → ((x : A) → P x → are_words (words x) ≡ true) → (xs : List A) → All P xs → list_all are_words (map words xs) ≡ true
words_map P words are [] h = refl
words_map P words are (x ∷ xs) h = and_from (are_words (words x)) (list_all are_words (map words xs)) (are x (All-head P x xs h)) (words_map P words are xs (All-tail P x xs h))

pub map_map : {A B C : Type 0} (f : B → C) (g : A → B) (xs : List A) → map f (map g xs) ≡ map (λ x. f (g x)) xs
map_map f g [] = refl
map_map f g (x ∷ xs) = ap (λ l. f (g x) ∷ l) (map_map f g xs)

module _ (names : NameBook) (are : AreNames names) where
  abbrev pub start_words : Cell × ℤ → Words
  start_words r = codes "start" ∷ cell_words names r.0 ++ signed_decimal r.1 ∷ []

  abbrev pub row_words : Cell × ℤ → Words
  row_words r = codes "row" ∷ cell_words names r.0 ++ signed_decimal r.1 ∷ []

  abbrev pub order_words : List Txn → Words
  order_words order = codes "order" ∷ map txn_text order

  -- all lines, and the items that they say
  abbrev pub lines_of : List (Cell × ℤ) → List Event → List Txn → List (Cell × ℤ) → List Words
  lines_of starts es order rows = map start_words starts ++ (map (event_words names) es ++ (order_words order ∷ (map row_words rows ++ (codes "end" ∷ []) ∷ [])))

  abbrev pub items_said : List (Cell × ℤ) → List Event → List Txn → List (Cell × ℤ) → List Item
  items_said starts es order rows =
      map (λ r. Start (row_key_of names r.0) r.1) starts ++ (map (event_item names) es ++ (Order (map (λ t. t.0) order) ∷ (map (λ r. Row (row_key_of names r.0) r.1) rows ++ End ∷ [])))

  module _ (starts : List (Cell × ℤ)) (es : List Event) (order : List Txn) (rows : List (Cell × ℤ))
      (sf : All (RowFits names) starts) (ef : All (EventFits names) es) (tf : All TxnFits order) (rf : All (RowFits names) rows) where
    pub all_words : list_all are_words (lines_of starts es order rows) ≡ true
    all_words =
        let row_part : list_all are_words (map row_words rows ++ (codes "end" ∷ []) ∷ []) ≡ true =
        list_all-append are_words (map row_words rows) ((codes "end" ∷ []) ∷ [])
        ∙ and_from (list_all are_words (map row_words rows)) true (words_map (RowFits names) row_words (λ r h. row_are_words names are r.0 r.1 h.0 h.1) rows rf) refl in
        let order_part : list_all are_words (order_words order ∷ (map row_words rows ++ (codes "end" ∷ []) ∷ [])) ≡ true =
        and_from (are_words (order_words order)) (list_all are_words (map row_words rows ++ (codes "end" ∷ []) ∷ [])) (txns_are_words order tf) row_part in
        let event_part : list_all are_words (map (event_words names) es ++ (order_words order ∷ (map row_words rows ++ (codes "end" ∷ []) ∷ []))) ≡ true =
        list_all-append are_words (map (event_words names) es) (order_words order ∷ (map row_words rows ++ (codes "end" ∷ []) ∷ []))
        ∙ and_from (list_all are_words (map (event_words names) es)) (list_all are_words (order_words order ∷ (map row_words rows ++ (codes "end" ∷ []) ∷ [])))
        (words_map (EventFits names) (event_words names) (event_are_words names are) es ef) order_part in
        list_all-append are_words (map start_words starts) (map (event_words names) es ++ (order_words order ∷ (map row_words rows ++ (codes "end" ∷ []) ∷ [])))
        ∙ and_from (list_all are_words (map start_words starts)) (list_all are_words (map (event_words names) es ++ (order_words order ∷ (map row_words rows ++ (codes "end" ∷ []) ∷ []))))
        (words_map (RowFits names) start_words (λ r h. row_are_words names are r.0 r.1 h.0 h.1) starts sf) event_part

    abbrev join : Words → List ℕ
    join ws = join_with_byte 32 ws

    abbrev joined : List (List ℕ)
    joined =
        map (λ r. join (start_words r)) starts
        ++ (map (λ e. join (event_words names e)) es ++ (join (order_words order) ∷ (map (λ r. join (row_words r)) rows ++ join (codes "end" ∷ []) ∷ [])))

    joined_is : joined ≡ map join (lines_of starts es order rows)
    joined_is = sym (
        map-append join (map start_words starts) (map (event_words names) es ++ (order_words order ∷ (map row_words rows ++ (codes "end" ∷ []) ∷ [])))
        ∙ ap (λ (l : List (List ℕ)). l ++ map join (map (event_words names) es ++ (order_words order ∷ (map row_words rows ++ (codes "end" ∷ []) ∷ [])))) (map_map join start_words starts)
        ∙ ap (λ (l : List (List ℕ)). map (λ r. join (start_words r)) starts ++ l) (
        map-append join (map (event_words names) es) (order_words order ∷ (map row_words rows ++ (codes "end" ∷ []) ∷ []))
        ∙ ap (λ (l : List (List ℕ)). l ++ (join (order_words order) ∷ map join (map row_words rows ++ (codes "end" ∷ []) ∷ []))) (map_map join (event_words names) es)
        ∙ ap (λ (l : List (List ℕ)). map (λ e. join (event_words names e)) es ++ (join (order_words order) ∷ l)) (
        map-append join (map row_words rows) ((codes "end" ∷ []) ∷ [])
        ∙ ap (λ (l : List (List ℕ)). l ++ join (codes "end" ∷ []) ∷ []) (map_map join row_words rows))))

    said : Say joined (items_said starts es order rows)
    said =
        say_append (map (λ r. join (start_words r)) starts) _ (map (λ r. Start (row_key_of names r.0) r.1) starts) _
        (say_map (RowFits names) (λ r. join (start_words r)) (λ r. Start (row_key_of names r.0) r.1) (λ r h. start_line_back names are r.0 r.1 h) starts sf)
        (say_append (map (λ e. join (event_words names e)) es) _ (map (event_item names) es) _
        (say_map (EventFits names) (λ e. join (event_words names e)) (event_item names) (event_line_back names are) es ef) (
          order_line_back order tf,
          say_append (map (λ r. join (row_words r)) rows) _ (map (λ r. Row (row_key_of names r.0) r.1) rows) _
              (say_map (RowFits names) (λ r. join (row_words r)) (λ r. Row (row_key_of names r.0) r.1) (λ r h. row_line_back names are r.0 r.1 h) rows rf)
              (end_line_back, tt),
        ))

    pub lines_say : Say (map join (lines_of starts es order rows)) (items_said starts es order rows)
    lines_say = rw (sym joined_is) said

    -- the text is the concatenation of these lines
    pub text_is : flat_map line_text (lines_of starts es order rows) ≡ starts_text names starts ++ (flat_map (event_text names) es ++ report_text names order rows)
    text_is =
        flat_map-append line_text (map start_words starts) (map (event_words names) es ++ (order_words order ∷ (map row_words rows ++ (codes "end" ∷ []) ∷ [])))
        ∙ ap (λ (l : List ℕ). l ++ flat_map line_text (map (event_words names) es ++ (order_words order ∷ (map row_words rows ++ (codes "end" ∷ []) ∷ [])))) (flat_map-map line_text start_words starts)
        ∙ ap (λ (l : List ℕ). starts_text names starts ++ l) (
        flat_map-append line_text (map (event_words names) es) (order_words order ∷ (map row_words rows ++ (codes "end" ∷ []) ∷ []))
        ∙ ap (λ (l : List ℕ). l ++ (line_text (order_words order) ++ flat_map line_text (map row_words rows ++ (codes "end" ∷ []) ∷ []))) (flat_map-map line_text (event_words names) es)
        ∙ ap (λ (l : List ℕ). flat_map (event_text names) es ++ l) (
        ap (λ (l : List ℕ). line_text (order_words order) ++ l) (
        flat_map-append line_text (map row_words rows) ((codes "end" ∷ []) ∷ [])
        ∙ ap (λ (l : List ℕ). l ++ (line_text (codes "end" ∷ []) ++ [])) (flat_map-map line_text row_words rows)
        ∙ ap (λ (l : List ℕ). rows_text names (codes "row") rows ++ l) (append-nil (line_text (codes "end" ∷ []))))
        ∙ sym (append_assoc (line_text (order_words order)) (rows_text names (codes "row") rows) (line_text (codes "end" ∷ [])))))
