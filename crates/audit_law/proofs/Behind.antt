-- The report after the events (order, final rows, end) does not change what is computed from the lines before it.
use Rattle.std.proofs.Common.{◌≡◌, ℕ, Bool, false, List, [], ◌∷◌, ◌++◌, map, None, refl, ap, ◌∙◌}
use Rattle.std.specs.Prelude.{ℤ}
use Rattle.audit_check.specs.Items.{Item, RowKey}
use Rattle.audit_check.specs.Items.Item.{Order, Row, End}
use Rattle.audit_check.specs.Audit.{first_line}
use Rattle.audit_check.specs.Faults.{row_keys_in}
use Rattle.audit_check.specs.Standings.{committed}
use Rattle.audit_check.specs.Tables.{Values, after_puts, table_after, starts_in, order_in}
use Rattle.audit_check.proofs.FirstLines.{first_more}

-- the lines of the final rows, newest first
abbrev pub row_items : List (RowKey × ℤ) → List Item
row_items rows = map (λ r. Row r.0 r.1) rows

-- all lines of a printed run, Q being those up to the events
abbrev pub with_report : List (RowKey × ℤ) → List ℕ → List Item → List Item
with_report rows ts Q = End ∷ (row_items rows ++ Order ts ∷ Q)

module _ (ts : List ℕ) (Q : List Item) where
  committed_behind : (rows : List (RowKey × ℤ)) (t : ℕ) → committed (row_items rows ++ Order ts ∷ Q) t ≡ committed Q t
  unfolding committed
  committed_behind [] t = refl
  committed_behind (r ∷ rows) t = committed_behind rows t

  pub committed_reported : (rows : List (RowKey × ℤ)) (t : ℕ) → committed (with_report rows ts Q) t ≡ committed Q t
  unfolding committed
  committed_reported rows t = committed_behind rows t

  order_behind : (rows : List (RowKey × ℤ)) → order_in (row_items rows ++ Order ts ∷ Q) ≡ ts
  unfolding order_in
  order_behind [] = refl
  order_behind (r ∷ rows) = order_behind rows

  pub order_reported : (rows : List (RowKey × ℤ)) → order_in (with_report rows ts Q) ≡ ts
  unfolding order_in
  order_reported rows = order_behind rows

  starts_behind : (rows : List (RowKey × ℤ)) → starts_in (row_items rows ++ Order ts ∷ Q) ≡ starts_in Q
  unfolding starts_in
  starts_behind [] = refl
  starts_behind (r ∷ rows) = starts_behind rows

  pub starts_reported : (rows : List (RowKey × ℤ)) → starts_in (with_report rows ts Q) ≡ starts_in Q
  unfolding starts_in
  starts_reported rows = starts_behind rows

  puts_behind : (rows : List (RowKey × ℤ)) (t : ℕ) (T : Values) → after_puts (row_items rows ++ Order ts ∷ Q) t T ≡ after_puts Q t T
  unfolding after_puts
  puts_behind [] t T = refl
  puts_behind (r ∷ rows) t T = puts_behind rows t T

  pub puts_reported : (rows : List (RowKey × ℤ)) (t : ℕ) (T : Values) → after_puts (with_report rows ts Q) t T ≡ after_puts Q t T
  unfolding after_puts
  puts_reported rows t T = puts_behind rows t T

  row_keys_behind : (rows : List (RowKey × ℤ)) → row_keys_in (row_items rows ++ Order ts ∷ Q) ≡ row_keys_in Q
  unfolding row_keys_in
  row_keys_behind [] = refl
  row_keys_behind (r ∷ rows) = row_keys_behind rows

  pub row_keys_reported : (rows : List (RowKey × ℤ)) → row_keys_in (with_report rows ts Q) ≡ row_keys_in Q
  unfolding row_keys_in
  row_keys_reported rows = row_keys_behind rows

  pub table_reported : (rows : List (RowKey × ℤ)) (us : List ℕ) (T : Values) → table_after (with_report rows ts Q) us T ≡ table_after Q us T
  unfolding table_after
  table_reported rows [] T = refl
  table_reported rows (u ∷ us) T = ap (table_after (with_report rows ts Q) us) (puts_reported rows u T) ∙ table_reported rows us (after_puts Q u T)

-- the test flags no row line
abbrev pub RowsRight : (List Item → Item → Bool) → List (RowKey × ℤ) → Type 0
RowsRight wrong [] = Unit {0}
RowsRight wrong (r ∷ rows) = ((past : List Item) → wrong past (Row r.0 r.1) ≡ false) × RowsRight wrong rows

module _ (wrong : List Item → Item → Bool) (ts : List ℕ) (Q : List Item) (none : first_line wrong Q ≡ None) (order : wrong Q (Order ts) ≡ false) where
  none_behind : (rows : List (RowKey × ℤ)) → RowsRight wrong rows → first_line wrong (row_items rows ++ Order ts ∷ Q) ≡ None
  none_behind [] h = first_more wrong Q (Order ts) none order
  none_behind (r ∷ rows) h = first_more wrong (row_items rows ++ Order ts ∷ Q) (Row r.0 r.1) (none_behind rows h.1) (h.0 (row_items rows ++ Order ts ∷ Q))

  pub none_reported : (rows : List (RowKey × ℤ)) → RowsRight wrong rows → wrong (row_items rows ++ Order ts ∷ Q) End ≡ false → first_line wrong (with_report rows ts Q) ≡ None
  none_reported rows h over = first_more wrong (row_items rows ++ Order ts ∷ Q) End (none_behind rows h) over

-- a test that flags no row line at all flags none of these
pub all_right : (wrong : List Item → Item → Bool) → ((past : List Item) (x : RowKey) (v : ℤ) → wrong past (Row x v) ≡ false) → (rows : List (RowKey × ℤ)) → RowsRight wrong rows
all_right wrong h [] = tt
all_right wrong h (r ∷ rows) = (λ past. h past r.0 r.1, all_right wrong h rows)
