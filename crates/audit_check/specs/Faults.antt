-- Which lines of a printed run are wrong. Each test looks at a line behind the lines so far, the newest first; H are all lines.
use Rattle.std.specs.Prelude.{ℕ, Bool, true, false, ◌+◌, not, ◌&&◌, ◌==◌, List, [], ◌∷◌, Option, Some, ℤ, is_some}
use Rattle.std.specs.List.{list_any, list_all}
use Rattle.std.specs.Option.{option_eq}
use Rattle.std.specs.Ordering.{int_eq}
use Rattle.audit_check.specs.Items.{Item, RowKey}
use Rattle.audit_check.specs.Items.Item.{Start, Began, Got, Put, Ready, Done, Gone, Told, Order, Row, End}
use Rattle.audit_check.specs.Lines.{is_row}
use Rattle.audit_check.specs.Standings.{committed, aborted, unfinished, begun_count, commits}
use Rattle.audit_check.specs.Tables.{Values, after_puts, order_in, table_before, last_table}

-- transactions are numbered from 1 as they begin; only an aborted one is told, and only an unfinished one does anything else
abbrev pub wrong_txn : List Item → Item → Bool
wrong_txn past (Began t) = not (t == begun_count past + 1)
wrong_txn past (Told t) = not (aborted past t)
wrong_txn past (Got t x u v) = not (unfinished past t)
wrong_txn past (Put t x v) = not (unfinished past t)
wrong_txn past (Ready t) = not (unfinished past t)
wrong_txn past (Done t) = not (unfinished past t)
wrong_txn past (Gone t) = not (unfinished past t)
wrong_txn past _ = false

abbrev pub is_among : List ℕ → ℕ → Bool
is_among ts t = list_any (λ s. s == t) ts

abbrev pub are_distinct : List ℕ → Bool
are_distinct [] = true
are_distinct (t ∷ ts) = not (is_among ts t) && are_distinct ts

-- each is there once and passes the test
abbrev pub are_distinct_and : (ℕ → Bool) → List ℕ → Bool
are_distinct_and p ts = are_distinct ts && list_all p ts

-- the order lists each committed transaction once and no other
abbrev pub wrong_order : List Item → List Item → Item → Bool
wrong_order H past (Order ts) = not (are_distinct_and (committed H) ts && list_all (is_among ts) (commits H))
wrong_order H past _ = false

-- t reads from another transaction, which passes the test
abbrev pub reads_from : (ℕ → Bool) → ℕ → Item → Bool
reads_from p t (Got s x u v) = s == t && not (u == t) && not (u == 0) && p u
reads_from p t _ = false

-- t commits, and read from one that has not
abbrev pub wrong_after : List Item → Item → Bool
wrong_after past (Done t) = list_any (reads_from (λ u. not (committed past u)) t) past
wrong_after past _ = false

abbrev pub same_value : Option ℤ → Option ℤ → Bool
same_value v w = option_eq int_eq v w

-- t reads something else than its own puts so far leave in x, where it begins with T
abbrev pub is_misread : List Item → Values → ℕ → RowKey → Option ℤ → Bool
is_misread past T t x v = not (same_value (after_puts past t T x) v)

-- what a transaction of the order reads is what the table then holds
abbrev pub wrong_read : List Item → List Item → Item → Bool
wrong_read H past (Got t x u v) = is_among (order_in H) t && is_misread past (table_before H t) t x v
wrong_read H past _ = false

-- the row keys that have had a row
unfoldable pub row_keys_in : List Item → List RowKey
row_keys_in [] = []
row_keys_in (Start x v ∷ past) = x ∷ row_keys_in past
row_keys_in (Put t x v ∷ past) = x ∷ row_keys_in past
row_keys_in (_ ∷ past) = row_keys_in past

-- a row of the last table without a line
abbrev pub is_missing : List Item → List Item → RowKey → Bool
is_missing H past x = is_some (last_table H x) && not (list_any (is_row x) past)

abbrev pub wrong_row : List Item → List Item → Item → Bool
wrong_row H past (Row x v) = not (same_value (last_table H x) (Some v))
wrong_row H past End = list_any (is_missing H past) (row_keys_in H)
wrong_row H past _ = false
