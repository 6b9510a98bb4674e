-- What is kept of the lines so far, the newest first.
use Rattle.std.specs.Prelude.{◌≡◌, ℕ, ◌+◌, ◌<◌, ◌≤◌, not, Bool, true, false, ◌&&◌, ◌==◌, if◌then◌else◌, List, [], ◌∷◌, nat_lt, nat_le, length, take, slice_index_or, Option, Some, None, ℤ, Vec}
use Rattle.std.specs.List.{list_any}
use Rattle.std.specs.Map.{lookup}
use Rattle.std.specs.declared.alloc.Global.{Global}
use Rattle.audit_check.specs.Items.{Item, RowKey, same_row_key}
use Rattle.audit_check.specs.Items.Item.{Start, Got, Put, Done}
use Rattle.audit_check.specs.Lines.{is_row}
use Rattle.audit_check.specs.Standings.{begun, committed, aborted, begun_count}
use Rattle.audit_check.specs.Tables.{Values, put_at, after_puts, table_after, table_before, starts_in}
use Rattle.audit_check.specs.Faults.{is_among, are_distinct_and, reads_from, same_value, is_misread}
use Rattle.audit_check.specs.Marks.{is_marked, list_at}
use Rattle.audit_check.specs.Views.{row_key_view, line_view, views, row_keys, has_row_key}
use Rattle.audit_check.specs.declared.line.RowKey.{RowKey as Key}
use Rattle.audit_check.specs.declared.line.Line.{Line}
use Rattle.audit_check.specs.declared.line.Line.TheVariants.{End}

-- the transactions up to a number have begun, and these are marked that have committed, and those that have aborted
pub record KeepsStandings (count : ℕ) (done gone : List Bool) (past : List Item) : Type 0 where
  pub count_is : count ≡ begun_count past
  pub begun_are : (t : ℕ) → begun past t ≡ (nat_lt 0 t && nat_le t count)
  pub done_are : (t : ℕ) → is_marked done t ≡ committed past t
  pub gone_are : (t : ℕ) → is_marked gone t ≡ aborted past t

-- these are marked that have committed
pub record MarksCommits (marks : List Bool) (past : List Item) : Type 0 where
  pub each : (t : ℕ) → is_marked marks t ≡ committed past t

-- whether the transaction of a commit passes a test
abbrev pub commit_passes : (ℕ → Bool) → Item → Bool
commit_passes p (Done t) = p t
commit_passes p _ = true

-- the transactions are listed where they are distinct and pass the test
abbrev pub Lists : (ℕ → Bool) → List ℕ → Option (Vec Bool Global) → Type 0
Lists p ts None = are_distinct_and p ts ≡ false
Lists p ts (Some marks) = (are_distinct_and p ts ≡ true) × ((t : ℕ) → is_marked marks.items t ≡ is_among ts t)

-- the lists by transaction are of those that it reads from
pub record KeepsSources (sources : List (Vec ℕ Global)) (past : List Item) : Type 0 where
  pub each : (p : ℕ → Bool) (t : ℕ) → list_any p (list_at sources t) ≡ list_any (reads_from p t) past

-- a line that a transaction reads or writes by
abbrev pub is_own : ℕ → Item → Bool
is_own t (Got u x w v) = u == t
is_own t (Put u x v) = u == t
is_own t _ = false

-- the numbers, from this one on, of the lines that a transaction reads or writes by
unfoldable pub own_from : ℕ → ℕ → List Line → List ℕ
own_from t n [] = []
own_from t n (l ∷ ls) = if is_own t (line_view l) then n ∷ own_from t (n + 1) ls else own_from t (n + 1) ls

-- the value of these entries at a row key; none where there is no row
abbrev pub row_of : Option (Option ℤ) → Option ℤ
row_of None = None
row_of (Some v) = v

abbrev pub value_at : List (Key × Option ℤ) → Key → Option ℤ
value_at entries p = row_of (lookup (λ q. same_row_key (row_key_view p) (row_key_view q)) entries)

pub record HoldsTable (entries : List (Key × Option ℤ)) (T : Values) : Type 0 where
  pub each : (p : Key) → value_at entries p ≡ T (row_key_view p)

-- the table after a line of the transaction that runs
abbrev pub after_line : Item → Values → Values
after_line (Put u x v) T = put_at x v T
after_line _ T = T

-- whether the line is a read of what T does not hold; else what was said before
abbrev pub misread_now : Bool → Values → Item → Bool
misread_now b T (Got u x w v) = not (same_value (T x) v)
misread_now b T _ = b

-- whether the line is a read of t that is wrong, where t begins with T; else what was said before
abbrev pub misread_or : Bool → List Item → Values → ℕ → Item → Bool
misread_or b past T t (Got u x w v) = if u == t then is_misread past T t x v else b
misread_or b past T t _ = b

-- one line ran: the table that was T, and what is said of line i
pub record StepsLine (T : Values) (item : Item) (i : ℕ) (wrong : List Bool) (entries' : List (Key × Option ℤ)) (wrong' : List Bool) : Type 0 where
  pub table : HoldsTable entries' (after_line item T)
  pub told : (n : ℕ) → is_marked wrong' n ≡ (if n == i then misread_now (is_marked wrong n) T item else is_marked wrong n)

-- t's lines below n ran, beginning with T
pub record RunsTo (n : ℕ) (t : ℕ) (lines : List Line) (T : Values) (wrong : List Bool) (entries' : List (Key × Option ℤ)) (wrong' : List Bool) : Type 0 where
  pub table : HoldsTable entries' (after_puts (views (take n lines)) t T)
  pub told : (i : ℕ) → i < n → is_marked wrong' i ≡ misread_or (is_marked wrong i) (views (take i lines)) T t (line_view (slice_index_or lines i End))
  pub rest : (i : ℕ) → n ≤ i → is_marked wrong' i ≡ is_marked wrong i

-- of these transactions each read that is wrong is marked, and no other line
abbrev pub misread_by : List Item → List ℕ → List Item → Item → Bool
misread_by H ts past (Got t x u v) = is_among ts t && is_misread past (table_before H t) t x v
misread_by H ts past _ = false

-- the transactions of ts ran, one after the other from the starting rows
pub record Replays (ts : List ℕ) (lines : List Line) (entries : List (Key × Option ℤ)) (wrong : List Bool) : Type 0 where
  pub table : HoldsTable entries (table_after (views lines) ts (starts_in (views lines)))
  pub told : (i : ℕ) → i < length lines → is_marked wrong i ≡ misread_by (views lines) ts (views (take i lines)) (line_view (slice_index_or lines i End))

-- the keys of the row lines so far
pub record SeesRows (rows : List Key) (past : List Item) : Type 0 where
  pub each : (x : RowKey) → has_row_key (row_keys rows) x ≡ list_any (is_row x) past

-- whether a line of a row key that has had a row passes a test
abbrev pub row_key_passes : (RowKey → Bool) → Item → Bool
row_key_passes p (Start x v) = p x
row_key_passes p (Put t x v) = p x
row_key_passes p _ = false
