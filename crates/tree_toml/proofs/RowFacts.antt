-- The properties of the starting rows that were read.
use Rattle.std.proofs.Common.{◌≡◌, ℕ, ◌+◌, ◌<◌, ◌≤◌, ℤ, true, false, cond, if◌then◌else◌, List, [], ◌∷◌, length, codes, Option, Some, None, is_some, Ok, Err, refl, ap, arith}
use Rattle.std.specs.List.{All, AllByRecursion}
use Rattle.std.proofs.lemmas.List.Elements.{All-from_recursion}
use Rattle.teb_rules.specs.declared.names.rows.TheConstants.{MOST_ROWS}
use Rattle.teb_rules.specs.declared.names.Cell.{Cell}
use Rattle.teb_rules.specs.declared.names.Table.{Table}
use Rattle.teb_rules.specs.names.Cells.{is_before}
use Rattle.teb_rules.specs.names.Rows.{row_of, insert_row, IsAscending}
use Rattle.teb_rules.proofs.lemmas.names.Ascending.{ascending_after}
use Rattle.toml.specs.Data.{Data, Members}
use Rattle.tree_toml.specs.Reading.{◌>>=◌, required, at}
use Rattle.tree_toml.specs.Fields.{place, text_at, numbered, list_at, table_entry}
use Rattle.tree_toml.specs.Rows.{row_table, row_key, row_value, row_entry, row_placed, row_in, rows_in, rows_of}
use Rattle.tree_toml.specs.declared.fault.ListName.TheVariants as list
use Rattle.tree_toml.specs.declared.fault.Key.TheVariants as key
use Rattle.tree_toml.specs.declared.fault.TreeTextError.{TreeTextError}
use Rattle.tree_toml.proofs.Bound.{bind_ok, at_ok, ok_is, each_keeps, each_count}
use Rattle.tree_toml.proofs.Profiles.{numbered_within}
use Rattle.tree_toml.proofs.NodeFacts.{list_ok}

abbrev Row : Type 0
Row = Cell × ℤ

abbrev HasTable : ℕ → Row → Type 0
HasTable n r = r.0.table.0 < n

cells_after : (n : ℕ) (rows : List Row) (x : Cell) (v : ℤ) → x.table.0 < n → AllByRecursion (HasTable n) rows → AllByRecursion (HasTable n) (insert_row rows x v)
cells_after n [] x v h all = (h, tt)
cells_after n (r ∷ rows) x v h all =
    elim (is_before x r.0) as (λ b. AllByRecursion (HasTable n) (cond b ((x, v) ∷ r ∷ rows) (r ∷ insert_row rows x v))) [
      | true ↦ (h, all)
      | false ↦ (all.0, cells_after n rows x v h all.1)
    ]

length_after : (rows : List Row) (x : Cell) (v : ℤ) → length (insert_row rows x v) ≡ length rows + 1
length_after [] x v = omega arith
length_after (r ∷ rows) x v =
    elim (is_before x r.0) as (λ b. length (cond b ((x, v) ∷ r ∷ rows) (r ∷ insert_row rows x v)) ≡ length (r ∷ rows) + 1) [
      | true ↦ omega arith
      | false ↦ omega (arith, length_after rows x v)
    ]

-- the cell of a row that was placed had no row before
placed_by : (o : Option ℤ) (w : TreeTextError) (rows new : List Row) → (if is_some o then Err w else Ok rows) ≡ Ok new → (o ≡ None) × (rows ≡ new)
placed_by None w rows new e = (refl, ok_is _ rows new refl e)
placed_by (Some v) w rows new e = absurd (cc)

entry_table : (tables : List (List ℕ)) (i : ℕ) (d : Data) (r : Row) → row_entry tables i d ≡ Ok r → r.0.table.0 < length tables
entry_table tables i d r e =
    let ms = bind_ok (table_entry list.Rows 1 i d) _ r e in
    let table = bind_ok (at (place list.Rows i key.Table) (row_table tables ms.0)) _ r ms.2 in
    let k = bind_ok (at (place list.Rows i key.CellKey) (row_key ms.0)) _ r table.2 in
    let value = bind_ok (at (place list.Rows i key.Value) (row_value ms.0)) _ r k.2 in
    let number = bind_ok (text_at (codes "table") ms.0 >>= required >>= numbered tables) _ table.0 (at_ok _ _ table.0 table.1) in
    let name = bind_ok (text_at (codes "table") ms.0 >>= required) (numbered tables) number.0 number.1 in
    let within = numbered_within tables name.0 number.0 name.2 in
    let same : number.0 ≡ table.0.0 = ap (λ (t : Table). t.0) (ok_is _ (record { 0 = number.0 }) table.0 refl number.2) in
    let own : table.0.0 ≡ r.0.table.0 = ap (λ (s : Row). s.0.table.0) (ok_is _ (record { table = table.0; key = k.0 }, value.0) r refl value.2) in
    omega (arith, within, same, own)

-- rows that ascend, each of a table below n
record AreCells (n : ℕ) (rows : List Row) : Type 0 where
  ascending : IsAscending rows
  cells : AllByRecursion (HasTable n) rows

row_kept : (tables : List (List ℕ)) (i : ℕ) (rows : List Row) (d : Data) (new : List Row) → AreCells (length tables) rows → row_in tables i rows d ≡ Ok new → AreCells (length tables) new
row_kept tables i rows d new so_far e =
    let r = bind_ok (row_entry tables i d) (row_placed i rows) new e in
    let fresh = placed_by (row_of rows r.0.0) _ _ new r.2 in
    rw (← fresh.1) (record {
      ascending = ascending_after rows r.0.0 r.0.1 so_far.ascending fresh.0;
      cells = cells_after (length tables) rows r.0.0 r.0.1 (entry_table tables i d r.0 r.1) so_far.cells;
    })

row_more : (tables : List (List ℕ)) (i : ℕ) (rows : List Row) (d : Data) (new : List Row) → row_in tables i rows d ≡ Ok new → length new ≡ length rows + 1
row_more tables i rows d new e =
    let r = bind_ok (row_entry tables i d) (row_placed i rows) new e in
    let fresh = placed_by (row_of rows r.0.0) _ _ new r.2 in
    omega (arith, ap length fresh.1, length_after rows r.0.0 r.0.1)

pub record AreStarts (n : ℕ) (rows : List (Cell × ℤ)) : Type 0 where
  pub ascending : IsAscending rows
  pub cells : All (λ r. r.0.table.0 < n) rows
  pub few : length rows ≤ MOST_ROWS

pub rows_ok : (tables : List (List ℕ)) (ms : Members) (rows : List (Cell × ℤ)) → rows_of tables ms ≡ Ok rows → AreStarts (length tables) rows
unfolding rows_in
rows_ok tables ms rows e =
    let ds = bind_ok (list_at list.Rows (codes "row") key.Rows 0 MOST_ROWS ms) (rows_in tables) rows e in
    let limits = list_ok list.Rows (codes "row") key.Rows 0 MOST_ROWS ms ds.0 ds.1 in
    let kept = each_keeps (AreCells (length tables)) (row_in tables) (row_kept tables) 0 [] ds.0 rows (record { ascending = refl; cells = tt }) ds.2 in
    let count = each_count length (row_in tables) (row_more tables) 0 [] ds.0 rows ds.2 in
    record {
      ascending = kept.ascending;
      cells = All-from_recursion (HasTable (length tables)) rows kept.cells;
      few = omega (arith, count, limits.1);
    }
