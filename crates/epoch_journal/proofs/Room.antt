-- The rows that records leave take no more bytes than the records, since each row has a change of its own.
use Rattle.std.proofs.Common.{◌≡◌, inl, inr, ℕ, ◌+◌, ◌*◌, ◌<◌, ◌≤◌, Bool, true, false, ◌||◌, cond, List, [], ◌∷◌, ◌++◌, length, map, Some, None, ℤ, refl, sym, ◌∙◌, ap, arith, length-append}
use Rattle.std.specs.List.{list_all}
use Rattle.std.specs.Ordering.{is_eq}
use Rattle.std.proofs.lemmas.Bool.{and_parts}
use Rattle.std.proofs.lemmas.List.{length-map}
use Rattle.teb_rules.specs.declared.names.Cell.{Cell}
use Rattle.teb_rules.specs.names.Cells.{same_cell, is_before}
use Rattle.teb_rules.specs.names.Rows.{row_of, is_ascending, IsAscending}
use Rattle.teb_rules.proofs.lemmas.names.CellOrder.{same_cell-cell_cmp, before_less}
use Rattle.teb_rules.proofs.lemmas.names.SameCells.{same_cell-true, same_itself, same_laws}
use Rattle.teb_rules.specs.Replay.{Values, put_in}
use Rattle.record_journal.specs.declared.change.Change.{Change}
use Rattle.record_journal.specs.Format.{Record, body, records}
use Rattle.record_journal.specs.Journal.{after_changes, after_records}
use Rattle.record_journal.proofs.Spelled.{length-body}
use Rattle.epoch_journal.specs.Layout.{Layout, half_size}
use Rattle.epoch_journal.specs.Halves.{HasRecords}
use Rattle.epoch_journal.specs.Telling.{IsBegun, no_rows, table_of}
use Rattle.epoch_journal.proofs.Sizes.{length-header}

-- ---- rows and cells

-- whether a cell is in a list, and the list without it
abbrev among : Cell → List Cell → Bool
among x [] = false
among x (c ∷ cs) = same_cell c x || among x cs

abbrev without : Cell → List Cell → List Cell
without x [] = []
without x (c ∷ cs) = cond (same_cell c x) (without x cs) (c ∷ without x cs)

neither : (a b : Bool) → (a || b) ≡ false → (a ≡ false) × (b ≡ false)
neither true b is = absurd (cc is)
neither false b is = (refl, is)

no_more : (x : Cell) (cs : List Cell) → length (without x cs) ≤ length cs
no_more x [] = omega arith
no_more x (c ∷ cs) = elim (same_cell c x) as (λ b. length (cond b (without x cs) (c ∷ without x cs)) ≤ length (c ∷ cs)) [ true ↦ omega (arith, no_more x cs) | false ↦ omega (arith, no_more x cs) ]

fewer : (x : Cell) (cs : List Cell) → among x cs ≡ true → length (without x cs) < length cs
fewer x [] is = absurd (cc is)
fewer x (c ∷ cs) is =
    elim (same_cell c x) as (λ b. (b || among x cs) ≡ true → length (cond b (without x cs) (c ∷ without x cs)) < length (c ∷ cs)) [
      | true ↦ λ so. omega (arith, no_more x cs)
      | false ↦ λ so. omega (arith, fewer x cs so)
    ] is

still : (x y : Cell) (cs : List Cell) → same_cell x y ≡ false → among y cs ≡ true → among y (without x cs) ≡ true
still x y [] other is = absurd (cc is)
still x y (c ∷ cs) other is =
    elim (same_cell c x) as (λ b. same_cell c x ≡ b → among y (cond b (without x cs) (c ∷ without x cs)) ≡ true) [
      | true ↦ λ same. still x y cs other (sym (ap (λ b. b || among y cs) (ap (λ (z : Cell). same_cell z y) (same_cell-true c x same) ∙ other)) ∙ is)
      | false ↦ λ apart. elim (same_cell c y) as (λ b. (b || among y cs) ≡ true → (b || among y (without x cs)) ≡ true) [ true ↦ λ so. refl | false ↦ λ so. still x y cs other so ] is
    ] refl

later_none : (rows : List (Cell × ℤ)) (x : Cell) → list_all (λ s. is_before x s.0) rows ≡ true → row_of rows x ≡ None
later_none [] x all = refl
later_none (r ∷ rows) x all =
    let parts = and_parts (is_before x r.0) (list_all (λ s. is_before x s.0) rows) all in
    let apart : same_cell r.0 x ≡ false = same_laws.symm r.0 x ∙ same_cell-cell_cmp x r.0 ∙ ap is_eq (before_less x r.0 parts.0) in
    ap (λ b. cond b (Some r.1) (row_of rows x)) apart ∙ later_none rows x parts.1

-- ascending rows whose cells are all in a list are no more than its cells
pub no_more_rows : (rows : List (Cell × ℤ)) (cs : List Cell) → IsAscending rows → ((x : Cell) → among x cs ≡ false → row_of rows x ≡ None) → length rows ≤ length cs
no_more_rows [] cs up only = omega arith
no_more_rows (r ∷ rows) cs up only =
    let parts = and_parts (list_all (λ s. is_before r.0 s.0) rows) (is_ascending rows) up in
    omega (arith, fewer r.0 cs there, no_more_rows rows (without r.0 cs) parts.1 (rest parts.0))
  where
    has : row_of (r ∷ rows) r.0 ≡ Some r.1
    has = ap (λ b. cond b (Some r.1) (row_of rows r.0)) (same_itself r.0)

    there : among r.0 cs ≡ true
    there = elim (among r.0 cs) as (λ b. among r.0 cs ≡ b → b ≡ true) [
      | true ↦ λ is. refl
      | false ↦ λ is. (let gone = only r.0 is in absurd (cc (has, gone)))
    ] refl

    rest : list_all (λ s. is_before r.0 s.0) rows ≡ true → (x : Cell) → among x (without r.0 cs) ≡ false → row_of rows x ≡ None
    rest all x none =
        elim (same_cell r.0 x) as (λ b. same_cell r.0 x ≡ b → row_of rows x ≡ None) [
          | true ↦ λ same. ap (λ (z : Cell). row_of rows z) (sym (same_cell-true r.0 x same)) ∙ later_none rows r.0 all
          | false ↦ λ apart. elim (among x cs) as (λ b. among x cs ≡ b → row_of rows x ≡ None) [
            | true ↦ λ is. (let so = still r.0 x cs apart is in absurd (cc (so, none)))
            | false ↦ λ is. sym (ap (λ b. cond b (Some r.1) (row_of rows x)) apart) ∙ only x is
          ] refl
        ] refl

-- ---- rows and records

abbrev cells_of : Record → List Cell
cells_of r = map (λ (c : Change). c.cell) r

abbrev all_cells : List Record → List Cell
all_cells [] = []
all_cells (r ∷ rs) = cells_of r ++ all_cells rs

among_both : (x : Cell) (cs ds : List Cell) → among x (cs ++ ds) ≡ (among x cs || among x ds)
among_both x [] ds = refl
among_both x (c ∷ cs) ds = elim (same_cell c x) as (λ b. (b || among x (cs ++ ds)) ≡ ((b || among x cs) || among x ds)) [ true ↦ refl | false ↦ among_both x cs ds ]

-- a cell that no change names keeps its value
kept : (r : Record) (T : Values) (x : Cell) → among x (cells_of r) ≡ false → after_changes r T x ≡ T x
kept [] T x none = refl
kept (c ∷ r) T x none =
    let parts = neither (same_cell c.cell x) (among x (cells_of r)) none in
    kept r (put_in c.cell c.value T) x parts.1 ∙ ap (λ b. cond b c.value (T x)) parts.0

all_kept : (rs : List Record) (T : Values) (x : Cell) → among x (all_cells rs) ≡ false → after_records rs T x ≡ T x
all_kept [] T x none = refl
all_kept (r ∷ rs) T x none =
    let parts = neither (among x (cells_of r)) (among x (all_cells rs)) (sym (among_both x (cells_of r) (all_cells rs)) ∙ none) in
    all_kept rs (after_changes r T) x parts.1 ∙ kept r T x parts.0

bytes_of : (rs : List Record) → 14 * length (all_cells rs) + 5 * length rs ≡ length (records rs)
bytes_of [] = omega arith
bytes_of (r ∷ rs) = omega (arith, length-append (cells_of r) (all_cells rs), length-map r (λ (c : Change). c.cell), length-append (body r) (records rs), length-body r, bytes_of rs)

pub small_rows : (rows : List (Cell × ℤ)) (rs : List Record) → IsAscending rows → ((x : Cell) → row_of rows x ≡ after_records rs no_rows x) → 14 * length rows + 5 * length rs ≤ length (records rs)
small_rows rows rs up is = omega (arith, bytes_of rs, no_more_rows rows (all_cells rs) up (λ x none. is x ∙ all_kept rs no_rows x none))

-- ---- rows and a half

-- a half with a checkpoint has room for the label and the frame of another
pub label_fits : (l : Layout) (rs : List Record) (file : List ℕ) → HasRecords l rs file → IsBegun rs → 10 + length l.label ≤ half_size l.capacity
label_fits l [] file has begun = absurd begun
label_fits l (r ∷ rs) file (inl now) begun = omega (arith, now.has.within, length-header l.label, length-append (body r) (records rs), length-body r)
label_fits l (r ∷ rs) file (inr none) begun = absurd (cc none.0)

-- and for a checkpoint of the rows that its records leave
pub rows_fit : (l : Layout) (start : Values) (rs : List Record) (rows : List (Cell × ℤ)) (file : List ℕ) → HasRecords l rs file → IsBegun rs → IsAscending rows
    → ((x : Cell) → row_of rows x ≡ table_of start rs x)
    → 10 + length l.label + 14 * length rows ≤ half_size l.capacity
rows_fit l start [] rows file has begun up is = absurd begun
rows_fit l start (r ∷ rs) rows file (inl now) begun up is = omega (arith, now.has.within, length-header l.label, small_rows rows (r ∷ rs) up is)
rows_fit l start (r ∷ rs) rows file (inr none) begun up is = absurd (cc none.0)
