-- The summary of a generated load.
use Rattle.std.specs.Prelude.{◌≡◌, ℕ, Bool, cond, eqb, ◌++◌, List, [], ◌∷◌, length, filter, codes, decimal, ℤ, pos, ◌+ℤ◌}
use Rattle.std.specs.Fmt.{signed_decimal}
use Rattle.teb_rules.specs.declared.names.Cell.{Cell}
use Rattle.teb_rules.specs.declared.history.Event.{Event}
use Rattle.teb_rules.specs.history.Phases.{txns, committed, aborted}
use Rattle.teb_rules.specs.Setup.{Store}
use Rattle.teb_rules.specs.Epochs.{AreFinalRows}
use Rattle.script_text.specs.declared.Answered.{Answered}
use Rattle.script_text.specs.Texts.{line_text}

-- how many of the transactions that have begun
abbrev pub count_of : (ℕ → Bool) → List Event → ℕ
count_of p H = length (filter p (txns H))

-- what a row adds to the sum of a table, and the sum
abbrev pub added : ℕ → Cell × ℤ → ℤ
added table r = cond (eqb r.0.table.0 table) r.1 (pos 0)

abbrev pub sum_in : ℕ → List (Cell × ℤ) → ℤ
sum_in table [] = pos 0
sum_in table (r ∷ rows) = added table r +ℤ sum_in table rows

abbrev pub count_line : List ℕ → ℕ → List ℕ
count_line word n = line_text (word ∷ decimal n ∷ [])

abbrev pub sum_line : List ℕ → ℤ → List ℕ
sum_line table sum = line_text (codes "sum" ∷ table ∷ signed_decimal sum ∷ [])

-- what was asked for; how many transactions committed and were aborted; how many requests were asked; the sums of the final rows
abbrev pub summary_text : ℕ → ℕ → List Event → List Answered → List (Cell × ℤ) → List ℕ
summary_text number size H log rows =
    line_text (codes "load" ∷ decimal number ∷ decimal size ∷ []) ++
    count_line (codes "committed") (count_of (committed H) H) ++
    count_line (codes "aborted") (count_of (aborted H) H) ++
    count_line (codes "requests") (length log) ++
    sum_line (codes "stock") (sum_in 0 rows) ++
    sum_line (codes "orders") (sum_in 1 rows) ++
    sum_line (codes "acct") (sum_in 2 rows) ++
    line_text (codes "end" ∷ [])

pub record IsSummary (number size : ℕ) (X : Store) (H : List Event) (log : List Answered) (bytes : List ℕ) : Type 0 where
  pub rows : List (Cell × ℤ)
  pub final : AreFinalRows X H rows
  pub text : bytes ≡ summary_text number size H log rows
