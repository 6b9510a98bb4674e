-- Readers and writers in a history, the sources of each transaction, and the unfinished ones. An abort removes what its transaction read and put.
use Rattle.std.specs.Prelude.{◌≡◌, Bool, cond, not, ◌&&◌, eqb, ltb, List, [], ◌∷◌, ◌++◌, filter, map, is_some}
use Rattle.std.specs.List.{list_any}
use Rattle.teb_rules.specs.declared.names.Txn.{Txn}
use Rattle.teb_rules.specs.declared.names.Cell.{Cell}
use Rattle.teb_rules.specs.names.Cells.{same_cell}
use Rattle.teb_rules.specs.declared.history.Event.{Event}
use Rattle.teb_rules.specs.declared.history.Event.TheVariants.{Got, Put}
use Rattle.teb_rules.specs.history.Phases.{txns, aborted, unfinished}
use Rattle.teb_rules.specs.history.Accesses.{wrote}
use Rattle.teb_rules.specs.history.Ascending.{put_by}
use Rattle.teb_rules.specs.history.Live.{number_of}
use Rattle.teb_rules.specs.history.OwnEvents.{put_in, got_in}

-- t is among the transactions
abbrev pub has : Txn → List Txn → Bool
has t ts = list_any (λ u. eqb u.0 t.0) ts

-- the readers of x, each beside the writer that it read from, a pair for each Got; the oldest first
unfoldable pub all_readers : List Event → Cell → List (Txn × Txn)
all_readers [] x = []
all_readers (Got t y w v ∷ P) x = let r = all_readers P x in cond (same_cell y x) (r ++ (t, w) ∷ []) r
all_readers (_ ∷ P) x = all_readers P x

-- the writers of x, by the first Put
unfoldable pub all_writers : List Event → Cell → List Txn
all_writers [] x = []
all_writers (Put t y v ∷ P) x = let r = all_writers P x in cond (same_cell y x && not (has t r)) (r ++ t ∷ []) r
all_writers (_ ∷ P) x = all_writers P x

-- the sources of t: those that it read from, by number, without t itself and the starting rows
unfoldable pub all_sources : List Event → Txn → List Txn
all_sources [] t = []
all_sources (Got s y w v ∷ P) t = let r = all_sources P t in cond (eqb s.0 t.0 && not (eqb w.0 t.0) && ltb 0 w.0) (put_by number_of w r) r
all_sources (_ ∷ P) t = all_sources P t

-- the event reads x, and the event puts x
abbrev pub reads : Cell → Event → Bool
reads x e = is_some (got_in x e)

abbrev pub puts : Cell → Event → Bool
puts x e = is_some (put_in x e)

-- of a Put after P, whether its transaction has put the cell before
abbrev pub IsAgain : List Event → Event → Bool → Type 0
IsAgain P (Put t x v) again = again ≡ wrote P t.0 x
IsAgain P _ again = Unit {0}

-- the same of those that are not aborted
unfoldable pub readers : List Event → Cell → List (Txn × Txn)
readers H x = filter (λ r. not (aborted H r.0.0)) (all_readers H x)

unfoldable pub writers : List Event → Cell → List Txn
writers H x = filter (λ t. not (aborted H t.0)) (all_writers H x)

unfoldable pub sources : List Event → Txn → List Txn
sources H t = cond (aborted H t.0) [] (all_sources H t)

unfoldable pub unfinished_txns : List Event → List Txn
unfinished_txns H = map (λ t. record { 0 = t }) (filter (unfinished H) (txns H))
