-- A store that is opened continues from what its disk tells.
use Rattle.std.proofs.Common.{◌≡◌, ◌≤◌, ℕ, List, [], ◌∷◌, ◌++◌, ◌∙◌, ap, arith, inr, refl, le_refl, ℤ}
use Rattle.std.proofs.lemmas.List.{take_all}
use Rattle.teb_rules.specs.declared.names.Cell.{Cell}
use Rattle.teb_rules.specs.names.Rows.{row_of}
use Rattle.teb_rules.specs.declared.history.Event.{Event}
use Rattle.teb_rules.specs.Setup.{Store}
use Rattle.teb_rules.specs.Accepted.{IsSound}
use Rattle.teb_rules.specs.Replay.{Values}
use Rattle.teb_rules.specs.laws.Lawful.{Lawful}
use Rattle.engine_core.specs.EngineModel.{EngineModel, IsOfEngine}
use Rattle.record_journal.specs.Format.{Record}
use Rattle.record_journal.specs.Journal.{after_records}
use Rattle.commit_laws.specs.Commits.{commit_count, rows_after}
use Rattle.commit_laws.specs.Records.{records_of}
use Rattle.commit_laws.proofs.Laws.{records_leave_the_rows}
use Rattle.commit_laws.proofs.Prefixes.{length-records}
use Rattle.epoch_journal.specs.State.{JournalState}
use Rattle.engine_store.specs.Lives.{Epoch, IsLife, epoch_with}
use Rattle.engine_store.specs.Opening.{GoesOn}
use Rattle.engine_store.specs.Telling.{EmptyDisksTell}
use Rattle.engine_store.proofs.LifeGoesOn.{is_epoch, lawful_of, reopened}

module _ {D : Type 0} (seen : D → List ℕ) (may_leave : D → List ℕ → Type 0) (j : JournalState D) (rows : List (Cell × ℤ)) (least : ℕ) where
  -- the rows that the first records leave are those that the first commits leave
  pub found_commits : (X : Store) (H : List Event) → IsSound X.setup → Lawful X.setup H → GoesOn seen may_leave (row_of X.rows) (records_of X.setup H) least rows j
      → (k : ℕ) × (least ≤ k) × (k ≤ commit_count H) × ((x : Cell) → row_of rows x ≡ rows_after X H k x)
  found_commits X H sound lawful on =
      let few : on.k ≤ commit_count H = omega (arith, on.no_more, length-records X.setup H) in
      (on.k, on.no_fewer, few, λ x. on.left x ∙ records_leave_the_rows X H sound lawful on.k few x)

  -- if there are no records, they are the starting rows
  pub found_first : (T : Values) → GoesOn seen may_leave T [] least rows j → (x : Cell) → row_of rows x ≡ T x
  found_first T on x = on.left x ∙ ap (λ (rs : List Record). after_records rs T x) (take_all on.k [] (omega arith))

pub life_reopened : {D : Type 0} (seen : D → List ℕ) (may_leave : D → List ℕ → Type 0) (j : JournalState D) (least : ℕ) (T : Values) (past : List Epoch) (e f : EngineModel) → IsOfEngine f
    → IsLife T (record { past = past; present = e })
    → GoesOn seen may_leave (row_of e.store.rows) (records_of e.store.setup e.events) least f.store.rows j
    → (k : ℕ) × (least ≤ k) × (k ≤ commit_count e.events) × IsLife T (record { past = past ++ epoch_with k e ∷ []; present = f })
life_reopened seen may_leave j least T past e f is life on =
    let i = life.engine in
    let found = found_commits seen may_leave j f.store.rows least e.store e.events i.sound (lawful_of e.store e.events i.sound i.reached) on in
    (found.0, found.1, found.2, reopened T past e f found.0 found.2 is found.3 life)

-- a life begins
pub life_begun : (T : Values) (e : EngineModel) → IsOfEngine e → ((x : Cell) → row_of e.store.rows x ≡ T x) → IsLife T (record { past = []; present = e })
life_begun T e i rows = record { engine = i; on = (is_epoch (commit_count e.events) e i (le_refl _), rows, tt) }

-- an empty disk tells of no records
pub empty_disks_tell : EmptyDisksTell
empty_disks_tell l start file short = record {
  k = 0;
  no_fewer = omega arith;
  no_more = omega arith;
  stands = record { list = []; has = inr (refl, inr short); table = λ x. refl };
}
