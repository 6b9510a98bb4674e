-- What an answer changes of what a journal keeps.
use Rattle.std.proofs.Common.{◌≡◌, ◌+◌, ◌++◌, ℕ, List, Result, Ok, Err, refl, sym, ap, subst}
use Rattle.std.specs.Prelude.{OnOk, OnErr, IsErrOf}
use Rattle.teb_rules.specs.declared.names.Reply.{Reply}
use Rattle.teb_rules.specs.declared.names.Reply.TheVariants.{Begun, Value, Values, Done, Prepared, Committed, Again, Aborted, Refused}
use Rattle.teb_rules.specs.names.Rows.{row_of}
use Rattle.teb_rules.specs.Setup.{Store}
use Rattle.record_journal.specs.Format.{Record}
use Rattle.epoch_journal.specs.State.{JournalState}
use Rattle.teb_rules.specs.Replay.{Values as Table}
use Rattle.crash_disk.specs.Disk.{LeavesOnly}
use Rattle.record_journal.proofs.Moments.{started}
use Rattle.epoch_journal.specs.Telling.{TellsOn}
use Rattle.epoch_journal.specs.Kept.{Keeps}
use Rattle.epoch_journal.proofs.Telling.{tells_more}
use Rattle.epoch_store.specs.Told.{acknowledged_after, as_ask}
use Rattle.epoch_store.specs.declared.error.AskError.{AskError}
use Rattle.epoch_store.specs.declared.error.AskError.TheVariants as asking
use Rattle.epoch_store.specs.declared.recorder.PrepareError.{PrepareError}
use Rattle.epoch_store.specs.declared.recorder.PrepareError.TheVariants as preparing

pub others_none : (n : ℕ) (r : Reply) → (r ≡ Committed → ⊥) → acknowledged_after n (Ok r) ≡ n
others_none n (Begun t) never = refl
others_none n (Value v) never = refl
others_none n (Values v) never = refl
others_none n Done never = refl
others_none n Prepared never = refl
others_none n Committed never = absurd (never refl)
others_none n (Again u k) never = refl
others_none n (Aborted c) never = refl
others_none n (Refused c) never = refl

pub committed_one : (n : ℕ) (r : Reply) → r ≡ Committed → acknowledged_after n (Ok r) ≡ n + 1
committed_one n r is = ap (λ (q : Reply). acknowledged_after n (Ok q)) is

-- a request whose record does not fit
pub as_ask_full : {T U : Type 0} (p : PrepareError) (e : AskError) → e ≡ as_ask p → IsErrOf {T = T} (Err e) asking.Full → IsErrOf {T = U} (Err p) preparing.Full
as_ask_full preparing.Full e from is = refl
as_ask_full preparing.OutOfMemory e from is = absurd (cc)

-- the same error, of another result
pub still_full : {T U : Type 0} (e : AskError) → IsErrOf {T = T} (Err e) asking.Full → IsErrOf {T = U} (Err e) asking.Full
still_full asking.Full is = refl
still_full asking.Stopped is = absurd (cc)
still_full asking.Unsure is = absurd (cc)
still_full asking.OutOfMemory is = absurd (cc)

pub get_ok : {T E P : Type 0} (r : Result T E) (v : T) → r ≡ Ok v → OnOk r P → P
get_ok {T} {E} {P} r v is p = let Q : Result T E → Type 0 = λ x. OnOk x P in subst Q is p

pub get_err : {T E P : Type 0} (r : Result T E) (e : E) → r ≡ Err e → OnErr r P → P
get_err {T} {E} {P} r e is p = let Q : Result T E → Type 0 = λ x. OnErr x P in subst Q is p

module _ {D : Type 0} (seen : D → List ℕ) (may_leave : D → List ℕ → Type 0) where
  -- the same records, over the same rows
  pub keeps_same : (X Z : Store) (rs qs : List Record) (n m : ℕ) (j : JournalState D) → Z ≡ X → qs ≡ rs → m ≡ n → Keeps seen may_leave (row_of X.rows) rs n j
      → Keeps seen may_leave (row_of Z.rows) qs m j
  keeps_same X Z rs qs n m j store same count keeps =
      subst (λ (x : Store × List Record × ℕ). Keeps seen may_leave (row_of x.0.rows) x.1 x.2 j) (λ i. (sym store i, sym same i, sym count i)) keeps

-- if nothing is done, a crash leaves only what tells the kept records
module _ {D : Type 0} (seen : D → List ℕ) (may_leave : D → List ℕ → Type 0) (moment : D → ℕ) (left_since : D → ℕ → List ℕ → Type 0) where
  pub still : (start : Table) (rs : List Record) (n : ℕ) (j : JournalState D) → ((c : List ℕ) → left_since j.disk (moment j.disk) c → may_leave j.disk c) → Keeps seen may_leave start rs n j
      → LeavesOnly moment left_since j.disk j.disk (TellsOn j.layout start rs n)
  still start rs n j only_now keeps = started moment left_since j.disk (TellsOn j.layout start rs n) (λ c left. keeps.each c (only_now c left))

  -- which also tells of a list with more records
  pub still_more : (start : Table) (all more : List Record) (n : ℕ) (j : JournalState D) → ((c : List ℕ) → left_since j.disk (moment j.disk) c → may_leave j.disk c)
      → Keeps seen may_leave start all n j
      → LeavesOnly moment left_since j.disk j.disk (TellsOn j.layout start (all ++ more) n)
  still_more start all more n j only_now keeps = started moment left_since j.disk (TellsOn j.layout start (all ++ more) n)
      (λ c left. tells_more j.layout start all more n c (keeps.each c (only_now c left)))
