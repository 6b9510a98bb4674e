-- How a store moves to the next epoch.
use Rattle.std.proofs.Common.{◌≡◌, Result, Ok, Err, ℕ, false, List, [], ◌∷◌, ◌++◌, length, length-append, refl, sym, ◌∙◌, ap, subst, arith}
use Rattle.std.specs.Prelude.{IfOk, MatchResult}
use mathlib.Core.Logic.{∥∥₁_map}
use Rattle.teb_rules.specs.declared.history.Event.{Event}
use Rattle.teb_rules.specs.declared.names.naming.NameBook.{NameBook}
use Rattle.teb_rules.specs.Setup.{Store}
use Rattle.store_setup.specs.declared.Setup.{Setup}
use Rattle.store_setup.specs.SetupView.{SetupView, setup_view}
use Rattle.store_setup.specs.Stores.{store_of, store_of_view}
use Rattle.tree_toml.specs.SetupText.{setup_of_text}
use Rattle.tree_toml.specs.declared.fault.TreeTextError.{TreeTextError}
use Rattle.engine_core.specs.EngineModel.{EngineModel}
use Rattle.tree_switch.specs.Starts.{IsStarted}
use Rattle.record_journal.specs.Format.{Record}
use Rattle.commit_laws.specs.Commits.{commit_count}
use Rattle.commit_laws.specs.Records.{records_of}
use Rattle.epoch_journal.specs.Layout.{Layout}
use Rattle.epoch_journal.specs.State.{JournalState}
use Rattle.epoch_store.specs.Queue.{Queue}
use Rattle.engine_store.specs.Halves.{AreCommitsSince, KeepsCommits}
use Rattle.engine_store.specs.Next.{IsCause, MayFollow}
use Rattle.engine_store.specs.declared.error.NextError.{NextError}
use Rattle.engine_store.specs.declared.error.NextError.TheVariants as next
use Rattle.engine_store.proofs.Halves.{none_since}
use Rattle.shared_store.specs.Served.{IsBegun}
use Rattle.teb_rules.specs.Epochs.{IsDrained}
use Rattle.store_server.specs.Standings.{IsOfLog, standing_of}
use Rattle.store_server.specs.Trees.{IsTreeOf}

abbrev pub view_or : SetupView → Result SetupView TreeTextError → SetupView
view_or v (Ok w) = w
view_or v (Err e) = v

-- a store with the types, tree and tables of a setup that was read from a text
pub reads_tree : (text : List ℕ) (s : Setup) (X : Store) (names : NameBook) → setup_of_text text ≡ Ok (setup_view s) → X.setup ≡ (store_of s).setup → X.tables ≡ (store_of s).tables → names ≡ s.names
    → IsTreeOf text X names
reads_tree text s X names read setup tables named = λ m other. let same : setup_view s ≡ m = ap (view_or m) (sym read ∙ other) in (
  setup ∙ ap (λ (v : SetupView). (store_of_view v).setup) same,
  tables ∙ ap (λ (v : SetupView). (store_of_view v).tables) same,
  ap (λ (b : NameBook). b.tables) named ∙ ap (λ (v : SetupView). v.tables) same,
)

-- the next epoch has begun
pub begins_next : (text : List ℕ) (s : Setup) (old new : EngineModel) → IsTreeOf text old.store old.names → setup_of_text text ≡ Ok (setup_view s) → MayFollow old s.names.tables → IsStarted s old new
    → IsBegun (standing_of old) (standing_of new)
begins_next text s old new t read may i = let same = t (setup_view s) read in record {
  drained = may.drained;
  setup = i.setup ∙ sym same.0;
  tables = i.tables ∙ sym same.1;
  rows = i.rows;
  events = i.events;
}

-- a log that runs, a drained engine and the same tables leave these causes
pub is_of_log : (l : Layout) (e : EngineModel) (tables : List (List ℕ)) (why : NextError) → IsCause l e tables why → IsDrained e.events → tables ≡ e.names.tables
    → (why ≡ next.Stopped → ⊥) → IsOfLog why
is_of_log l e tables next.Stopped cause d same runs = runs refl
is_of_log l e tables (next.Again t) cause d same runs = d.finished t.0 cause.0
is_of_log l e tables (next.Untold s) cause d same runs = d.told s.0 cause.1.0
is_of_log l e tables next.OtherTables cause d same runs = cause.1 same
is_of_log l e tables next.Full cause d same runs = tt
is_of_log l e tables next.DiskFault cause d same runs = tt
is_of_log l e tables next.OutOfMemory cause d same runs = tt

-- if the waiting records are the commits since now, none waits
pub none_waits : (X : Store) (H : List Event) (rs : List Record) → ∥ AreCommitsSince X H H rs ∥₁ → rs ≡ []
none_waits X H [] since = refl
none_waits X H (r ∷ rs) since = absurd (∥∥₁_rec (λ x y. absurd x) (λ is. too_long (records_of X.setup H) r rs is) since)
  where
    too_long : (qs : List Record) (r : Record) (rs : List Record) → qs ≡ qs ++ r ∷ rs → ⊥
    too_long qs r rs is = omega (arith, ap length is, length-append qs (r ∷ rs))

-- there are no commits since a history that has none
pub none_since_first : (X : Store) (H : List Event) (rs : List Record) → H ≡ [] → rs ≡ [] → AreCommitsSince X [] H rs
none_since_first X H rs empty none = subst (λ (G : List Event). AreCommitsSince X [] G rs) (sym empty) (none_since X [] rs none)

-- what holds of each Ok value holds of this one
pub of_ok : {T E : Type 0} (r : Result T E) (v : T) (P : T → Type 0) → r ≡ Ok v → IfOk r P → P v
of_ok {T} {E} r v P is p = let Q : Result T E → Type 0 = λ x. IfOk x P in subst Q is p

pub of_match : {T E : Type 0} (r : Result T E) (v : T) (P : T → Type 0) (Q : E → Type 0) → r ≡ Ok v → MatchResult r P Q → P v
of_match {T} {E} r v P Q is p = let R : Result T E → Type 0 = λ x. MatchResult x P Q in subst R is p

-- what holds of each error holds of this one
pub of_match_err : {T E : Type 0} (r : Result T E) (e : E) (P : T → Type 0) (Q : E → Type 0) → r ≡ Err e → MatchResult r P Q → Q e
of_match_err {T} {E} r e P Q is p = let R : Result T E → Type 0 = λ x. MatchResult x P Q in subst R is p

module _ {D : Type 0} (seen : D → List ℕ) (may_leave : D → List ℕ → Type 0) where
  -- a log without commits
  pub keeps_none : (X : Store) (H : List Event) (n : ℕ) (j : JournalState D) → H ≡ [] → n ≡ 0 → KeepsCommits seen may_leave X H n j → KeepsCommits seen may_leave X [] 0 j
  keeps_none X H n j empty zero keeps = subst (λ (x : List Event × ℕ). KeepsCommits seen may_leave X x.0 x.1 j) (λ i. (empty i, zero i)) keeps

  -- the next epoch has begun in the engine and in the log
  pub begins_halves : (text : List ℕ) (s : Setup) (old : EngineModel) (new : Queue EngineModel) (j k : JournalState D) → IsTreeOf text old.store old.names → setup_of_text text ≡ Ok (setup_view s)
      → MayFollow old s.names.tables → IsStarted s old new.engine
      → new.waiting ≡ [] → ∥ KeepsCommits seen may_leave old.store old.events (commit_count old.events) j ∥₁
      → ((n : ℕ) → KeepsCommits seen may_leave old.store old.events n j → KeepsCommits seen may_leave new.engine.store [] 0 k)
      → k.stopped ≡ false
      → IsBegun (standing_of old) (standing_of new.engine) × ∥ AreCommitsSince new.engine.store [] new.engine.events new.waiting ∥₁ × ∥ KeepsCommits seen may_leave new.engine.store [] 0 k ∥₁
      × (k.stopped ≡ false)
  begins_halves text s old new j k tree read may started none kept next runs = (
    begins_next text s old new.engine tree read may started,
    ∣ none_since_first new.engine.store new.engine.events new.waiting started.events none ∣₁,
    ∥∥₁_map kept (next (commit_count old.events)),
    runs,
  )

  -- the next epoch has not begun
  pub stays_halves : (old back : Queue EngineModel) (j k : JournalState D) → back ≡ old → ∥ AreCommitsSince old.engine.store old.engine.events old.engine.events old.waiting ∥₁
      → ∥ KeepsCommits seen may_leave old.engine.store old.engine.events (commit_count old.engine.events) j ∥₁
      → ((n : ℕ) → KeepsCommits seen may_leave old.engine.store old.engine.events n j → KeepsCommits seen may_leave old.engine.store old.engine.events n k)
      → (standing_of back.engine ≡ standing_of old.engine) × ∥ AreCommitsSince back.engine.store old.engine.events back.engine.events back.waiting ∥₁
      × ∥ KeepsCommits seen may_leave old.engine.store old.engine.events (commit_count old.engine.events) k ∥₁
  stays_halves old back j k same taken kept still = (
    ap (λ (q : Queue EngineModel). standing_of q.engine) same,
    subst (λ (q : Queue EngineModel). ∥ AreCommitsSince q.engine.store old.engine.events q.engine.events q.waiting ∥₁) (sym same) taken,
    ∥∥₁_map kept (still (commit_count old.engine.events)),
  )
