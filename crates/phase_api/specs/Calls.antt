-- The conditions of the calls of a control.
use Rattle.std.specs.Prelude.{◌≡◌, ◌<◌, ◌∷◌, ◌||◌, ℕ, suc, List, IsTrue, IsFalse, is_some, drop}
use Rattle.teb_rules.specs.declared.names.Cell.{Cell}
use Rattle.teb_rules.specs.declared.names.Kind.{Kind}
use Rattle.teb_rules.specs.declared.names.Session.{Session}
use Rattle.teb_rules.specs.declared.names.Txn.{Txn}
use Rattle.teb_rules.specs.declared.history.Event.{Event}
use Rattle.teb_rules.specs.declared.history.Event.TheVariants.{Began, Got, Put, Ready, Done, Gone, Told}
use Rattle.teb_rules.specs.history.Phases.{begun_count, unfinished, prepared, aborted, kind_of}
use Rattle.teb_rules.specs.history.Accesses.{wrote}
use Rattle.teb_rules.specs.Setup.{Setup, profile}
use Rattle.teb_rules.specs.Tree.{on, on_path, meets}
use Rattle.teb_rules.specs.Steps.{least_step, cursor}
use Rattle.teb_rules.specs.declared.Verdict.TheVariants.{Go}
use Rattle.teb_rules.specs.Stops.{on_begin}
use Rattle.phase_api.specs.declared.facts.Facts.{Facts}
use Rattle.phase_api.specs.FactsView.{setup_of, events_of, IsTyped}

-- t has begun, and n is on its path
pub record IsHere (f : Facts) (n t : ℕ) : Type 0 where
  pub typed : IsTyped f t
  pub on : IsTrue (on (setup_of f) (events_of f) n t)

-- t's profile has, from its cursor on, a step with the table of x
abbrev pub HasStep : Setup → List Event → ℕ → Cell → Type 0
HasStep S H t x = IsTrue (is_some (least_step (profile S (kind_of H t)) (cursor S H t) x.table.0))

-- t asks to access x at n: it is unfinished, not prepared, and its profile has a step for x
pub record IsAccess (f : Facts) (n t : ℕ) (x : Cell) : Type 0 where
  pub here : IsHere f n t
  pub unfinished : IsTrue (unfinished (events_of f) t)
  pub unprepared : IsFalse (prepared (events_of f) t)
  pub step : HasStep (setup_of f) (events_of f) t x

-- two that meet at n and are not aborted
pub record IsPair (f : Facts) (n t u : ℕ) : Type 0 where
  pub left : IsTyped f t
  pub right : IsTyped f u
  pub meet : IsTrue (meets (setup_of f) (events_of f) n t u)
  pub left_stands : IsFalse (aborted (events_of f) t)
  pub right_stands : IsFalse (aborted (events_of f) u)

-- u has put x, or may be about to
abbrev pub Writes : List Event → ℕ → Cell → Type 0
Writes H u x = IsTrue (wrote H u x || unfinished H u)

-- the event may follow P, and be noted at node n
abbrev pub MayNote : Setup → List Event → ℕ → Event → Type 0
MayNote S P n (Began t s k i) = (t.0 ≡ suc (begun_count P)) × (k.0 < S.types)
    × (IsTrue (on_path S.tree n (record { kind = k; instance = i })) → on_begin S P (record { kind = k; instance = i }) n ≡ Go)
MayNote S P n (Got t x w v) = IsTrue (unfinished P t.0) × HasStep S P t.0 x
MayNote S P n (Put t x v) = IsTrue (unfinished P t.0) × HasStep S P t.0 x
MayNote S P n (Ready t) = IsTrue (unfinished P t.0)
MayNote S P n (Done t) = IsTrue (unfinished P t.0)
MayNote S P n (Gone t c) = IsTrue (unfinished P t.0)
MayNote S P n (Told t) = IsTrue (aborted P t.0)

-- e is the newest event of the history, and may be noted at node n
pub record IsNewest (f : Facts) (e : Event) (n : ℕ) : Type 0 where
  pub is : events_of f ≡ e ∷ drop 1 (events_of f)
  pub may : MayNote (setup_of f) (drop 1 (events_of f)) n e

-- the newest event of the history is the Began of t, and may be noted at node n
abbrev pub HasJustBegun : Facts → ℕ → Txn → Type 0
HasJustBegun f n t = (s : Session) × (k : Kind) × (i : ℕ) × IsNewest f (Began t s k i) n
