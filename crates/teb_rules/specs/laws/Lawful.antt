-- Histories each event of which was granted by the rules: what the history before the event must be like.
use Rattle.std.specs.Prelude.{None, leb, ◌&&◌, ◌≡◌, ℕ, suc, ◌<◌, Bool, true, false, List, [], ◌∷◌, ℤ, IsTrue, IsFalse, is_some}
use Rattle.teb_rules.specs.declared.names.TheConstants.{SESSIONS}
use Rattle.teb_rules.specs.declared.names.Cell.{Cell}
use Rattle.teb_rules.specs.declared.history.Event.{Event}
use Rattle.teb_rules.specs.declared.history.Event.TheVariants.{Began, Got, Put, Ready, Done, Gone, Told}
use Rattle.teb_rules.specs.history.Phases.{held, begun_count, unfinished, aborted, prepared, kind_of}
use Rattle.teb_rules.specs.history.Accesses.{read_from}
use Rattle.teb_rules.specs.Setup.{Setup, profile}
use Rattle.teb_rules.specs.names.Rows.{row_of}
use Rattle.teb_rules.specs.Tree.{row, on}
use Rattle.teb_rules.specs.Steps.{least_step, cursor}
use Rattle.teb_rules.specs.Versions.{value_left, source}
use Rattle.teb_rules.specs.declared.Verdict.TheVariants.{Go}
use Rattle.teb_rules.specs.Controls.{on_access, validate}
use Rattle.teb_rules.specs.Stops.{on_commit}

-- a transaction that is not aborted read from none that is
abbrev pub Settled : List Event → Type 0
Settled P = (t w : ℕ) → IsFalse (aborted P t) → IsTrue (read_from P t w) → IsFalse (aborted P w)

-- t may access x: it is unfinished and not prepared, its profile has a step for x, and no node on its path stops it
pub record MayAccess (S : Setup) (P : List Event) (t : ℕ) (x : Cell) (write : Bool) : Type 0 where
  pub unfinished : IsTrue (unfinished P t)
  pub unprepared : IsFalse (prepared P t)
  pub step : IsTrue (is_some (least_step (profile S (kind_of P t)) (cursor S P t) x.table.0))
  pub free : (n : ℕ) → IsTrue (on S P n t) → on_access (row S.tree n).control S P n t x write ≡ Go
  pub settled : Settled P

pub record MayPrepare (S : Setup) (P : List Event) (t : ℕ) : Type 0 where
  pub unfinished : IsTrue (unfinished P t)
  pub unprepared : IsFalse (prepared P t)
  pub free : (n : ℕ) → IsTrue (on S P n t) → validate (row S.tree n).control S P n t ≡ Go
  pub settled : Settled P

pub record MayCommit (S : Setup) (P : List Event) (t : ℕ) : Type 0 where
  pub unfinished : IsTrue (unfinished P t)
  pub free : (n : ℕ) → IsTrue (on S P n t) → on_commit S P t n ≡ Go
  pub settled : Settled P

-- the rules grant the event after P
abbrev pub Granted : Setup → List Event → Event → Type 0
Granted S P (Began t s k i) = (t.0 ≡ suc (begun_count P)) × (k.0 < S.types) × Settled P × (held P s.0 ≡ None) × IsTrue (leb 1 s.0 && leb s.0 SESSIONS)
Granted S P (Got t x w v) = MayAccess S P t.0 x false × (source S P t.0 x ≡ w.0) × (0 < w.0 → v ≡ value_left P w.0 x)
Granted S P (Put t x v) = MayAccess S P t.0 x true
Granted S P (Ready t) = MayPrepare S P t.0
Granted S P (Done t) = MayCommit S P t.0
Granted S P (Gone t c) = IsTrue (unfinished P t.0)
Granted S P (Told t) = IsTrue (aborted P t.0)

unfoldable pub Lawful : Setup → List Event → Type 0
Lawful S [] = Unit {0}
Lawful S (e ∷ P) = Granted S P e × Lawful S P

-- each read of a starting row has the row's value
unfoldable pub ReadsRows : List (Cell × ℤ) → List Event → Type 0
ReadsRows R [] = Unit {0}
ReadsRows R (Got t x w v ∷ P) = (w.0 ≡ 0 → v ≡ row_of R x) × ReadsRows R P
ReadsRows R (_ ∷ P) = ReadsRows R P
