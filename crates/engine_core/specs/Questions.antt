-- When the nodes of a path may be asked, and what they answer.
use Rattle.std.specs.Prelude.{◌<◌, ℕ, List, length, true, false, IsTrue}
use Rattle.teb_rules.specs.declared.names.Cell.{Cell}
use Rattle.teb_rules.specs.declared.names.Node.{Node}
use Rattle.teb_rules.specs.declared.history.Event.{Event}
use Rattle.teb_rules.specs.history.Phases.{unfinished}
use Rattle.teb_rules.specs.Setup.{Setup}
use Rattle.teb_rules.specs.Tree.{row, on_path}
use Rattle.teb_rules.specs.Controls.{on_access, validate}
use Rattle.teb_rules.specs.Stops.{on_begin}
use Rattle.teb_rules.specs.declared.Verdict.{Verdict}
use Rattle.version_chain.specs.Lists.{Version, writers_of}
use Rattle.phase_api.specs.declared.facts.Facts.{Facts}
use Rattle.phase_api.specs.FactsView.{setup_of, events_of}
use Rattle.phase_api.specs.Calls.{IsHere, IsAccess}
use Rattle.phase_api.specs.Versions.{IsToldPlace}
use Rattle.engine_core.specs.declared.questions.ReadQuestion.{ReadQuestion}
use Rattle.engine_core.specs.declared.questions.WriteQuestion.{WriteQuestion}
use Rattle.engine_core.specs.declared.questions.PrepareQuestion.{PrepareQuestion}
use Rattle.engine_core.specs.declared.questions.BeginQuestion.{BeginQuestion}

-- what node n answers to each question
abbrev pub read_verdict : ReadQuestion → Setup → List Event → ℕ → Verdict
read_verdict q S H n = on_access (row S.tree n).control S H n q.txn.0 q.cell false

abbrev pub write_verdict : WriteQuestion → Setup → List Event → ℕ → Verdict
write_verdict q S H n = on_access (row S.tree n).control S H n q.txn.0 q.cell true

abbrev pub prepare_verdict : PrepareQuestion → Setup → List Event → ℕ → Verdict
prepare_verdict q S H n = validate (row S.tree n).control S H n q.txn.0

abbrev pub begin_verdict : BeginQuestion → Setup → List Event → ℕ → Verdict
begin_verdict q S H n = on_begin S H q.spot n

-- node n, a node of the tree, may be asked so by the transaction, on whose path it is
abbrev pub MayAskToRead : ReadQuestion → (Cell → List Version) → Facts → ℕ → Type 0
MayAskToRead q L f n = IsAccess f n q.txn.0 q.cell

abbrev pub MayAskToWrite : WriteQuestion → (Cell → List Version) → Facts → ℕ → Type 0
MayAskToWrite q L f n = IsAccess f n q.txn.0 q.cell × IsToldPlace (setup_of f) (events_of f) n q.cell q.txn.0 q.at (writers_of (L q.cell))

abbrev pub MayAskToPrepare : PrepareQuestion → (Cell → List Version) → Facts → ℕ → Type 0
MayAskToPrepare q L f n = IsHere f n q.txn.0 × IsTrue (unfinished (events_of f) q.txn.0)

abbrev pub MayAskToBegin : BeginQuestion → (Cell → List Version) → Facts → ℕ → Type 0
MayAskToBegin q L f n = (q.spot.kind.0 < f.tree.now.types) × IsTrue (on_path (setup_of f).tree n q.spot)

-- it is a node of the tree, and may be asked
abbrev pub CanAsk : (ℕ → Type 0) → Facts → Node → Type 0
CanAsk may f n = (n.0 < length (setup_of f).tree) × may n.0
