-- Every lawful history over an accepted tree is serialized by its serial order.
use Rattle.std.proofs.Common.{◌≡◌, ℕ, List, refl}
use Rattle.teb_rules.specs.declared.history.Event.{Event}
use Rattle.teb_rules.specs.declared.names.ControlKind.{ControlKind}
use Rattle.teb_rules.specs.declared.names.ControlKind.TheVariants.{Locks, Pipeline, Timestamp, Snapshot}
use Rattle.teb_rules.specs.history.Positions.{upto}
use Rattle.teb_rules.specs.laws.Lawful.{ReadsRows, Lawful}
use Rattle.teb_rules.specs.laws.TreeFacts.{TreeFacts}
use Rattle.teb_rules.specs.Accepted.{HasProfiles}
use Rattle.teb_rules.specs.Ranks.{serial_order}
use Rattle.teb_rules.specs.Serializes.{Serializes}
use Rattle.teb_rules.specs.Setup.{Store, Setup}
use Rattle.teb_rules.specs.Tree.{row}
use Rattle.teb_rules.proofs.lemmas.laws.Timeline.{Lawful-upto}
use Rattle.teb_rules.proofs.lemmas.laws.Assembly.{NodeLaw, IsOrdered, serializes}
use Rattle.teb_rules.proofs.lemmas.laws.LocksLaw.{locks_law}
use Rattle.teb_rules.proofs.lemmas.laws.StampsLaw.{stamps_law}
use Rattle.teb_rules.proofs.lemmas.laws.SnapshotLaw.{snapshot_law}
use Rattle.teb_rules.proofs.lemmas.laws.PipelineLaw.{pipeline_law}
use Rattle.teb_rules.proofs.lemmas.laws.Transitive.{is_ordered}

pub node_law : (S : Setup) (a : TreeFacts S) → HasProfiles S → (H : List Event) → Lawful S H → (n : ℕ) → NodeLaw S H n
node_law S a hp H l n = go (row S.tree n).control refl
  where
    ord : (j : ℕ) → IsOrdered S (upto j H)
    ord j = is_ordered S a (upto j H) (Lawful-upto S H j l)

    go : (c : ControlKind) → (row S.tree n).control ≡ c → NodeLaw S H n
    go Locks e = locks_law S a H n l ord e
    go Pipeline e = pipeline_law S a hp H n l ord e
    go Timestamp e = stamps_law S a H n l ord e
    go Snapshot e = snapshot_law S a H n l ord e

pub lawful_serializes : (X : Store) → TreeFacts X.setup → HasProfiles X.setup → (H : List Event) → Lawful X.setup H → ReadsRows X.rows H → Serializes X H (serial_order X.setup H)
lawful_serializes X a hp H l rr = serializes X a H l rr (node_law X.setup a hp H l) (λ j. is_ordered X.setup a (upto j H) (Lawful-upto X.setup H j l))
