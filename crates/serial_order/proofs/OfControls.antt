-- The control of a node is of the node's kind and keeps its batches.
use Rattle.std.proofs.Common.{◌≡◌, ℕ, ◌∙◌, List, refl, sym, ap, subst, subst₂}
use Rattle.teb_rules.specs.declared.names.ControlKind.{ControlKind}
use Rattle.teb_rules.specs.declared.names.ControlKind.TheVariants.{Locks as IsLocks, Pipeline as IsPipeline, Timestamp as IsTimestamp, Snapshot as IsSnapshot}
use Rattle.teb_rules.specs.declared.history.Event.{Event}
use Rattle.teb_rules.specs.Setup.{Setup}
use Rattle.teb_rules.specs.Tree.{row}
use Rattle.batch_book.specs.Book.{Book}
use Rattle.batch_book.specs.Histories.{BatchesOf}
use Rattle.timestamp_node.specs.declared.stamps.Stamps.{Stamps}
use Rattle.timestamp_node.specs.Controls.{StampsStandFor}
use Rattle.snapshot_node.specs.declared.snapshot.Snapshot.{Snapshot as SnapshotControl}
use Rattle.snapshot_node.specs.Controls.{SnapshotStandsFor}
use Rattle.engine_core.specs.AnyControls.{any_stands, any_node_number}
use Rattle.engine_core.specs.declared.any_control.AnyControl.{AnyControl}
use Rattle.engine_core.specs.declared.any_control.AnyControl.TheVariants.{Locks, Pipeline, Timestamp, Snapshot}

abbrev pub kind_of_control : AnyControl → ControlKind
kind_of_control (Locks k) = IsLocks
kind_of_control (Pipeline k) = IsPipeline
kind_of_control (Timestamp k) = IsTimestamp
kind_of_control (Snapshot k) = IsSnapshot

module _ (S : Setup) (H : List Event) where
  own_kind : (c : AnyControl) → any_stands c S H → (row S.tree (any_node_number c)).control ≡ kind_of_control c
  own_kind (Locks k) s = s.kind
  own_kind (Pipeline k) s = s.kind
  own_kind (Timestamp k) s = s.kind
  own_kind (Snapshot k) s = s.register.kind

  module _ (n : ℕ) (c : AnyControl) (there : any_node_number c ≡ n) (stands : any_stands c S H) where
    pub kind_there : (row S.tree n).control ≡ kind_of_control c
    kind_there = ap (λ (m : ℕ). (row S.tree m).control) (sym there) ∙ own_kind c stands

    pub stamps_batches : (k : Stamps) → c ≡ Timestamp k → BatchesOf k.batches S H n
    stamps_batches k e =
        let s : StampsStandFor k S H = subst (λ (d : AnyControl). any_stands d S H) e stands in
        subst (λ (m : ℕ). BatchesOf k.batches S H m) (sym (ap any_node_number e) ∙ there) s.batches

    pub snapshot_stands : (k : SnapshotControl) → c ≡ Snapshot k → SnapshotStandsFor k S H
    snapshot_stands k e = subst (λ (d : AnyControl). any_stands d S H) e stands

    pub snapshot_there : (k : SnapshotControl) → c ≡ Snapshot k → k.register.node.0 ≡ n
    snapshot_there k e = sym (ap any_node_number e) ∙ there

    pub snapshot_batches : (k : SnapshotControl) → c ≡ Snapshot k → BatchesOf k.register.batches S H n
    snapshot_batches k e = subst (λ (m : ℕ). BatchesOf k.register.batches S H m) (snapshot_there k e) (snapshot_stands k e).register.batches

    -- if the control of a node is not a snapshot control, the node is not a snapshot node
    pub no_snapshot : ((k : SnapshotControl) → c ≡ Snapshot k → ⊥) → (row S.tree n).control ≡ IsSnapshot → ⊥
    no_snapshot other q = other_kind c other (sym kind_there ∙ q)
      where
        other_kind : (d : AnyControl) → ((k : SnapshotControl) → d ≡ Snapshot k → ⊥) → kind_of_control d ≡ IsSnapshot → ⊥
        other_kind (Locks k) f e = absurd (cc)
        other_kind (Pipeline k) f e = absurd (cc)
        other_kind (Timestamp k) f e = absurd (cc)
        other_kind (Snapshot k) f e = f k refl

-- the batches that the control of a root keeps
pub root_batches : (S : Setup) (H : List Event) (k : SnapshotControl) → SnapshotStandsFor k S H → k.register.node.0 ≡ 0 → (b : Book) → b ≡ k.register.batches → BatchesOf b S H 0
root_batches S H k s z b e = subst₂ (λ (d : Book) (m : ℕ). BatchesOf d S H m) (sym e) z s.register.batches
