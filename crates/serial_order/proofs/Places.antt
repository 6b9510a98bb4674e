-- The nodes of a path, by index.
use Rattle.std.proofs.Common.{◌≡◌, ℕ, zero, suc, ◌<◌, true, false, eqb, List, [], ◌∷◌, length, get_or, Option, Some, refl, sym, ap, subst, ◌∙◌, arith, eq-eqb}
use Rattle.std.proofs.lemmas.Bool.{or_left, or_right}
use Rattle.teb_rules.specs.declared.history.Event.{Event}
use Rattle.teb_rules.specs.Setup.{Setup, among}
use Rattle.teb_rules.specs.Tree.{on}
use Rattle.teb_rules.specs.Batches.{start, close}
use Rattle.std.specs.Prelude.{IfSome}
use Rattle.teb_rules.specs.declared.names.Spot.{Spot}
use Rattle.teb_rules.specs.declared.names.Node.{Node}
use Rattle.teb_rules.specs.declared.names.ControlKind.TheVariants.{Snapshot}
use Rattle.teb_rules.specs.history.Phases.{spot_of}
use Rattle.teb_rules.specs.Tree.{row, path, on_path, side, side_at}
use Rattle.teb_rules.specs.Ranks.{rank, rank_by, has_edge_out}
use Rattle.store_setup.specs.tree.Grown.{node_numbers}
use Rattle.serial_order.specs.Keys.{key_along, cut_key}

pub among-at : (ns : List ℕ) (i d : ℕ) → i < length ns → among (get_or ns i d) ns ≡ true
among-at [] i d h = absurd (omega arith)
among-at (n ∷ ns) zero d h = or_left (eqb n n) (among n ns) (eq-eqb n n refl)
among-at (n ∷ ns) (suc i) d h = or_right (eqb n (get_or ns i d)) (among (get_or ns i d) ns) (among-at ns i d (omega arith))

-- the rank at a snapshot node is the start or the close of the batch
pub snapshot_start : (S : Setup) (H : List Event) (n t : ℕ) → (row S.tree n).control ≡ Snapshot → has_edge_out S H n t ≡ true → start S H n t ≡ rank S H n t
unfolding rank rank_by
snapshot_start S H n t c e = rw (c, e) refl

pub snapshot_close : (S : Setup) (H : List Event) (n t : ℕ) → (row S.tree n).control ≡ Snapshot → has_edge_out S H n t ≡ false → close S H n t ≡ rank S H n t
unfolding rank rank_by
snapshot_close S H n t c e = rw (c, e) refl

numbers-length : (ns : List Node) → length (node_numbers ns) ≡ length ns
numbers-length [] = refl
numbers-length (n ∷ ns) = ap suc (numbers-length ns)

numbers-at : (ns : List Node) (i : ℕ) (m : Node) → get_or (node_numbers ns) i m.0 ≡ (get_or ns i m).0
numbers-at [] i m = refl
numbers-at (n ∷ ns) zero m = refl
numbers-at (n ∷ ns) (suc i) m = numbers-at ns i m

-- a node at an index of a path is on it
pub on_at : (S : Setup) (H : List Event) (t : ℕ) (ns : List Node) (i : ℕ) (m : Node) → node_numbers ns ≡ path S.tree (spot_of H t) → i < length ns → on S H (get_or ns i m).0 t ≡ true
unfolding on on_path
on_at S H t ns i m e low =
    let a : among (get_or (node_numbers ns) i m.0) (node_numbers ns) ≡ true = among-at (node_numbers ns) i m.0 (subst (λ (k : ℕ). i < k) (sym (numbers-length ns)) low) in
    subst (λ (ms : List ℕ). among (get_or ns i m).0 ms ≡ true) e (subst (λ (k : ℕ). among k (node_numbers ns) ≡ true) (numbers-at ns i m) a)

-- a key, node by node
pub key_starts : (S : Setup) (H : List Event) (t : ℕ) (ms : List ℕ) → ms ≡ path S.tree (spot_of H t) → key_along S H t ms ≡ cut_key S H t
key_starts S H t ms e = ap (key_along S H t) e

pub spot_told : (H : List Event) (t : ℕ) (o : Option Spot) (s : Spot) → IfSome o (λ z. z ≡ spot_of H t) → o ≡ Some s → s ≡ spot_of H t
spot_told H t o s h e = subst (λ (p : Option Spot). IfSome p (λ z. z ≡ spot_of H t)) e h

-- whether a node is on its path, and its side there, by its spot
pub on_told : (S : Setup) (H : List Event) (n t : ℕ) (s : Spot) → s ≡ spot_of H t → on S H n t ≡ true → on_path S.tree n s ≡ true
unfolding on
on_told S H n t s e h = ap (on_path S.tree n) e ∙ h

pub side_told : (S : Setup) (H : List Event) (n t : ℕ) (s : Spot) → s ≡ spot_of H t → side_at S.tree n s t ≡ side S H n t
unfolding side
side_told S H n t s e = ap (λ (z : Spot). side_at S.tree n z t) e
