-- The nodes of a path, and the first stop along them.
use Rattle.std.proofs.Common.{◌≡◌, ℕ, zero, suc, ◌<◌, Bool, true, List, [], ◌∷◌, length, get_or, arith, eqb, eq-eqb, refl, subst, ap, ◌∙◌}
use Rattle.std.specs.List.{All}
use Rattle.std.proofs.lemmas.Bool.{or_left, or_right}
use Rattle.teb_rules.specs.declared.names.Cell.{Cell}
use Rattle.teb_rules.specs.declared.names.Node.{Node}
use Rattle.teb_rules.specs.declared.names.Spot.{Spot}
use Rattle.teb_rules.specs.declared.history.Event.{Event}
use Rattle.teb_rules.specs.history.Phases.{spot_of}
use Rattle.teb_rules.specs.Setup.{Setup, among}
use Rattle.teb_rules.specs.Tree.{row, path, on_path, on}
use Rattle.teb_rules.specs.Accepted.{IsSound}
use Rattle.teb_rules.specs.declared.Stop.{Stop}
use Rattle.teb_rules.specs.Controls.{on_access, validate}
use Rattle.teb_rules.specs.Stops.{on_begin, stop_of, access_stop, prepare_stop, begin_stop}
use Rattle.teb_rules.proofs.lemmas.laws.Sound.{tree_facts}
use Rattle.teb_rules.proofs.lemmas.laws.Within.{path-below}
use Rattle.store_setup.specs.tree.Grown.{node_numbers}
use Rattle.phase_api.specs.declared.facts.Facts.{Facts}
use Rattle.phase_api.specs.FactsView.{setup_of, events_of, IsTyped}
use Rattle.phase_api.specs.Calls.{IsHere}
use Rattle.candidate_reads.proofs.InOrder.{among_In}
use Rattle.engine_core.specs.Questions.{CanAsk}
use Rattle.std.proofs.lemmas.List.Elements.{All-from_get_or}

among_at : (ns : List Node) (k : ℕ) (d : Node) → k < length ns → among (get_or ns k d).0 (node_numbers ns) ≡ true
among_at [] k d h = absurd (omega arith)
among_at (n ∷ ns) zero d h = or_left (eqb n.0 n.0) (among n.0 (node_numbers ns)) (eq-eqb n.0 n.0 refl)
among_at (n ∷ ns) (suc k) d h = or_right (eqb n.0 (get_or ns k d).0) (among (get_or ns k d).0 (node_numbers ns)) (among_at ns k d (omega arith))

on_at : (S : Setup) (s : Spot) (ns : List Node) (k : ℕ) (d : Node) → node_numbers ns ≡ path S.tree s → k < length ns → on_path S.tree (get_or ns k d).0 s ≡ true
unfolding on_path
on_at S s ns k d e h = subst (λ (ps : List ℕ). among (get_or ns k d).0 ps ≡ true) e (among_at ns k d h)

-- t has begun, and n is on its path
pub here_on : (f : Facts) (t n : ℕ) → IsTyped f t → on_path (setup_of f).tree n (spot_of (events_of f) t) ≡ true → IsHere f n t
unfolding on
here_on f t n ty o = record { typed = ty; on = o }

node_at : (S : Setup) → IsSound S → (s : Spot) (ns : List Node) → node_numbers ns ≡ path S.tree s → (k : ℕ) (d : Node) → k < length ns → (get_or ns k d).0 < length S.tree
node_at S sound s ns e k d h = path-below S (tree_facts S sound) s (get_or ns k d).0
    (among_In (get_or ns k d).0 (path S.tree s) (subst (λ (ps : List ℕ). among (get_or ns k d).0 ps ≡ true) e (among_at ns k d h)))

-- all nodes of a path are nodes of the tree
pub within : (S : Setup) → IsSound S → (s : Spot) (ns : List Node) → node_numbers ns ≡ path S.tree s → All (λ n. n.0 < length S.tree) ns
within S sound s ns e = All-from_get_or (λ n. n.0 < length S.tree) ns (record { 0 = 0 }) (λ k h. node_at S sound s ns e k (record { 0 = 0 }) h)

-- every node of a path may be asked
pub asked_along : (f : Facts) (may : ℕ → Type 0) (s : Spot) (ns : List Node) → IsSound (setup_of f) → node_numbers ns ≡ path (setup_of f).tree s
    → ((n : ℕ) → on_path (setup_of f).tree n s ≡ true → may n)
    → All (CanAsk may f) ns
asked_along f may s ns sound e h =
    let d : Node = record { 0 = 0 } in
    All-from_get_or (CanAsk may f) ns d (λ k l. (node_at (setup_of f) sound s ns e k d l, h (get_or ns k d).0 (on_at (setup_of f) s ns k d e l)))

-- the first stop along the path is the stop of the rules
pub access_along : (S : Setup) (H : List Event) (t : ℕ) (x : Cell) (write : Bool) (ns : List ℕ) (s : Stop) → ns ≡ path S.tree (spot_of H t)
    → s ≡ stop_of (λ n. on_access (row S.tree n).control S H n t x write) ns → s ≡ access_stop S H t x write
unfolding access_stop
access_along S H t x write ns s e k = k ∙ ap (stop_of (λ n. on_access (row S.tree n).control S H n t x write)) e

pub prepare_along : (S : Setup) (H : List Event) (t : ℕ) (ns : List ℕ) (s : Stop) → ns ≡ path S.tree (spot_of H t) → s ≡ stop_of (λ n. validate (row S.tree n).control S H n t) ns
    → s ≡ prepare_stop S H t
unfolding prepare_stop
prepare_along S H t ns s e k = k ∙ ap (stop_of (λ n. validate (row S.tree n).control S H n t)) e

pub begin_along : (S : Setup) (H : List Event) (k : Spot) (ns : List ℕ) (s : Stop) → ns ≡ path S.tree k → s ≡ stop_of (on_begin S H k) ns → s ≡ begin_stop S H k
unfolding begin_stop
begin_along S H k ns s e q = q ∙ ap (stop_of (on_begin S H k)) e
