use Rattle.std.proofs.Common.{◌≡◌, inl, inr, ℕ, Bool, true, false, List, [], ◌∷◌, eqb, eqb-true, sym, ◌∙◌, subst}
use Rattle.std.specs.List.{list_any}
use Rattle.std.proofs.lemmas.Bool.{or_cases, or_parts}
use Rattle.teb_rules.specs.history.Phases.{spot_of}
use Rattle.teb_rules.specs.Setup.{among}
use Rattle.teb_rules.specs.Tree.{row, is_timestamp, on_path}
use Rattle.store_setup.specs.tree.Grown.{node_numbers}
use Rattle.engine_core.proofs.Running.{unfinished_kept}
use Rattle.commit_gate.proofs.CommitWaits.{typed_now}
use Rattle.phase_api.specs.FactsView.{events_of}
use Rattle.teb_rules.specs.history.Accesses.{wrote}
use Rattle.teb_rules.specs.history.Phases.{unfinished}
use Rattle.std.proofs.lemmas.Bool.{or_right}
use Rattle.teb_rules.proofs.lemmas.laws.Sound.{tree_facts}
use Rattle.engine_core.specs.Views.{store_in, events_in}
use Rattle.engine_core.proofs.Along.{within}
use Rattle.engine_core.proofs.put_places.asked_place.Goals as goal

-- a test that no element passes fails for each element
none_of : (p : ℕ → Bool) (ns : List ℕ) (n : ℕ) → list_any p ns ≡ false → among n ns ≡ true → p n ≡ false
none_of p [] n h i = absurd (cc)
none_of p (m ∷ ms) n h i =
    let f = or_parts (p m) (list_any p ms) h in
    elim (or_cases (eqb m n) (among n ms) i) [ inl e ↦ subst (λ (z : ℕ). p z ≡ false) (eqb-true m n e) f.0 | inr j ↦ none_of p ms n f.1 j ]

pub has_timestamp-requires : goal.has_timestamp-requires
has_timestamp-requires g c =
    let S = (store_in c.args.asking.now.view.now).setup in
    let H = events_in c.args.asking.now.view.now in
    let t = c.args.asking.now.txn.0 in
    within S c.args.asking.now.view.now.whole.whole.sound (spot_of H t) c.args.asking.now.nodes.now c.args.asking.now.way

pub place_of-requires-clause-typed : goal.place_of-requires-clause-typed
place_of-requires-clause-typed g c = typed_now c.args.asking.now.view.now.facts c.args.asking.now.txn.0 c.args.asking.now.view.now.whole.whole.lawful c.args.asking.now.runs

pub place_of-requires-clause-tree : goal.place_of-requires-clause-tree
place_of-requires-clause-tree g c = tree_facts _ c.args.asking.now.view.now.whole.whole.sound

pub place_of-requires-clause-kept : goal.place_of-requires-clause-kept
place_of-requires-clause-kept g c = unfinished_kept _ c.args.asking.now.txn.0 c.args.asking.now.runs

pub place_of-requires-clause-writes : goal.place_of-requires-clause-writes
place_of-requires-clause-writes g c =
    let t = c.args.asking.now.txn.0 in
    or_right (wrote (events_of c.args.asking.now.view.now.facts) t c.args.cell) (unfinished (events_of c.args.asking.now.view.now.facts) t) c.args.asking.now.runs

pub returns-else-has_timestamp-clause-told : goal.returns-else-has_timestamp-clause-told
unfolding on_path
returns-else-has_timestamp-clause-told g c = λ n o.
    none_of (λ m. is_timestamp (row (store_in c.args.asking.now.view.now).setup.tree m).control) (node_numbers c.args.asking.now.nodes.now) n (sym c.has_timestamp.ensures ∙ c.if-has_timestamp.false)
    (subst (λ (ns : List ℕ). among n ns ≡ true) (sym c.args.asking.now.way) o)
