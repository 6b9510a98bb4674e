-- A walk over a lawful history: the event at a position.
use Rattle.std.proofs.Common.{◌≡◌, ℕ, suc, ◌+◌, ◌<◌, ◌≤◌, true, List, ◌∷◌, length, reverse, Some, slice_get, refl, sym, ap, subst, ◌∙◌, arith, eq-eqb, lt-ltb}
use Rattle.std.proofs.lemmas.Option.{get_or_from_slice_get}
use Rattle.teb_rules.specs.declared.names.Txn.{Txn}
use Rattle.teb_rules.specs.declared.history.Event.{Event}
use Rattle.teb_rules.specs.declared.history.Event.TheVariants.{Done}
use Rattle.teb_rules.specs.history.Positions.{upto}
use Rattle.teb_rules.specs.history.Phases.{begun, began_at, done_at, is_done, unfinished}
use Rattle.teb_rules.proofs.lemmas.history.Chains.{upto-suc}
use Rattle.teb_rules.specs.Setup.{Setup}
use Rattle.teb_rules.specs.laws.Lawful.{Lawful, Granted}
use Rattle.teb_rules.proofs.lemmas.laws.Timeline.{granted_at, first_event-le, unfinished-upto, kind-lt}
use Rattle.phase_api.specs.declared.facts.Facts.{Facts}
use Rattle.phase_api.specs.FactsView.{setup_of, events_of, IsTyped}

pub begun_from : (H : List Event) (t : ℕ) → began_at H t < length H → begun H t ≡ true
unfolding begun
begun_from H t h = lt-ltb _ _ h

module _ (S : Setup) (H : List Event) (i : ℕ) (e : Event) (l : Lawful S H) (low : i < length H) (there : slice_get (reverse H) i ≡ Some e) where
  pub event_there : upto (i + 1) H ≡ e ∷ upto i H
  event_there = upto-suc i H e low ∙ ap (λ (d : Event). d ∷ upto i H) (get_or_from_slice_get (reverse H) i e e there)

  event_next : upto (suc i) H ≡ e ∷ upto i H
  event_next = subst (λ (k : ℕ). upto k H ≡ e ∷ upto i H) (let z : i + 1 ≡ suc i = omega arith in z) event_there

  pub granted_there : Granted S (upto i H) e
  granted_there = granted_at S H i e l event_next

  -- the Done of t is at its position
  pub done_here : (t : Txn) → e ≡ Done t → (i ≡ done_at H t.0) × (unfinished (upto i H) t.0 ≡ true)
  unfolding done_at
  done_here t q =
      let u : unfinished (upto i H) t.0 ≡ true = (subst (Granted S (upto i H)) q granted_there).unfinished in
      let a = first_event-le (is_done t.0) H i e low event_next (subst (λ (d : Event). is_done t.0 d ≡ true) (sym q) (is_done_own t)) in
      let b = (unfinished-upto H i t.0 (let z : i ≤ length H = omega arith in z) u).1 in
      (omega arith, u)
    where
      is_done_own : (t : Txn) → is_done t.0 (Done t) ≡ true
      is_done_own t = eq-eqb t.0 t.0 refl

-- the transaction of a Done is typed
pub typed_there : (f : Facts) (i : ℕ) (t : Txn) → Lawful (setup_of f) (events_of f) → i < length (events_of f) → slice_get (reverse (events_of f)) i ≡ Some (Done t) → IsTyped f t.0
typed_there f i t l low there =
    let S = setup_of f in
    let H = events_of f in
    let u = (done_here S H i (Done t) l low there t refl).1 in
    let b : began_at H t.0 < length H = (let z = (unfinished-upto H i t.0 (let y : i ≤ length H = omega arith in y) u).0 in omega arith) in
    record { begun = begun_from H t.0 b; kind = kind-lt S H t.0 l b }
