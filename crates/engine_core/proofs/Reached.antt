-- Histories that requests lead to, and laws that hold for them.
use Rattle.std.proofs.Common.{◌≡◌, Bool, true, false, List, [], ◌∷◌, ◌++◌, refl, sym, ◌∙◌, ap, subst}
use Rattle.teb_rules.specs.declared.names.Session.{Session}
use Rattle.teb_rules.specs.declared.names.Request.{Request}
use Rattle.teb_rules.specs.declared.history.Event.{Event}
use Rattle.teb_rules.specs.Accepted.{IsSound}
use Rattle.teb_rules.specs.Answer.{answer}
use Rattle.teb_rules.specs.Run.{history_after}
use Rattle.teb_rules.specs.Setup.{Store}
use Rattle.teb_rules.specs.laws.Laws.{OfEveryStore}
use Rattle.teb_rules.specs.laws.Lawful.{Settled}
use Rattle.teb_rules.proofs.lemmas.laws.Reachable.{run_good, empty_good}
use Rattle.teb_rules.proofs.lemmas.laws.Runs.{history_after-append}
use Rattle.teb_rules.proofs.lemmas.laws.Sound.{tree_facts}
use Rattle.store_setup.specs.declared.Setup as kept
use Rattle.store_setup.specs.SetupView.{setup_view}
use Rattle.store_setup.specs.Sound.{IsWhole}
use Rattle.engine_core.specs.declared.engine_state.EngineState.{EngineState}
use Rattle.engine_core.specs.EngineModel.{IsReached, IsEngine}
use Rattle.store_setup.specs.Stores.{store_of}
use Rattle.engine_core.specs.States.{IsReady}

-- the empty history is reached without a request
pub reached_none : (X : Store) (H : List Event) → H ≡ [] → IsReached X H
unfolding history_after
reached_none X H e = ([], e)

-- one more request
pub reached_more : (X : Store) (H : List Event) (s : Session) (r : Request) → IsReached X H → (G : List Event) → G ≡ (answer X H s r).1 → IsReached X G
reached_more X H s r (asked, e) G q = (
  asked ++ (s, r) ∷ [],
  q ∙ ap (λ (K : List Event). (answer X K s r).1) e ∙ sym (history_after-append X [] asked ((s, r) ∷ []) ∙ unfold history_after in refl),
)

-- a law of every run holds for each reached history
pub law_of : (P : Store → List Event → Type 0) → OfEveryStore P → (X : Store) (H : List Event) → IsSound X.setup → IsReached X H → P X H
law_of P law X H sound (asked, e) = subst (P X) (sym e) (law X sound asked)

-- no transaction that is not aborted has read from an aborted one
pub settled_of : (X : Store) (H : List Event) → IsSound X.setup → IsReached X H → Settled H
settled_of X H = law_of (λ Y G. Settled G) (λ Y sound asked. (run_good Y (tree_facts Y.setup sound) sound.profiles asked [] (empty_good Y.setup)).settled) X H

-- the engine's invariant holds for the state that its box lends
pub lent_engine : {C : Type 0} {g : _} {ready : Bool} {boxed lent : EngineState C g} → IsEngine boxed ready → lent ≡ boxed → IsEngine lent ready
lent_engine {C} {g} {ready} was same = subst (λ (k : EngineState C g). IsEngine k ready) (sym same) was

-- a ready engine may answer
pub ready_engine : {C : Type 0} {g : _} (k : EngineState C g) (ready : Bool) → IsEngine k ready → ready ≡ true → IsReady k
ready_engine k ready was e = record { settled = settled_of (store_of k.setup) k.history.events k.whole.sound was.reached; room = was.enough e }

-- the engine's invariant holds after an answer; the engine is then not ready
pub answered_engine : {C : Type 0} {g : _} (old new : EngineState C g) (ready : Bool) (s : Session) (r : Request) → IsEngine old ready → new.setup ≡ old.setup
    → new.history.events ≡ (answer (store_of old.setup) old.history.events s r).1 → IsEngine new false
answered_engine old new ready s r was same next = record {
  setup = subst (λ (u : kept.Setup). IsWhole (setup_view u)) (sym same) was.setup;
  reached = subst (λ (u : kept.Setup). IsReached (store_of u) new.history.events) (sym same) (reached_more (store_of old.setup) old.history.events s r was.reached new.history.events next);
  enough = λ f. absurd (cc);
}
