-- The result of carrying out a decision.
use Rattle.std.proofs.Common.{◌≡◌, ℕ, List, ◌∷◌, refl, sym, subst}
use Rattle.teb_rules.specs.declared.names.Cell.{Cell}
use Rattle.teb_rules.specs.declared.names.Txn.{Txn}
use Rattle.teb_rules.specs.declared.names.Session.{Session}
use Rattle.teb_rules.specs.declared.names.Request.{Request}
use Rattle.teb_rules.specs.declared.history.Event.{Event}
use Rattle.teb_rules.specs.declared.history.Event.TheVariants.{Began, Got, Put, Ready, Done, Gone, Told}
use Rattle.teb_rules.specs.Setup.{Setup, Store}
use Rattle.teb_rules.specs.Answer.{Answered, answer}
use Rattle.version_chain.specs.Lists.{Version}
use Rattle.candidate_reads.specs.declared.placing.Place.{Place}
use Rattle.teb_rules.specs.laws.Lawful.{Granted, Lawful, Settled}
use Rattle.teb_rules.proofs.lemmas.laws.Reachable.{answer_good}
use Rattle.teb_rules.proofs.lemmas.laws.Sound.{tree_facts}
use Rattle.teb_rules.specs.Accepted.{IsSound}
use Rattle.engine_core.specs.declared.decision.Decision.{Decision}
use Rattle.engine_core.specs.declared.decision.Decision.TheVariants.{Answer, Grant, Scan, Fall}
use Rattle.engine_core.specs.declared.decision.Decision.TheVariants as decision
use Rattle.engine_core.specs.Decisions.{carried, IsShort, IsNoPut}
use Rattle.engine_core.specs.Keeping.{HasPlace, PutsAt}

-- an event other than Put needs no place
pub no_put_placed : (S : Setup) (H : List Event) (L : Cell → List Version) (e : Event) (p : Place) → IsNoPut e → HasPlace L e p × PutsAt S H L e p
no_put_placed S H L (Put t x v) p h = absurd h
no_put_placed S H L (Began t s k i) p h = (tt, tt)
no_put_placed S H L (Got t x w v) p h = (tt, tt)
no_put_placed S H L (Ready t) p h = (tt, tt)
no_put_placed S H L (Done t) p h = (tt, tt)
no_put_placed S H L (Gone t c) p h = (tt, tt)
no_put_placed S H L (Told t) p h = (tt, tt)

-- a decision other than Scan is short
pub is_short : (d : Decision) → ((t : Txn) (x : Cell) (n : ℕ) → d ≡ Scan t x n → ⊥) → IsShort d
is_short (Scan t x n) f = f t x n refl
is_short (Answer r) f = tt
is_short (Grant r e) f = tt
is_short (decision.Put t x v p) f = tt
is_short (Fall t c) f = tt

-- the newest event of a lawful history was granted
pub leads_granted : (S : Setup) (P : List Event) (e : Event) → Lawful S (e ∷ P) → Granted S P e
unfolding Lawful
leads_granted S P e l = l.0

-- the history after an answer is lawful
pub leads_on : (X : Store) (H : List Event) (s : Session) (r : Request) → IsSound X.setup → Lawful X.setup H → Settled H → (d : Decision) → carried X H d ≡ answer X H s r
    → Lawful X.setup (carried X H d).1
leads_on X H s r sound l t d e =
    subst (λ (a : Answered). Lawful X.setup a.1) (sym e) (answer_good X (tree_facts X.setup sound) sound.profiles H s r (record { legal = l; settled = t })).legal
