-- Whether a transaction has already put a cell is known from the place of its Put.
use Rattle.std.proofs.Common.{Bool, ◌&&◌, not, List, ◌∙◌, ap}
use Rattle.teb_rules.proofs.lemmas.names.Bools.{and_true}
use Rattle.teb_rules.specs.declared.names.Cell.{Cell}
use Rattle.teb_rules.specs.declared.history.Event.{Event}
use Rattle.teb_rules.specs.declared.history.Event.TheVariants.{Began, Got, Put, Ready, Done, Gone, Told}
use Rattle.teb_rules.specs.history.Accesses.{wrote}
use Rattle.teb_rules.specs.Setup.{Setup}
use Rattle.teb_rules.specs.laws.Lawful.{Granted}
use Rattle.version_chain.specs.Lists.{Version}
use Rattle.candidate_reads.specs.declared.placing.Place.{Place}
use Rattle.phase_api.specs.Versions.{HoldsVersions}
use Rattle.dependency_book.specs.Dependencies.{IsAgain}
use Rattle.dependency_book.proofs.OrderlyHistories.{unfinished_parts}
use Rattle.engine_core.specs.Keeping.{HasPlace}

-- a transaction that puts a cell already has a version of it if and only if it has put the cell before
pub put_again : (S : Setup) (P : List Event) (L : Cell → List Version) (e : Event) (p : Place) → HoldsVersions S P L → HasPlace L e p → Granted S P e → IsAgain P e p.is_there
put_again S P L (Put t x v) p h placed g =
    placed.2 ∙ h.writers x t.0 ∙ ap (λ (o : Bool). wrote P t.0 x && not o) (unfinished_parts P t.0 g.unfinished).2 ∙ and_true (wrote P t.0 x)
put_again S P L (Began t s k i) p h placed g = tt
put_again S P L (Got t x w v) p h placed g = tt
put_again S P L (Ready t) p h placed g = tt
put_again S P L (Done t) p h placed g = tt
put_again S P L (Gone t c) p h placed g = tt
put_again S P L (Told t) p h placed g = tt
