use Rattle.std.proofs.Common.{◌∙◌, sym}
use Rattle.std.proofs.lemmas.Bool.{eqb-true}
use Rattle.teb_rules.specs.history.Standings.{standing_number}
use Rattle.teb_rules.proofs.lemmas.history.AscendingLists.{found_at}
use Rattle.teb_rules.proofs.history.ascending.find_standing.Goals as goal

pub returns-then-eq : goal.returns-then-eq
returns-then-eq c = found_at standing_number _ c.requires _ _ _ c.if-first-standings.true (eqb-true _ _ (sym c.eq.ensures ∙ c.if-eq.true))
