-- Lawful and settled histories are recoverable.
use Rattle.std.proofs.Common.{List, length, arith, lt-ltb, le_refl}
use Rattle.teb_rules.specs.declared.history.Event.{Event}
use Rattle.teb_rules.specs.history.Phases.{committed, done_at}
use Rattle.teb_rules.specs.history.Accesses.{read_from}
use Rattle.teb_rules.specs.Setup.{Setup}
use Rattle.teb_rules.specs.laws.TreeFacts.{TreeFacts}
use Rattle.teb_rules.proofs.lemmas.laws.Answers.{Good}
use Rattle.teb_rules.proofs.lemmas.laws.Positions.{upto_all}
use Rattle.teb_rules.proofs.lemmas.laws.Assembly.{read_recoverable}
use Rattle.std.proofs.lemmas.Bool.{ltb-true}
use Rattle.abort_cascade.specs.Recoverable.{IsRecoverable}

pub good_recoverable : (S : Setup) (a : TreeFacts S) (H : List Event) → Good S H → IsRecoverable H
unfolding committed read_from
good_recoverable S a H g = record {
  settled = g.settled;
  committed = λ u w c r p.
      let done = ltb-true (done_at H u) (length H) c in
      lt-ltb (done_at H w) (length H) (let z = read_recoverable S a H u w g.legal done p H (le_refl _) (upto_all (length H) H (le_refl _)) r in omega arith);
}
