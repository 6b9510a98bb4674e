-- The laws of every run, stated of engines.
use Rattle.std.proofs.Common.{◌≡◌, ◌≢◌, ℕ, ◌<◌, true, List, [], sym, subst, arith, length}
use Rattle.teb_rules.specs.declared.names.Txn.{Txn}
use Rattle.teb_rules.specs.history.Phases.{began_at, committed}
use Rattle.teb_rules.specs.Ranks.{rank, serial_order}
use Rattle.teb_rules.specs.Serializes.{Serializes, StandsBefore}
use Rattle.teb_rules.specs.Tree.{meets}
use Rattle.teb_rules.specs.laws.Laws.{OrdersVersions, OrdersConflicts, ReadsAreStable, RanksAgree}
use Rattle.teb_rules.specs.laws.Lawful.{Lawful}
use Rattle.teb_rules.proofs.lemmas.laws.Laws as laws
use Rattle.teb_rules.proofs.lemmas.laws.Meeting.{meets_exists}
use Rattle.teb_rules.proofs.lemmas.laws.Ranks.{commits}
use Rattle.teb_rules.proofs.lemmas.laws.Reachable.{run_good, empty_good}
use Rattle.teb_rules.proofs.lemmas.laws.Serial.{commits_from}
use Rattle.teb_rules.proofs.lemmas.laws.Sound.{tree_facts}
use Rattle.engine_core.specs.EngineModel.{EngineModel, IsOfEngine}
use Rattle.engine_core.proofs.Reached.{law_of}
use Rattle.serial_order.specs.Commits.{txn_numbers}
use Rattle.serial_order.specs.Laws.{OfEveryEngine, OfEveryOrder, KeepsConflicts}

pub versions_ordered : OfEveryEngine (λ e. OrdersVersions e.store.setup e.events)
versions_ordered e h = law_of (λ X. OrdersVersions X.setup) laws.orders_versions e.store e.events h.sound h.reached

pub ranks_rise : OfEveryEngine (λ e. RanksAgree e.store.setup e.events)
ranks_rise e h = law_of (λ X. RanksAgree X.setup) laws.ranks_agree e.store e.events h.sound h.reached

pub order_serializes : OfEveryOrder (λ e order. Serializes e.store e.events order)
order_serializes e h ts o = subst (Serializes e.store e.events) (sym o) (law_of (λ X H. Serializes X H (serial_order X.setup H)) laws.every_run_serializes e.store e.events h.sound h.reached)

module _ (e : EngineModel) (h : IsOfEngine e) (ts : List Txn) (o : txn_numbers ts ≡ serial_order e.store.setup e.events) where
  lawful : Lawful e.store.setup e.events
  lawful = law_of (λ X. Lawful X.setup) (λ X sound asked. (run_good X (tree_facts X.setup sound) sound.profiles asked [] (empty_good X.setup)).legal) e.store e.events h.sound h.reached

  began : (u : ℕ) → committed e.events u ≡ true → began_at e.events u < length e.events
  began u c = let d = commits_from e.events u c in let z = commits e.store.setup e.events u lawful d in omega arith

  -- a transaction of smaller rank where the two meet is earlier in the order
  before : (u w : ℕ) → committed e.events u ≡ true → committed e.events w ≡ true → u ≢ w
      → ((n : ℕ) → meets e.store.setup e.events n u w ≡ true → rank e.store.setup e.events n u < rank e.store.setup e.events n w) → StandsBefore (txn_numbers ts) u w
  before u w cu cw ne f =
      let m = meets_exists e.store.setup (tree_facts e.store.setup h.sound) e.events u w lawful (began u cu) (began w cw) ne in
      (order_serializes e h ts o).nodes m.node u w cu cw m.meet (f m.node m.meet)

  conflicts : OrdersConflicts e.store.setup e.events
  conflicts = law_of (λ X. OrdersConflicts X.setup) laws.orders_conflicts e.store e.events h.sound h.reached

  pub conflicts_kept : KeepsConflicts e (txn_numbers ts)
  conflicts_kept = record {
    writes = λ u w x cu cw ne pu pw p. before u w cu cw ne (λ n m. conflicts.writes n u w x cu cw m pu pw p);
    reads = λ u w x cu cw ne r. before u w cu cw ne (λ n m. conflicts.reads n u w x cu cw m r);
    overwrites = λ u w v x cu cw ne r nv pw p. before u w cu cw ne (λ n m. conflicts.overwrites n u w v x cu cw m r nv pw p);
    stable = law_of (λ X. ReadsAreStable X.setup) laws.reads_are_stable e.store e.events h.sound h.reached;
  }
