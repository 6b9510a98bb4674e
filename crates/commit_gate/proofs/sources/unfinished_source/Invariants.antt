use Rattle.std.proofs.Common.{◌≡◌, ◌&&◌, take, find, None}
use Rattle.teb_rules.specs.declared.names.Txn.{Txn}
use Rattle.teb_rules.specs.history.Phases.{unfinished}
use Rattle.teb_rules.specs.Tree.{meets}
use Rattle.phase_api.specs.FactsView.{setup_of, events_of}
use Rattle.commit_gate.proofs.sources.unfinished_source.Given as goal

abbrev pub invariant-loop-w : goal.invariant-loop-w
invariant-loop-w l = find (λ (w : Txn). unfinished (events_of l.facts) w.0 && meets (setup_of l.facts) (events_of l.facts) l.n.0 l.t.0 w.0) (take l.w-index l.sources) ≡ None
