use Rattle.teb_rules.proofs.lemmas.laws.Sound.{tree_facts}
use Rattle.commit_gate.proofs.CommitWaits.{typed_now}
use Rattle.engine_core.proofs.Running.{unfinished_kept}
use Rattle.engine_core.proofs.engine_view.EngineView.read.Goals as goal

pub read-requires-clause-typed : goal.read-requires-clause-typed
read-requires-clause-typed g c = typed_now c.args.self.now.facts c.args.t.0 c.args.self.now.whole.whole.lawful c.requires.unfinished

pub read-requires-clause-kept : goal.read-requires-clause-kept
read-requires-clause-kept g c = unfinished_kept _ c.args.t.0 c.requires.unfinished

pub read-requires-clause-tree : goal.read-requires-clause-tree
read-requires-clause-tree g c = tree_facts _ c.args.self.now.whole.whole.sound
