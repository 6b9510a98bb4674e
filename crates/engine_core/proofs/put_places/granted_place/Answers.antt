use Rattle.teb_rules.proofs.lemmas.laws.Sound.{tree_facts}
use Rattle.std.proofs.lemmas.Bool.{or_right}
use Rattle.teb_rules.specs.history.Phases.{unfinished}
use Rattle.teb_rules.specs.history.Accesses.{wrote}
use Rattle.engine_core.specs.Views.{events_in}
use Rattle.commit_gate.proofs.CommitWaits.{typed_now}
use Rattle.engine_core.proofs.Running.{unfinished_kept}
use Rattle.engine_core.proofs.put_places.granted_place.Goals as goal

pub place_behind-requires-clause-tree : goal.place_behind-requires-clause-tree
place_behind-requires-clause-tree g c = tree_facts _ c.args.asking.now.view.now.whole.whole.sound

pub place_behind-requires-clause-typed : goal.place_behind-requires-clause-typed
place_behind-requires-clause-typed g c = typed_now c.args.asking.now.view.now.facts c.args.asking.now.txn.0 c.args.asking.now.view.now.whole.whole.lawful c.args.asking.now.runs

pub place_behind-requires-clause-kept : goal.place_behind-requires-clause-kept
place_behind-requires-clause-kept g c = unfinished_kept _ c.args.asking.now.txn.0 c.args.asking.now.runs

pub place_behind-requires-clause-writes : goal.place_behind-requires-clause-writes
place_behind-requires-clause-writes g c =
    let H = events_in c.args.asking.now.view.now in
    let t = c.args.asking.now.txn.0 in
    or_right (wrote H t c.args.cell) (unfinished H t) c.args.asking.now.runs
