use Rattle.std.proofs.Common.{◌≡◌, length, rules, subst, sym}
use Rattle.script_text.specs.Named.{ReplyNamed}
use Rattle.engine_core.specs.EngineModel.{EngineModel, IsOfEngine}
use Rattle.shell_runner.specs.States.{LacksRoom}
use Rattle.tebaldi_shell.specs.Kept.{KeptModel, stored_of}
use Rattle.tebaldi_shell.proofs.Named.{answer_named, same_tables}
use Rattle.tebaldi_shell.proofs.Refused.{lacks_room}
use Rattle.tebaldi_shell.proofs.kept_store.KeptStoreShellStore.ask.Goals as goal
use Rattle.tebaldi_shell.proofs.kept_store.KeptStoreShellStore.ask.Goals.{in-Ok, in-Err-Full, in-Err-Unsure, in-Err-OutOfMemory}

pub returns-clause-named : goal.returns-clause-named
returns-clause-named g c =
    let e = c.self.inside.store.engine in
    let of : IsOfEngine e = subst IsOfEngine c.engine-engine.ensures.engine c.history-history.ensures.reached in
    let tables : e.store.tables ≡ length e.names.tables =
    subst (λ (x : EngineModel). x.store.tables ≡ length x.names.tables) c.engine-engine.ensures.engine
    (same_tables c.engine-engine.result.now c.setup-setup.result.now c.setup-setup.ensures.store c.setup-setup.ensures.names) in
    let nodes : length e.store.setup.tree ≡ length e.names.nodes =
    subst (λ (s : KeptModel _). length s.engine.store.setup.tree ≡ length s.engine.names.nodes) (sym c.self.view_is) c.requires.nodes in
    elim c.match-ask.branch [
      | in-Ok w ↦ rw w.result-is
          (subst (λ (s : KeptModel _). ReplyNamed s.engine.names w.in-Ok.reply) c.self.view_is (answer_named e c.args.session c.args.request w.in-Ok.reply of nodes tables w.in-Ok.ensures.reply))
      | in-Err-Full w ↦ search rules
      | in-Err-Unsure w ↦ search rules
      | in-Err-OutOfMemory w ↦ search rules
    ]

pub returns-clause-reply : goal.returns-clause-reply
returns-clause-reply g c =
    elim c.match-ask.branch [
      | in-Ok w ↦ search rules
      | in-Err-Full w ↦
          let lacks : LacksRoom (stored_of c.self.inside.store) c.args.session c.args.request = lacks_room c.self.inside.store c.args.session c.args.request
          (w.in-Err-Full.ensures.full (search rules)) in
          rw w.result-is (search rules, subst (λ (s : KeptModel _). LacksRoom (stored_of s) c.args.session c.args.request) c.self.view_is lacks)
      | in-Err-Unsure w ↦ search rules
      | in-Err-OutOfMemory w ↦ search rules
    ]
