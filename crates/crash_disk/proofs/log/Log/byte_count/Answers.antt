use Rattle.std.proofs.Common.{rules, ◌≡◌, length, ◌∙◌, ap, sym}
use Rattle.crash_disk.specs.Log.{Logged}
use Rattle.crash_disk.proofs.Logged.{sizes}
use Rattle.crash_disk.proofs.log.Log.byte_count.Goals as goal

pub returns : goal.returns
returns c =
    let m = c.self.inside in
    let bytes : c.len.result ≡ length m.bytes.items = search rules in
    bytes ∙ sym (sizes m.calls.items m.bytes.items c.args.self.now.steps (ap (λ (l : Logged). l.steps) c.self.view_is) c.self.invariant.counted).1
