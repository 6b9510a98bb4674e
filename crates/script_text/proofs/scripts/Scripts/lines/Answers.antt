use Rattle.std.proofs.Common.{◌<◌, length, Some, sym, ap, ◌∙◌, arith, option_map, slice_get}
use Rattle.script_text.specs.Lists.{lists_in}
use Rattle.script_text.proofs.SessionLists.{length-paired, script_at}
use Rattle.script_text.proofs.scripts.Scripts.lines.Goals as goal

pub returns : goal.returns
returns c =
    let sessions = c.self.inside.sessions.items in
    let lists = c.self.inside.lists.items in
    let here : c.args.i < length sessions = omega (arith, ap length c.self.view_is, length-paired sessions (lists_in lists)) in
    let there : c.place.result < length lists = omega (arith, c.self.inside.lists.ok.0, c.self.invariant) in
    ap (λ v. option_map (λ s. s.1) (slice_get v c.args.i)) (sym c.self.view_is)
    ∙ script_at sessions lists _ _ _ _ here c.index.ensures c.place.ensures.place there c.index-2.ensures
    ∙ ap (λ l. Some l) (sym c.deref.ensures.value)
