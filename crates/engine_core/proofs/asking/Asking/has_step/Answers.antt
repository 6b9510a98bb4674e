use Rattle.std.proofs.Common.{◌≡◌, ◌≤◌, ◌<◌, ℕ, List, [], get_or, arith, ap, ap₂, ◌∙◌, is_some, length}
use Rattle.std.proofs.lemmas.List.{get_or_default}
use Rattle.teb_rules.specs.declared.names.Spot.{Spot}
use Rattle.teb_rules.specs.Setup.{profile}
use Rattle.phase_api.specs.FactsView.{setup_of, events_of}
use Rattle.teb_rules.specs.history.Phases.{begun_count, kind_of}
use Rattle.teb_rules.specs.Steps.{least_step, cursor}
use Rattle.cursor_book.proofs.Moves.{length-cursors, cursor_at}
use Rattle.engine_core.proofs.Running.{unfinished_numbered, unfinished_typed}
use Rattle.engine_core.proofs.asking.Asking.has_step.Goals as goal

pub cursor-requires-clause-above : goal.cursor-requires-clause-above
cursor-requires-clause-above g c =
    let f = c.args.self.now.view.now.facts in
    let t = c.args.self.now.txn.0 in
    (unfinished_numbered (setup_of f) (events_of f) t c.args.self.now.view.now.whole.whole.lawful c.args.self.now.runs).0

pub cursor-requires-clause-begun : goal.cursor-requires-clause-begun
cursor-requires-clause-begun g c =
    let f = c.args.self.now.view.now.facts in
    let t = c.args.self.now.txn.0 in
    let e : length c.args.self.now.view.now.state.now.cursors.cursors ≡ begun_count (events_of f) = length-cursors _ (setup_of f) _ c.args.self.now.view.now.whole.whole.cursors in
    let b : t ≤ begun_count (events_of f) = (unfinished_numbered (setup_of f) (events_of f) t c.args.self.now.view.now.whole.whole.lawful c.args.self.now.runs).1 in
    omega arith

pub bounds-view-from : goal.bounds-view-from
bounds-view-from g c =
    let f = c.args.self.now.view.now.facts in
    let t = c.args.self.now.txn.0 in
    let k = c.from.ensures ∙ ap (λ (s : Spot). s.kind.0) c.args.self.now.start in
    omega (arith, k, unfinished_typed (setup_of f) (events_of f) t c.args.self.now.view.now.whole.whole.lawful c.args.self.now.runs, c.args.self.now.view.now.whole.whole.profiled)

pub returns : goal.returns
returns g c =
    let f = c.args.self.now.view.now.facts in
    let t = c.args.self.now.txn.0 in
    let S = setup_of f in
    let H = events_of f in
    let n = unfinished_numbered S H t c.args.self.now.view.now.whole.whole.lawful c.args.self.now.runs in
    let k : c.from.result ≡ kind_of H t = c.from.ensures ∙ ap (λ (s : Spot). s.kind.0) c.args.self.now.start in
    let b : c.from.result < length f.profiles.now = omega
    (arith, k, unfinished_typed S H t c.args.self.now.view.now.whole.whole.lawful c.args.self.now.runs, c.args.self.now.view.now.whole.whole.profiled) in
    let q : get_or f.profiles.now c.from.result c.index-view-from.result ≡ profile S (kind_of H t) = get_or_default _ c.from.result _ [] b ∙ ap (profile S) k in
    let m : c.cursor.result ≡ cursor S H t = c.cursor.ensures ∙ cursor_at _ S H t c.args.self.now.view.now.whole.whole.cursors n.0 n.1 in
    let found : c.cursor_after.result ≡ least_step (profile S (kind_of H t)) (cursor S H t) c.args.table.0 = c.cursor_after.ensures
    ∙ ap₂ (λ (steps : List (List ℕ)) (at : ℕ). least_step steps at c.args.table.0) q m in
    c.is_some.ensures ∙ ap is_some found
