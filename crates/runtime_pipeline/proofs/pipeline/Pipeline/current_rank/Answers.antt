use Rattle.std.proofs.Common.{◌≡◌, ◌∙◌, ap, sym, ℕ, List, [], get_or}
use Rattle.teb_rules.specs.declared.names.Kind.{Kind}
use Rattle.teb_rules.specs.history.Phases.{kind_of}
use Rattle.teb_rules.specs.Setup.{profile}
use Rattle.teb_rules.specs.Steps.{cursor, rank_of_step, rank_of_table}
use Rattle.phase_api.specs.FactsView.{setup_of, events_of}
use Rattle.cursor_book.proofs.Moves.{cursor_at}
use Rattle.runtime_pipeline.proofs.Said.{has_cursor}
use Rattle.runtime_pipeline.proofs.Noting.{kind_is, profile_is}
use Rattle.runtime_pipeline.proofs.pipeline.Pipeline.current_rank.Goals as goal

pub cursor-step-requires-clause-begun : goal.cursor-step-requires-clause-begun
cursor-step-requires-clause-begun c = (has_cursor _ _ _ _ c.requires.stands.register.book.orderly c.requires.stands.cursors c.requires.typed.begun).1

pub returns : goal.returns
unfolding rank_of_step
returns c =
    let S = setup_of c.args.facts.now in
    let H = events_of c.args.facts.now in
    let n = c.args.self.now.register.node.0 in
    let u = c.args.u.0 in
    let m = c.requires.stands.register.book.orderly.numbered u c.requires.typed.begun in
    let at : c.from.result ≡ kind_of H u = c.from.ensures ∙ ap (λ (k : Kind). k.0) (kind_is H u c.in-Some.kind c.requires.typed.begun (sym c.in-Some.is ∙ c.kind.ensures)) in
    let steps : c.index-facts-from.result ≡ profile S (kind_of H u) = profile_is S (kind_of H u) c.from.result c.index-facts-from.result c.requires.stands.profiled c.requires.typed.kind at
    c.index-facts-from.is in
    let step : c.cursor-step.result ≡ cursor S H u = c.cursor-step.ensures ∙ cursor_at _ S H u c.requires.stands.cursors m.0 m.1 in
    let first = c.first_table.ensures ∙ ap (λ (p : List (List ℕ)). get_or (get_or p c.cursor-step.result []) 0 0) (sym c.index-facts-from.is ∙ steps)
    ∙ ap (λ (k : ℕ). get_or (get_or (profile S (kind_of H u)) k []) 0 0) step in
    c.rank.ensures ∙ c.requires.stands.ranks c.first_table.result.0 ∙ ap (rank_of_table S n) first
