use Rattle.std.proofs.Common.{ℕ, ◌≡◌, ◌≤◌, true, IfSome, rules, sym, ◌∙◌, subst}
use Rattle.teb_rules.specs.Versions.{precedes}
use Rattle.phase_api.specs.FactsView.{setup_of, events_of}
use Rattle.candidate_reads.specs.declared.placing.Place.{Place}
use Rattle.candidate_reads.proofs.Meets.{later_than_all}
use Rattle.candidate_reads.proofs.Placed.{IsPlaced, IsFound, found_counted, placed}
use Rattle.candidate_reads.proofs.placing.place_behind.Goals as goal

pub place_from-requires : goal.place_from-requires
place_from-requires g c = subst (λ (n : ℕ). IfSome c.own_or_last-found.result (λ v. v.at ≤ n)) (sym c.begun.ensures)
    (found_counted (setup_of c.args.facts.now) (events_of c.args.facts.now) (g.C.Chains.lists c.args.chains.now) c.requires.lawful c.requires.chains c.args.cell c.own_or_last-found.result
    c.own_or_last-found.ensures.version)

pub returns : goal.returns
returns g c =
    let S = setup_of c.args.facts.now in
    let H = events_of c.args.facts.now in
    let L = g.C.Chains.lists c.args.chains.now in
    let x = c.args.cell in
    let t = c.args.t.0 in
    let last = c.own_or_last-found.ensures.place (λ w. precedes S H x w t) (λ none u b there called. let yes : b ≡ true = search rules in yes ∙
    later_than_all c.args.facts.now x u.0 t c.requires.tree c.requires.lawful (sym (c.requires.chains.writers x u.0) ∙ there) c.requires.typed c.requires.path
    (sym (c.requires.chains.writers x t) ∙ none) c.requires.kept) in
    let found : IsFound S H x t (L x) c.own_or_last-found.result = (last, c.own_or_last-found.ensures.version) in
    let p = subst (λ (p : Place). IsPlaced S H x t (L x) p) (sym c.place_from.ensures)
    (placed S H L c.requires.lawful c.requires.chains x c.requires.tree t c.requires.kept c.requires.writes c.own_or_last-found.result found) in
    record { place = p.0; own = p.1; there = p.2 }
