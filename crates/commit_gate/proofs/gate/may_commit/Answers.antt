use Rattle.std.proofs.Common.{◌≡◌, false, true, ◌<◌, ◌∙◌, sym, ap, subst}
use Rattle.teb_rules.specs.declared.names.Spot.{Spot}
use Rattle.teb_rules.specs.Tree.{path}
use Rattle.teb_rules.specs.Stops.{commit_stop, on_commit, stop_of}
use Rattle.teb_rules.proofs.lemmas.laws.Sound.{tree_facts}
use Rattle.phase_api.specs.FactsView.{setup_of, events_of}
use Rattle.dependency_book.proofs.OrderlyHistories.{unfinished_parts}
use Rattle.dependency_book.proofs.Sources.{sources_standing}
use Rattle.commit_gate.specs.Ways.{IsWay}
use Rattle.commit_gate.proofs.CommitWaits.{path_way, typed_now}
use Rattle.commit_gate.proofs.gate.may_commit.Goals as goal

pub path-requires : goal.path-requires
path-requires g c =
    let f = c.args.facts.now in
    let typed = typed_now f c.args.t.0 c.requires.lawful c.requires.unfinished in
    subst (λ (s : Spot). s.kind.0 < f.tree.now.types) (sym c.in-Some.ensures.spot) typed.kind

pub stop_along-requires-clause-asked : goal.stop_along-requires-clause-asked
stop_along-requires-clause-asked g c =
    let H = events_of c.args.facts.now in
    record {
      tree = c.requires.tree;
      lawful = c.requires.lawful;
      controls = c.requires.controls;
      orderly = c.requires.book.orderly;
      read_from = c.read_from.ensures ∙ c.requires.book.sources c.args.t ∙ sources_standing H c.args.t (unfinished_parts H c.args.t.0 c.requires.unfinished).2;
      unfinished = c.requires.unfinished;
    }

pub stop_along-requires-clause-way : goal.stop_along-requires-clause-way
stop_along-requires-clause-way g c =
    let f = c.args.facts.now in
    let typed = typed_now f c.args.t.0 c.requires.lawful c.requires.unfinished in
    let nodes = c.path.ensures.nodes ∙ ap (λ (s : Spot). path (setup_of f).tree s) c.in-Some.ensures.spot in
    subst (IsWay f c.args.t.0) (sym nodes) (path_way f (tree_facts (setup_of f) c.requires.tree) c.args.t.0 typed)

pub returns : goal.returns
unfolding commit_stop
returns g c =
    let f = c.args.facts.now in
    let nodes = c.path.ensures.nodes ∙ ap (λ (s : Spot). path (setup_of f).tree s) c.in-Some.ensures.spot in
    c.stop_along.ensures ∙ ap (stop_of (on_commit (setup_of f) (events_of f) c.args.t.0)) nodes

pub unreachable-requires : goal.unreachable-requires
unreachable-requires g c =
    let begun = (typed_now c.args.facts.now c.args.t.0 c.requires.lawful c.requires.unfinished).begun in
    let is_some = c.in-None.ensures.begun in
    let none : false ≡ true = is_some.1 begun in cc
