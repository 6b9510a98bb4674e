use Rattle.std.proofs.Common.{◌∙◌, ℕ, Option, None, Some, sym, ap, subst}
use Rattle.std.proofs.lemmas.Bool.{both_ways}
use Rattle.teb_rules.specs.Tree.{is_timestamp}
use Rattle.version_chain.specs.Lists.{writers_of}
use Rattle.phase_api.specs.FactsView.{setup_of, events_of}
use Rattle.phase_api.specs.Versions.{IsToldPlace}
use Rattle.timestamp_node.proofs.Said.{stamps_write}
use Rattle.timestamp_node.proofs.stamps.StampsControl.before_write.Goals as goal

pub reader_after-requires-clause-at : goal.reader_after-requires-clause-at
reader_after-requires-clause-at g c = subst (λ (o : Option ℕ). IsToldPlace (setup_of c.args.facts.now) (events_of c.args.facts.now) c.args.self.now.node.0 c.args.cell c.args.t.0 o
    (writers_of (g.C.Chains.lists c.args.chains.now c.args.cell))) c.in-Some.is c.requires.at

pub unreachable-requires : goal.unreachable-requires
unreachable-requires g c = both_ways _
    (subst (λ (o : Option ℕ). IsToldPlace (setup_of c.args.facts.now) (events_of c.args.facts.now) c.args.self.now.node.0 c.args.cell c.args.t.0 o
    (writers_of (g.C.Chains.lists c.args.chains.now c.args.cell))) c.in_default.is c.requires.at)
    (ap is_timestamp c.requires.stands.kind)

pub returns-in-Some-reader_after : goal.returns-in-Some-reader_after
returns-in-Some-reader_after g c = stamps_write (setup_of c.args.facts.now) (events_of c.args.facts.now) c.args.self.now.node.0 c.requires.stands.kind c.args.t.0 c.args.cell
    (Some c.in-Some-reader_after.reader) (sym c.in-Some-reader_after.is ∙ c.reader_after.ensures)

pub returns-in-None : goal.returns-in-None
returns-in-None g c = stamps_write (setup_of c.args.facts.now) (events_of c.args.facts.now) c.args.self.now.node.0 c.requires.stands.kind c.args.t.0 c.args.cell None
    (sym c.in-None.is ∙ c.reader_after.ensures)
