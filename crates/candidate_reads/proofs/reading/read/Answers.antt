use Rattle.std.proofs.Common.{◌∙◌}
use Rattle.phase_api.specs.FactsView.{setup_of, events_of}
use Rattle.candidate_reads.proofs.Sources.{read_found, read_nothing}
use Rattle.candidate_reads.proofs.reading.read.Goals as goal

pub returns-in-Some : goal.returns-in-Some
returns-in-Some g c =
    let r = read_found (setup_of c.args.facts.now) c.args.rows.now (events_of c.args.facts.now) c.args.t.0 c.args.cell (g.C.Chains.lists c.args.chains.now) c.requires.lawful c.requires.chains
    c.requires.kept
    c.in-Some.found.at (c.in-Some.found.writer, c.in-Some.found.value) c.in-Some.ensures.place c.in-Some.ensures.version in
    record { source = r.0; value = r.1 }

pub returns-in-None : goal.returns-in-None
returns-in-None g c =
    let r = read_nothing (setup_of c.args.facts.now) c.args.rows.now (events_of c.args.facts.now) c.args.t.0 c.args.cell (g.C.Chains.lists c.args.chains.now) c.requires.lawful c.requires.chains
    c.requires.kept c.in-None.ensures.place in
    record { source = r.0; value = c.get.ensures ∙ r.1 }
