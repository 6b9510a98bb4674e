use Rattle.std.proofs.Common.{◌∙◌, eqb, sym}
use Rattle.teb_rules.specs.Tree.{on}
use Rattle.teb_rules.specs.Batches.{start}
use Rattle.phase_api.specs.FactsView.{setup_of, events_of}
use Rattle.snapshot_node.proofs.Edges.{off_left, off_right, one_by_start, begun_place, started, unstarted}
use Rattle.snapshot_node.proofs.validation.Validation.are_one_batch.Goals as goal

pub returns-in_default : goal.returns-in_default
returns-in_default c =
    let S = setup_of c.args.self.now.asked.facts.now in
    let H = events_of c.args.self.now.asked.facts.now in
    let n = c.args.self.now.asked.register.now.node.0 in
    off_left S H n c.args.b.0 c.args.c.0
    (unstarted (on S H n c.args.b.0) (start S H n c.args.b.0) (sym c.in_default.is ∙ c.start_of.ensures S H n c.args.self.now.asked.stands.batches c.requires.begun_b))

pub returns-in_default-start_of : goal.returns-in_default-start_of
returns-in_default-start_of c =
    let S = setup_of c.args.self.now.asked.facts.now in
    let H = events_of c.args.self.now.asked.facts.now in
    let n = c.args.self.now.asked.register.now.node.0 in
    off_right S H n c.args.b.0 c.args.c.0
    (unstarted (on S H n c.args.c.0) (start S H n c.args.c.0) (sym c.in_default-start_of.is ∙ c.start_of-2.ensures S H n c.args.self.now.asked.stands.batches c.requires.begun_c))

pub returns : goal.returns
returns c =
    let S = setup_of c.args.self.now.asked.facts.now in
    let H = events_of c.args.self.now.asked.facts.now in
    let n = c.args.self.now.asked.register.now.node.0 in
    let x = started (on S H n c.args.b.0) (start S H n c.args.b.0) c.in-Some.start (sym c.in-Some.is ∙ c.start_of.ensures S H n c.args.self.now.asked.stands.batches c.requires.begun_b) in
    let y = started (on S H n c.args.c.0) (start S H n c.args.c.0) c.in-Some-start_of.other
    (sym c.in-Some-start_of.is ∙ c.start_of-2.ensures S H n c.args.self.now.asked.stands.batches c.requires.begun_c) in
    (λ j. eqb (x.1 j) (y.1 j)) ∙ one_by_start S H n c.args.self.now.lawful c.args.b.0 c.args.c.0 (begun_place H c.args.b.0 c.requires.begun_b) (begun_place H c.args.c.0 c.requires.begun_c) x.0 y.0
