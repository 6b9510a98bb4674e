use Rattle.std.proofs.Common.{◌∙◌, Bool, cond, [], ap}
use Rattle.phase_api.specs.FactsView.{events_of}
use Rattle.snapshot_node.proofs.Accessed.{accesses_of}
use Rattle.snapshot_node.proofs.asked.Asked.accesses.Goals as goal

pub accesses-requires : goal.accesses-requires
accesses-requires c = (c.args.self.now.stands.orderly.numbered c.args.t.0 c.requires.typed.begun).0

pub returns : goal.returns
returns c = record {
  book = c.accesses.ensures.book;
  left = c.accesses.ensures.left ∙ c.args.self.now.stands.touched c.args.t.0 ∙ ap (λ (b : Bool). cond b (accesses_of (events_of c.args.self.now.facts.now) c.args.t.0) []) c.requires.on;
}
