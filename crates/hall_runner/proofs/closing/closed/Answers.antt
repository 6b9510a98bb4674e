use Rattle.std.proofs.Common.{ap}
use Rattle.session_server.proofs.Numbers.{has_all}
use Rattle.session_server.specs.Outfits.{Fitted}
use Rattle.hall_runner.proofs.Closed.{all_named, serialized_over, are_served}
use Rattle.hall_runner.proofs.Walks.{walks_of, others_of}
use Rattle.hall_runner.proofs.closing.closed.Goals as goal

pub close-engine-requires-clause-all : goal.close-engine-requires-clause-all
close-engine-requires-clause-all c = has_all _ c.requires.sessions

pub output_of-requires : goal.output_of-requires
output_of-requires c = all_named _ _ _ _ c.requires.setup _ _ (ap (λ (f : Fitted). f.store) c.close-engine.ensures.base) (ap (λ (f : Fitted). f.names) c.close-engine.ensures.base)
    c.close-engine.ensures.history

pub returns-clause-serialized : goal.returns-clause-serialized
returns-clause-serialized c = serialized_over _ _ _ _ c.requires.setup _ _ (ap (λ (f : Fitted). f.store) c.close-engine.ensures.base) (ap (λ (f : Fitted). f.names) c.close-engine.ensures.base)
    c.close-engine.ensures.history c.in_ok-output.output c.in_ok-output.ensures.run.1

pub returns-clause-served : goal.returns-clause-served
returns-clause-served c =
    are_served _ _ _ _ c.requires.setup _ _ (ap (λ (f : Fitted). f.store) c.close-engine.ensures.base) (ap (λ (f : Fitted). f.names) c.close-engine.ensures.base) c.close-engine.ensures.history
    c.args.scripts.now c.in_ok-output.output c.close-engine.ensures.legal
    (walks_of c.args.hall c.args.scripts.now _ c.args.passes.items c.requires.sessions c.requires.served c.close-engine.ensures.passes c.requires.ascending)
    (others_of c.args.hall c.args.scripts.now _ c.args.passes.items c.requires.sessions c.requires.served c.close-engine.ensures.passes c.close-engine.ensures.sessions)
    c.in_ok-output.ensures.run c.in_ok-output.ensures.audited
