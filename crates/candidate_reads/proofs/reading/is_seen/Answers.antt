use Rattle.std.proofs.Common.{◌≡◌, ◌∙◌, ℕ, subst, true}
use Rattle.std.proofs.lemmas.Bool.{both_ways}
use Rattle.phase_api.specs.FactsView.{events_of}
use Rattle.phase_api.specs.Versions.{has_version}
use Rattle.candidate_reads.proofs.Meets.{writer_typed, pair_behind, sight_there}
use Rattle.candidate_reads.proofs.reading.is_seen.Goals as goal

pub control_between-requires-clause-right : goal.control_between-requires-clause-right
control_between-requires-clause-right g c = writer_typed c.args.facts.now c.args.cell c.args.w.0 c.requires.asked.lawful c.requires.version

pub sees-requires-clause-pair : goal.sees-requires-clause-pair
sees-requires-clause-pair g c = pair_behind c.args.facts.now c.args.cell (g.K.Control.node_number c.control_between.result.now) c.args.w.0 c.args.t.0 c.requires.asked.tree c.requires.asked.lawful
    c.requires.version c.requires.reads.typed c.requires.reads.kept c.control_between.ensures.meet

pub returns : goal.returns
returns g c = c.sees.ensures ∙ sight_there c.args.facts.now c.args.cell (g.K.Control.node_number c.control_between.result.now) c.args.w.0 c.args.t.0 c.requires.asked.tree c.requires.asked.lawful
    c.requires.version c.requires.reads.typed
    (λ e. both_ways _ c.requires.reads.absent (subst (λ (z : ℕ). has_version (events_of c.args.facts.now) c.args.cell z ≡ true) e c.requires.version)) c.control_between.ensures.meet
