use Rattle.std.proofs.Common.{ℕ, List, eqb, Some, None, sym, ◌∙◌, ap, arith}
use Rattle.std.proofs.lemmas.List.{length-map}
use Rattle.teb_rules.specs.declared.history.Event.{Event}
use Rattle.version_chain.specs.Lists.{last_place, writers_of}
use Rattle.candidate_reads.proofs.InOrder.{is_last}
use Rattle.candidate_reads.proofs.Sources.{at-writer}
use Rattle.commit_journal.specs.Kept.{counts}
use Rattle.candidate_reads.proofs.Placed.{unfinished_stands}
use Rattle.commit_journal.proofs.Newest.{nobody, found}
use Rattle.commit_journal.proofs.commit.is_newest.Goals as goal

pub at-requires : goal.at-requires
at-requires g c =
    let versions = g.C.Chains.lists c.chains-chains.result.now c.args.cell in
    let place = is_last (counts c.history.result.now.events c.args.t.0) (writers_of versions) (Some c.in-Some.i) c.in-Some.ensures in
    omega (arith, place.0, length-map versions (λ v. v.0.0))

pub returns-in-Some : goal.returns-in-Some
returns-in-Some g c =
    let lists = g.C.Chains.lists c.chains-chains.result.now in
    let x = c.args.cell in
    let t = c.args.t.0 in
    let e = c.args.engine.now in
    let place = is_last (counts e.events t) (writers_of (lists x)) (Some c.in-Some.i)
    (c.in-Some.ensures ∙ ap (λ (P : List Event). last_place (counts P t) (writers_of (lists x))) c.history.ensures.events) in
    c.eq.ensures
    ∙ ap (λ (k : ℕ). eqb k t) (sym (at-writer (lists x) c.in-Some.i c.at.result c.at.ensures).0)
    ∙ sym (found e.store.setup e.events x lists c.history.ensures.lawful c.chains-chains.ensures t c.requires.put (unfinished_stands e.events t c.requires.unfinished) c.in-Some.i place)

pub returns-in-None : goal.returns-in-None
returns-in-None g c =
    let lists = g.C.Chains.lists c.chains-chains.result.now in
    let x = c.args.cell in
    let t = c.args.t.0 in
    let e = c.args.engine.now in
    absurd (nobody e.store.setup e.events x lists c.history.ensures.lawful c.chains-chains.ensures t c.requires.put (unfinished_stands e.events t c.requires.unfinished)
    (is_last (counts e.events t) (writers_of (lists x)) None (c.in-None.ensures ∙ ap (λ (P : List Event). last_place (counts P t) (writers_of (lists x))) c.history.ensures.events)))
