use Rattle.std.proofs.Common.{rules, ◌≡◌, ◌++◌, ◌∷◌, [], List, refl, sym, ap, subst}
use Rattle.teb_rules.specs.declared.names.Reply.TheVariants.{Committed}
use Rattle.teb_rules.specs.names.Rows.{row_of}
use Rattle.teb_rules.specs.Setup.{Store}
use Rattle.crash_disk.specs.Disk.{LeavesOnly}
use Rattle.record_journal.specs.Format.{Record}
use Rattle.epoch_journal.specs.Telling.{TellsOn}
use Rattle.epoch_store.proofs.Answering.{keeps_same, still}
use Rattle.epoch_store.proofs.store.answered.Goals as goal

pub returns-in-Ok-clause-keeps : goal.returns-in-Ok-clause-keeps
returns-in-Ok-clause-keeps g c =
    let d = g.D.Disk in
    let e = g.E.Recorder in
    let old = c.args.engine.now in
    let new = c.answer-reply.new.self in
    let j = c.args.journal.now in
    let is : c.answer-reply.result ≡ Committed = search rules in
    let record_of = c.answer-reply.ensures.commits c.args.body.now is c.requires.prepared in
    keeps_same d.seen d.may_leave (e.store old) (e.store new) (e.records old ++ record_of.0 ∷ []) (e.records new) _ c.append.new.self.acknowledged c.append.new.self
    c.answer-reply.ensures.store record_of.2 c.in-Ok.ensures.acknowledged.1
    (c.in-Ok.ensures.kept (row_of (e.store old).rows) (e.records old) j.acknowledged record_of.0 record_of.1 c.requires.keeps)

pub returns-in-Ok-clause-any_moment : goal.returns-in-Ok-clause-any_moment
returns-in-Ok-clause-any_moment g c =
    let d = g.D.Disk in
    let e = g.E.Recorder in
    let old = c.args.engine.now in
    let j = c.args.journal.now in
    let is : c.answer-reply.result ≡ Committed = search rules in
    let record_of = c.answer-reply.ensures.commits c.args.body.now is c.requires.prepared in
    subst (λ (x : Store × List Record). LeavesOnly d.moment d.left_since j.disk c.append.new.self.disk (TellsOn j.layout (row_of x.0.rows) x.1 j.acknowledged))
    (λ i. (sym c.answer-reply.ensures.store i, sym record_of.2 i))
    (c.append.ensures.any_moment (row_of (e.store old).rows) (e.records old) j.acknowledged record_of.0 record_of.1 c.requires.keeps)

pub returns-in-Err-clause-keeps : goal.returns-in-Err-clause-keeps
returns-in-Err-clause-keeps g c =
    let d = g.D.Disk in
    let e = g.E.Recorder in
    let old = c.args.engine.now in
    let new = c.answer-reply.new.self in
    let j = c.args.journal.now in
    let is : c.answer-reply.result ≡ Committed = search rules in
    let record_of = c.answer-reply.ensures.commits c.args.body.now is c.requires.prepared in
    keeps_same d.seen d.may_leave (e.store old) (e.store new) (e.records old ++ record_of.0 ∷ []) (e.records new) _ c.append.new.self.acknowledged c.append.new.self
    c.answer-reply.ensures.store record_of.2 c.in-Err.ensures.stopped.2
    (c.in-Err.ensures.not_added (row_of (e.store old).rows) (e.records old) j.acknowledged record_of.0 record_of.1 c.requires.keeps)

pub returns-in-Err-clause-any_moment : goal.returns-in-Err-clause-any_moment
returns-in-Err-clause-any_moment g c =
    let d = g.D.Disk in
    let e = g.E.Recorder in
    let old = c.args.engine.now in
    let j = c.args.journal.now in
    let is : c.answer-reply.result ≡ Committed = search rules in
    let record_of = c.answer-reply.ensures.commits c.args.body.now is c.requires.prepared in
    subst (λ (x : Store × List Record). LeavesOnly d.moment d.left_since j.disk c.append.new.self.disk (TellsOn j.layout (row_of x.0.rows) x.1 j.acknowledged))
    (λ i. (sym c.answer-reply.ensures.store i, sym record_of.2 i))
    (c.append.ensures.any_moment (row_of (e.store old).rows) (e.records old) j.acknowledged record_of.0 record_of.1 c.requires.keeps)

pub returns-then-ne-clause-any_moment : goal.returns-then-ne-clause-any_moment
returns-then-ne-clause-any_moment g c =
    let d = g.D.Disk in
    let e = g.E.Recorder in
    let old = c.args.engine.now in
    let new = c.answer-reply.new.self in
    let j = c.args.journal.now in
    let n = j.acknowledged in
    let other : (c.answer-reply.result ≡ Committed → ⊥) = search rules in
    still d.seen d.may_leave d.moment d.left_since (row_of (e.store new).rows) (e.records new) n j (g.met.D.Disk.only_now j.disk)
    (keeps_same d.seen d.may_leave (e.store old) (e.store new) (e.records old) (e.records new) n n j c.answer-reply.ensures.store (c.answer-reply.ensures.others other) refl c.requires.keeps)
