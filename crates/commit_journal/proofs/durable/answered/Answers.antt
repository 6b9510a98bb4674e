use Rattle.std.proofs.Common.{◌≡◌, ◌+◌, List, length, refl, arith, rules}
use Rattle.teb_rules.specs.declared.names.Reply.TheVariants.{Committed}
use Rattle.crash_disk.specs.Disk.{LeavesOnly}
use Rattle.crash_disk.specs.Sizes.{default_capacity}
use Rattle.record_journal.specs.Format.{Record, recovered, Whole}
use Rattle.record_journal.specs.Journal.{StandsFor}
use Rattle.record_journal.specs.Kept.{Keeps}
use Rattle.record_journal.proofs.Moments.{started}
use Rattle.commit_journal.specs.Answered.{told, committed}
use Rattle.commit_journal.specs.Whole.{HasFirst}
use Rattle.commit_journal.proofs.Answered.{commits, commits_reply, is_some, fits_in, of_before, of_behind, same_but_events, keeps_quiet}
use Rattle.commit_journal.proofs.durable.answered.Goals as goal

pub returns-then-ne-clause-keeps : goal.returns-then-ne-clause-keeps
returns-then-ne-clause-keeps g c =
    let other : (c.ask-reply.result ≡ Committed → ⊥) = search rules in
    let asked = c.ask-reply.ensures in
    keeps_quiet g.D.Disk.seen g.D.Disk.may_leave _ _ _ _ _ c.args.session c.args.request c.ask-reply.result
    c.requires.keeps asked.store asked.reply asked.events other

pub returns-then-ne-clause-answered : goal.returns-then-ne-clause-answered
returns-then-ne-clause-answered g c =
    let d = g.D.Disk in
    let other : (c.ask-reply.result ≡ Committed → ⊥) = search rules in
    let asked = c.ask-reply.ensures in
    let two = c.ask-reply.new.self in
    let j = c.args.journal.now in
    let kept = keeps_quiet d.seen d.may_leave _ two.store _ two.events j c.args.session c.args.request c.ask-reply.result
    c.requires.keeps asked.store asked.reply asked.events other in
    record {
      store = record { store = asked.store; names = asked.names };
      events = asked.events;
      reply = asked.reply;
      any_moment = started d.moment d.left_since j.disk (HasFirst two.store two.events j.progress.acknowledged)
          (λ image left. kept.each image (g.met.D.Disk.only_now j.disk image left));
      effect = told other (same_but_events c.args.engine.now two j asked.store asked.names);
    }

pub append-requires-clause-some : goal.append-requires-clause-some
append-requires-clause-some g c =
    let e = c.args.engine.now in
    let two = c.ask-reply.new.self in
    let is : c.ask-reply.result ≡ Committed = search rules in
    let commit = commits e.store e.events two.events c.args.session c.args.request c.ask-reply.result c.ask-reply.ensures.reply c.ask-reply.ensures.events is in
    is_some e.store e.events two.events c.args.session c.args.request c.args.body.now commit c.requires.body

pub append-requires-clause-room : goal.append-requires-clause-room
append-requires-clause-room g c =
    let e = c.args.engine.now in
    let two = c.ask-reply.new.self in
    let is : c.ask-reply.result ≡ Committed = search rules in
    let commit = commits e.store e.events two.events c.args.session c.args.request c.ask-reply.result c.ask-reply.ensures.reply c.ask-reply.ensures.events is in
    omega (arith, fits_in e.store e.events two.events c.args.session c.args.request c.args.body.now commit c.requires.body _ c.requires.fits)

pub returns-in-Ok-clause-keeps : goal.returns-in-Ok-clause-keeps
returns-in-Ok-clause-keeps g c =
    let d = g.D.Disk in
    let e = c.args.engine.now in
    let two = c.ask-reply.new.self in
    let is : c.ask-reply.result ≡ Committed = search rules in
    let asked = c.ask-reply.ensures in
    let commit = commits e.store e.events two.events c.args.session c.args.request c.ask-reply.result asked.reply asked.events is in
    of_behind e.store e.events two.events c.args.session c.args.request c.args.body.now commit c.requires.body d.seen d.may_leave
    two.store c.args.journal.now (λ (rs : List Record). Keeps d.seen d.may_leave rs c.append.new.self) asked.store c.append.ensures.kept c.requires.keeps

pub returns-in-Ok-clause-answered : goal.returns-in-Ok-clause-answered
returns-in-Ok-clause-answered g c =
    let d = g.D.Disk in
    let e = c.args.engine.now in
    let two = c.ask-reply.new.self in
    let is : c.ask-reply.result ≡ Committed = search rules in
    let asked = c.ask-reply.ensures in
    let j = c.args.journal.now in
    let k = c.append.new.self in
    let commit = commits e.store e.events two.events c.args.session c.args.request c.ask-reply.result asked.reply asked.events is in
    let calls = c.in-Ok.ensures.calls in
    let size = length c.args.body.now in
    record {
      store = record { store = asked.store; names = asked.names };
      events = asked.events;
      reply = asked.reply;
      any_moment = of_behind e.store e.events two.events c.args.session c.args.request c.args.body.now commit c.requires.body d.seen d.may_leave
          two.store j (λ (rs : List Record). LeavesOnly d.moment d.left_since j.disk k.disk (StandsFor default_capacity j.progress.acknowledged rs))
          asked.store c.append.ensures.any_moment c.requires.keeps;
      effect = committed (record {
        answered = commits_reply e.store e.events c.args.session c.args.request c.ask-reply.result asked.reply is;
        txn = commit.number;
        asked = commit.asked;
        size = size + 1;
        few = (c.requires.body commit.number commit.asked).1;
        ok = (is, c.in-Ok.ensures.acknowledged.0, c.in-Ok.ensures.acknowledged.1, omega (arith, c.in-Ok.ensures.end));
        err = tt;
        cause = record { later = c.in-Ok.ensures.cause.later; failed = tt };
        calls = record { up_to = calls.up_to; all = calls.all; sure = calls.sure; fails = calls.fails };
      });
    }

pub returns-in-Err-clause-keeps : goal.returns-in-Err-clause-keeps
returns-in-Err-clause-keeps g c =
    let d = g.D.Disk in
    let e = c.args.engine.now in
    let two = c.ask-reply.new.self in
    let is : c.ask-reply.result ≡ Committed = search rules in
    let asked = c.ask-reply.ensures in
    let commit = commits e.store e.events two.events c.args.session c.args.request c.ask-reply.result asked.reply asked.events is in
    of_behind e.store e.events two.events c.args.session c.args.request c.args.body.now commit c.requires.body d.seen d.may_leave
    two.store c.args.journal.now (λ (rs : List Record). Keeps d.seen d.may_leave rs c.append.new.self) asked.store c.append.ensures.kept c.requires.keeps

pub returns-in-Err-clause-answered : goal.returns-in-Err-clause-answered
returns-in-Err-clause-answered g c =
    let d = g.D.Disk in
    let e = c.args.engine.now in
    let two = c.ask-reply.new.self in
    let is : c.ask-reply.result ≡ Committed = search rules in
    let asked = c.ask-reply.ensures in
    let j = c.args.journal.now in
    let k = c.append.new.self in
    let commit = commits e.store e.events two.events c.args.session c.args.request c.ask-reply.result asked.reply asked.events is in
    let calls = c.in-Err.ensures.calls in
    let safe = of_before e.store e.events two.events c.args.session c.args.request c.args.body.now commit c.requires.body d.seen d.may_leave
    j (λ (rs : List Record). recovered default_capacity (d.safe k.disk) ≡ Whole rs) c.in-Err.ensures.not_added c.requires.keeps in
    let size = length c.args.body.now in
    record {
      store = record { store = asked.store; names = asked.names };
      events = asked.events;
      reply = tt;
      any_moment = of_behind e.store e.events two.events c.args.session c.args.request c.args.body.now commit c.requires.body d.seen d.may_leave
          two.store j (λ (rs : List Record). LeavesOnly d.moment d.left_since j.disk k.disk (StandsFor default_capacity j.progress.acknowledged rs))
          asked.store c.append.ensures.any_moment c.requires.keeps;
      effect = committed (record {
        answered = commits_reply e.store e.events c.args.session c.args.request c.ask-reply.result asked.reply is;
        txn = commit.number;
        asked = commit.asked;
        size = size + 1;
        few = (c.requires.body commit.number commit.asked).1;
        ok = tt;
        err = (refl, c.in-Err.ensures.not_acknowledged.0, c.in-Err.ensures.not_acknowledged.1, safe);
        cause = record { later = c.in-Err.ensures.cause.later; failed = c.in-Err.ensures.cause.failed };
        calls = record { up_to = calls.up_to; all = calls.all; sure = calls.sure; fails = calls.fails };
      });
    }
