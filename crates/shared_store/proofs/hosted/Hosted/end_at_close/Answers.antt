use Rattle.std.proofs.Common.{refl}
use Rattle.teb_rules.specs.declared.names.Request.TheVariants.{End}
use Rattle.shared_store.specs.declared.entry.TheConstants.{LOG_SEAT}
use Rattle.shared_store.specs.Stages.{first_stage}
use Rattle.shared_store.proofs.Adding.{asks_taken, closes_for}
use Rattle.shared_store.proofs.hosted.Hosted.end_at_close.Goals as goal

pub returns-clause-more : goal.returns-clause-more
returns-clause-more g c =
    let old = c.args.self.now in
    closes_for (first_stage (g.S.EpochServer.standing old.first.value)) (record { 0 = LOG_SEAT }) c.args.session End old.entries.items c.put.new.self.entries.items refl c.requires c.put.result
    c.put.ensures.adds

pub returns-clause-taken : goal.returns-clause-taken
returns-clause-taken g c =
    let old = c.args.self.now in
    asks_taken (first_stage (g.S.EpochServer.standing old.first.value)) (record { 0 = LOG_SEAT }) c.args.session End c.put.result old.entries.items c.put.new.self.entries.items c.put.ensures.adds
