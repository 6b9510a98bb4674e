use Rattle.std.proofs.Common.{subst}
use Rattle.commit_laws.specs.Commits.{commit_count}
use Rattle.epoch_journal.specs.Group.{GroupState}
use Rattle.engine_store.specs.Halves.{AreCommitsSince}
use Rattle.store_server.proofs.server.StoreServerEpochServer.write.Goals as goal

pub returns-in-Ok-clause-kept : goal.returns-in-Ok-clause-kept
returns-in-Ok-clause-kept g c X H G keeps brings = (c.in-Ok.ensures.running, c.in-Ok.ensures.kept X H G keeps brings)

pub returns-clause-not_kept : goal.returns-clause-not_kept
returns-clause-not_kept g c X H G keeps brings = (c.in-Err.ensures.stopped, c.in-Err.ensures.not_kept X H G keeps brings)
