use Rattle.std.proofs.Common.{sym, ◌∙◌, ap}
use Rattle.session_server.proofs.Numbers.{has_all}
use Rattle.turn_lock.proofs.Written.{map_written}
use Rattle.hall_trials.proofs.on_disk.share.Goals as goal

pub end-server-requires-clause-all : goal.end-server-requires-clause-all
end-server-requires-clause-all g c =
    let length = c.run_sessions.auto.passes in
    has_all _ (map_written _ _ _ _ _ c.deref_mut.ensures.value length (sym c.deref_mut.ensures.len ∙ sym length) (λ i d l. ap (λ s. s.0) (c.run_sessions.ensures i d l).1) ∙ c.in-Ok.ensures.sessions)
