use Rattle.std.proofs.Common.{ℕ, ◌<◌, ◌++◌, All, length, take, drop, sym, ◌∙◌, ap, subst}
use Rattle.std.proofs.Math.Seq.{take-append_seam}
use Rattle.shared_store.proofs.Numbers.{has_all}
use Rattle.shared_store.specs.Sharing.{IsSessionOf}
use Rattle.turn_lock.proofs.Written.{map_written}
use Rattle.embedded_shared.proofs.share.Goals as goal

pub close-server-requires-clause-sessions : goal.close-server-requires-clause-sessions
close-server-requires-clause-sessions g c =
    let new = c.run_clients.new.sessions in
    let rest = drop (length new) c.args.sessions.items in
    let same = c.run_clients.auto.sessions in
    let all = ap (λ (n : ℕ). take n (new ++ rest)) (sym c.deref_mut.ensures.len ∙ sym same) ∙ take-append_seam new rest in
    subst (All (IsSessionOf c.args.store)) (sym all) (λ k d l. (c.run_clients.ensures k d (subst (λ (n : ℕ). k < n) same l)).0)

pub close-server-requires-clause-all : goal.close-server-requires-clause-all
close-server-requires-clause-all g c =
    let same = c.run_clients.auto.sessions in
    has_all _ (map_written _ _ _ _ _ c.deref_mut.ensures.value same (sym c.deref_mut.ensures.len ∙ sym same) (λ i d l. ap (λ s. s.0) (c.run_clients.ensures i d l).1) ∙ c.requires.numbers)
