use Rattle.std.proofs.Common.{rules, ◌≡◌, [], ap, subst, sym, ◌∙◌}
use Rattle.turn_lock.specs.Counts.{HasAll}
use Rattle.turn_lock.specs.Views.{first_view}
use Rattle.turn_lock.specs.Seats.{base_in, owner_count, view_of}
use Rattle.shared_store.specs.declared.entry.TheConstants.{LOG_SEAT}
use Rattle.shared_store.specs.Hosting.{first_of}
use Rattle.shared_store.specs.Stages.{first_stage}
use Rattle.shared_store.proofs.Dealing.{all_back, log_keeps}
use Rattle.shared_store.proofs.Returning.{comes_back}
use Rattle.shared_store.proofs.store.Store.new.Goals as goal

pub new-requires-in-Ok-new-2-clause-kept : goal.new-requires-in-Ok-new-2-clause-kept
new-requires-in-Ok-new-2-clause-kept g c =
    let x = g.S.EpochServer.standing c.args.server in
    let b = first_stage (g.S.EpochServer.standing c.in-Ok-new.hosted.first.value) in
    let is : c.in-Ok-new.hosted.first.value ≡ c.args.server = search rules in
    let e : view_of c.in-Ok-new-2.seat ≡ first_view b 0 LOG_SEAT = search rules in
    log_keeps (g.S.EpochServer.keeps c.args.log) x b (view_of c.in-Ok-new-2.seat) (view_of c.split-given.result) (ap (λ s. first_stage (g.S.EpochServer.standing s)) is) c.requires.fresh e
    c.split-given.ensures.new.2 c.requires.kept

pub end-requires-clause-all : goal.end-requires-clause-all
end-requires-clause-all g c =
    let b = first_stage (g.S.EpochServer.standing c.in-Ok-new.hosted.first.value) in
    let e : view_of c.in-Ok-new-2.seat ≡ first_view b 0 LOG_SEAT = search rules in
    let same : c.into_parts-log.result.1 ≡ c.split-given.result = search rules in
    let count : owner_count c.in-Ok-new-2.turn ≡ LOG_SEAT = search rules in
    subst (λ n. HasAll n (view_of c.join.new.seat).owners) (sym count)
    (all_back b (view_of c.in-Ok-new-2.seat) (view_of c.split-given.new.seat) (view_of c.split-given.result) (view_of c.into_parts-log.result.1) (view_of c.join.new.seat) e c.split-given.ensures.old.2
    c.split-given.ensures.new.2 (ap view_of same) c.join.ensures.view)

pub returns-in-Err-new-2-clause-stands : goal.returns-in-Err-new-2-clause-stands
returns-in-Err-new-2-clause-stands g c =
    let y = g.S.EpochServer.standing c.args.server in
    let b = first_stage (g.S.EpochServer.standing c.in-Ok-new.hosted.first.value) in
    let e : view_of c.in-Ok-new-2.seat ≡ first_view b 0 LOG_SEAT = search rules in
    let same : c.into_parts-log.result.1 ≡ c.split-given.result = search rules in
    let count : owner_count c.in-Ok-new-2.turn ≡ LOG_SEAT = search rules in
    let is : c.in-Ok-new.hosted.first.value ≡ c.args.server = search rules in
    let base : base_in first_of c.in-Ok-new-2.turn ≡ b = search rules in
    let first : first_of c.end.result ≡ first_stage y = c.end.ensures.base ∙ (base ∙ ap (λ s. first_stage (g.S.EpochServer.standing s)) is) in
    let back = comes_back b (view_of c.in-Ok-new-2.seat) (view_of c.split-given.new.seat) (view_of c.split-given.result) (view_of c.into_parts-log.result.1) (view_of c.join.new.seat)
    c.end.result (owner_count c.in-Ok-new-2.turn) y count e c.split-given.ensures.old.2 c.split-given.ensures.new.2 (ap view_of same) c.join.ensures.view c.end.ensures.ends c.end.ensures.owned
    first c.requires.fresh in
    ap (λ s. g.S.EpochServer.standing s) c.into_server.ensures ∙ back.0

pub returns-in-Err-new-2-clause-waits : goal.returns-in-Err-new-2-clause-waits
returns-in-Err-new-2-clause-waits g c =
    let y = g.S.EpochServer.standing c.args.server in
    let b = first_stage (g.S.EpochServer.standing c.in-Ok-new.hosted.first.value) in
    let e : view_of c.in-Ok-new-2.seat ≡ first_view b 0 LOG_SEAT = search rules in
    let same : c.into_parts-log.result.1 ≡ c.split-given.result = search rules in
    let count : owner_count c.in-Ok-new-2.turn ≡ LOG_SEAT = search rules in
    let is : c.in-Ok-new.hosted.first.value ≡ c.args.server = search rules in
    let base : base_in first_of c.in-Ok-new-2.turn ≡ b = search rules in
    let first : first_of c.end.result ≡ first_stage y = c.end.ensures.base ∙ (base ∙ ap (λ s. first_stage (g.S.EpochServer.standing s)) is) in
    let back = comes_back b (view_of c.in-Ok-new-2.seat) (view_of c.split-given.new.seat) (view_of c.split-given.result) (view_of c.into_parts-log.result.1) (view_of c.join.new.seat)
    c.end.result (owner_count c.in-Ok-new-2.turn) y count e c.split-given.ensures.old.2 c.split-given.ensures.new.2 (ap view_of same) c.join.ensures.view c.end.ensures.ends c.end.ensures.owned
    first c.requires.fresh in
    subst (λ s. ∥ g.S.EpochServer.waits s [] ∥₁) (sym c.into_server.ensures) back.1
