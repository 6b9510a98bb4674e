use Rattle.std.proofs.Common.{Err, ap, ◌∙◌}
use Rattle.teb_rules.specs.declared.names.Reply.TheVariants.{Committed}
use Rattle.turn_lock.specs.Seats.{view_of}
use Rattle.shared_store.specs.declared.error.AskError.{AskError}
use Rattle.shared_store.specs.Gaining.{SafeAt}
use Rattle.shared_store.specs.Sharing.{base_of}
use Rattle.shared_store.proofs.Answered.{answered, gains_call, gains_no_reply, gains_unasked, gains_unsure, not_told, safe, safe_commit, unasked, was_free}
use Rattle.shared_store.proofs.Results.{if_ok}
use Rattle.shared_store.proofs.session.StoreSession.ask.Goals as goal

pub returns-in-Ok-clause-answered : goal.returns-in-Ok-clause-answered
returns-in-Ok-clause-answered g c =
    let old = c.args.self.now in
    let b = base_of c.args.store.now in
    let t = c.ask_through.ensures in
    λ r e. answered b old c.ask_through.new.self t.same.1 t.same.0 c.requires.session.1 2 t.turn c.args.request r
    (gains_call b old.session c.args.request (view_of old.seat) (view_of c.ask_through.new.self.seat) c.ask_through.result c.in-Ok.reply r c.in-Ok.is e t.gains)

pub returns-in-Ok-clause-kept : goal.returns-in-Ok-clause-kept
returns-in-Ok-clause-kept g c =
    let b = base_of c.args.store.now in
    let t = c.ask_through.ensures in
    let new = c.ask_through.new.self in
    λ e. safe b _ (safe_commit (SafeAt b (view_of new.seat).seen (view_of new.log_seat).seen) c.ask_through.result c.in-Ok.reply c.in-Ok.is e t.safe)

pub returns-in-Ok-clause-no_reply : goal.returns-in-Ok-clause-no_reply
returns-in-Ok-clause-no_reply g c =
    let old = c.args.self.now in
    let b = base_of c.args.store.now in
    let t = c.ask_through.ensures in
    λ n. unasked b old c.ask_through.new.self t.same.1 t.same.0 c.requires.session.1 2 t.turn
    (gains_no_reply b old.session c.args.request (view_of old.seat) (view_of c.ask_through.new.self.seat) c.ask_through.result c.in-Ok.reply c.in-Ok.is n t.gains)

pub returns-in-Ok-clause-later : goal.returns-in-Ok-clause-later
returns-in-Ok-clause-later g c =
    let old = c.args.self.now in
    let b = base_of c.args.store.now in
    let new = c.ask_through.new.self in
    λ e. let late = if_ok _ c.ask_through.result c.in-Ok.reply c.in-Ok.is c.ask_through.ensures.later e in (late.0, was_free b old new late.1)

pub returns-in-Err-Unsure-clause-unsure : goal.returns-in-Err-Unsure-clause-unsure
returns-in-Err-Unsure-clause-unsure g c =
    let old = c.args.self.now in
    let b = base_of c.args.store.now in
    let t = c.ask_through.ensures in
    λ _. answered b old c.ask_through.new.self t.same.1 t.same.0 c.requires.session.1 2 t.turn c.args.request Committed
    (gains_unsure b old.session c.args.request (view_of old.seat) (view_of c.ask_through.new.self.seat) c.ask_through.result
    (c.in-Err-Unsure.is ∙ ap (λ (f : AskError). Err f) c.in-Err-Unsure.field-0-is) t.gains)

pub returns-in-Err-Unsure-clause-not_told : goal.returns-in-Err-Unsure-clause-not_told
returns-in-Err-Unsure-clause-not_told g c =
    let b = base_of c.args.store.now in
    λ _. not_told b c.args.self.now _ (c.ask_through.ensures.not_told (c.in-Err-Unsure.is ∙ ap (λ (f : AskError). Err f) c.in-Err-Unsure.field-0-is))

pub returns-in-Err-Unasked-clause-unasked : goal.returns-in-Err-Unasked-clause-unasked
returns-in-Err-Unasked-clause-unasked g c =
    let old = c.args.self.now in
    let b = base_of c.args.store.now in
    let t = c.ask_through.ensures in
    λ _ _. unasked b old c.ask_through.new.self t.same.1 t.same.0 c.requires.session.1 2 t.turn
    (gains_unasked b old.session c.args.request (view_of old.seat) (view_of c.ask_through.new.self.seat) c.ask_through.result c.in-Err-Unasked.error
    (c.in-Err-Unasked.is ∙ ap (λ (f : AskError). Err f) c.in-Err-Unasked.field-0-is) t.gains)
