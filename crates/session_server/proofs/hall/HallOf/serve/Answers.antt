use Rattle.std.proofs.Common.{◌≡◌, List, [], ◌∷◌, ◌++◌, Err, append-nil, refl, sym, ap, subst, ◌∙◌}
use Rattle.hall_server.specs.declared.error.ServerError.{ServerError}
use Rattle.hall_server.specs.declared.error.ServerError.TheVariants.{Unsure}
use Rattle.hall_server.specs.Told.{told}
use Rattle.session_server.specs.Growth.{own_of}
use Rattle.session_server.specs.Turning.{SeesMore}
use Rattle.teb_rules.specs.declared.names.Entry.{Entry}
use Rattle.teb_rules.specs.Scripts.{entries_of}
use Rattle.session_server.specs.Passes.{base_of}
use Rattle.session_server.proofs.Passing.{turn_finishes, turn_kept, sees_mine, one_mine}
use Rattle.session_server.proofs.hall.HallOf.serve.Goals as goal

pub returns-in-Ok-clause-ok : goal.returns-in-Ok-clause-ok
returns-in-Ok-clause-ok g c =
    let p = c.args.pass.now in
    let s = p.session.0 in
    let v = p.seat.seat.me.0 in
    let w = c.take_turn-answer.new.seat.seat.me.0 in
    let b = base_of c.args.self.now in
    let t = c.take_turn-answer.ensures.turn in
    let h = t.base ∙ c.requires.pass.1 in
    let e : Entry = record { session = p.session; request = c.args.request; reply = c.in-Ok.reply } in
    let m = c.in-Ok.ensures.sees in (
      record {
        asks = refl;
        legal = t.legal b h;
        finishes = turn_finishes b.store b v w h refl t;
        kept = λ u l some_. sym (turn_finishes b.store b v w h refl t u l) ∙ turn_kept v w t u some_;
      },
      record {
        between = m.between;
        is = m.is;
        mine = sees_mine s v w (e ∷ []) p.knows.owner m ∙ ap (λ (l : List Entry). entries_of s v.seen ++ l) (one_mine s e refl);
      },
    )

pub returns-in-Err-Unsure-clause-unsure : goal.returns-in-Err-Unsure-clause-unsure
returns-in-Err-Unsure-clause-unsure g c r is =
    let p = c.args.pass.now in
    let s = p.session.0 in
    let v = p.seat.seat.me.0 in
    let w = c.take_turn-answer.new.seat.seat.me.0 in
    let b = base_of c.args.self.now in
    let t = c.take_turn-answer.ensures.turn in
    let h = t.base ∙ c.requires.pass.1 in
    let e : Entry = record { session = p.session; request = c.args.request; reply = r } in
    let same : c.in-Err-Unsure.reply ≡ r = cc is in
    let m = subst (λ (f : ServerError). SeesMore v w (own_of p.session c.args.request (told (Err f)))) (c.in-Err-Unsure.field-0-is ∙ ap Unsure same) (c.in-Err-Unsure.ensures {u = tt}).sees in (
      record {
        asks = refl;
        legal = t.legal b h;
        finishes = turn_finishes b.store b v w h refl t;
        kept = λ u l some_. sym (turn_finishes b.store b v w h refl t u l) ∙ turn_kept v w t u some_;
      },
      record {
        between = m.between;
        is = m.is;
        mine = sees_mine s v w (e ∷ []) p.knows.owner m ∙ ap (λ (l : List Entry). entries_of s v.seen ++ l) (one_mine s e refl);
      },
    )

pub returns-in-Err-Unasked-clause-unasked : goal.returns-in-Err-Unasked-clause-unasked
returns-in-Err-Unasked-clause-unasked g c f is =
    let p = c.args.pass.now in
    let s = p.session.0 in
    let v = p.seat.seat.me.0 in
    let w = c.take_turn-answer.new.seat.seat.me.0 in
    let b = base_of c.args.self.now in
    let t = c.take_turn-answer.ensures.turn in
    let h = t.base ∙ c.requires.pass.1 in
    let m = subst (λ (f : ServerError). SeesMore v w (own_of p.session c.args.request (told (Err f)))) c.in-Err-Unasked.field-0-is (c.in-Err-Unasked.ensures {u = tt}).sees in (
      record {
        asks = refl;
        legal = t.legal b h;
        finishes = turn_finishes b.store b v w h refl t;
        kept = λ u l some_. sym (turn_finishes b.store b v w h refl t u l) ∙ turn_kept v w t u some_;
      },
      record {
        between = m.between;
        is = m.is ∙ append-nil _;
        mine = sees_mine s v w [] p.knows.owner m ∙ append-nil _;
      },
    )
