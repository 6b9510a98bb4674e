use Rattle.std.proofs.Common.{rules, ◌≡◌, ◌+◌, ◌<◌, ◌≤◌, vec_len, vec_capacity, ap, subst, ◌∙◌, arith}
use Rattle.teb_rules.specs.declared.names.TheConstants.{SESSIONS}
use Rattle.teb_rules.specs.declared.names.Session.{Session}
use Rattle.turn_lock.specs.Seats.{base_in, view_of}
use Rattle.shared_store.specs.Hosting.{first_of}
use Rattle.shared_store.specs.Keeping.{place_of}
use Rattle.shared_store.proofs.Dealing.{Dealt, rest_first, rest_front, dealt_none, has_next, leaves_some, rest_on, dealt_on, dealt_next, is_new}
use Rattle.shared_store.proofs.make.deal_sessions.Goals as goal

pub loop-number-init : goal.loop-number-init
loop-number-init g c =
    let b = base_in first_of c.args.turn.now in
    let none : vec_len c.args.sessions.now ≡ 0 = search rules in (
      c.requires.seat.0,
      c.requires.seat.1,
      rest_front b (view_of c.args.seat) c.requires.first,
      dealt_none c.args.turn.now c.args.log_turn.now b c.args.sessions.now.items c.requires.none,
      c.requires.room,
      (let z : vec_len c.args.sessions.now + 1 ≡ 1 = omega arith in z),
      (let z : 1 ≤ 1 = omega arith in z),
      c.requires.log_seat.0,
      c.requires.log_seat.1,
      rest_first (base_in place_of c.args.log_turn.now) (view_of c.args.log_seat) c.requires.log_first,
    )

pub split-dealt-requires-clause-owner : goal.split-dealt-requires-clause-owner
split-dealt-requires-clause-owner g c =
    let b = base_in first_of c.args.turn.now in
    let n = c.loop-number.number in
    let low : n < SESSIONS = search rules in
    (has_next b n (view_of c.loop-number.seat) low c.loop-number.invariant.2, leaves_some b n (view_of c.loop-number.seat) low c.loop-number.invariant.2)

pub split-log_dealt-requires-clause-owner : goal.split-log_dealt-requires-clause-owner
split-log_dealt-requires-clause-owner g c =
    let b = base_in place_of c.args.log_turn.now in
    let n = c.loop-number.number in
    let low : n < SESSIONS = search rules in
    (has_next b n (view_of c.loop-number.log_seat) low c.loop-number.invariant.9, leaves_some b n (view_of c.loop-number.log_seat) low c.loop-number.invariant.9)

pub loop-number-preserved : goal.loop-number-preserved
loop-number-preserved g c =
    let t = c.args.turn.now in
    let u = c.args.log_turn.now in
    let b = base_in first_of t in
    let d = base_in place_of u in
    let n = c.loop-number.number in
    let inv = c.loop-number.invariant in
    let low : n < SESSIONS = search rules in
    let old = c.split-dealt.ensures.old in
    let new = c.split-dealt.ensures.new in
    let log_old = c.split-log_dealt.ensures.old in
    let log_new = c.split-log_dealt.ensures.new in
    let room : SESSIONS ≤ vec_capacity c.push_reserved.new.self = search rules in
    let long : vec_len c.push_reserved.new.self + 1 ≡ n + 1 = search rules in (
      old.0,
      old.1,
      rest_on b n (view_of c.loop-number.seat) (view_of c.split-dealt.new.seat) inv.6 low old.2 inv.2,
      dealt_next t u b n c.loop-number.sessions.items c.push_reserved.new.self.items c.new.result inv.6 c.push_reserved.ensures.items
          (is_new t u b c.new.result c.split-dealt.result c.split-log_dealt.result c.new.ensures.0 c.new.ensures.1 c.new.ensures.3 new.0 (ap (λ u. u.base) new.2 ∙ inv.2.base)
          (ap (λ u. u.seen) new.2 ∙ inv.2.seen) log_new.0 (ap (λ u. u.base) log_new.2 ∙ inv.9.base))
          (ap (λ (s : Session). s.0) c.new.ensures.2) inv.3,
      room,
      long,
      (let z : 1 ≤ n + 1 = omega arith in z),
      log_old.0,
      log_old.1,
      rest_on d n (view_of c.loop-number.log_seat) (view_of c.split-log_dealt.new.seat) inv.6 low log_old.2 inv.9,
    )

pub returns-clause-numbers : goal.returns-clause-numbers
returns-clause-numbers g c =
    let t = c.args.turn.now in
    let u = c.args.log_turn.now in
    let b = base_in first_of t in
    let inv = c.loop-number.invariant in
    let last : c.loop-number.number ≡ SESSIONS = search rules in
    (dealt_on t u b SESSIONS c.loop-number.sessions.items c.push_reserved-2.new.self.items c.new-2.result (let z : 1 ≤ SESSIONS = omega arith in z) c.push_reserved-2.ensures.items
    (is_new t u b c.new-2.result c.loop-number.seat c.loop-number.log_seat c.new-2.ensures.0 c.new-2.ensures.1 c.new-2.ensures.3 inv.0 inv.2.base inv.2.seen inv.7 inv.9.base)
    (ap (λ (s : Session). s.0) c.new-2.ensures.2) (subst (λ n. Dealt t u b n c.loop-number.sessions.items) last inv.3)).1
