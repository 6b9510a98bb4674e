-- The effect of one request on a run on a disk.
use Rattle.std.proofs.Common.{◌≡◌, ◌≤◌, ◌<◌, ◌+◌, ◌-◌, ◌*◌, ◌^◌, inl, inr, ℕ, zero, suc, Bool, false, cond, List, [], ◌∷◌, ◌++◌, length, Some, refl, sym, ◌∙◌, ap, subst, subst₂, arith}
use Rattle.std.proofs.lemmas.Bool.{cases_lt}
use Rattle.std.proofs.lemmas.List.{take_all}
use Rattle.std.proofs.lemmas.List.Sums.{sum_by-append}
use Rattle.teb_rules.specs.declared.names.Session.{Session}
use Rattle.teb_rules.specs.declared.names.Request.{Request}
use Rattle.teb_rules.specs.declared.names.Request.TheVariants.{Begin, Read, Write, Add, Delete, Scan, Prepare, Commit, Abort, End}
use Rattle.teb_rules.specs.declared.names.Reply.{Reply}
use Rattle.teb_rules.specs.declared.names.Reply.TheVariants as reply
use Rattle.teb_rules.specs.declared.history.Event.{Event}
use Rattle.teb_rules.specs.declared.history.Event.TheVariants.{Done}
use Rattle.teb_rules.specs.Setup.{Setup, Store}
use Rattle.teb_rules.specs.Accepted.{IsSound}
use Rattle.teb_rules.specs.Answer.{answer}
use Rattle.teb_rules.specs.Run.{history_after}
use Rattle.teb_rules.specs.laws.Lawful.{Lawful}
use Rattle.teb_rules.proofs.lemmas.laws.Sound.{tree_facts}
use Rattle.teb_rules.proofs.lemmas.laws.Reachable.{run_good, empty_good}
use Rattle.engine_core.specs.EngineModel.{IsReached}
use Rattle.engine_core.proofs.Reached.{reached_more}
use Rattle.crash_disk.specs.Calls.{Promise, Tally, IsBefore, AreSure, Fails, IsUpTo}
use Rattle.crash_disk.specs.Sizes.{default_capacity, reserved_calls, reserved_bytes}
use Rattle.record_journal.specs.Format.{Record, records, reading, recovered, room_of, Whole}
use Rattle.record_journal.specs.Journal.{StandsFor}
use Rattle.commit_laws.specs.Commits.{commit_count, put_count}
use Rattle.commit_laws.specs.Records.{records_of, puts_of}
use Rattle.commit_laws.proofs.Prefixes.{length-records}
use Rattle.commit_laws.proofs.Sizes.{journal_length, journal_room}
use Rattle.commit_journal.specs.Kept.{Kept, IsSameStore, IsFull, committing}
use Rattle.commit_journal.specs.Whole.{HasFirst}
use Rattle.commit_journal.proofs.Asked.{committing_unfinished}
use Rattle.commit_journal.proofs.Replies.{commits, others, outcome, committed_now}
use Rattle.script_text.specs.declared.Answered.{Answered}
use Rattle.script_runner.specs.replay.Logs.{Requests, log_of}
use Rattle.script_runner.proofs.lemmas.replay.Logged.{history_none}
use Rattle.crash_runner.specs.Crashes.{calls_of, is_committed, committed_replies}
use Rattle.crash_runner.specs.Underway.{IsRoomy, HasRoom, IsUnderway, StopsAt, effects, weight}

-- ---- histories and their records

pub lawful_of : (X : Store) (H : List Event) → IsSound X.setup → IsReached X H → Lawful X.setup H
lawful_of X H s r = subst (Lawful X.setup) (sym r.1) (run_good X (tree_facts X.setup s) s.profiles r.0 [] (empty_good X.setup)).legal

counts_same : (S : Setup) (H K : List Event) → records_of S K ≡ records_of S H → commit_count K ≡ commit_count H
counts_same S H K same = sym (length-records S K) ∙ ap length same ∙ length-records S H

kept_all : (rs : List Record) (file : List ℕ) (least : ℕ) → StandsFor default_capacity least rs file → least ≡ length rs → recovered default_capacity file ≡ Whole rs
kept_all rs file least s is = s.stands ∙ ap Whole (take_all s.k rs (omega (arith, s.no_fewer, is)))

-- ---- replies

abbrev one_if : Bool → ℕ
one_if b = cond b 1 0

count_push : (log : List Answered) (s : Session) (y : Reply) → committed_replies (log ++ record { session = s; reply = y } ∷ []) ≡ committed_replies log + one_if (is_committed y)
count_push log s y =
    let last : List Answered = record { session = s; reply = y } ∷ [] in
    let split : committed_replies (log ++ last) ≡ committed_replies log + committed_replies last = sum_by-append (λ (a : Answered). one_if (is_committed a.reply)) log last in
    let one : committed_replies last ≡ 0 + one_if (is_committed y) = refl in
    omega (arith, split, one)

other_reply : (r : Reply) → (r ≡ reply.Committed → ⊥) → is_committed r ≡ false
other_reply (reply.Begun t) never = refl
other_reply (reply.Value v) never = refl
other_reply (reply.Values vs) never = refl
other_reply reply.Done never = refl
other_reply reply.Prepared never = refl
other_reply reply.Committed never = absurd (never refl)
other_reply (reply.Again u n) never = refl
other_reply (reply.Aborted c) never = refl
other_reply (reply.Refused w) never = refl

-- a request that commits has weight 1
weighs : (H : List Event) (s : Session) (r : Request) (t : ℕ) → committing H s r ≡ Some t → weight r ≡ 1
weighs H s Commit t e = refl
weighs H s (Begin k) t e = refl
weighs H s (Read x) t e = refl
weighs H s (Write x v) t e = refl
weighs H s (Add x v) t e = refl
weighs H s (Delete x) t e = refl
weighs H s (Scan x n) t e = refl
weighs H s Prepare t e = refl
weighs H s Abort t e = refl
weighs H s End t e = absurd (cc)

-- ---- calls

before_more : (stop made : ℕ) (t : Tally) → t.promise.stop ≡ stop → t.made ≡ made → made + 4 < 2 ^ 64 → (Fails 4 t → ⊥) → IsBefore stop (made + 4)
before_more stop made t is-stop is-made small never = elim (cases_lt (made + 4) stop) [
  | inl lt ↦ inr lt
  | inr le ↦ go stop is-stop le
]
  where
    go : (n : ℕ) → t.promise.stop ≡ n → n ≤ made + 4 → IsBefore n (made + 4)
    go zero e le = inl refl
    go (suc n) e le = absurd (never (record { from = (omega (arith, e), omega (arith, e, le, is-made)); small = omega (arith, is-made, small) }))

-- if calls within the promise are not sure to succeed, one of them is the promised stop
stop_among : (most n k : ℕ) (t : Tally) → t.made + k ≤ most → t.written + n ≤ t.promise.bytes → IsBefore t.promise.stop t.made → (AreSure most k n t → ⊥) → (t.made < t.promise.stop)
    × (t.promise.stop ≤ t.made + k)
stop_among most n k t promised fits (inl none) never = absurd (never (record { before = inl none; promised = promised; fits = fits }))
stop_among most n k t promised fits (inr lt) never = elim (cases_lt (t.made + k) t.promise.stop) [
  | inl after ↦ absurd (never (record { before = inr after; promised = promised; fits = fits }))
  | inr le ↦ (lt, le)
]

module _ {D : Type 0} (tally : D → Tally) (safe : D → List ℕ) (may_leave : D → List ℕ → Type 0) (safe_is_left : (disk : D) → may_leave disk (safe disk)) (p : Promise) where
  abbrev Goes : Kept D → List Answered → Type 0
  Goes k log = IsUnderway p tally safe k log

  -- the safe bytes have the records of all commits
  pub safe_now : (k : Kept D) → ((image : List ℕ) → may_leave k.disk image → HasFirst k.store k.events k.acknowledged image) → k.acknowledged ≡ commit_count k.events
      → recovered default_capacity (safe k.disk) ≡ Whole (records_of k.store.setup k.events)
  safe_now k images all = kept_all (records_of k.store.setup k.events) (safe k.disk) k.acknowledged (images (safe k.disk) (safe_is_left k.disk)) (all ∙ sym (length-records k.store.setup k.events))

  -- a commit has enough room
  fits_more : (k : Kept D) (log : List Answered) (s : Session) (r : Request) (t : ℕ) → Goes k log → weight r + effects k.events ≤ 65536 → committing k.events s r ≡ Some t
      → (k.end + (6 + 14 * length (puts_of k.events t)) ≤ default_capacity) × ((tally k.disk).written + (6 + 14 * length (puts_of k.events t)) ≤ reserved_bytes)
      × ((tally k.disk).made + 4 < reserved_calls)
  fits_more k log s r t u few asked =
      let room = journal_room k.store.setup k.events (lawful_of k.store k.events u.sound u.reached) t (committing_unfinished k.events s r t asked) in
      let one = weighs k.events s r t asked in
      let low : weight r + (commit_count k.events + put_count k.events) ≤ 65536 = few in
      (omega (arith, room, low, one, u.end), omega (arith, room, low, one, u.end, u.written), omega (arith, low, one, u.made))

  pub never_full : (k : Kept D) (log : List Answered) (s : Session) (r : Request) → Goes k log → weight r + effects k.events ≤ 65536 → (capacity : ℕ) → default_capacity ≤ capacity
      → IsFull k.events (room_of capacity - k.end) s r → ⊥
  never_full k log s r u few capacity wide full = let fits = (fits_more k log s r full.txn u few full.commits).0 in omega (arith, fits, full.full)

  module _ (old new : Kept D) (log : List Answered) (s : Session) (r : Request) (u : Goes old log) (few : weight r + effects old.events ≤ 65536) (same : IsSameStore old new) where
    -- the request was answered
    module _ (y : Reply) (says : y ≡ (answer old.store old.events s r).0) (events : new.events ≡ (answer old.store old.events s r).1) (runs : new.stopped ≡ false)
        (all : new.acknowledged ≡ commit_count new.events)
        (end : new.end ≡ length (records (records_of new.store.setup new.events))) (images : (image : List ℕ) → may_leave new.disk image → HasFirst new.store new.events new.acknowledged image)
        (untouched : (y ≡ reply.Committed → ⊥) → new.disk ≡ old.disk) (counted : y ≡ reply.Committed → (tally old.disk).made + 4 < 2 ^ 64 → (tally new.disk).made ≡ (tally old.disk).made + 4)
        (written : (tally new.disk).written + old.end ≤ (tally old.disk).written + new.end + 1)
        (up_to : (t : ℕ) → committing old.events s r ≡ Some t → IsUpTo 4 (6 + 14 * length (puts_of old.events t)) (tally old.disk) (tally new.disk))
        (fails : Fails 4 (tally old.disk) → y ≡ reply.Committed → ⊥) where
      abbrev now : List Answered
      now = log ++ record { session = s; reply = y } ∷ []

      sound : IsSound new.store.setup
      sound = subst (λ (X : Store). IsSound X.setup) (sym same.store) u.sound

      reached : IsReached new.store new.events
      reached = subst (λ (X : Store). IsReached X new.events) (sym same.store) (reached_more old.store old.events s r u.reached new.events events)

      of_store : (H : List Event) → records_of new.store.setup H ≡ records_of old.store.setup H
      of_store H = ap (λ (X : Store). records_of X.setup H) same.store

      quiet : (y ≡ reply.Committed → ⊥) → records_of old.store.setup (answer old.store old.events s r).1 ≡ records_of old.store.setup old.events → Goes new now
      quiet never kept =
          let rs : records_of old.store.setup new.events ≡ records_of old.store.setup old.events = ap (records_of old.store.setup) events ∙ kept in
          let count : commit_count new.events ≡ commit_count old.events = counts_same old.store.setup old.events new.events rs in
          let disk : new.disk ≡ old.disk = untouched never in
          let tallies : tally new.disk ≡ tally old.disk = ap tally disk in
          let ends : new.end ≡ old.end = end ∙ ap (λ (l : List Record). length (records l)) (of_store new.events ∙ rs) ∙ sym u.end in
          let pushed : committed_replies now ≡ committed_replies log + one_if (is_committed y) = count_push log s y in
          let none : one_if (is_committed y) ≡ 0 = ap one_if (other_reply y never) in
          record {
            sound = sound;
            reached = reached;
            replies = omega (arith, pushed, none, u.replies, count);
            runs = runs;
            end = end;
            promised = ap (λ (t : Tally). t.promise) tallies ∙ u.promised;
            room = u.room;
            made = ap (λ (t : Tally). t.made) tallies ∙ u.made ∙ ap calls_of (sym count);
            written = omega (arith, ap (λ (t : Tally). t.written) tallies, u.written, ends, count);
            passed = subst (λ (n : ℕ). IsBefore p.stop (calls_of n)) (sym count) u.passed;
            kept = safe_now new images all;
          }

      commit : (t : ℕ) → committing old.events s r ≡ Some t → y ≡ reply.Committed → new.events ≡ Done (record { 0 = t }) ∷ old.events → Goes new now
      unfolding commit_count
      commit t asked is grown =
          let count : commit_count new.events ≡ suc (commit_count old.events) = ap commit_count grown in
          let fits = fits_more old log s r t u few asked in
          let small : (tally old.disk).made + 4 < 2 ^ 64 = omega (arith, fits.2) in
          let made : (tally new.disk).made ≡ (tally old.disk).made + 4 = counted is small in
          let four : calls_of (commit_count old.events) + 4 ≡ calls_of (commit_count new.events) = omega (arith, count) in
          let pushed : committed_replies now ≡ committed_replies log + one_if (is_committed y) = count_push log s y in
          let one : one_if (is_committed y) ≡ 1 = ap (λ (q : Reply). one_if (is_committed q)) is in
          record {
            sound = sound;
            reached = reached;
            replies = omega (arith, pushed, one, u.replies, count);
            runs = runs;
            end = end;
            promised = (up_to t asked).promise ∙ u.promised;
            room = u.room;
            made = omega (arith, made, u.made, four);
            written = omega (arith, written, u.written, count);
            passed = subst (IsBefore p.stop) four (before_more p.stop (calls_of (commit_count old.events)) (tally old.disk) (ap (λ (q : Promise). q.stop) u.promised) u.made
                (omega (arith, small, u.made)) (λ f. fails f is));
            kept = safe_now new images all;
          }

      pub goes_on : Goes new now
      goes_on = elim (outcome old.store old.events s r) [
        | commits t asked is ↦ commit t asked (says ∙ ap (λ (x : Reply × List Event). x.0) is) (events ∙ ap (λ (x : Reply × List Event). x.1) is)
        | others q ↦ quiet (λ is. q.0 (sym says ∙ is)) q.1
      ]

    -- the disk failed
    pub stops_here : (rest : Requests) → (answer old.store old.events s r).0 ≡ reply.Committed → recovered default_capacity (safe new.disk) ≡ Whole (records_of old.store.setup old.events)
        → ((t : ℕ) → committing old.events s r ≡ Some t → IsUpTo 4 (6 + 14 * length (puts_of old.events t)) (tally old.disk) (tally new.disk))
        → ((t : ℕ) → committing old.events s r ≡ Some t → AreSure (tally old.disk).promise.writes 4 (6 + 14 * length (puts_of old.events t)) (tally old.disk) → ⊥)
        → StopsAt p old.store (log ++ log_of old.store old.events ((s, r) ∷ rest)) (history_after old.store old.events ((s, r) ∷ rest)) log (tally new.disk) (safe new.disk)
    stops_here rest granted kept up_to never =
        let now = committed_now old.store.setup old.events s r (answer old.store old.events s r) (outcome old.store old.events s r) granted in
        let asked = now.1 in
        let fits = fits_more old log s r now.0 u few asked in
        let calls = up_to now.0 asked in
        let promised = u.promised in
        let passed = subst₂ IsBefore (ap (λ (q : Promise). q.stop) (sym promised)) (sym u.made) u.passed in
        let at = stop_among (tally old.disk).promise.writes (6 + 14 * length (puts_of old.events now.0)) 4 (tally old.disk)
        (omega (arith, fits.2, u.room.writes, ap (λ (q : Promise). q.writes) promised)) (omega (arith, fits.1, u.room.bytes, ap (λ (q : Promise). q.bytes) promised)) passed (never now.0 asked) in
        let is-stop = ap (λ (q : Promise). q.stop) promised in
        record {
          before = old.events;
          reached = u.reached;
          commit = (s, r);
          rest = rest;
          replies = refl;
          events = refl;
          granted = granted;
          earlier = u.replies;
          late = omega (arith, at.0, is-stop, u.made);
          soon = omega (arith, at.1, is-stop, u.made);
          kept = kept;
          room = record {
            room = subst IsRoomy (sym (calls.promise ∙ promised)) u.room;
            made = omega (arith, calls.made, fits.2);
            written = omega (arith, calls.written, fits.1);
          };
        }

-- the calls and bytes still reserved at the end of a run
pub room_left : {D : Type 0} (tally : D → Tally) (safe : D → List ℕ) (p : Promise) (k : Kept D) (log : List Answered) → IsUnderway p tally safe k log → effects k.events ≤ 65536
    → HasRoom (tally k.disk)
room_left tally safe p k log u few =
    let low : commit_count k.events + put_count k.events ≤ 65536 = few in
    let long = journal_length k.store.setup k.events (lawful_of k.store k.events u.sound u.reached) in
    record {
      room = subst IsRoomy (sym u.promised) u.room;
      made = omega (arith, low, u.made);
      written = omega (arith, low, long, u.end, u.written);
    }

-- ---- the journal is created, or not

module _ {D : Type 0} (tally : D → Tally) (safe : D → List ℕ) (may_leave : D → List ℕ → Type 0) (safe_is_left : (disk : D) → may_leave disk (safe disk)) (disk : D)
    (none : (tally disk).made ≡ 0) (empty : (tally disk).written ≡ 0) (room : IsRoomy (tally disk).promise) where
  pub begins : (k : Kept D) → IsSound k.store.setup → k.events ≡ [] → k.end ≡ 0 → k.stopped ≡ false → ((image : List ℕ) → may_leave k.disk image → HasFirst k.store k.events 0 image)
      → IsUpTo 2 1 (tally disk) (tally k.disk) → ((tally disk).made + 2 < 2 ^ 64 → (tally k.disk).made ≡ (tally disk).made + 2) → (Fails 2 (tally disk) → ⊥)
      → IsUnderway (tally k.disk).promise tally safe k []
  unfolding commit_count records_of
  begins k sound new start runs images calls counted fails =
      let rs : records_of k.store.setup k.events ≡ [] = ap (records_of k.store.setup) new in
      let count : commit_count k.events ≡ 0 = ap commit_count new in
      let zero_long : length (records (records_of k.store.setup k.events)) ≡ 0 = ap (λ (l : List Record). length (records l)) rs in
      record {
        sound = sound;
        reached = ([], new ∙ sym (history_none k.store []));
        replies = sym count;
        runs = runs;
        end = start ∙ sym zero_long;
        promised = refl;
        room = subst IsRoomy (sym calls.promise) room;
        made = omega (arith, counted (omega (arith, none)), none, count);
        written = omega (arith, calls.written, empty);
        passed = subst₂ (λ (q : Promise) (n : ℕ). IsBefore q.stop n) (sym calls.promise) (omega (arith, count)) (before_two (tally disk) none fails);
        kept = kept_all (records_of k.store.setup k.events) (safe k.disk) 0 (images (safe k.disk) (safe_is_left k.disk)) (sym (ap length rs));
      }
    where
      before_two : (t : Tally) → t.made ≡ 0 → (Fails 2 t → ⊥) → IsBefore t.promise.stop 2
      before_two t made never = elim (cases_lt 2 t.promise.stop) [
        | inl lt ↦ inr lt
        | inr le ↦ go t.promise.stop refl le
      ]
        where
          go : (n : ℕ) → t.promise.stop ≡ n → n ≤ 2 → IsBefore n 2
          go zero e le = inl refl
          go (suc n) e le = absurd (never (record { from = (omega (arith, e), omega (arith, e, le, made)); small = omega (arith, made) }))

  pub stop_early : (AreSure (tally disk).promise.writes 2 1 (tally disk) → ⊥) → (0 < (tally disk).promise.stop) × ((tally disk).promise.stop ≤ 2)
  stop_early never = go (tally disk).promise.stop refl
    where
      sure : IsBefore (tally disk).promise.stop ((tally disk).made + 2) → ⊥
      sure before = never (record { before = before; promised = omega (arith, none, room.writes); fits = omega (arith, empty, room.bytes) })

      go : (n : ℕ) → (tally disk).promise.stop ≡ n → (0 < n) × (n ≤ 2)
      go zero e = absurd (sure (inl e))
      go (suc n) e = elim (cases_lt 2 (suc n)) [
        | inl lt ↦ absurd (sure (inr (omega (arith, e, lt, none))))
        | inr le ↦ (omega arith, le)
      ]

  pub room_kept : (back : D) → IsUpTo 2 1 (tally disk) (tally back) → HasRoom (tally back)
  room_kept back calls = record { room = subst IsRoomy (sym calls.promise) room; made = omega (arith, calls.made, none); written = omega (arith, calls.written, empty) }

pub nothing_recovered : (file : List ℕ) → file ≡ [] → recovered default_capacity file ≡ Whole []
unfolding recovered reading
nothing_recovered file is = ap (recovered default_capacity) is ∙ ap (reading 0 0) (take_all default_capacity [] (omega arith))

pub effects_none : (H : List Event) → H ≡ [] → effects H ≡ 0
unfolding commit_count put_count
effects_none H is = ap effects is
