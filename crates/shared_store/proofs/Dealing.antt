-- How the first seats are dealt out into sessions.
use Rattle.std.proofs.Common.{◌≡◌, ◌≢◌, ℕ, suc, ◌+◌, ◌-◌, ◌*◌, ◌<◌, ◌≤◌, List, [], ◌∷◌, ◌++◌, map, Some, All, if◌then◌else◌, refl, sym, ◌∙◌, ap, subst, arith, eq-eqb}
use mathlib.Core.List.{map-append}
use mathlib.Core.Logic.{∥∥₁_map}
use Rattle.std.specs.Prelude.{false}
use Rattle.teb_rules.specs.declared.names.TheConstants.{SESSIONS}
use Rattle.teb_rules.specs.declared.history.Event.{Event}
use Rattle.teb_rules.specs.history.Phases.{numbers}
use Rattle.teb_rules.specs.Setup.{Store}
use Rattle.turn_lock.specs.declared.view.View.{View}
use Rattle.turn_lock.specs.declared.turn.Turn.{Turn}
use Rattle.turn_lock.specs.declared.turn.Seat.{Seat}
use Rattle.turn_lock.specs.Seats.{base_in, view_of, IsOf}
use Rattle.turn_lock.specs.Counts.{times, Has, HasAll, count_from, without}
use Rattle.turn_lock.specs.Views.{both_views, first_view, given, remaining}
use Rattle.turn_lock.proofs.Counts.{same_yes, times-count_from, times_append, times_without}
use Rattle.turn_lock.proofs.Lists.{All_cons, All_none, Some_is}
use Rattle.shared_store.specs.declared.entry.LifeEntry.{LifeEntry}
use Rattle.shared_store.specs.declared.entry.TheConstants.{LOG_SEAT}
use Rattle.shared_store.specs.declared.hosted.Hosted.{Hosted}
use Rattle.shared_store.specs.declared.keeper.Keeper.{Keeper}
use Rattle.shared_store.specs.declared.keeper.TheConstants.{LOG_TURNS}
use Rattle.shared_store.specs.declared.kept.Kept.{Kept}
use Rattle.shared_store.specs.declared.server.EpochServer.{Ghosts}
use Rattle.shared_store.specs.declared.session.StoreSession.{StoreSession}
use Rattle.shared_store.specs.declared.session.TheConstants.{MOST_ASKS, MOST_TURNS}
use Rattle.shared_store.specs.Keeping.{place_of}
use Rattle.shared_store.specs.Known.{IsFresh, IsFreshLog, Knows, KnowsLog}
use Rattle.shared_store.specs.Lives.{Runs, has_stop, taken_of}
use Rattle.shared_store.specs.Places.{Place}
use Rattle.shared_store.specs.Seated.{IsKeptAt, IsLogSeat}
use Rattle.shared_store.specs.Served.{Standing}
use Rattle.shared_store.specs.Sharing.{IsNewIn, number_of}
use Rattle.shared_store.specs.Stages.{Stage, first_stage}
use Rattle.shared_store.proofs.Living.{no_commits, nothing_legal}

-- what a new session knows
pub fresh_knows : (s : ℕ) (v : View LifeEntry Stage) → IsFresh s v → Knows s 0 v
fresh_knows s v f = record {
  owner = f.owner;
  turns = (let z = f.turns in let y : MOST_TURNS ≤ v.turns + 2 * 0 = omega arith in y);
  few = (let z : 0 ≤ MOST_ASKS = omega arith in z);
  legal = λ b h. nothing_legal b v.seen f.seen;
}

pub fresh_knows_log : (s : ℕ) (v : View Kept Place) → IsFreshLog s v → KnowsLog s 0 v
fresh_knows_log s v f = record { owner = f.owner; turns = (let z = f.turns in let y : MOST_TURNS ≤ v.turns + 2 * 0 = omega arith in y) }

-- the first seat at the front owns the log's seat and others
pub has_log_seat : (b : Stage) (v : View LifeEntry Stage) → v ≡ first_view b 0 LOG_SEAT → Has v.owners LOG_SEAT × (without LOG_SEAT v.owners ≢ [])
has_log_seat b v e =
    let o : v.owners ≡ count_from 1 LOG_SEAT = ap (λ (u : View LifeEntry Stage). u.owners) e in
    let one : times LOG_SEAT v.owners ≡ 1 = ap (times LOG_SEAT) o in
    let z : 0 < times LOG_SEAT v.owners = omega arith in
    (z, λ n. let k : 1 ∷ count_from 2 31 ≡ [] = sym (ap (without LOG_SEAT) o) ∙ n in cc)

pub log_turns : (b : Stage) (v : View LifeEntry Stage) → v ≡ first_view b 0 LOG_SEAT → LOG_TURNS ≤ v.turns
log_turns b v e = let t : v.turns ≡ 35184372088832 = ap (λ (u : View LifeEntry Stage). u.turns) e in omega arith

pub log_seated : (b : Stage) (v w : View LifeEntry Stage) → v ≡ first_view b 0 LOG_SEAT → w ≡ given LOG_SEAT LOG_TURNS v → IsLogSeat LOG_TURNS w
log_seated b v w e f = record {
  owner = ap (λ (u : View LifeEntry Stage). u.owners) f;
  turns = (let t : w.turns ≡ LOG_TURNS = ap (λ (u : View LifeEntry Stage). u.turns) f in let z : LOG_TURNS ≤ w.turns = omega arith in z);
}

-- once the log's seat is joined again, the seat has all owners
pub all_back : (b : Stage) (v r w x z : View LifeEntry Stage) → v ≡ first_view b 0 LOG_SEAT → r ≡ remaining LOG_SEAT LOG_TURNS v → w ≡ given LOG_SEAT LOG_TURNS v → x ≡ w → z ≡ both_views r x
    → HasAll LOG_SEAT z.owners
all_back b v r w x z e f h same k o low high =
    let vs : v.owners ≡ count_from 1 LOG_SEAT = ap (λ (u : View LifeEntry Stage). u.owners) e in
    let rs : times o r.owners ≡ times o (without LOG_SEAT v.owners) = ap (λ (u : View LifeEntry Stage). times o u.owners) f in
    let xs : times o x.owners ≡ times o (LOG_SEAT ∷ []) = ap (λ (u : View LifeEntry Stage). times o u.owners) (same ∙ h) in
    let zs : times o z.owners ≡ times o (r.owners ++ x.owners) = ap (λ (u : View LifeEntry Stage). times o u.owners) k in
    let both = times_append o r.owners x.owners in
    let has : 0 < times LOG_SEAT v.owners = (has_log_seat b v e).0 in
    let less = times_without LOG_SEAT o v.owners has in
    let all : times o v.owners ≡ times o (count_from 1 LOG_SEAT) = ap (times o) vs in
    let one : times o (count_from 1 LOG_SEAT) ≡ 1 = (times-count_from LOG_SEAT 1 o).0 low (omega arith) in
    omega arith

-- a log keeps a life in which nothing has happened
pub log_keeps : (keep : Store → List Event → ℕ → Type 0) (x : Standing) (b : Stage) (v w : View LifeEntry Stage) → b ≡ first_stage x → x.events ≡ [] → v ≡ first_view b 0 LOG_SEAT
    → w ≡ given LOG_SEAT LOG_TURNS v → ∥ keep x.store [] 0 ∥₁ → IsKeptAt keep false 0 w
log_keeps keep x b v w is none e f k = record {
  kept = λ c z.
      let s : w.seen ≡ [] = ap (λ (u : View LifeEntry Stage). u.seen) f ∙ ap (λ (u : View LifeEntry Stage). u.seen) e in
      let h : w.base ≡ Some b = ap (λ (u : View LifeEntry Stage). u.base) f ∙ ap (λ (u : View LifeEntry Stage). u.base) e in
      let same : first_stage x ≡ c = sym is ∙ Some_is (sym h ∙ z) in
      ∥∥₁_map k (λ q. record {
        taken = first_stage x;
        leads = subst (λ (p : Stage × List LifeEntry). Runs p.0 (taken_of p.1) (first_stage x)) (λ i. (same i, sym s i)) refl;
        count = 0;
        keeps = subst (λ (H : List Event). keep x.store H 0) (sym none) q;
        counted = (let y : 0 ≡ 0 + 0 = omega arith in y);
        all = λ _. sym (no_commits x.events none);
        runs = λ _. ap (λ (l : List LifeEntry). has_stop l) s;
      });
}

-- what is left of the first seat at the front before session n is dealt
pub record Rest {E B : Type 0} (b : B) (n : ℕ) (v : View E B) : Type 0 where
  pub base : v.base ≡ Some b
  pub owners : v.owners ≡ count_from n (suc SESSIONS - n)
  pub turns : SESSIONS * MOST_TURNS ≤ v.turns + MOST_TURNS * (n - 1)
  pub seen : v.seen ≡ []

pub rest_first : {E B : Type 0} (b : B) (v : View E B) → v ≡ first_view b 0 SESSIONS → Rest b 1 v
rest_first {E} {B} b v e = record {
  base = ap (λ (u : View E B). u.base) e;
  owners = ap (λ (u : View E B). u.owners) e;
  turns = (let t : v.turns ≡ 35184372088832 = ap (λ (u : View E B). u.turns) e in let z : SESSIONS * MOST_TURNS ≤ v.turns + MOST_TURNS * (1 - 1) = omega arith in z);
  seen = ap (λ (u : View E B). u.seen) e;
}

-- what is left of the first seat at the front after the log's seat was dealt
pub rest_front : {E B : Type 0} (b : B) (v : View E B) → v ≡ remaining LOG_SEAT LOG_TURNS (first_view b 0 LOG_SEAT) → Rest b 1 v
rest_front {E} {B} b v e = record {
  base = ap (λ (u : View E B). u.base) e;
  owners = ap (λ (u : View E B). u.owners) e;
  turns = (let t : v.turns ≡ 35184372088832 - LOG_TURNS = ap (λ (u : View E B). u.turns) e in let z : SESSIONS * MOST_TURNS ≤ v.turns + MOST_TURNS * (1 - 1) = omega arith in z);
  seen = ap (λ (u : View E B). u.seen) e;
}

counted : (n : ℕ) → n < SESSIONS → count_from n (suc SESSIONS - n) ≡ n ∷ suc n ∷ count_from (suc (suc n)) (SESSIONS - suc n)
counted n l = ap (count_from n) (let e : suc SESSIONS - n ≡ suc (suc (SESSIONS - suc n)) = omega arith in e)

counted_next : (n : ℕ) → n < SESSIONS → suc n ∷ count_from (suc (suc n)) (SESSIONS - suc n) ≡ count_from (n + 1) (suc SESSIONS - (n + 1))
counted_next n l = ap (λ (p : ℕ × ℕ). count_from p.0 p.1) (λ i. ((let e : suc n ≡ n + 1 = omega arith in e) i, (let e : suc (SESSIONS - suc n) ≡ suc SESSIONS - (n + 1) = omega arith in e) i))

without_first : (n : ℕ) (os : List ℕ) → without n (n ∷ os) ≡ os
without_first n os = ap (λ b. if b then os else n ∷ without n os) (eq-eqb n n refl)

pub has_next : {E B : Type 0} (b : B) (n : ℕ) (v : View E B) → n < SESSIONS → Rest b n v → Has v.owners n
has_next b n v l r = let z : times n v.owners ≡ times n (n ∷ suc n ∷ count_from (suc (suc n)) (SESSIONS - suc n)) = ap (times n) (r.owners ∙ counted n l) in let one = same_yes n n refl in omega arith

left_owners : {E B : Type 0} (b : B) (n : ℕ) (v : View E B) → n < SESSIONS → Rest b n v → without n v.owners ≡ suc n ∷ count_from (suc (suc n)) (SESSIONS - suc n)
left_owners b n v l r = ap (without n) (r.owners ∙ counted n l) ∙ without_first n (suc n ∷ count_from (suc (suc n)) (SESSIONS - suc n))

is_cons : (x : ℕ) (xs ys : List ℕ) → ys ≡ x ∷ xs → ys ≢ []
is_cons x xs ys e n = cc

pub leaves_some : {E B : Type 0} (b : B) (n : ℕ) (v : View E B) → n < SESSIONS → Rest b n v → without n v.owners ≢ []
leaves_some b n v l r = is_cons (suc n) (count_from (suc (suc n)) (SESSIONS - suc n)) (without n v.owners) (left_owners b n v l r)

pub rest_on : {E B : Type 0} (b : B) (n : ℕ) (v w : View E B) → 1 ≤ n → n < SESSIONS → w ≡ remaining n MOST_TURNS v → Rest b n v → Rest b (n + 1) w
rest_on {E} {B} b n v w k l e r = record {
  base = ap (λ (u : View E B). u.base) e ∙ r.base;
  owners = ap (λ (u : View E B). u.owners) e ∙ (left_owners b n v l r ∙ counted_next n l);
  turns = (let t : w.turns ≡ v.turns - MOST_TURNS = ap (λ (u : View E B). u.turns) e in let z = r.turns in let y : SESSIONS * MOST_TURNS ≤ w.turns + MOST_TURNS * (n + 1 - 1) = omega arith in y);
  seen = ap (λ (u : View E B). u.seen) e ∙ r.seen;
}

pub enough : {E B : Type 0} (b : B) (n : ℕ) (v : View E B) → 1 ≤ n → n < SESSIONS → Rest b n v → MOST_TURNS ≤ v.turns
enough b n v k l r = let z = r.turns in omega arith

numbers_on : (n : ℕ) → 1 ≤ n → numbers (n - 1) ++ n ∷ [] ≡ numbers n
unfolding numbers
numbers_on n l = ap (λ (k : ℕ). numbers (n - 1) ++ k ∷ []) (let e : n ≡ suc (n - 1) = omega arith in e) ∙ ap numbers (let e : suc (n - 1) ≡ n = omega arith in e)

module _ {V L B : Type 0} {g : Ghosts V L B} (t : Turn (Hosted V L B g) LifeEntry Stage) (u : Turn (Keeper V L B g) Kept Place) (b : Stage) where
  -- the sessions below n are dealt
  pub record Dealt (n : ℕ) (all : List (StoreSession V L B g)) : Type 0 where
    pub new : All (IsNewIn t u b) all
    pub sessions : map number_of all ≡ numbers (n - 1)

  all_snoc : (xs : List (StoreSession V L B g)) (p : StoreSession V L B g) → All (IsNewIn t u b) xs → IsNewIn t u b p → All (IsNewIn t u b) (xs ++ p ∷ [])
  all_snoc [] p a h = All_cons (IsNewIn t u b) p [] h (All_none (IsNewIn t u b))
  all_snoc (x ∷ xs) p a h = All_cons (IsNewIn t u b) x (xs ++ p ∷ []) (a 0 x (omega arith)) (all_snoc xs p (λ k d l. a (suc k) d (omega arith)) h)

  pub dealt_none : (sessions : List (StoreSession V L B g)) → sessions ≡ [] → Dealt 1 sessions
  unfolding numbers
  dealt_none sessions e = subst (Dealt 1) (sym e) record { new = All_none (IsNewIn t u b); sessions = refl }

  pub dealt_on : (n : ℕ) (old new : List (StoreSession V L B g)) (p : StoreSession V L B g) → 1 ≤ n → new ≡ old ++ p ∷ [] → IsNewIn t u b p → p.session.0 ≡ n → Dealt n old → (All (IsNewIn t u b) new)
      × (map number_of new ≡ numbers n)
  dealt_on n old new p l e h s d = (
    subst (All (IsNewIn t u b)) (sym e) (all_snoc old p d.new h),
    ap (map number_of) e ∙ (map-append number_of old (p ∷ []) ∙ (ap (λ (y : List ℕ × ℕ). y.0 ++ y.1 ∷ []) (λ i. (d.sessions i, s i)) ∙ numbers_on n l)),
  )

  pub dealt_next : (n : ℕ) (old new : List (StoreSession V L B g)) (p : StoreSession V L B g) → 1 ≤ n → new ≡ old ++ p ∷ [] → IsNewIn t u b p → p.session.0 ≡ n → Dealt n old → Dealt (n + 1) new
  dealt_next n old new p l e h s d = let r = dealt_on n old new p l e h s d in record { new = r.0; sessions = r.1 ∙ ap numbers (let k : n ≡ n + 1 - 1 = omega arith in k) }

  pub is_new : (p : StoreSession V L B g) (seat : Seat (Hosted V L B g) LifeEntry Stage) (log : Seat (Keeper V L B g) Kept Place) → p.seat ≡ seat → p.log_seat ≡ log → p.asks ≡ 0
      → IsOf t seat → (view_of seat).base ≡ Some b → (view_of seat).seen ≡ [] → IsOf u log → (view_of log).base ≡ Some (base_in place_of u) → IsNewIn t u b p
  is_new p seat log e f asks of base seen log_of log_base = record {
    seat = ap (λ (s : Seat (Hosted V L B g) LifeEntry Stage). s.seat.table_id) e ∙ of;
    base = ap (λ (s : Seat (Hosted V L B g) LifeEntry Stage). (view_of s).base) e ∙ base;
    log_seat = ap (λ (s : Seat (Keeper V L B g) Kept Place). s.seat.table_id) f ∙ log_of;
    log_base = ap (λ (s : Seat (Keeper V L B g) Kept Place). (view_of s).base) f ∙ log_base;
    seen = ap (λ (s : Seat (Hosted V L B g) LifeEntry Stage). (view_of s).seen) e ∙ seen;
    asks = asks;
  }
