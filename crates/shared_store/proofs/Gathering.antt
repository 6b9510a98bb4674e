-- The sessions of a closed store, and what its list says of them.
use Rattle.std.proofs.Common.{◌≡◌, ℕ, suc, ◌+◌, ◌<◌, ◌≤◌, Bool, List, [], ◌∷◌, ◌++◌, map, length, All, append-nil, append_assoc, inl, inr, refl, sym, ◌∙◌, ap, subst, arith}
use Rattle.std.proofs.lemmas.List.{length-map}
use Rattle.std.proofs.lemmas.Bool.{cases_lt}
use mathlib.Core.List.{map-append}
use Rattle.teb_rules.specs.declared.names.TheConstants.{SESSIONS}
use Rattle.teb_rules.specs.declared.history.Event.{Event}
use Rattle.teb_rules.specs.Setup.{Store}
use Rattle.turn_lock.specs.declared.turn.Turn.{Turn}
use Rattle.turn_lock.specs.declared.turn.Seat.{Seat}
use Rattle.turn_lock.specs.declared.view.View.{View}
use Rattle.turn_lock.specs.declared.view.Heard.{Heard}
use Rattle.turn_lock.specs.declared.member.Member as member
use Rattle.turn_lock.specs.Counts.{HasAll, times}
use Rattle.turn_lock.specs.Calls.{Ends, Follows, FollowsHeard}
use Rattle.turn_lock.specs.Views.{both_views, heard_of}
use Rattle.turn_lock.specs.Seats.{view_of, all_owners, IsOf, IsOutside}
use Rattle.turn_lock.proofs.Closing as closing
use Rattle.turn_lock.proofs.Counts.{same_yes, times_append}
use Rattle.turn_lock.proofs.Lists.{All_cons, All_left, All_none, All_last, All_map}
use Rattle.shared_store.specs.declared.entry.LifeEntry.{LifeEntry}
use Rattle.shared_store.specs.declared.entry.TheConstants.{LOG_SEAT}
use Rattle.shared_store.specs.declared.hosted.Hosted.{Hosted}
use Rattle.shared_store.specs.declared.keeper.Keeper.{Keeper}
use Rattle.shared_store.specs.declared.kept.Kept.{Kept}
use Rattle.shared_store.specs.declared.server.EpochServer.{Ghosts}
use Rattle.shared_store.specs.declared.session.StoreSession.{StoreSession}
use Rattle.shared_store.specs.Closing.{IsKeptToTheEnd}
use Rattle.shared_store.specs.Ending.{AddsNoCalls, IsKeptAfter}
use Rattle.shared_store.specs.Holding.{IsKept}
use Rattle.shared_store.specs.Hosting.{entries_in, note_in, first_of}
use Rattle.shared_store.specs.Keeping.{place_of, tell_note, tells_in}
use Rattle.shared_store.specs.Lives.{calls_of, owner_of, taken_of}
use Rattle.shared_store.specs.Places.{Place}
use Rattle.shared_store.specs.Seated.{IsKeptAt}
use Rattle.shared_store.specs.Sharing.{number_of, told, IsWithin}
use Rattle.shared_store.specs.Stages.{Stage}
use Rattle.shared_store.specs.Totals.{total_in, writer_of}
use Rattle.shared_store.proofs.Calls.{calls_append, others_none}
use Rattle.shared_store.proofs.Courses.{others_stop_none, others_take_none, stop_behind, taken_behind}
use Rattle.shared_store.proofs.Keeping.{kept_still}
use Rattle.shared_store.proofs.Settling.{total_more}

-- the entries of a finished life have owners from 1 to LOG_SEAT
pub owned_all : (old new : List LifeEntry) → AddsNoCalls old new → All (λ (e : LifeEntry). (1 ≤ owner_of e) × (owner_of e ≤ LOG_SEAT)) old
    → All (λ (e : LifeEntry). (1 ≤ owner_of e) × (owner_of e ≤ LOG_SEAT)) new
owned_all old new m a = subst (All P) (sym m.is)
    (append_all old m.more a (All_map (λ (e : LifeEntry). owner_of e ≡ LOG_SEAT) P m.more (λ e o. (let z : 1 ≤ owner_of e = omega arith in z, let z : owner_of e ≤ LOG_SEAT = omega arith in z))
    m.owned))
  where
    P : LifeEntry → Type 0
    P e = (1 ≤ owner_of e) × (owner_of e ≤ LOG_SEAT)

    append_all : (xs ys : List LifeEntry) → All P xs → All P ys → All P (xs ++ ys)
    append_all [] ys x y = y
    append_all (e ∷ es) ys x y = All_cons P e (es ++ ys) (x 0 e (omega arith)) (append_all es ys (λ k d l. x (suc k) d (omega arith)) y)

-- the owners of the seats of all sessions in one turn
module _ {V L B : Type 0} {g : Ghosts V L B} {T E C : Type 0} (gh : member.Ghosts T E C) (t : Turn T E C) (seat_of : StoreSession V L B g → Seat T E C)
    (owned : (p : StoreSession V L B g) → (view_of (seat_of p)).owners ≡ p.session.0 ∷ []) (out : (p : StoreSession V L B g) → IsOutside (seat_of p)) where
  owners_all : (ps : List (StoreSession V L B g)) → all_owners (map seat_of ps) ≡ map number_of ps
  owners_all [] = refl
  owners_all (p ∷ ps) = ap (λ (os : List ℕ). os ++ all_owners (map seat_of ps)) (owned p) ∙ ap (λ (os : List ℕ). p.session.0 ∷ os) (owners_all ps)

  seats_ready : (ps : List (StoreSession V L B g)) → All (λ (p : StoreSession V L B g). IsOf t (seat_of p)) ps → All (closing.IsReady gh t) (map seat_of ps)
  seats_ready [] a = All_none (closing.IsReady gh t)
  seats_ready (p ∷ ps) a = All_cons (closing.IsReady gh t) (seat_of p) (map seat_of ps) (a 0 p (omega arith), out p) (seats_ready ps (λ k d l. a (suc k) d (omega arith)))

  popped : (items front : List (StoreSession V L B g)) (p : StoreSession V L B g) → items ≡ front ++ p ∷ [] → map seat_of items ≡ map seat_of front ++ seat_of p ∷ []
  popped items front p e = ap (map seat_of) e ∙ map-append seat_of front (p ∷ [])

  abbrev pub Gathered : List (StoreSession V L B g) → List (StoreSession V L B g) → Seat T E C → Type 0
  Gathered whole items first = closing.Joined gh t SESSIONS (map seat_of whole) (map seat_of items) first

  pub begins : (whole front : List (StoreSession V L B g)) (p : StoreSession V L B g) (first : Seat T E C) → whole ≡ front ++ p ∷ [] → first ≡ seat_of p
      → All (λ (p : StoreSession V L B g). IsOf t (seat_of p)) whole → HasAll SESSIONS (map number_of whole) → Gathered whole front first
  begins whole front p first e f ready has = subst (Gathered whole front) (sym f)
      (closing.begins gh t SESSIONS (map seat_of whole) (map seat_of front) (seat_of p) (popped whole front p e) (seats_ready whole ready) (subst (HasAll SESSIONS) (sym (owners_all whole)) has))

  pub goes_on : (whole items front : List (StoreSession V L B g)) (p : StoreSession V L B g) (first other new : Seat T E C) → items ≡ front ++ p ∷ [] → other ≡ seat_of p → IsOf t new × IsOutside new
      → view_of new ≡ both_views (view_of first) (view_of other) → Gathered whole items first → Gathered whole front new
  goes_on whole items front p first other new e f ready is inv =
      closing.goes_on gh t SESSIONS (map seat_of whole) (map seat_of items) (map seat_of front) first other new (popped items front p e ∙ ap (λ (s : Seat T E C). map seat_of front ++ s ∷ []) (sym f))
      ready is inv

  pub next_of : (whole items front : List (StoreSession V L B g)) (p : StoreSession V L B g) (first : Seat T E C) → items ≡ front ++ p ∷ [] → Gathered whole items first → IsOf t (seat_of p)
  next_of whole items front p first e inv = (All_last (closing.IsReady gh t) (map seat_of front) (seat_of p) (subst (All (closing.IsReady gh t)) (popped items front p e) inv.ready)).0

  pub all_in : (whole items : List (StoreSession V L B g)) (first : Seat T E C) → length items ≡ 0 → Gathered whole items first → HasAll SESSIONS (view_of first).owners
  all_in whole [] first none inv o a b = let h = inv.all o a b in omega arith
  all_in whole (p ∷ ps) first none inv o a b = absurd (omega arith)

  pub finishes : (whole items : List (StoreSession V L B g)) (first : Seat T E C) (x : T) → length items ≡ 0 → Ends gh.entries gh.owner gh.note gh.base (view_of first) x → Gathered whole items first
      → All (closing.Tells gh t x) (map seat_of whole)
  finishes whole items first x none ends inv = closing.finishes gh t SESSIONS (map seat_of whole) (map seat_of items) first x (length-map items seat_of ∙ none) ends inv

module _ {V L B : Type 0} {g : Ghosts V L B} where
  abbrev pub front_ghosts : member.Ghosts (Hosted V L B g) LifeEntry Stage
  front_ghosts = record { entries = entries_in; owner = owner_of; note = note_in; base = first_of }

  abbrev pub log_ghosts : member.Ghosts (Keeper V L B g) Kept Place
  log_ghosts = record { entries = tells_in; owner = writer_of; note = tell_note; base = place_of }

  abbrev pub front_seat : StoreSession V L B g → Seat (Hosted V L B g) LifeEntry Stage
  front_seat p = p.seat

  abbrev pub log_seat : StoreSession V L B g → Seat (Keeper V L B g) Kept Place
  log_seat p = p.log_seat

  abbrev pub AtFront : Turn (Hosted V L B g) LifeEntry Stage → List (StoreSession V L B g) → List (StoreSession V L B g) → Seat (Hosted V L B g) LifeEntry Stage → Type 0
  AtFront t whole items first = Gathered front_ghosts t front_seat (λ p. p.knows.owner) (λ p. p.outside) whole items first

  abbrev pub AtLog : Turn (Keeper V L B g) Kept Place → List (StoreSession V L B g) → List (StoreSession V L B g) → Seat (Keeper V L B g) Kept Place → Type 0
  AtLog u whole items first = Gathered log_ghosts u log_seat (λ p. p.knows_log.owner) (λ p. p.log_outside) whole items first

  pub some_left : (ps : List (StoreSession V L B g)) → HasAll SESSIONS (map number_of ps) → 0 < length ps
  some_left [] has = let h = has 1 (omega arith) (omega arith) in absurd (omega arith)
  some_left (p ∷ ps) has = omega arith

  -- the seat into which the log's seat was joined has all owners
  module _ (first given new : Seat (Hosted V L B g) LifeEntry Stage) (is : view_of new ≡ both_views (view_of first) (view_of given)) where
    pub all_of : (view_of given).owners ≡ LOG_SEAT ∷ [] → HasAll SESSIONS (view_of first).owners → HasAll LOG_SEAT (view_of new).owners
    all_of own has o low high = elim (cases_lt SESSIONS o) [
      | inl l ↦ (let one = same_yes o LOG_SEAT (let z : o ≡ LOG_SEAT = omega arith in z) in let k : times o (view_of given).owners ≡ times o (LOG_SEAT ∷ []) = ap (times o) own in let b = both o in
          omega arith)
      | inr l ↦ (let h = has o low l in let b = both o in omega arith)
    ]
      where
        both : (o : ℕ) → times o (view_of new).owners ≡ times o (view_of first).owners + times o (view_of given).owners
        both o = ap (λ (v : View LifeEntry Stage). times o v.owners) is ∙ times_append o (view_of first).owners (view_of given).owners

    module _ (x : Hosted V L B g) (end : Ends entries_in owner_of note_in first_of (view_of new) x) where
      k : Ends entries_in owner_of note_in first_of (both_views (view_of first) (view_of given)) x
      k = subst (λ (v : View LifeEntry Stage). Ends entries_in owner_of note_in first_of v x) is end

      heard_follows : (s : Seat (Hosted V L B g) LifeEntry Stage) → FollowsHeard entries_in owner_of note_in first_of (heard_of (view_of s)) x
          → Follows entries_in owner_of note_in first_of (view_of s) x
      heard_follows s h = record { has_base = h.has_base; goes = h.goes; known = h.known }

      pub given_follows : Follows entries_in owner_of note_in first_of (view_of given) x
      given_follows = heard_follows given (k.heard 0 (heard_of (view_of given)) (omega arith))

      pub first_ends : Ends entries_in owner_of note_in first_of (view_of first) x
      first_ends = let P : Heard LifeEntry Stage → Type 0 = λ h. FollowsHeard entries_in owner_of note_in first_of h x in record {
        follows = heard_follows first (k.heard 1 (heard_of (view_of given)) (omega arith));
        heard = All_left P (view_of first).heard (view_of given).heard (λ i d l. k.heard (suc (suc i)) d (omega arith));
      }

      -- what the log keeps of the life
      pub kept_at_end : (keep : Store → List Event → ℕ → Type 0) (failed : Bool) (total : ℕ) (v : View LifeEntry Stage) → view_of given ≡ v → v.owners ≡ LOG_SEAT ∷ [] → IsKeptAt keep failed total v
          → ∥ IsKept keep (first_of x) failed total (entries_in x) ∥₁
      kept_at_end keep failed total v e own q =
          let f = subst (λ (u : View LifeEntry Stage). Follows entries_in owner_of note_in first_of u x) e given_follows in
          kept_still keep (first_of x) failed failed total v.seen (entries_in x) (ap taken_of f.goes.is ∙ taken_behind v.seen f.goes.more (others_take_none v.owners f.goes.more own f.goes.others))
          (λ y. y) (λ _. stop_behind v.seen f.goes.more (entries_in x) f.goes.is (others_stop_none v.owners f.goes.more own f.goes.others)) (q.kept (first_of x) f.has_base)

  -- the list begins with what each session has seen
  within : (x : Hosted V L B g) (t : Turn (Hosted V L B g) LifeEntry Stage) (life : List LifeEntry) → AddsNoCalls (entries_in x) life → (ps : List (StoreSession V L B g))
      → All (closing.Tells front_ghosts t x) (map front_seat ps) → All (IsWithin life) ps
  within x t life m [] a = All_none (IsWithin life)
  within x t life m (p ∷ ps) a = let f = a 0 p.seat (omega arith) in
      All_cons (IsWithin life) p ps record {
        more = f.goes.more ++ m.more;
        is = m.is ∙ (ap (λ (l : List LifeEntry). l ++ m.more) f.goes.is ∙ append_assoc (view_of p.seat).seen f.goes.more m.more);
        calls = ap (calls_of p.session.0) m.is ∙ (calls_append p.session.0 (entries_in x) m.more ∙ (ap (λ (l : List LifeEntry). calls_of p.session.0 (entries_in x) ++ l) (m.calls p.session.0)
            ∙ (append-nil (calls_of p.session.0 (entries_in x))
            ∙ (ap (calls_of p.session.0) f.goes.is ∙ others_none p.session.0 (view_of p.seat).owners (view_of p.seat).seen f.goes.more p.knows.owner f.goes.others))));
      }
      (within x t life m ps (λ k d l. a (suc k) d (omega arith)))

  pub all_within : (t : Turn (Hosted V L B g) LifeEntry Stage) (whole items : List (StoreSession V L B g)) (first : Seat (Hosted V L B g) LifeEntry Stage) (x : Hosted V L B g) (life : List LifeEntry)
      → length items ≡ 0 → Ends entries_in owner_of note_in first_of (view_of first) x → AddsNoCalls (entries_in x) life → AtFront t whole items first → All (IsWithin life) whole
  all_within t whole items first x life none ends m inv = within x t life m whole (finishes front_ghosts t front_seat (λ p. p.knows.owner) (λ p. p.outside) whole items first x none ends inv)

  -- no session was told of more commits than the log keeps
  told_all : (u : Turn (Keeper V L B g) Kept Place) (x : Keeper V L B g) (least : ℕ) → x.total ≤ least → (ps : List (StoreSession V L B g)) → All (closing.Tells log_ghosts u x) (map log_seat ps)
      → All (λ (p : StoreSession V L B g). told p ≤ least) ps
  told_all u x least l [] a = All_none (λ (p : StoreSession V L B g). told p ≤ least)
  told_all u x least l (p ∷ ps) a =
      let f = a 0 p.log_seat (omega arith) in
      let n = total_more (view_of p.log_seat).seen f.goes.more in
      let e : total_in (tells_in x) ≡ total_in ((view_of p.log_seat).seen ++ f.goes.more) = ap total_in f.goes.is in
      let k = x.told in
      All_cons (λ (q : StoreSession V L B g). told q ≤ least) p ps (let z : told p ≤ least = omega arith in z) (told_all u x least l ps (λ i d m. a (suc i) d (omega arith)))

  pub kept_to_end : (u : Turn (Keeper V L B g) Kept Place) (whole items : List (StoreSession V L B g)) (first : Seat (Keeper V L B g) Kept Place) (x : Keeper V L B g)
      (keep : Store → List Event → ℕ → Type 0) (b : Stage) (failed : Bool) (life : List LifeEntry)
      → length items ≡ 0 → Ends tells_in writer_of tell_note place_of (view_of first) x → IsKeptAfter keep b failed x.total life → AtLog u whole items first → IsKeptToTheEnd keep b failed life whole
  kept_to_end u whole items first x keep b failed life none ends k inv = record {
    total = k.total;
    kept = k.kept;
    told_less = told_all u x k.total k.enough whole (finishes log_ghosts u log_seat (λ p. p.knows_log.owner) (λ p. p.log_outside) whole items first x none ends inv);
  }
