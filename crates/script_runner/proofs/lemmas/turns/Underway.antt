-- The driver between two calls: its log, its history and its ring.
use Rattle.std.proofs.Common.{◌≡◌, ℕ, zero, suc, ◌+◌, ◌<◌, ◌≤◌, Bool, true, false, List, [], ◌∷◌, ◌++◌, Option, Some, None, Result}
use Rattle.std.proofs.Common.{Ok, Err, OnErr, length, take, drop, refl, sym, ◌∙◌, ap, ap₂, subst, subst₂, arith, length-append}
use Rattle.std.specs.Prelude.{All}
use Rattle.std.proofs.lemmas.List.{length-map, take-append-drop, map_push}
use Rattle.teb_rules.specs.declared.names.naming.NameBook.{NameBook}
use Rattle.teb_rules.specs.declared.names.Reply.{Reply}
use Rattle.teb_rules.specs.declared.names.Entry.{Entry}
use Rattle.teb_rules.specs.declared.history.Event.{Event}
use Rattle.teb_rules.specs.Setup.{Store}
use Rattle.teb_rules.specs.Accepted.{IsSound}
use Rattle.teb_rules.specs.Answer.{answer}
use Rattle.teb_rules.specs.Run.{history_of}
use Rattle.teb_rules.specs.Scripts.{Script}
use Rattle.teb_rules.specs.Driver.{Seat, Ascending, Drive, Follows, Turn, Turns, Stepped, at_start, next_round, seat_after, seated}
use Rattle.driver_laws.specs.Laws.{Driving, most_requests}
use Rattle.driver_laws.proofs.Bound.{start_round}
use Rattle.driver_laws.proofs.Ends.{driving_start, driving_step, driving_short, driving_end, driving_bound, follows_round}
use Rattle.driver_laws.proofs.Keeping.{SeatOk}
use Rattle.driver_laws.proofs.Logs.{drive_history}
use Rattle.driver_laws.proofs.Lone.{Every, every_append, every_more}
use Rattle.driver_laws.proofs.Rounds.{Round, every_back, every_front}
use Rattle.teb_rules.proofs.lemmas.laws.Sound.{tree_facts}
use Rattle.script_text.specs.declared.Answered.{Answered}
use Rattle.script_runner.specs.declared.turns.ring.Asked.{Asked}
use Rattle.script_runner.specs.turns.Seats.{round_from}
use Rattle.script_runner.specs.turns.Turns.{IsTurnOf}
use Rattle.script_runner.specs.turns.Logged.{answered, answers_of, AreAnswers, IsOf, IsAnswered, IsMade}

-- one turn: the session that is asked, the answer, and the round after it
pub turn_taken : (X Y : Store) (H G K : List Event) (n : ℕ) (ws rs : List Seat) (a : Asked) (q : Reply) → (t : IsTurnOf H n ws a) → Y ≡ X → G ≡ H → q ≡ (answer Y G a.session a.request.now).0
    → K ≡ (answer Y G a.session a.request.now).1 →
    rs ≡ drop (a.index + 1) ws ++ take a.index ws ++ seat_after t.of.seat q ∷ [] →
    Stepped X (record { history = H; round = round_from n ws }) (Some (record { session = a.session; request = a.request.now; reply = q })) (record { history = K; round = rs })
turn_taken X Y H G K n ws rs a q t x g p k r = (
  t.of,
  t.is,
  t.session,
  t.request,
  p ∙ ap₂ (λ (Z : Store) (J : List Event). (answer Z J a.session a.request.now).0) x g,
  ap₂ (λ (J : List Event) (vs : List Seat). record { history = J; round = vs }) (k ∙ ap₂ (λ (Z : Store) (J : List Event). (answer Z J a.session a.request.now).1) x g)
      (r ∙ ap (λ (vs : List Seat). vs ++ seat_after t.of.seat q ∷ []) (sym t.others) ∙ sym (ap (λ (u : Option Turn). next_round u (round_from n ws) q) t.is)),
)

every_all : (P : Seat → Type 0) (ws : List Seat) → Every P ws → All P ws
every_all P [] h k d l = absurd (omega (arith, l))
every_all P (w ∷ ws) h zero d l = h.0
every_all P (w ∷ ws) h (suc k) d l = every_all P ws h.1 k d (omega (arith, l))

-- the log of the driver, its history, and the round after it
pub record IsUnderway (X : Store) (scripts : List Script) (log : List Answered) (H : List Event) (ws : List Seat) : Type 0 where
  pub entries : List Entry
  pub driving : Driving X scripts entries (record { history = H; round = ws })
  pub replies : log ≡ answers_of entries

pub underway_start : (X : Store) (scripts : List Script) (log : List Answered) (H : List Event) (ws : List Seat) → log ≡ [] → H ≡ [] → ws ≡ seated scripts → IsUnderway X scripts log H ws
underway_start X scripts log H ws a b c = record { entries = []; driving = rw (b, c) (driving_start X scripts); replies = a }

pub underway_next : (X : Store) (scripts : List Script) (log logged : List Answered) (H K : List Event) (ws vs : List Seat) → IsUnderway X scripts log H ws →
    IsAnswered X (record { history = H; round = ws }) log (record { history = K; round = vs }) logged → IsUnderway X scripts logged K vs
underway_next X scripts log logged H K ws vs u m = record {
  entries = u.entries ++ m.entry ∷ [];
  driving = driving_step X scripts u.entries (record { history = H; round = ws }) m.entry (record { history = K; round = vs }) u.driving m.stepped;
  replies = m.replies ∙ ap (λ (l : List Answered). l ++ answered m.entry ∷ []) u.replies ∙ sym (map_push answered u.entries m.entry);
}

log_size : (entries : List Entry) (log : List Answered) → log ≡ answers_of entries → length log ≡ length entries
log_size entries log e = ap length e ∙ length-map entries answered

pub underway_short : (X : Store) → IsSound X.setup → (scripts : List Script) → Ascending 0 scripts → (log logged : List Answered) (H K : List Event) (ws vs : List Seat) → IsUnderway X scripts log H ws
    →
    IsAnswered X (record { history = H; round = ws }) log (record { history = K; round = vs }) logged → length log < most_requests scripts
underway_short X a scripts h log logged H K ws vs u m =
    let z = log_size u.entries log u.replies in
    let y = driving_short X a scripts h u.entries (record { history = H; round = ws }) m.entry (record { history = K; round = vs }) u.driving m.stepped in omega arith

pub underway_bound : (X : Store) → IsSound X.setup → (scripts : List Script) → Ascending 0 scripts → (log : List Answered) (H : List Event) (ws : List Seat) → IsUnderway X scripts log H ws
    → length log ≤ most_requests scripts
underway_bound X a scripts h log H ws u =
    let z = log_size u.entries log u.replies in
    let y = driving_bound X a scripts h u.entries (record { history = H; round = ws }) u.driving in omega arith

underway_history : (X : Store) (scripts : List Script) (entries : List Entry) (H : List Event) (ws : List Seat) → Driving X scripts entries (record { history = H; round = ws })
    → H ≡ history_of X entries
underway_history X scripts entries H ws v = sym (ap (λ (d : Drive). d.history) v.stands) ∙ drive_history X entries (at_start scripts)

pub underway_made : (X : Store) (scripts : List Script) (log : List Answered) (H : List Event) (ws : List Seat) → IsUnderway X scripts log H ws → IsOf (Follows X [] (seated scripts)) X log H
underway_made X scripts log H ws u = record { entries = u.entries; holds = u.driving.follows; replies = u.replies; events = underway_history X scripts u.entries H ws u.driving }

pub underway_ended : (X : Store) (scripts : List Script) (log : List Answered) (H K : List Event) (ws vs : List Seat) → IsUnderway X scripts log H ws
    → Stepped X (record { history = H; round = ws }) None (record { history = K; round = vs }) → IsOf (Turns X scripts) X log H
underway_ended X scripts log H K ws vs u s = record {
  entries = u.entries;
  holds = record { follows = u.driving.follows; ends = driving_end X scripts u.entries (record { history = H; round = ws }) (record { history = K; round = vs }) u.driving s };
  replies = u.replies;
  events = underway_history X scripts u.entries H ws u.driving;
}

-- no session was sent back more than three times
pub underway_few : (X : Store) → IsSound X.setup → (scripts : List Script) → Ascending 0 scripts → (log : List Answered) (H : List Event) (n : ℕ) (ws : List Seat)
    → IsUnderway X scripts log H (round_from n ws) → All (λ (w : Seat). w.aborts ≤ 3) ws
underway_few X a scripts h log H n ws u =
    let d : Drive = record { history = H; round = round_from n ws } in
    let o : Round X.setup H (round_from n ws) = subst (λ (e : Drive). Round X.setup e.history e.round) u.driving.stands
    (follows_round X (tree_facts X.setup a) u.entries (at_start scripts) (start_round X.setup a.profiles scripts h) u.driving.follows) in
    let P : Seat → Type 0 = SeatOk X.setup H in
    let both : Every P (take n ws ++ drop n ws) = every_append P (take n ws) (drop n ws) (every_back P (drop n ws) (take n ws) o.seats) (every_front P (drop n ws) (take n ws) o.seats) in
    every_all (λ (w : Seat). w.aborts ≤ 3) ws (every_more P (λ (w : Seat). w.aborts ≤ 3) ws (λ w k. k.few) (subst (Every P) (take-append-drop n ws) both))

-- the log has the replies of the driver so far, and the step count has risen by one for each
pub record IsLogged (X : Store) (scripts : List Script) (Tells : List Answered → Type 0) (H : List Event) (ws : List Seat) (start steps : ℕ) : Type 0 where
  pub answers : List Answered
  pub told : Tells answers
  pub underway : IsUnderway X scripts answers H ws
  pub counted : steps ≡ start + length answers

pub logged_start : (X : Store) (scripts : List Script) (Tells : List Answered → Type 0) (H : List Event) (ws : List Seat) (start : ℕ) → Tells [] → H ≡ [] → ws ≡ seated scripts
    → IsLogged X scripts Tells H ws start start
logged_start X scripts Tells H ws start t a b = record { answers = []; told = t; underway = underway_start X scripts [] H ws refl a b; counted = omega arith }

-- out of memory: the history and the replies in the log are unchanged
pub logged_made : (X : Store) → IsSound X.setup → (scripts : List Script) → Ascending 0 scripts → (Tells Then : NameBook → List Answered → Type 0) (m n : NameBook) (H K : List Event) (ws : List Seat)
    (start steps : ℕ) → m ≡ n → K ≡ H
    → ((told : List Answered) → Tells m told → Then m told) → IsLogged X scripts (Tells n) H ws start steps → AreAnswers (Follows X [] (seated scripts)) X scripts (Then n) K start steps
logged_made X sound scripts ascending Tells Then m n H K ws start steps e k keep l = record {
  answers = l.answers;
  told = subst (λ (b : NameBook). Then b l.answers) e (keep l.answers (subst (λ (b : NameBook). Tells b l.answers) (sym e) l.told));
  of = subst (λ (J : List Event). IsOf (Follows X [] (seated scripts)) X l.answers J) (sym k) (underway_made X scripts l.answers H ws l.underway);
  steps = l.counted;
  bound = underway_bound X sound scripts ascending l.answers H ws l.underway;
}

-- what one call adds to the log, by whether a session was asked
module _ (X Y : Store) (sound : IsSound X.setup) (scripts : List Script) (ascending : Ascending 0 scripts) (Tells Then : NameBook → List Answered → Type 0) (m n : NameBook) (asked : Bool)
    (H K : List Event) (ws vs : List Seat) (start steps : ℕ)
    (same : Y ≡ X) (names : m ≡ n) (made : (told : List Answered) → Tells m told → (now : List Answered) × Then m now × IsMade Y asked (record { history = H; round = ws }) told
    (record { history = K; round = vs }) now)
    (l : IsLogged X scripts (Tells n) H ws start steps) where
  abbrev now : List Answered
  now = (made l.answers (subst (λ (b : NameBook). Tells b l.answers) (sym names) l.told)).0

  now_told : Then n now
  now_told = subst (λ (b : NameBook). Then b now) names (made l.answers (subst (λ (b : NameBook). Tells b l.answers) (sym names) l.told)).1

  is_made : (b : Bool) → asked ≡ b → IsMade X b (record { history = H; round = ws }) l.answers (record { history = K; round = vs }) now
  is_made b e = subst₂ (λ (Z : Store) (c : Bool). IsMade Z c (record { history = H; round = ws }) l.answers (record { history = K; round = vs }) now) same e
      (made l.answers (subst (λ (b : NameBook). Tells b l.answers) (sym names) l.told)).2

  pub logged_next : (then_steps : ℕ) → asked ≡ true → then_steps ≡ steps + 1 → IsLogged X scripts (Then n) K vs start then_steps
  logged_next then_steps e t =
      let one : IsAnswered X (record { history = H; round = ws }) l.answers (record { history = K; round = vs }) now = is_made true e in
      let size : length now ≡ length l.answers + 1 = ap length one.replies ∙ length-append l.answers (answered one.entry ∷ []) in
      let counted = l.counted in
      record { answers = now; told = now_told; underway = underway_next X scripts l.answers now H K ws vs l.underway one; counted = omega arith }

  pub logged_short : asked ≡ true → steps < most_requests scripts + start
  logged_short e =
      let short = underway_short X sound scripts ascending l.answers now H K ws vs l.underway (is_made true e) in
      let counted = l.counted in omega arith

  pub logged_ended : asked ≡ false → AreAnswers (Turns X scripts) X scripts (Then n) K start steps
  logged_ended e =
      let none : Stepped X (record { history = H; round = ws }) None (record { history = K; round = vs }) × (now ≡ l.answers) = is_made false e in
      let size : length now ≡ length l.answers = ap length none.1 in
      let counted = l.counted in
      let bound = underway_bound X sound scripts ascending l.answers H ws l.underway in
      record {
        answers = now;
        told = now_told;
        of = subst₂ (λ (log : List Answered) (J : List Event). IsOf (Turns X scripts) X log J) (sym none.1) (sym (ap (λ (d : Drive). d.history) none.0.1))
            (underway_ended X scripts l.answers H K ws vs l.underway none.0);
        steps = omega arith;
        bound = omega arith;
      }

-- a fact that holds for every result holds on an error
pub on_err : {T E P : Type 0} (r : Result T E) → P → OnErr r P
on_err (Ok x) p = tt
on_err (Err e) p = p
