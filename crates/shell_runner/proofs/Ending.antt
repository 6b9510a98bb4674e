-- The sessions are ended one after another.
use Rattle.std.proofs.Common.{◌≡◌, ◌≢◌, ℕ, zero, suc, ◌+◌, ◌<◌, ◌≤◌, Bool, true, false, cond, List, [], ◌∷◌, ◌++◌, filter, map, reverse}
use Rattle.std.proofs.Common.{Option, Some, None, Result, Ok, Err, IsTrue, is_some, inl, inr, refl, sym, ap, ◌∙◌, subst, arith, append_assoc}
use Rattle.std.specs.Prelude.{◌⊎◌, IfOk, MatchResult}
use Rattle.std.proofs.lemmas.Result.{MatchResult-at_err, MatchResult-at_ok}
use Rattle.teb_rules.specs.history.Written.{held_txn, txn_of}
use Rattle.std.specs.Io.KnownBytes.{Appends}
use Rattle.teb_io.specs.Bytes.{AppendsFront}
use Rattle.std.proofs.lemmas.Bool.{cases_eq}
use Rattle.std.proofs.lemmas.List.{append-nil, map-append, reverse-append}
use Rattle.std.proofs.lemmas.List.Elements.{filter-append}
use Rattle.std.proofs.KnownBytes.{Appends-kept, Appends-nil, Appends-trans}
use Rattle.teb_rules.specs.declared.names.TheConstants.{SESSIONS}
use Rattle.teb_rules.specs.declared.names.Session.{Session}
use Rattle.teb_rules.specs.declared.names.Request.TheVariants as request
use Rattle.teb_rules.specs.declared.history.Event.{Event}
use Rattle.teb_rules.specs.history.Phases.{held, numbers}
use Rattle.teb_rules.specs.Answer.{answer}
use Rattle.shell_lines.specs.declared.line.ShellLine.{ShellLine}
use Rattle.shell_lines.specs.declared.line.ShellLine.TheVariants as line
use Rattle.shell_lines.specs.declared.reply.StoreReply.TheVariants as reply
use Rattle.shell_lines.specs.declared.reply.StoreReply.{StoreReply}
use Rattle.shell_runner.specs.States.{HasAsked, IsReached, Stored}
use Rattle.shell_runner.specs.Answers.{IsAnswered, IsTold, ShowsReply, State}
use Rattle.shell_runner.specs.Holders.{IsReleased, holders, is_holder}
use Rattle.shell_runner.specs.Runs.{Answers, EndsAtEnd, EndsIfHeld, GoesOnAfter, HasEnded, HasNone, HasRead, HasStopped}
use Rattle.shell_runner.specs.Runs.{IsEnded, IsGoing, IsRun, IsSafely, Step, StopsAt, asked_by, end_of, said, state_of}
use Rattle.shell_runner.specs.declared.ended.EndStatus.TheVariants.{Done, Failed}
use Rattle.shell_runner.specs.declared.ended.RunError.{RunError}
use Rattle.shell_runner.specs.declared.ended.RunError.TheVariants as errors
use Rattle.shell_runner.specs.declared.shell.Shell.{Shell}
use Rattle.shell_runner.specs.declared.step.After.{After}
use Rattle.shell_runner.specs.declared.step.After.TheVariants.{Next, Bad, Quit, Stopped}
use Rattle.shell_runner.proofs.Going.{appends_front, failed_same, quits, unmoved, written_with}
use Rattle.shell_runner.proofs.Released.{released}

-- the End of a session that holds a transaction, once it has a reply, releases the session
pub end_released : (s t : Stored) (session : Session) → IsReached s → IsTrue (is_some (held s.events session.0)) → HasAsked s session request.End t → IsReleased session.0 s.events t.events
end_released s t session reached holds asked = subst (IsReleased session.0 s.events) (sym asked.events) (go (held s.events session.0) refl holds)
  where
    go : (o : Option ℕ) → held s.events session.0 ≡ o → IsTrue (is_some o) → IsReleased session.0 s.events (answer s.store s.events session request.End).1
    go None e h = absurd (cc)
    go (Some n) e h = released s.store s.events session n reached.sound reached.asked reached.leads e

told_released : (s t : State) (session : Session) (r : StoreReply) → IsReached s.stored → IsTrue (is_some (held s.stored.events session.0)) → IsTold s session request.End r t
    → IsReleased session.0 s.stored.events t.stored.events
told_released s t session (reply.Reply r) reached holds h = end_released s.stored t.stored session reached holds h.0.1
told_released s t session reply.Later reached holds h = absurd h
told_released s t session reply.Full reached holds h = absurd (let e = h.0.1.asks in cc)
told_released s t session reply.Unsure reached holds h = end_released s.stored t.stored session reached holds h.0.1

pub reply_released : {E : Type 0} (s t : State) (session : Session) (text : List ℕ) (r : Result After E) → IfOk r (λ (after : After). ShowsReply s session request.End text after t)
    → IsReached s.stored → IsTrue (is_some (held s.stored.events session.0)) → IfOk r (λ (after : After). IsReleased session.0 s.stored.events t.stored.events)
reply_released s t session text (Ok a) h reached holds = told_released s t session h.answer reached holds h.told
reply_released s t session text (Err e) h reached holds = tt

-- the End of a session does not stop the run, unless the store has stopped
pub end_goes_on : (s t : State) (session : Session) (after : After) (now later : Option (List ℕ)) → Answers 1 s (line.Ask session request.End) after t now later → (after ≡ Stopped → ⊥)
    → GoesOnAfter after
end_goes_on s t session Next now later a going = tt
end_goes_on s t session Bad now later a going = tt
end_goes_on s t session Quit now later a going = absurd (let e = quits 1 s (line.Ask session request.End) a.text t a.answered in cc)
end_goes_on s t session Stopped now later a going = absurd (going refl)

-- the numbers up to k that pass, and the next number
one_number : (p : ℕ → Bool) (k : ℕ) (b : Bool) → p (suc k) ≡ b → filter p (suc k ∷ []) ≡ cond b (suc k ∷ []) []
one_number p k b e = rw e refl

next_number : (p : ℕ → Bool) (k : ℕ) (b : Bool) → p (suc k) ≡ b → filter p (numbers (suc k)) ≡ filter p (numbers k) ++ cond b (suc k ∷ []) []
unfolding numbers
next_number p k b e = filter-append p (numbers k) (suc k ∷ []) ∙ ap (λ (l : List ℕ). filter p (numbers k) ++ l) (one_number p k b e)

no_number : (p : ℕ → Bool) (m : ℕ) → ((n : ℕ) → 0 < n → n ≤ m → p n ≡ false) → filter p (numbers m) ≡ []
no_number p zero f = unfold numbers in refl
no_number p (suc m) f = next_number p m false (f (suc m) (omega arith) (omega arith)) ∙ append-nil (filter p (numbers m)) ∙ no_number p m (λ n a b. f n a (omega (arith, b)))

one_number_more : (m : ℕ) → numbers (suc m) ≡ numbers m ++ suc m ∷ []
unfolding numbers
one_number_more m = refl

more_numbers : (m k : ℕ) → k ≤ m → (more : List ℕ) × (numbers m ≡ numbers k ++ more)
more_numbers zero k h = ([], ap numbers (omega (arith, h)) ∙ sym (append-nil (numbers k)))
more_numbers (suc m) k h = elim (cases_eq k (suc m)) [
  | inl e ↦ ([], ap numbers (sym e) ∙ sym (append-nil (numbers k)))
  | inr ne ↦ let r = more_numbers m k (omega (arith, h, ne)) in (r.0 ++ suc m ∷ [], one_number_more m ∙ ap (λ (l : List ℕ). l ++ suc m ∷ []) r.1 ∙ append_assoc (numbers k) r.0 (suc m ∷ []))
]

-- the holders up to k, followed by the remaining ones, are all holders
left_over : (H : List Event) (k : ℕ) → k ≤ SESSIONS → (more : List ℕ) × (map end_of (filter (is_holder H) (numbers k)) ++ map end_of more ≡ map end_of (holders H))
left_over H k h =
    let r = more_numbers SESSIONS k h in (
      filter (is_holder H) r.0,
      sym (map-append end_of (filter (is_holder H) (numbers k)) (filter (is_holder H) r.0))
          ∙ ap (map end_of) (sym (filter-append (is_holder H) (numbers k) r.0) ∙ ap (filter (is_holder H)) (sym r.1)),
    )

one_asked : (step : Step) (ends : List Step) (k : ℕ) → asked_by step ≡ end_of (suc k) → map asked_by (reverse (step ∷ ends)) ≡ map asked_by (reverse ends) ++ map end_of (suc k ∷ [])
one_asked step ends k e = ap (map asked_by) (reverse-append (step ∷ []) ends) ∙ map-append asked_by (reverse ends) (step ∷ [])
    ∙ ap (λ (x : Option (List ℕ) × ShellLine). map asked_by (reverse ends) ++ x ∷ []) e

-- each of the sessions 1 to k that held a transaction was ended
pub record EndsSoFar {T : Type 0} (stored : T → Stored) (safe : T → T → Type 0) (mid : Shell T) (k : ℕ) (last : Shell T) (before now : Option (List ℕ)) : Type 0 where
  pub ends : List Step
  pub going : IsGoing ends
  pub run : IsRun stored safe mid ends last
  pub asked : map asked_by (reverse ends) ≡ map end_of (filter (is_holder (stored mid.store).events) (numbers k))
  pub none : (n : ℕ) → 0 < n → n ≤ k → held (stored last.store).events n ≡ None
  pub others : (n : ℕ) → k < n → held (stored last.store).events n ≡ held (stored mid.store).events n
  pub written : Appends before now (said ends)

pub no_end_yet : {T : Type 0} (stored : T → Stored) (safe : T → T → Type 0) (mid : Shell T) (now : Option (List ℕ)) → EndsSoFar stored safe mid 0 mid now now
no_end_yet stored safe mid now = record {
  ends = [];
  going = tt;
  run = refl;
  asked = unfold numbers in refl;
  none = λ n a b. absurd (omega (arith, a, b));
  others = λ n a. refl;
  written = Appends-nil now;
}

module _ {T : Type 0} (stored : T → Stored) (safe : T → T → Type 0) (mid : Shell T) (before : Option (List ℕ)) where
  module _ (k : ℕ) (s t : Shell T) (now later : Option (List ℕ)) (r : EndsSoFar stored safe mid k s before now) where
    -- the next session still holds what it held at first
    was : is_holder (stored mid.store).events (suc k) ≡ is_some (held (stored s.store).events (suc k))
    was = ap (λ (o : Option ℕ). is_some o) (sym (r.others (suc k) (omega arith)))

    none_of : IsReleased (suc k) (stored s.store).events (stored t.store).events → (n : ℕ) → 0 < n → n ≤ suc k → held (stored t.store).events n ≡ None
    none_of rel n a b = elim (cases_eq n (suc k)) [
      | inl e ↦ ap (held (stored t.store).events) e ∙ rel.none
      | inr ne ↦ rel.others n ne ∙ r.none n a (omega (arith, b, ne))
    ]

    others_of : IsReleased (suc k) (stored s.store).events (stored t.store).events → (n : ℕ) → suc k < n → held (stored t.store).events n ≡ held (stored mid.store).events n
    others_of rel n a = rel.others n (λ e. absurd (omega (arith, a, e))) ∙ r.others n (omega (arith, a))

    abbrev end_step : List ℕ → After → Step
    end_step text after = record { line = None; asks = line.Ask (record { 0 = suc k }) request.End; file = []; text = text; after = after }

    more_ends : (text : List ℕ) (after : After) → IsTrue (is_some (held (stored s.store).events (suc k))) → IsAnswered 1 (state_of stored s) (line.Ask (record { 0 = suc k }) request.End) text after
        (state_of stored t) → IsSafely safe s t
        → IsRun stored safe mid (end_step text after ∷ r.ends) t
    more_ends text after holds answered between = (s, r.run, r.going, record { asks = (record { 0 = suc k }, refl, holds); brings = inr refl; answered = answered; safely = between })

    pub more_asked : (text : List ℕ) (after : After) → IsTrue (is_some (held (stored s.store).events (suc k))) → map asked_by (reverse (end_step text after ∷ r.ends)) ≡ map end_of
        (filter (is_holder (stored mid.store).events) (numbers (suc k)))
    more_asked text after holds =
        one_asked (end_step text after) r.ends k refl ∙ ap (λ (l : List (Option (List ℕ) × ShellLine)). l ++ map end_of (suc k ∷ [])) r.asked
        ∙ sym (ap (map end_of) (next_number (is_holder (stored mid.store).events) k true (was ∙ holds)) ∙ map-append end_of (filter (is_holder (stored mid.store).events) (numbers k)) (suc k ∷ []))

    one_more_end : IsEnded stored safe (record { 0 = suc k }) s t now later → IsReleased (suc k) (stored s.store).events (stored t.store).events → EndsSoFar stored safe mid (suc k) t before later
    one_more_end e rel = record {
      ends = end_step e.answers.text e.after ∷ r.ends;
      going = e.goes_on;
      run = more_ends e.answers.text e.after e.holds e.answers.answered e.safely;
      asked = more_asked e.answers.text e.after e.holds;
      none = none_of rel;
      others = others_of rel;
      written = Appends-trans before now later (said r.ends) e.answers.text r.written e.answers.written;
    }

    no_end : HasNone stored (record { 0 = suc k }) s t now later → IsReleased (suc k) (stored s.store).events (stored t.store).events → EndsSoFar stored safe mid (suc k) t before later
    no_end e rel = record {
      ends = r.ends;
      going = r.going;
      run = subst (IsRun stored safe mid r.ends) (sym e.same) r.run;
      asked = r.asked ∙ ap (map end_of)
          (sym (next_number (is_holder (stored mid.store).events) k false (was ∙ ap (λ (o : Option ℕ). is_some o) e.holds) ∙ append-nil (filter (is_holder (stored mid.store).events) (numbers k))));
      none = none_of rel;
      others = others_of rel;
      written = subst (λ (w : Option (List ℕ)). Appends before w (said r.ends)) (sym e.unwritten) r.written;
    }

    -- the next session was ended, or it held no transaction
    pub passed : EndsIfHeld stored safe (record { 0 = suc k }) s t now later → IsReleased (suc k) (stored s.store).events (stored t.store).events → EndsSoFar stored safe mid (suc k) t before later
    passed (inl e) rel = one_more_end e rel
    passed (inr e) rel = no_end e rel

  -- the sessions are ended after the lines were read
  module _ (first : Shell T) (left start : Option (List ℕ)) (any_bad : Bool) (read : HasRead stored safe first left start any_bad mid before) where
    whole : (now : Option (List ℕ)) (ends : List Step) → Appends before now (said ends) → Appends start now (said read.steps ++ said ends)
    whole now ends w = Appends-trans start before now (said read.steps) (said ends) read.written w

    front : (now : Option (List ℕ)) (ends : List Step) → AppendsFront before now (said ends) → AppendsFront start now (said read.steps ++ said ends)
    front now ends w = appends_front start before now (said read.steps) (said ends) read.written w

    -- the run ends during the End of a session
    module _ (why : RunError) where
      cut_off : (ends : List Step) (last end : Shell T) (now : Option (List ℕ)) (k : ℕ) → k ≤ SESSIONS → IsRun stored safe mid ends last
          → map asked_by (reverse ends) ≡ map end_of (filter (is_holder (stored mid.store).events) (numbers k))
          → ((why ≢ errors.WriteFault) × Appends start now (said read.steps ++ said ends)) ⊎ ((why ≡ errors.WriteFault) × AppendsFront start now (said read.steps ++ said ends))
          → (why ≡ errors.DiskFault → HasStopped ends) → why ≢ errors.TooLong → (why ≢ errors.OutOfMemory → end ≡ last) → IsSafely safe last end
          → HasEnded stored safe first left start (Failed why) end now
      cut_off ends last end now k low run asked written stops short same safely =
          let l = left_over (stored mid.store).events k low in
          record {
            lines = read.steps;
            mid = mid;
            rest = read.rest;
            run = read.run;
            taken = read.taken;
            through = λ d. absurd d;
            ends = ends;
            more = l.0;
            last = last;
            closing = run;
            ended = ap (λ (x : List (Option (List ℕ) × ShellLine)). x ++ map end_of l.0) asked ∙ l.1;
            closed = λ d. absurd d;
            written = written_with start now (said read.steps ++ said ends) why written;
            stopped = λ p. inr (stops (failed_same why errors.DiskFault p));
            too_long = λ p. absurd (short (failed_same why errors.TooLong p));
            same = λ n. same (λ e. n (ap Failed e));
            safely = safely;
          }

    pub stopped_at : (k : ℕ) (s t : Shell T) (now later : Option (List ℕ)) (why : RunError) → k < SESSIONS → EndsSoFar stored safe mid k s before now
        → EndsAtEnd stored safe (record { 0 = suc k }) why s t now later → HasEnded stored safe first left start (Failed why) t later
    stopped_at k s t now later why low r e = go e.stops
      where
        go : StopsAt 1 (state_of stored s) (line.Ask (record { 0 = suc k }) request.End) why (state_of stored t) now later
            ⊎ ((why ≡ errors.DiskFault) × Answers 1 (state_of stored s) (line.Ask (record { 0 = suc k }) request.End) Stopped (state_of stored t) now later)
            → HasEnded stored safe first left start (Failed why) t later
        go (inl (inl (write, a))) =
            cut_off why (end_step k s t now later r a.text a.after ∷ r.ends) t t later (suc k) (omega (arith, low))
            (more_ends k s t now later r a.text a.after e.holds a.answered e.safely)
            (more_asked k s t now later r a.text a.after e.holds)
            (inr (write, front later (end_step k s t now later r a.text a.after ∷ r.ends) (appends_front before now later (said r.ends) a.text r.written a.written)))
            (λ p. absurd (cc)) (λ p. absurd (cc)) (λ _. refl) (unmoved safe t)
        go (inl (inr (memory, kept))) =
            cut_off why r.ends s t later k (omega (arith, low)) r.run r.asked
            (inl ((λ p. absurd (cc)), whole later r.ends (Appends-kept before now later (said r.ends) r.written kept)))
            (λ p. absurd (cc)) (λ p. absurd (cc)) (λ p. absurd (p memory)) e.safely
        go (inr (disk, a)) =
            cut_off why (end_step k s t now later r a.text Stopped ∷ r.ends) t t later (suc k) (omega (arith, low))
            (more_ends k s t now later r a.text Stopped e.holds a.answered e.safely)
            (more_asked k s t now later r a.text Stopped e.holds)
            (inl (
              (λ p. absurd (cc)),
              whole later (end_step k s t now later r a.text Stopped ∷ r.ends) (Appends-trans before now later (said r.ends) a.text r.written a.written),
            )) (λ _. refl)
            (λ p. absurd (cc)) (λ _. refl) (unmoved safe t)

    -- all sessions were ended
    pub all_ended : (s : Shell T) (now : Option (List ℕ)) → EndsSoFar stored safe mid SESSIONS s before now → HasEnded stored safe first left start (Done any_bad) s now
    all_ended s now r = record {
      lines = read.steps;
      mid = mid;
      rest = read.rest;
      run = read.run;
      taken = read.taken;
      through = λ _. (read.through, ap Done read.bad);
      ends = r.ends;
      more = [];
      last = s;
      closing = r.run;
      ended = append-nil (map asked_by (reverse r.ends)) ∙ r.asked;
      closed = λ _. (refl, no_number (is_holder (stored s.store).events) SESSIONS (λ n a b. ap (λ (o : Option ℕ). is_some o) (r.none n a b)));
      written = inl ((λ p. absurd (cc)), whole now r.ends r.written);
      stopped = λ p. absurd (cc);
      too_long = λ p. absurd (cc);
      same = λ _. refl;
      safely = unmoved safe s;
    }

-- the same, for a session given by its number
module _ {T : Type 0} (stored : T → Stored) (safe : T → T → Type 0) (mid : Shell T) (before : Option (List ℕ)) where
  pub passing : (number k : ℕ) (s t : Shell T) (now later : Option (List ℕ)) → number ≡ k + 1 → EndsSoFar stored safe mid k s before now → EndsIfHeld stored safe (record { 0 = number }) s t now later
      → IsReleased number (stored s.store).events (stored t.store).events
      → EndsSoFar stored safe mid (suc k) t before later
  passing number k s t now later e r ends rel =
      let is : number ≡ suc k = omega (arith, e) in
      passed stored safe mid before k s t now later r (subst (λ (n : ℕ). EndsIfHeld stored safe (record { 0 = n }) s t now later) is ends)
      (subst (λ (n : ℕ). IsReleased n (stored s.store).events (stored t.store).events) is rel)

  pub ending : (first : Shell T) (left start : Option (List ℕ)) (any_bad : Bool) → HasRead stored safe first left start any_bad mid before
      → (number k : ℕ) (s t : Shell T) (now later : Option (List ℕ)) (why : RunError) → number ≡ k + 1 → k < SESSIONS
      → EndsSoFar stored safe mid k s before now → EndsAtEnd stored safe (record { 0 = number }) why s t now later → HasEnded stored safe first left start (Failed why) t later
  ending first left start any_bad read number k s t now later why e low r ends =
      let is : number ≡ suc k = omega (arith, e) in
      stopped_at stored safe mid before first left start any_bad read k s t now later why low r (subst (λ (n : ℕ). EndsAtEnd stored safe (record { 0 = n }) why s t now later) is ends)

-- if an answer was written, what holds of the answer holds of the result
pub same_result : {E : Type 0} (W P : Type 0) (answered : Result After E) (r : Result After RunError) → IfOk r (λ (a : After). (answered ≡ Ok a) × W) → IfOk answered (λ (a : After). P)
    → IfOk r (λ (a : After). P)
same_result W P (Ok b) (Ok a) w h = h
same_result W P (Err e) (Ok a) w h = absurd (let q = w.0 in cc)
same_result W P answered (Err e) w h = tt

-- a session is ended, or its answer stops the run
module _ {T : Type 0} (stored : T → Stored) (safe : T → T → Type 0) (session : Session) (s t : Shell T) (now later : Option (List ℕ)) where
  pub ends_or_stops : (a : Result After RunError) (d : Result (Unit {0}) RunError) → IsTrue (is_some (held (stored s.store).events session.0))
      → MatchResult a (λ (after : After). Answers 1 (state_of stored s) (line.Ask session request.End) after (state_of stored t) now later)
      (λ (why : RunError). StopsAt 1 (state_of stored s) (line.Ask session request.End) why (state_of stored t) now later)
      → IsSafely safe s t → MatchResult d (λ (u : Unit {0}). (b : After) × (a ≡ Ok b) × (b ≡ Stopped → ⊥)) (λ (why : RunError). (a ≡ Err why) ⊎ ((a ≡ Ok Stopped) × (why ≡ errors.DiskFault)))
      → MatchResult d (λ (u : Unit {0}). EndsIfHeld stored safe session s t now later) (λ (why : RunError). EndsAtEnd stored safe session why s t now later)
  ends_or_stops a (Ok u) holds m between g =
      let n = MatchResult-at_ok (λ (after : After). Answers 1 (state_of stored s) (line.Ask session request.End) after (state_of stored t) now later)
      (λ (why : RunError). StopsAt 1 (state_of stored s) (line.Ask session request.End) why (state_of stored t) now later) g.0 g.1 m in
      inl (record { after = g.0; goes_on = end_goes_on (state_of stored s) (state_of stored t) session g.0 now later n g.2; holds = holds; answers = n; safely = between })
  ends_or_stops a (Err why) holds m between (inl g) =
      record {
        holds = holds;
        stops = inl (MatchResult-at_err (λ (after : After). Answers 1 (state_of stored s) (line.Ask session request.End) after (state_of stored t) now later)
            (λ (why : RunError). StopsAt 1 (state_of stored s) (line.Ask session request.End) why (state_of stored t) now later) why g m);
        safely = between;
      }
  ends_or_stops a (Err why) holds m between (inr g) =
      record {
        holds = holds;
        stops = inr (
          g.1,
          MatchResult-at_ok (λ (after : After). Answers 1 (state_of stored s) (line.Ask session request.End) after (state_of stored t) now later)
              (λ (why : RunError). StopsAt 1 (state_of stored s) (line.Ask session request.End) why (state_of stored t) now later) Stopped g.0 m,
        );
        safely = between;
      }

-- what holds of each answer also holds if the run goes on
pub on_result : (P : Type 0) (a : Result After RunError) (d : Result (Unit {0}) RunError) → MatchResult d (λ (u : Unit {0}). (b : After) × (a ≡ Ok b) × (b ≡ Stopped → ⊥))
    (λ (why : RunError). (a ≡ Err why) ⊎ ((a ≡ Ok Stopped) × (why ≡ errors.DiskFault)))
    → IfOk a (λ (after : After). P) → IfOk d (λ (u : Unit {0}). P)
on_result P (Ok b) (Ok u) g h = h
on_result P (Err e) (Ok u) g h = absurd (let q = g.1 in cc)
on_result P a (Err why) g h = tt

-- a session that holds no transaction
pub none_held : (H K : List Event) (s : Session) → K ≡ H → held_txn K s ≡ None → held H s.0 ≡ None
none_held H K s same is = subst (λ (J : List Event). held J s.0 ≡ None) same (go (held K s.0) is)
  where
    go : (o : Option ℕ) → txn_of o ≡ None → o ≡ None
    go None e = refl
    go (Some n) e = absurd (cc)

pub still : (H : List Event) (s : ℕ) → held H s ≡ None → IsReleased s H H
still H s none = record { none = none; others = λ n ne. refl }
