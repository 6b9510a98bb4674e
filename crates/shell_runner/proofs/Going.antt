-- A run goes on by one step, or ends.
use Rattle.std.proofs.Common.{◌≡◌, ◌≢◌, ℕ, ◌+◌, ◌^◌, ◌≤◌, List, [], ◌∷◌, ◌++◌, length, take, Option, Some, None, Result}
use Rattle.std.proofs.Common.{Ok, Err, IsTrue, is_some, inl, inr, refl, sym, ap, ◌∙◌, subst, arith, length-append}
use Rattle.std.specs.Prelude.{◌⊎◌, Bool, true, false, if◌then◌else◌, nat_le, IfErr, IfOk, IfSome, IsErr, IsOk, MatchResult}
use Rattle.std.proofs.lemmas.Result.{MatchResult-at_err, MatchResult-at_ok}
use Rattle.std.specs.Io.KnownBytes.{Appends, Consumes, IsAtEnd, Keeps}
use Rattle.std.proofs.KnownBytes.{Appends-kept, Appends-nil, Appends-trans, Consumes-nil, prepend_known-nil}
use Rattle.std.proofs.Math.Seq.{take-append-add}
use Rattle.std.proofs.lemmas.List.{append-nil}
use Rattle.teb_io.specs.Bytes.{AppendsFront}
use Rattle.line_reader.specs.Lines.{IsTooLong, ahead}
use Rattle.teb_rules.specs.declared.names.Request.TheVariants as request
use Rattle.teb_rules.specs.declared.names.Txn.{Txn}
use Rattle.teb_rules.specs.declared.names.naming.NameBook.{NameBook}
use Rattle.teb_rules.specs.declared.history.Event.{Event}
use Rattle.teb_rules.specs.history.Phases.{held}
use Rattle.teb_rules.specs.history.Written.{held_txn, txn_of}
use Rattle.teb_rules.specs.declared.names.Session.{Session}
use Rattle.shell_lines.specs.declared.line.ShellLine.{ShellLine}
use Rattle.shell_lines.specs.declared.line.Unable.{Unable}
use Rattle.shell_lines.specs.declared.line.ShellLine.TheVariants.{Ask}
use Rattle.shell_lines.specs.declared.line.ShellLine.TheVariants as line
use Rattle.shell_lines.specs.declared.reply.StoreReply.{StoreReply}
use Rattle.shell_lines.specs.declared.reply.StoreReply.TheVariants as reply
use Rattle.shell_lines.specs.declared.reply.StoreReply.TheVariants.{Later}
use Rattle.shell_runner.specs.States.{Stored}
use Rattle.shell_runner.specs.Answers.{IsAnswered, ShowsReply, State, after_read, after_reply}
use Rattle.shell_runner.specs.Flows.{after_of}
use Rattle.shell_runner.specs.Holders.{holders}
use Rattle.shell_runner.specs.Runs.{Answers, AsksNext, GoesOn, GoesOnAfter, HasEnded, HasRead, HasRun, HasStopped, IsRun}
use Rattle.shell_runner.specs.Runs.{IsSafely, IsSameOrSafe, IsTaken, IsUnread, StopsAt, has_bad, said, state_of, Step}
use Rattle.shell_runner.specs.declared.ended.EndStatus.TheVariants.{Failed}
use Rattle.shell_runner.specs.declared.ended.RunError.{RunError}
use Rattle.shell_runner.specs.declared.ended.RunError.TheVariants as errors
use Rattle.shell_runner.specs.declared.shell.Shell.{Shell}
use Rattle.shell_runner.specs.declared.running.Flow.{Flow}
use Rattle.shell_runner.specs.declared.running.Flow.TheVariants as flow
use Rattle.shell_runner.specs.declared.step.After.{After}
use Rattle.shell_runner.specs.declared.step.After.TheVariants.{Bad, Next, Quit, Stopped}
use Rattle.teb_rules.specs.declared.names.rows.TheConstants.{MOST_ROWS}

-- a text was appended, then a prefix of another: a prefix of both was appended
pub appends_front : (a b c : Option (List ℕ)) (text more : List ℕ) → Appends a b text → AppendsFront b c more → AppendsFront a c (text ++ more)
appends_front a b c text more whole front =
    let n = front.0 in
    (length text + n, omega (arith, front.1, length-append text more), subst (Appends a c) (sym (take-append-add text more n)) (Appends-trans a b c text (take n more) whole front.2))

-- the store moved once
pub once : {T : Type 0} (safe : T → T → Type 0) (s t : Shell T) → IsSameOrSafe safe s t → IsSafely safe s t
once safe s t h = record { mid = t; first = h; second = inl refl }

-- nothing was asked, and the state is unchanged
pub unmoved : {T : Type 0} (safe : T → T → Type 0) (s : Shell T) → IsSafely safe s s
unmoved safe s = record { mid = s; first = inl refl; second = inl refl }

-- a shown reply to End answers the line that asks for it
pub end_asked : (n : ℕ) (s t : State) (session : Session) (text : List ℕ) (after : After) → ShowsReply s session request.End text after t → IsAnswered n s (Ask session request.End) text after t
end_asked n s t session text after h = inl (record { goes_on = λ b. b.begins; replied = h })

pub ends_answered : {E : Type 0} (n : ℕ) (s t : State) (session : Session) (items text : List ℕ) (answered : Result After E) → text ≡ items
    → IfOk answered (λ (after : After). ShowsReply s session request.End items after t) → IfOk answered (λ (after : After). IsAnswered n s (Ask session request.End) text after t)
ends_answered n s t session items text (Ok a) e h = subst (λ (x : List ℕ). IsAnswered n s (Ask session request.End) x a t) (sym e) (end_asked n s t session items a h)
ends_answered n s t session items text (Err x) e h = tt

-- an answer stated for an equal text
pub answered_by : {E : Type 0} (n : ℕ) (s t : State) (l : ShellLine) (items text : List ℕ) (answered : Result After E) → text ≡ items
    → IfOk answered (λ (after : After). IsAnswered n s l items after t)
    → IfOk answered (λ (after : After). IsAnswered n s l text after t)
answered_by n s t l items text answered e h = subst (λ (x : List ℕ). IfOk answered (λ (after : After). IsAnswered n s l x after t)) (sym e) h

not_quit : (r : StoreReply) → Quit ≡ after_reply r → ⊥
not_quit (reply.Reply r) p = absurd (cc)
not_quit reply.Later p = absurd (cc)
not_quit reply.Full p = absurd (cc)
not_quit reply.Unsure p = absurd (cc)

-- only `.quit` ends the run
pub quits : (n : ℕ) (s : State) (l : ShellLine) (text : List ℕ) (t : State) → IsAnswered n s l text Quit t → l ≡ line.Quit
quits n s line.Nothing text t h = absurd (let p = h.0.1 in cc)
quits n s (line.Rows range) text t h = absurd (let p = h.0.1 in cc)
quits n s line.Order text t h = absurd (let p = h.0.1 in cc)
quits n s line.Epoch text t h = absurd (let p = h.0.1 in cc)
quits n s line.Tables text t h = absurd (let p = h.0.1 in cc)
quits n s line.Types text t h = absurd (let p = h.0.1 in cc)
quits n s line.Tree text t h = absurd (let p = h.0.1 in cc)
quits n s line.Guarantees text t h = absurd (let p = h.0.1 in cc)
quits n s line.Sessions text t h = absurd (let p = h.0.1 in cc)
quits n s line.Dump text t h = absurd (go (nat_le (length h.0.rows) MOST_ROWS) h.0.goes_on)
  where
    go : (b : Bool) → Quit ≡ (if b then Next else Bad) → ⊥
    go true p = absurd (cc)
    go false p = absurd (cc)
quits n s line.Read text t h = absurd (go h.0.0 h.0.2)
  where
    go : (o : Option Unable) → Quit ≡ after_read o → ⊥
    go None p = absurd (cc)
    go (Some why) p = absurd (cc)
quits n s line.Help text t h = absurd (let p = h.0.1 in cc)
quits n s line.Quit text t h = refl
quits n s (line.Bad why) text t h = absurd (let p = h.0.1 in cc)
quits n s (line.Ask session request) text t (inl a) = absurd (not_quit a.replied.answer a.replied.goes_on)
quits n s (line.Ask session request) text t (inr (inl l)) = absurd (let p = l.goes_on in cc)
quits n s (line.Ask session request) text t (inr (inr (inl a))) = absurd (not_quit a.replied.answer a.replied.goes_on)
quits n s (line.Ask session request) text t (inr (inr (inr f))) = absurd (let p = f.failed.stopped in cc)
quits n s line.Checkpoint text t (inl c) = absurd (let p = c.goes_on in cc)
quits n s line.Checkpoint text t (inr f) = absurd (let p = f.1.stopped in cc)

-- the same error
pub failed_same : (why other : RunError) → Failed why ≡ Failed other → why ≡ other
failed_same why other p = cc

-- a line that cannot be read is no fault of a write or of the disk
no_write_fault : (why : RunError) → IsUnread why → why ≢ errors.WriteFault
no_write_fault why (inl e) p = absurd (cc)
no_write_fault why (inr (inl e)) p = absurd (cc)
no_write_fault why (inr (inr e)) p = absurd (cc)

no_disk_fault : (why : RunError) → IsUnread why → why ≢ errors.DiskFault
no_disk_fault why (inl e) p = absurd (cc)
no_disk_fault why (inr (inl e)) p = absurd (cc)
no_disk_fault why (inr (inr e)) p = absurd (cc)

-- a text that is written in whole or in part, by the status
pub written_with : (before now : Option (List ℕ)) (text : List ℕ) (why : RunError) → ((why ≢ errors.WriteFault) × Appends before now text) ⊎ ((why ≡ errors.WriteFault) × AppendsFront before now text)
    → ((Failed why ≢ Failed errors.WriteFault) × Appends before now text) ⊎ ((Failed why ≡ Failed errors.WriteFault) × AppendsFront before now text)
written_with before now text why (inl w) = inl ((λ p. w.0 (failed_same why errors.WriteFault p)), w.1)
written_with before now text why (inr w) = inr (ap Failed w.0, w.1)

-- an answer is written in whole or in part, or not at all because memory ran out
pub writes : {E : Type 0} (n : ℕ) (s t : State) (asks : ShellLine) (text : List ℕ) (answered : Result After E) (r : Result After RunError) (now later : Option (List ℕ))
    → IfOk answered (λ (after : After). IsAnswered n s asks text after t)
    → IfOk r (λ (a : After). (answered ≡ Ok a) × Appends now later text)
    → IfErr r (λ (why : RunError). ((why ≡ errors.OutOfMemory) × IsErr answered × Keeps now later) ⊎ ((why ≡ errors.WriteFault) × IsOk answered × AppendsFront now later text))
    → MatchResult r (λ (after : After). Answers n s asks after t now later) (λ (why : RunError). StopsAt n s asks why t now later)
writes n s t asks text answered (Ok a) now later h w e = record {
  text = text;
  answered = MatchResult-at_ok (λ (after : After). IsAnswered n s asks text after t) (λ _. Unit {0}) a w.0 h;
  written = w.1;
}
writes n s t asks text answered (Err why) now later h w (inl p) = inr (p.0, p.2)
writes n s t asks text (Ok a) (Err why) now later h w (inr p) = inl (p.0, record { text = text; after = a; answered = h; written = p.2 })
writes n s t asks text (Err e) (Err why) now later h w (inr p) = absurd (not_ok e p.1)
  where
    not_ok : {E : Type 0} (e : E) → IsOk {T = After} (Err e) → ⊥
    not_ok e p = cc

-- one step of a run: the run goes on, or it ends with a failure
module _ {T : Type 0} (stored : T → Stored) (safe : T → T → Type 0) (first : Shell T) (left before : Option (List ℕ)) where
  -- the run ends while its lines are being answered
  pub amid : (lines : List Step) (mid end : Shell T) (rest now : Option (List ℕ)) (why : RunError) → IsRun stored safe first lines mid → IsTaken left rest lines
      → ((why ≢ errors.WriteFault) × Appends before now (said lines)) ⊎ ((why ≡ errors.WriteFault) × AppendsFront before now (said lines)) → (why ≡ errors.DiskFault → HasStopped lines)
      → (why ≡ errors.TooLong → IfSome rest IsTooLong) → (why ≢ errors.OutOfMemory → end ≡ mid) → IsSafely safe mid end
      → HasEnded stored safe first left before (Failed why) end now
  amid lines mid end rest now why run taken written stops long same safely = record {
    lines = lines;
    mid = mid;
    rest = rest;
    run = run;
    taken = taken;
    through = λ d. absurd d;
    ends = [];
    more = holders (stored mid.store).events;
    last = mid;
    closing = refl;
    ended = refl;
    closed = λ d. absurd d;
    written = elim (written_with before now (said lines) why written) [
      | inl w ↦ inl (w.0, subst (Appends before now) (sym (append-nil (said lines))) w.1)
      | inr w ↦ inr (w.0, subst (AppendsFront before now) (sym (append-nil (said lines))) w.1)
    ];
    stopped = λ p. inl (stops (failed_same why errors.DiskFault p));
    too_long = λ p. long (failed_same why errors.TooLong p);
    same = λ n. same (λ e. n (ap Failed e));
    safely = safely;
  }

  -- the run ends before its next line
  pub ended_before : (n : ℕ) (any_bad : Bool) (s : Shell T) (rest now : Option (List ℕ)) (why : RunError) → HasRun stored safe first left before n any_bad s rest now → IsUnread why
      → (why ≡ errors.TooLong → IfSome rest IsTooLong) → HasEnded stored safe first left before (Failed why) s now
  ended_before n any_bad s rest now why r unread long =
      amid r.steps s s rest now why r.run r.taken (inl (no_write_fault why unread, r.written)) (λ e. absurd (no_disk_fault why unread e)) long (λ _. refl) (unmoved safe s)

  -- the run is at the end of its input
  pub read_out : (n : ℕ) (any_bad : Bool) (s : Shell T) (rest now : Option (List ℕ)) (r : HasRun stored safe first left before n any_bad s rest now) → IsAtEnd rest ⊎ (2 ^ 64 ≤ n + 2)
      → HasRead stored safe first left before any_bad s now
  read_out n any_bad s rest now r end = record {
    steps = r.steps;
    rest = rest;
    bad = r.bad;
    through = inl (r.going, subst (λ (k : ℕ). IsAtEnd rest ⊎ (2 ^ 64 ≤ k + 2)) r.count end);
    run = r.run;
    taken = r.taken;
    written = r.written;
  }

  -- the next line is taken
  module _ (n : ℕ) (any_bad : Bool) (s t : Shell T) (mid rest now later : Option (List ℕ)) (asks : ShellLine) (r : HasRun stored safe first left before n any_bad s mid now)
      (next : AsksNext (stored s.store).names s.format asks mid rest) (between : IsSafely safe s t) where
    abbrev one_more : List ℕ → After → Step
    one_more text after = record { line = Some next.line; asks = asks; file = next.file; text = text; after = after }

    more_run : (text : List ℕ) (after : After) → IsAnswered (n + 1) (state_of stored s) asks text after (state_of stored t) → IsRun stored safe first (one_more text after ∷ r.steps) t
    more_run text after answered = (
      s,
      r.run,
      r.going,
      record {
        asks = next.is;
        brings = next.brings;
        answered = subst (λ (k : ℕ). IsAnswered (k + 1) (state_of stored s) asks text after (state_of stored t)) r.count answered;
        safely = between;
      },
    )

    more_taken : (text : List ℕ) (after : After) → IsTaken left rest (one_more text after ∷ r.steps)
    more_taken text after = (mid, r.taken, next.takes)

    -- the line is answered, and its text is written
    module _ (after : After) (a : Answers (n + 1) (state_of stored s) asks after (state_of stored t) now later) where
      more_written : Appends before later (said (one_more a.text after ∷ r.steps))
      more_written = Appends-trans before now later (said r.steps) a.text r.written a.written

      -- the run goes on
      pub on : (bad : Bool) → GoesOnAfter after → bad ≡ has_bad (one_more a.text after ∷ r.steps) → HasRun stored safe first left before (n + 1) bad t rest later
      on bad goes is = record {
        steps = one_more a.text after ∷ r.steps;
        count = omega (arith, r.count);
        bad = is;
        going = goes;
        run = more_run a.text after a.answered;
        taken = more_taken a.text after;
        written = more_written;
      }

      -- the line is the last one
      pub last_one : any_bad ≡ has_bad (one_more a.text after ∷ r.steps) → asks ≡ line.Quit → HasRead stored safe first left before any_bad t later
      last_one is quit = record {
        steps = one_more a.text after ∷ r.steps;
        rest = rest;
        bad = is;
        through = inr quit;
        run = more_run a.text after a.answered;
        taken = more_taken a.text after;
        written = more_written;
      }

    -- the disk failed at the line
    pub failed : (why : RunError) → why ≡ errors.DiskFault → Answers (n + 1) (state_of stored s) asks Stopped (state_of stored t) now later
        → HasEnded stored safe first left before (Failed why) t later
    failed why e a =
        amid (one_more a.text Stopped ∷ r.steps) t t rest later why (more_run a.text Stopped a.answered) (more_taken a.text Stopped) (inl ((λ p. absurd (cc)), more_written Stopped a)) (λ _. refl)
        (λ p. absurd (cc)) (λ _. refl) (unmoved safe t)

    -- the text of the line is not written in whole, or memory ran out
    pub broken_off : (why : RunError) → StopsAt (n + 1) (state_of stored s) asks why (state_of stored t) now later → HasEnded stored safe first left before (Failed why) t later
    broken_off why (inl (e, a)) =
        amid (one_more a.text a.after ∷ r.steps) t t rest later why (more_run a.text a.after a.answered) (more_taken a.text a.after)
        (inr (e, appends_front before now later (said r.steps) a.text r.written a.written)) (λ p. absurd (cc)) (λ p. absurd (cc)) (λ _. refl) (unmoved safe t)
    broken_off why (inr (e, kept)) =
        amid r.steps s t mid later why r.run r.taken (inl ((λ p. absurd (cc)), Appends-kept before now later (said r.steps) r.written kept)) (λ p. absurd (cc)) (λ p. absurd (cc)) (λ p. absurd (p e))
        between

    -- the line was answered; what follows depends on the flow
    flow_on : (flow : Flow) → Answers (n + 1) (state_of stored s) asks (after_of flow) (state_of stored t) now later → GoesOn stored safe first left before (n + 1) any_bad flow t rest later
    flow_on flow.Next a = on Next a any_bad tt r.bad
    flow_on flow.Bad a = on Bad a true tt refl
    flow_on flow.End a = last_one Quit a r.bad (quits (n + 1) (state_of stored s) asks a.text (state_of stored t) a.answered)

    pub flowed_on : (a : Result After RunError) (f : Result Flow RunError) → MatchResult a (λ (after : After). Answers (n + 1) (state_of stored s) asks after (state_of stored t) now later)
        (λ (why : RunError). StopsAt (n + 1) (state_of stored s) asks why (state_of stored t) now later)
        → MatchResult f (λ (flow : Flow). a ≡ Ok (after_of flow)) (λ (why : RunError). (a ≡ Err why) ⊎ ((a ≡ Ok Stopped) × (why ≡ errors.DiskFault)))
        → MatchResult f (λ (flow : Flow). GoesOn stored safe first left before (n + 1) any_bad flow t rest later) (λ (why : RunError). HasEnded stored safe first left before (Failed why) t later)
    flowed_on a (Ok flow) m g = flow_on flow
        (MatchResult-at_ok (λ (after : After). Answers (n + 1) (state_of stored s) asks after (state_of stored t) now later)
        (λ (why : RunError). StopsAt (n + 1) (state_of stored s) asks why (state_of stored t) now later) (after_of flow) g m)
    flowed_on a (Err why) m (inl g) = broken_off why
        (MatchResult-at_err (λ (after : After). Answers (n + 1) (state_of stored s) asks after (state_of stored t) now later)
        (λ (why : RunError). StopsAt (n + 1) (state_of stored s) asks why (state_of stored t) now later) why g m)
    flowed_on a (Err why) m (inr g) = failed why g.1
        (MatchResult-at_ok (λ (after : After). Answers (n + 1) (state_of stored s) asks after (state_of stored t) now later)
        (λ (why : RunError). StopsAt (n + 1) (state_of stored s) asks why (state_of stored t) now later) Stopped g.0 m)

  -- a line was read, answered and written, and the run goes on or ends
  pub flowed : (number n : ℕ) (any_bad : Bool) (s t : Shell T) (names : NameBook) (asks : ShellLine) (mid rest now later : Option (List ℕ)) (a : Result After RunError) (f : Result Flow RunError)
      → number ≡ n + 1 → HasRun stored safe first left before n any_bad s mid now
      → names ≡ (stored s.store).names → AsksNext names s.format asks mid rest
      → MatchResult a (λ (after : After). Answers number (state_of stored s) asks after (state_of stored t) now later)
      (λ (why : RunError). StopsAt number (state_of stored s) asks why (state_of stored t) now later)
      → IsSafely safe s t → MatchResult f (λ (flow : Flow). a ≡ Ok (after_of flow)) (λ (why : RunError). (a ≡ Err why) ⊎ ((a ≡ Ok Stopped) × (why ≡ errors.DiskFault)))
      → MatchResult f (λ (flow : Flow). GoesOn stored safe first left before number any_bad flow t rest later) (λ (why : RunError). HasEnded stored safe first left before (Failed why) t later)
  flowed number n any_bad s t names asks mid rest now later a f e r called next m between g =
      subst (λ (k : ℕ). MatchResult f (λ (flow : Flow). GoesOn stored safe first left before k any_bad flow t rest later)
      (λ (why : RunError). HasEnded stored safe first left before (Failed why) t later))
      (sym e)
      (flowed_on n any_bad s t mid rest now later asks r (subst (λ (b : NameBook). AsksNext b s.format asks mid rest) called next) between a f
      (subst (λ (k : ℕ). MatchResult a (λ (after : After). Answers k (state_of stored s) asks after (state_of stored t) now later)
      (λ (why : RunError). StopsAt k (state_of stored s) asks why (state_of stored t) now later)) e m) g)

-- a session holds a transaction
pub held_some : (H K : List Event) (s : Session) (t : Txn) → K ≡ H → Some t ≡ held_txn K s → IsTrue (is_some (held H s.0))
held_some H K s t same is = subst (λ (J : List Event). IsTrue (is_some (held J s.0))) same (go (held K s.0) refl)
  where
    go : (o : Option ℕ) → held K s.0 ≡ o → IsTrue (is_some (held K s.0))
    go None e = absurd (let f : Some t ≡ txn_of None = is ∙ ap txn_of e in cc)
    go (Some n) e = rw e refl

-- a run without steps
pub begun : {T : Type 0} (stored : T → Stored) (safe : T → T → Type 0) (s : Shell T) (left now : Option (List ℕ)) → HasRun stored safe s left now 0 false s (ahead [] left) now
begun stored safe s left now = record {
  steps = [];
  count = refl;
  bad = refl;
  going = tt;
  run = refl;
  taken = subst (λ (o : Option (List ℕ)). Consumes left o []) (sym (prepend_known-nil left)) (Consumes-nil left);
  written = Appends-nil now;
}
