-- A run: lines, each answered before the next one is read, and then the ends of the sessions that hold a transaction.
use Rattle.std.specs.Prelude.{◌≡◌, ◌≢◌, ◌⊎◌, ℕ, ◌+◌, ◌^◌, ◌≤◌, Bool, true, false, List, [], ◌∷◌, ◌++◌, length, map, reverse, Option, Some, None, IfSome, IsTrue, is_some}
use Rattle.std.specs.List.{list_any}
use Rattle.std.specs.Io.KnownBytes.{Appends, Consumes, IsAtEnd, Keeps, prepend_known}
use Rattle.teb_io.specs.Bytes.{AppendsFront}
use Rattle.teb_rules.specs.declared.names.Session.{Session}
use Rattle.teb_rules.specs.declared.names.naming.NameBook.{NameBook}
use Rattle.teb_rules.specs.declared.names.Request.TheVariants as request
use Rattle.teb_rules.specs.history.Phases.{held}
use Rattle.line_reader.specs.Lines.{IsTooLong, TakesLine}
use Rattle.line_reader.specs.declared.TheConstants.{MOST_LINE_BYTES}
use Rattle.shell_lines.specs.Lines.{shell_line}
use Rattle.shell_lines.specs.declared.line.ShellLine.{ShellLine}
use Rattle.shell_lines.specs.declared.line.ShellLine.TheVariants as line
use Rattle.shell_runner.specs.States.{Stored}
use Rattle.shell_runner.specs.Answers.{State, IsAnswered}
use Rattle.shell_runner.specs.Holders.{holders}
use Rattle.shell_runner.specs.declared.ended.EndStatus.{EndStatus}
use Rattle.shell_runner.specs.declared.ended.EndStatus.TheVariants.{Done, Failed}
use Rattle.shell_runner.specs.declared.ended.RunError.{RunError}
use Rattle.shell_runner.specs.declared.ended.RunError.TheVariants as errors
use Rattle.shell_runner.specs.declared.shell.Shell.{Shell}
use Rattle.shell_runner.specs.declared.running.Flow.{Flow}
use Rattle.shell_runner.specs.declared.running.Flow.TheVariants as flow
use Rattle.shell_runner.specs.declared.step.After.{After}
use Rattle.shell_runner.specs.declared.step.After.TheVariants.{Bad, Quit, Stopped}

-- a line of the input, or none at the end of a session; what it asks; the text of a file that it brought in its place; the text that answers it; and what follows it
pub record Step : Type 0 where
  pub line : Option (List ℕ)
  pub asks : ShellLine
  pub file : List ℕ
  pub text : List ℕ
  pub after : After

abbrev pub state_of : {T : Type 0} → (T → Stored) → Shell T → State
state_of stored shell = record { stored = stored shell.store; epoch = shell.epoch; format = shell.format; waits = shell.waits }

-- a line asks what its text says; a session that ends holds a transaction
abbrev pub Asks : Stored → ℕ → Option (List ℕ) → ShellLine → Type 0
Asks s format (Some text) asks = asks ≡ shell_line s.names format text
Asks s format None asks = (session : Session) × (asks ≡ line.Ask session request.End) × IsTrue (is_some (held s.events session.0))

-- only a line that reads a file brings one
abbrev pub Brings : ShellLine → List ℕ → Type 0
Brings asks file = (asks ≡ line.Read) ⊎ (file ≡ [])

-- the shell is as it was, or a crash on the way from the first to the second leaves what it may
abbrev pub IsSameOrSafe : {T : Type 0} → (T → T → Type 0) → Shell T → Shell T → Type 0
IsSameOrSafe safe s t = (t ≡ s) ⊎ safe s.store t.store

-- a line makes the store go on at most twice
pub record IsSafely {T : Type 0} (safe : T → T → Type 0) (s t : Shell T) : Type 0 where
  pub mid : Shell T
  pub first : IsSameOrSafe safe s mid
  pub second : IsSameOrSafe safe mid t

-- step n is answered
pub record IsStep {T : Type 0} (stored : T → Stored) (safe : T → T → Type 0) (n : ℕ) (s : Shell T) (step : Step) (t : Shell T) : Type 0 where
  pub asks : Asks (stored s.store) s.format step.line step.asks
  pub brings : Brings step.asks step.file
  pub answered : IsAnswered n (state_of stored s) step.asks step.text step.after (state_of stored t)
  pub safely : IsSafely safe s t

-- another step may follow
abbrev pub GoesOnAfter : After → Type 0
GoesOnAfter Quit = ⊥
GoesOnAfter Stopped = ⊥
GoesOnAfter _ = Unit {0}

-- another step may follow these, the newest first
abbrev pub IsGoing : List Step → Type 0
IsGoing [] = Unit {0}
IsGoing (step ∷ older) = GoesOnAfter step.after

-- the steps, the newest first, lead from one shell to another
abbrev pub IsRun : {T : Type 0} → (T → Stored) → (T → T → Type 0) → Shell T → List Step → Shell T → Type 0
IsRun stored safe first [] last = last ≡ first
IsRun {T = T} stored safe first (step ∷ older) last = (mid : Shell T) × IsRun stored safe first older mid × IsGoing older × IsStep stored safe (length older + 1) mid step last

-- what they say, in order
abbrev pub said : List Step → List ℕ
said [] = []
said (step ∷ older) = said older ++ step.text

-- a line is the next one of the known bytes, and not too long; the text of a file that it brings goes before the others
pub record TakesStep (line file : List ℕ) (mid rest : Option (List ℕ)) : Type 0 where
  pub after : Option (List ℕ)
  pub short : length line ≤ MOST_LINE_BYTES
  pub takes : TakesLine mid after line
  pub brought : rest ≡ prepend_known file after

-- the next line asks this, and may bring a file
pub record AsksNext (names : NameBook) (format : ℕ) (asks : ShellLine) (mid rest : Option (List ℕ)) : Type 0 where
  pub line : List ℕ
  pub file : List ℕ
  pub is : asks ≡ shell_line names format line
  pub brings : Brings asks file
  pub takes : TakesStep line file mid rest

-- a step of a line
abbrev pub TakenBy : Option (List ℕ) → List ℕ → Option (List ℕ) → Option (List ℕ) → Type 0
TakenBy (Some line) file mid rest = TakesStep line file mid rest
TakenBy None file mid rest = ⊥

-- each has a line, and these are the next ones, those of the files that they bring among them
abbrev pub IsTaken : Option (List ℕ) → Option (List ℕ) → List Step → Type 0
IsTaken left rest [] = Consumes left rest []
IsTaken left rest (step ∷ older) = (mid : Option (List ℕ)) × IsTaken left mid older × TakenBy step.line step.file mid rest

-- the newest step asked for the end
abbrev pub HasQuit : List Step → Type 0
HasQuit [] = ⊥
HasQuit (step ∷ older) = step.asks ≡ line.Quit

-- the disk failed at the newest step
abbrev pub HasStopped : List Step → Type 0
HasStopped [] = ⊥
HasStopped (step ∷ older) = step.after ≡ Stopped

-- no line is left, or there were 2^64 - 2 of them; or the last one asked for the end
abbrev pub IsThrough : Option (List ℕ) → List Step → Type 0
IsThrough rest steps = (IsGoing steps × (IsAtEnd rest ⊎ (2 ^ 64 ≤ length steps + 2))) ⊎ HasQuit steps

-- each line was answered
abbrev pub IsDone : EndStatus → Type 0
IsDone (Done any_bad) = Unit {0}
IsDone (Failed why) = ⊥

-- why the next line is not read: a read failed, it is too long, or memory ran out
abbrev pub IsUnread : RunError → Type 0
IsUnread why = (why ≡ errors.ReadFault) ⊎ ((why ≡ errors.TooLong) ⊎ (why ≡ errors.OutOfMemory))

abbrev pub is_bad : After → Bool
is_bad Bad = true
is_bad _ = false

-- some line was bad
abbrev pub has_bad : List Step → Bool
has_bad steps = list_any (λ step. is_bad step.after) steps

abbrev pub status_of : List Step → EndStatus
status_of steps = Done (has_bad steps)

-- what a step reads and asks
abbrev pub asked_by : Step → Option (List ℕ) × ShellLine
asked_by step = (step.line, step.asks)

-- the end of a session, which no line asks for
abbrev pub end_of : ℕ → Option (List ℕ) × ShellLine
end_of n = (None, line.Ask (record { 0 = n }) request.End)

-- the steps end sessions, in order; with the sessions that are left these are all that hold a transaction, in ascending number
abbrev pub AreEnds : Stored → List Step → List ℕ → Type 0
AreEnds s steps more = map asked_by (reverse steps) ++ map end_of more ≡ map end_of (holders s.events)

-- a run so far: its n steps have led to this shell, and their text is written
pub record HasRun {T : Type 0} (stored : T → Stored) (safe : T → T → Type 0) (first : Shell T) (left before : Option (List ℕ)) (n : ℕ) (any_bad : Bool) (last : Shell T)
    (rest now : Option (List ℕ)) : Type 0 where
  pub steps : List Step
  pub count : n ≡ length steps
  pub bad : any_bad ≡ has_bad steps
  pub going : IsGoing steps
  pub run : IsRun stored safe first steps last
  pub taken : IsTaken left rest steps
  pub written : Appends before now (said steps)

-- a run whose last line was answered
pub record HasRead {T : Type 0} (stored : T → Stored) (safe : T → T → Type 0) (first : Shell T) (left before : Option (List ℕ)) (any_bad : Bool) (last : Shell T) (now : Option (List ℕ)) : Type 0 where
  pub steps : List Step
  pub rest : Option (List ℕ)
  pub bad : any_bad ≡ has_bad steps
  pub through : IsThrough rest steps
  pub run : IsRun stored safe first steps last
  pub taken : IsTaken left rest steps
  pub written : Appends before now (said steps)

-- a run after one line more, if there is one: it goes on, or that line was the last
abbrev pub GoesOn : {T : Type 0} → (T → Stored) → (T → T → Type 0) → Shell T → Option (List ℕ) → Option (List ℕ) → ℕ → Bool → Flow → Shell T → Option (List ℕ) → Option (List ℕ) → Type 0
GoesOn stored safe first left before number any_bad flow.Next last ahead now = HasRun stored safe first left before number any_bad last ahead now
GoesOn stored safe first left before number any_bad flow.Bad last ahead now = HasRun stored safe first left before number true last ahead now
GoesOn stored safe first left before number any_bad flow.End last ahead now = HasRead stored safe first left before any_bad last now

-- a run at its end: the steps of lines, and then those that end sessions. If it is done, no line is left, or the last one asked for the end; the status says
-- whether a line was bad; each session that held a transaction was ended, and none holds one. The text of all steps is written, or a prefix of it if a write
-- failed. If the disk failed, it did so at the last step. If a line is too long, it is the next one. If memory ran out, the shell may have asked one line more,
-- and a crash leaves what it may
pub record HasEnded {T : Type 0} (stored : T → Stored) (safe : T → T → Type 0) (first : Shell T) (left before : Option (List ℕ)) (status : EndStatus) (end : Shell T)
    (now : Option (List ℕ)) : Type 0 where
  pub lines : List Step
  pub mid : Shell T
  pub rest : Option (List ℕ)
  pub run : IsRun stored safe first lines mid
  pub taken : IsTaken left rest lines
  pub through : IsDone status → IsThrough rest lines × (status ≡ status_of lines)
  pub ends : List Step
  pub more : List ℕ
  pub last : Shell T
  pub closing : IsRun stored safe mid ends last
  pub ended : AreEnds (stored mid.store) ends more
  pub closed : IsDone status → (more ≡ []) × (holders (stored last.store).events ≡ [])
  pub written : ((status ≢ Failed errors.WriteFault) × Appends before now (said lines ++ said ends)) ⊎ ((status ≡ Failed errors.WriteFault) × AppendsFront before now (said lines ++ said ends))
  pub stopped : status ≡ Failed errors.DiskFault → HasStopped lines ⊎ HasStopped ends
  pub too_long : status ≡ Failed errors.TooLong → IfSome rest IsTooLong
  pub same : status ≢ Failed errors.OutOfMemory → end ≡ last
  pub safely : IsSafely safe last end

-- step n is answered, and its text is written
pub record Answers (n : ℕ) (s : State) (asks : ShellLine) (after : After) (t : State) (before now : Option (List ℕ)) : Type 0 where
  pub text : List ℕ
  pub answered : IsAnswered n s asks text after t
  pub written : Appends before now text

-- step n is answered, and a prefix of its text is written, not all of it
pub record AnswersInPart (n : ℕ) (s : State) (asks : ShellLine) (t : State) (before now : Option (List ℕ)) : Type 0 where
  pub text : List ℕ
  pub after : After
  pub answered : IsAnswered n s asks text after t
  pub written : AppendsFront before now text

-- why a step is the last one: its text was not written whole, or memory ran out and nothing of it was written
abbrev pub StopsAt : ℕ → State → ShellLine → RunError → State → Option (List ℕ) → Option (List ℕ) → Type 0
StopsAt n s asks why t before now = ((why ≡ errors.WriteFault) × AnswersInPart n s asks t before now) ⊎ ((why ≡ errors.OutOfMemory) × Keeps before now)

-- a session that holds a transaction is ended, or it holds none and nothing changes
pub record IsEnded {T : Type 0} (stored : T → Stored) (safe : T → T → Type 0) (session : Session) (s t : Shell T) (before now : Option (List ℕ)) : Type 0 where
  pub after : After
  pub goes_on : GoesOnAfter after
  pub holds : IsTrue (is_some (held (stored s.store).events session.0))
  pub answers : Answers 1 (state_of stored s) (line.Ask session request.End) after (state_of stored t) before now
  pub safely : IsSafely safe s t

pub record HasNone {T : Type 0} (stored : T → Stored) (session : Session) (s t : Shell T) (before now : Option (List ℕ)) : Type 0 where
  pub holds : held (stored s.store).events session.0 ≡ None
  pub same : t ≡ s
  pub unwritten : now ≡ before

abbrev pub EndsIfHeld : {T : Type 0} → (T → Stored) → (T → T → Type 0) → Session → Shell T → Shell T → Option (List ℕ) → Option (List ℕ) → Type 0
EndsIfHeld stored safe session s t before now = IsEnded stored safe session s t before now ⊎ HasNone stored session s t before now

-- the run ends at the end of a session: its text was not written whole, or memory ran out, or the disk failed
pub record EndsAtEnd {T : Type 0} (stored : T → Stored) (safe : T → T → Type 0) (session : Session) (why : RunError) (s t : Shell T) (before now : Option (List ℕ)) : Type 0 where
  pub holds : IsTrue (is_some (held (stored s.store).events session.0))
  pub stops : StopsAt 1 (state_of stored s) (line.Ask session request.End) why (state_of stored t) before now
      ⊎ ((why ≡ errors.DiskFault) × Answers 1 (state_of stored s) (line.Ask session request.End) Stopped (state_of stored t) before now)
  pub safely : IsSafely safe s t
