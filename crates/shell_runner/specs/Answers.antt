-- How a line is answered.
use Rattle.std.specs.Prelude.{◌≡◌, ◌⊎◌, ℕ, true, ◌+◌, ◌-◌, ◌^◌, ◌<◌, ◌≤◌, ℤ, codes, min, nat_le, if◌then◌else◌, List, [], length, map, Option, Some, None, IsTrue}
use Rattle.teb_rules.specs.declared.names.Cell.{Cell}
use Rattle.teb_rules.specs.declared.names.Session.{Session}
use Rattle.teb_rules.specs.declared.names.Request.{Request}
use Rattle.teb_rules.specs.declared.names.Request.TheVariants.{Begin}
use Rattle.teb_rules.specs.declared.names.Txn.{Txn}
use Rattle.teb_rules.specs.Ranks.{serial_order}
use Rattle.shell_lines.specs.Answers.{bad_text, checkpoint_text, epoch_text, help_text, names_text, order_text, reply_line, shown_rows, unable_text}
use Rattle.shell_lines.specs.Sessions.{noted, sessions_text}
use Rattle.shell_lines.specs.declared.waits.Waits.{Waits}
use Rattle.shell_lines.specs.declared.line.Unable.{Unable}
use Rattle.shell_lines.specs.declared.line.Unable.TheVariants as unable
use Rattle.tree_report.specs.Drawing.{drawing}
use Rattle.tree_report.specs.Guarantees.{AreGuarantees}
use Rattle.tree_writer.specs.Written.{tree_text}
use Rattle.teb_rules.specs.declared.names.rows.TheConstants.{MOST_ROWS}
use Rattle.shell_lines.specs.declared.line.Checkpoint.{Checkpoint}
use Rattle.shell_lines.specs.declared.line.Checkpoint.TheVariants as checkpoint
use Rattle.shell_lines.specs.declared.line.RowRange.{RowRange}
use Rattle.shell_lines.specs.declared.line.ShellLine.{ShellLine}
use Rattle.shell_lines.specs.declared.line.ShellLine.TheVariants as line
use Rattle.shell_lines.specs.declared.reply.StoreReply.{StoreReply}
use Rattle.shell_lines.specs.declared.reply.StoreReply.TheVariants as reply
use Rattle.shell_runner.specs.States.{Stored, IsHindered, IsReplied}
use Rattle.teb_rules.specs.Epochs.{AreFinalRows, IsDrained, IsUntold}
use Rattle.shell_runner.specs.declared.requests.TheConstants.{LEAST_LEFT}
use Rattle.teb_rules.specs.declared.names.TheConstants.{MOST_TXNS}
use Rattle.teb_rules.specs.history.Phases.{begun_count, held, unfinished}
use Rattle.shell_runner.specs.declared.step.After.{After}
use Rattle.shell_runner.specs.declared.step.After.TheVariants.{Next, Bad, Quit, Stopped}

-- what the shell knows between two lines: of its store, the number of the epoch, the format of the tree text, and for whom the sessions wait
pub record State : Type 0 where
  pub stored : Stored
  pub epoch : ℕ
  pub format : ℕ
  pub waits : Waits

abbrev pub next_number : ℕ → ℕ
next_number n = min (n + 1) (2 ^ 64 - 1)

-- the next epoch began under the same tree, for nobody was unfinished or untold: nothing has happened in it, and it has the rows that the commits of the last one have left
pub record IsNextEpoch (s t : State) : Type 0 where
  pub setup : t.stored.store.setup ≡ s.stored.store.setup
  pub tables : t.stored.store.tables ≡ s.stored.store.tables
  pub names : t.stored.names ≡ s.stored.names
  pub rows : AreFinalRows s.stored.store s.stored.events t.stored.store.rows
  pub drained : IsDrained s.stored.events
  pub events : t.stored.events ≡ []
  pub commits : t.stored.commits ≡ 0
  pub epoch : t.epoch ≡ next_number s.epoch
  pub format : t.format ≡ s.format
  pub waits : t.waits ≡ s.waits

abbrev pub IsBegin : Request → Type 0
IsBegin (Begin spot) = Unit {0}
IsBegin _ = ⊥

-- as many transactions have begun as may, or there are commits and little is left for more
abbrev pub HasToEnd : Stored → Type 0
HasToEnd s = (MOST_TXNS ≤ begun_count s.events) ⊎ ((0 < s.commits) × (s.left < LEAST_LEFT))

-- a session without a transaction asks to begin one in an epoch that has to end
pub record BeginsAtEnd (s : Stored) (session : Session) (request : Request) : Type 0 where
  pub begins : IsBegin request
  pub free : held s.events session.0 ≡ None
  pub ends : HasToEnd s

-- a session is answered as the store replies, and the reply is noted
abbrev pub IsTold : State → Session → Request → StoreReply → State → Type 0
IsTold s session request reply.Later t = ⊥
IsTold s session request r t = IsReplied s.stored session request r t.stored × (t.epoch ≡ s.epoch) × (t.format ≡ s.format) × (t.waits ≡ noted s.waits session r)

abbrev pub after_reply : StoreReply → After
after_reply reply.Unsure = Stopped
after_reply _ = Next

-- the disk failed, so that the store has stopped, and nothing is shown
pub record HasFailed (text : List ℕ) (after : After) (t : State) : Type 0 where
  pub silent : text ≡ []
  pub stopped : after ≡ Stopped
  pub halted : t.stored.stopped ≡ true

-- a session is told what becomes of its request
pub record ShowsReply (s : State) (session : Session) (request : Request) (text : List ℕ) (after : After) (t : State) : Type 0 where
  pub answer : StoreReply
  pub told : IsTold s session request answer t
  pub shown : text ≡ reply_line s.stored.names session answer
  pub goes_on : after ≡ after_reply answer

-- the store is asked at once
pub record AsksNow (s : State) (session : Session) (request : Request) (text : List ℕ) (after : After) (t : State) : Type 0 where
  pub goes_on : ¬ BeginsAtEnd s.stored session request
  pub replied : ShowsReply s session request text after t

-- the session is to ask again later, since a transaction is unfinished or a session was not told of its abort; nothing is asked
pub record TellsLater (s : State) (session : Session) (request : Request) (text : List ℕ) (after : After) (t : State) : Type 0 where
  pub at_end : BeginsAtEnd s.stored session request
  pub hindered : IsHindered s.stored.events
  pub same : t ≡ s
  pub shown : text ≡ reply_line s.stored.names session reply.Later
  pub goes_on : after ≡ Next

-- the store is asked after the next epoch has begun, or without it if the rows do not fit
pub record AsksAtEnd (s : State) (session : Session) (request : Request) (text : List ℕ) (after : After) (t : State) : Type 0 where
  pub at_end : BeginsAtEnd s.stored session request
  pub drained : IsDrained s.stored.events
  pub mid : State
  pub begun : IsNextEpoch s mid ⊎ (mid ≡ s)
  pub replied : ShowsReply mid session request text after t

-- the disk failed as the next epoch was to begin
pub record FailsAtEnd (s : State) (session : Session) (request : Request) (text : List ℕ) (after : After) (t : State) : Type 0 where
  pub at_end : BeginsAtEnd s.stored session request
  pub drained : IsDrained s.stored.events
  pub failed : HasFailed text after t

abbrev pub IsAsked : State → Session → Request → List ℕ → After → State → Type 0
IsAsked s session request text after t =
    AsksNow s session request text after t ⊎ (TellsLater s session request text after t ⊎ (AsksAtEnd s session request text after t ⊎ FailsAtEnd s session request text after t))

-- what becomes of a checkpoint
abbrev pub IsCheckpointed : State → Checkpoint → State → Type 0
IsCheckpointed s (checkpoint.Begun n) t = IsNextEpoch s t × (n ≡ t.epoch)
IsCheckpointed s (checkpoint.Unfinished u) t = (t ≡ s) × IsTrue (unfinished s.stored.events u.0)
IsCheckpointed s (checkpoint.Untold u) t = (t ≡ s) × IsUntold s.stored.events u.0
IsCheckpointed s checkpoint.Full t = (t ≡ s) × IsDrained s.stored.events

pub record IsCheckpoint (s : State) (text : List ℕ) (after : After) (t : State) : Type 0 where
  pub checkpoint : Checkpoint
  pub is : IsCheckpointed s checkpoint t
  pub shown : text ≡ checkpoint_text checkpoint
  pub goes_on : after ≡ Next

-- the committed rows, and the serial order
pub record ShowsRows (s : State) (range : RowRange) (text : List ℕ) : Type 0 where
  pub rows : List (Cell × ℤ)
  pub final : AreFinalRows s.stored.store s.stored.events rows
  pub shown : text ≡ shown_rows s.stored.names range rows

pub record ShowsOrder (s : State) (text : List ℕ) : Type 0 where
  pub order : List Txn
  pub serial : map (λ t. t.0) order ≡ serial_order s.stored.store.setup s.stored.events
  pub shown : text ≡ order_text order

-- the tree text with the committed rows, unless they are more than a tree text may have
abbrev pub dump_text : ℕ → State → List (Cell × ℤ) → List ℕ
dump_text n s rows = if nat_le (length rows) MOST_ROWS then tree_text s.format s.stored.names s.stored.store.setup.profiles s.stored.store.setup.tree rows else unable_text n unable.ManyRows

abbrev pub after_dump : List (Cell × ℤ) → After
after_dump rows = if nat_le (length rows) MOST_ROWS then Next else Bad

pub record ShowsDump (n : ℕ) (s : State) (text : List ℕ) (after : After) : Type 0 where
  pub rows : List (Cell × ℤ)
  pub final : AreFinalRows s.stored.store s.stored.events rows
  pub shown : text ≡ dump_text n s rows
  pub goes_on : after ≡ after_dump rows

-- a file is read, or why it is not
abbrev pub read_text : ℕ → Option Unable → List ℕ
read_text n None = []
read_text n (Some why) = unable_text n why

abbrev pub after_read : Option Unable → After
after_read None = Next
after_read (Some why) = Bad

abbrev pub ShowsRead : ℕ → List ℕ → After → Type 0
ShowsRead n text after = (unread : Option Unable) × (text ≡ read_text n unread) × (after ≡ after_read unread)

-- line n of the input, which changes nothing, shows this text
abbrev pub Shows : ℕ → State → ShellLine → List ℕ → After → Type 0
Shows n s line.Nothing text after = (text ≡ []) × (after ≡ Next)
Shows n s (line.Rows range) text after = ShowsRows s range text × (after ≡ Next)
Shows n s line.Order text after = ShowsOrder s text × (after ≡ Next)
Shows n s line.Epoch text after = (text ≡ epoch_text s.epoch s.stored.commits s.stored.left) × (after ≡ Next)
Shows n s line.Tables text after = (text ≡ names_text (codes "table") s.stored.names.tables) × (after ≡ Next)
Shows n s line.Types text after = (text ≡ names_text (codes "type") s.stored.names.types) × (after ≡ Next)
Shows n s line.Tree text after = (text ≡ drawing s.stored.names s.stored.store.setup.tree) × (after ≡ Next)
Shows n s line.Guarantees text after = AreGuarantees s.stored.names.types s.stored.store.setup.tree text × (after ≡ Next)
Shows n s line.Sessions text after = (text ≡ sessions_text s.stored.events s.stored.names s.waits) × (after ≡ Next)
Shows n s line.Dump text after = ShowsDump n s text after
Shows n s line.Read text after = ShowsRead n text after
Shows n s line.Help text after = (text ≡ help_text) × (after ≡ Next)
Shows n s line.Quit text after = (text ≡ []) × (after ≡ Quit)
Shows n s (line.Bad why) text after = (text ≡ bad_text n why) × (after ≡ Bad)
Shows n s (line.Ask session request) text after = ⊥
Shows n s line.Checkpoint text after = ⊥

-- a line that changes nothing
abbrev pub IsUnchanging : ShellLine → Type 0
IsUnchanging (line.Ask session request) = ⊥
IsUnchanging line.Checkpoint = ⊥
IsUnchanging _ = Unit {0}

-- line n of the input is answered by this text, and leaves this state
abbrev pub IsAnswered : ℕ → State → ShellLine → List ℕ → After → State → Type 0
IsAnswered n s (line.Ask session request) text after t = IsAsked s session request text after t
IsAnswered n s line.Checkpoint text after t = IsCheckpoint s text after t ⊎ (IsDrained s.stored.events × HasFailed text after t)
IsAnswered n s l text after t = Shows n s l text after × (t ≡ s)
