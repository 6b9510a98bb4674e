-- What the shell sees of its store, and how it goes on.
use Rattle.std.specs.Prelude.{◌≡◌, ◌≢◌, ◌⊎◌, ℕ, ◌+◌, ◌*◌, ◌<◌, Bool, false, List, [], Some, Ok, IsTrue, length}
use Rattle.teb_rules.specs.declared.names.Session.{Session}
use Rattle.teb_rules.specs.declared.names.Txn.{Txn}
use Rattle.teb_rules.specs.declared.names.Request.{Request}
use Rattle.teb_rules.specs.declared.names.Request.TheVariants.{Commit}
use Rattle.teb_rules.specs.declared.names.Reply.TheVariants.{Committed}
use Rattle.teb_rules.specs.declared.names.naming.NameBook.{NameBook}
use Rattle.teb_rules.specs.declared.history.Event.{Event}
use Rattle.teb_rules.specs.history.Phases.{held, unfinished}
use Rattle.teb_rules.specs.Setup.{Store}
use Rattle.teb_rules.specs.Answer.{answer}
use Rattle.teb_rules.specs.Epochs.{AreFinalRows, IsDrained, IsUntold}
use Rattle.teb_rules.specs.Accepted.{IsSound}
use Rattle.teb_rules.specs.laws.Laws.{reached}
use Rattle.commit_laws.specs.Records.{puts_of}
use Rattle.store_setup.specs.SetupView.{SetupView}
use Rattle.store_setup.specs.Sound.{IsNamed}
use Rattle.tree_toml.specs.SetupText.{setup_of_text}
use Rattle.store_setup.specs.Stores.{names_of, store_of_view}
use Rattle.shell_lines.specs.declared.reply.StoreReply.{StoreReply}
use Rattle.shell_lines.specs.declared.reply.StoreReply.TheVariants.{Reply, Later, Full, Unsure}
use Rattle.shell_runner.specs.declared.store.EpochError.{EpochError}
use Rattle.shell_runner.specs.declared.store.EpochError.TheVariants as errors

-- the tree and the rows that the epoch began with, the names, the history of the epoch, how many of its commits were answered, how many bytes
-- are left for it, and whether a call of the disk has failed
pub record Stored : Type 0 where
  pub store : Store
  pub names : NameBook
  pub events : List Event
  pub commits : ℕ
  pub left : ℕ
  pub stopped : Bool

-- each node has a name
abbrev pub HasNodeNames : Stored → Type 0
HasNodeNames s = length s.store.setup.tree ≡ length s.names.nodes

-- it has the tree and the names of a tree text
pub record IsOfTree (tree : List ℕ) (s : Stored) : Type 0 where
  pub view : SetupView
  pub read : setup_of_text tree ≡ Ok view
  pub setup : s.store.setup ≡ (store_of_view view).setup
  pub tables : s.store.tables ≡ (store_of_view view).tables
  pub names : s.names ≡ names_of view
  pub nodes : IsNamed view

-- it goes on under a tree text
pub record IsReady (tree : List ℕ) (s : Stored) : Type 0 where
  pub of_tree : IsOfTree tree s
  pub running : s.stopped ≡ false

-- a store can be set up so, and some requests lead to the history
pub record IsReached (s : Stored) : Type 0 where
  pub sound : IsSound s.store.setup
  pub asked : List (Session × Request)
  pub leads : s.events ≡ reached s.store asked

-- a session asks to commit an unfinished transaction, and what is left may not hold it: six bytes, and fourteen for each cell that it has put
pub record LacksRoom (s : Stored) (session : Session) (request : Request) : Type 0 where
  pub txn : ℕ
  pub asks : request ≡ Commit
  pub holds : held s.events session.0 ≡ Some txn
  pub unfinished : IsTrue (unfinished s.events txn)
  pub full : s.left < 6 + 14 * length (puts_of s.events txn)

-- the store has the request, by this answer of the rules
pub record HasAsked (s : Stored) (session : Session) (request : Request) (t : Stored) : Type 0 where
  pub store : t.store ≡ s.store
  pub names : t.names ≡ s.names
  pub events : t.events ≡ (answer s.store s.events session request).1

-- what the store makes of a request: the rules answer it; it is a commit that does not fit, and nothing is asked; or it is a commit at which the disk failed
abbrev pub IsReplied : Stored → Session → Request → StoreReply → Stored → Type 0
IsReplied s session request (Reply r) t = (r ≡ (answer s.store s.events session request).0) × HasAsked s session request t × (r ≡ Committed → t.commits ≡ s.commits + 1)
    × (r ≢ Committed → t.commits ≡ s.commits)
IsReplied s session request Later t = ⊥
IsReplied s session request Full t = (t ≡ s) × LacksRoom s session request
IsReplied s session request Unsure t = ((answer s.store s.events session request).0 ≡ Committed) × HasAsked s session request t × (t.commits ≡ s.commits)

-- nothing has happened in the next epoch; it has the tree and the names of a setup, and the rows that the commits have left
pub record IsNext (m : SetupView) (s t : Stored) : Type 0 where
  pub setup : t.store.setup ≡ (store_of_view m).setup
  pub tables : t.store.tables ≡ (store_of_view m).tables
  pub rows : AreFinalRows s.store s.events t.store.rows
  pub names : t.names ≡ names_of m
  pub events : t.events ≡ []
  pub commits : t.commits ≡ 0

-- who keeps the next epoch from beginning: a transaction that is unfinished, or a session that holds an aborted one
abbrev pub IsHindered : List Event → Type 0
IsHindered H = ((t : Txn) × IsTrue (unfinished H t.0)) ⊎ ((s : Session) × IsUntold H s.0)

-- what keeps the next epoch from beginning is so
abbrev pub IsEpochRefused : List Event → EpochError → Type 0
IsEpochRefused H (errors.Unfinished t) = IsTrue (unfinished H t.0)
IsEpochRefused H (errors.Untold s) = IsUntold H s.0
IsEpochRefused H errors.Full = IsDrained H
IsEpochRefused H errors.DiskFault = IsDrained H
IsEpochRefused H errors.OutOfMemory = Unit {0}
