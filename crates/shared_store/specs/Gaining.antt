-- What a seat knows once its turn is over.
use Rattle.std.specs.Prelude.{◌≡◌, ℕ, ◌+◌, ◌<◌, ◌≤◌, List, [], ◌∷◌, ◌++◌, Bool, true, false, Option, Some, Result, Ok, Err}
use Rattle.teb_rules.specs.declared.names.Reply.{Reply as TheReply}
use Rattle.teb_rules.specs.declared.names.Reply.TheVariants.{Committed}
use Rattle.teb_rules.specs.declared.names.Request.{Request}
use Rattle.teb_rules.specs.declared.names.Request.TheVariants.{End}
use Rattle.teb_rules.specs.declared.names.Session.{Session}
use Rattle.teb_rules.specs.declared.history.Event.{Event}
use Rattle.teb_rules.specs.Setup.{Store}
use Rattle.short_reply.specs.declared.ShortReply.{ShortReply}
use Rattle.turn_lock.specs.declared.view.View.{View}
use Rattle.shared_store.specs.declared.entry.LifeEntry.{LifeEntry}
use Rattle.shared_store.specs.declared.entry.LifeEntry.TheVariants.{Asked, LogFailed}
use Rattle.shared_store.specs.declared.answer.Answer.{Answer}
use Rattle.shared_store.specs.declared.answer.Answer.TheVariants as answer
use Rattle.shared_store.specs.declared.kept.Kept.{Kept}
use Rattle.shared_store.specs.declared.reply.StoreReply.{StoreReply}
use Rattle.shared_store.specs.declared.reply.StoreReply.TheVariants.{Reply, Later, Ended}
use Rattle.shared_store.specs.Beginning.{holds}
use Rattle.shared_store.specs.Stages.{Stage, commits_at, reply_at}
use Rattle.shared_store.specs.Holding.{IsBrought}
use Rattle.shared_store.specs.Lives.{IsLegalLife, IsShortOf, LeadsTo, calls_of, taken_of}
use Rattle.shared_store.specs.declared.error.AskError.{AskError}
use Rattle.shared_store.specs.declared.error.AskError.TheVariants.{Unasked, Unsure}
use Rattle.shared_store.specs.Places.{Place}
use Rattle.shared_store.specs.Totals.{total_in}

-- at most so many turns are spent. What was seen is a legal life
pub record TakesTurns (n : ℕ) (v w : View LifeEntry Stage) : Type 0 where
  pub base : w.base ≡ v.base
  pub owners : w.owners ≡ v.owners
  pub turns : v.turns ≤ w.turns + n
  pub legal : (b : Stage) → w.base ≡ Some b → IsLegalLife b w.seen

-- what was seen goes on, with no call of session s
pub record SeesNoCall (s : ℕ) (v w : View LifeEntry Stage) : Type 0 where
  pub more : List LifeEntry
  pub is : w.seen ≡ v.seen ++ more
  pub calls : calls_of s w.seen ≡ calls_of s v.seen

-- at a place of what was seen since, session s holds no transaction
pub record SeesFree (b : Stage) (s : Session) (v w : View LifeEntry Stage) : Type 0 where
  pub between : List LifeEntry
  pub more : List LifeEntry
  pub stage : Stage
  pub is : w.seen ≡ (v.seen ++ between) ++ more
  pub leads : LeadsTo b (v.seen ++ between) stage
  pub free : holds stage.standing.events s ≡ false

-- what was seen goes on, with one call of session s, which is its end
pub record SeesCall (b : Stage) (s : Session) (q : Request) (r : TheReply) (v w : View LifeEntry Stage) : Type 0 where
  pub between : List LifeEntry
  pub short : Option ShortReply
  pub stage : Stage
  pub is : w.seen ≡ (v.seen ++ between) ++ Asked s s q short ∷ []
  pub leads : LeadsTo b (v.seen ++ between) stage
  pub reply : r ≡ reply_at stage s q
  pub short_of : IsShortOf r short
  pub calls : calls_of s.0 w.seen ≡ calls_of s.0 v.seen ++ Asked s s q short ∷ []

-- what was seen goes on, and ends with an End of session `other`, asked at the turn of session s
pub record SeesEnd (b : Stage) (s other : Session) (v w : View LifeEntry Stage) : Type 0 where
  pub between : List LifeEntry
  pub short : Option ShortReply
  pub stage : Stage
  pub is : w.seen ≡ (v.seen ++ between) ++ Asked s other End short ∷ []
  pub leads : LeadsTo b (v.seen ++ between) stage
  pub short_of : IsShortOf (reply_at stage other End) short

-- what the seat sees by an answer
abbrev pub Sees : Stage → Session → Request → Answer → View LifeEntry Stage → View LifeEntry Stage → Type 0
Sees b s q (answer.Reply (Reply r) n) v w = SeesCall b s q r v w
Sees b s q (answer.Reply Later n) v w = SeesNoCall s.0 v w
Sees b s q (answer.Reply (Ended r) n) v w = SeesNoCall s.0 v w
Sees b s q answer.Drained v w = SeesNoCall s.0 v w
Sees b s q (answer.Unasked f) v w = SeesNoCall s.0 v w

-- so many commits has the life that was seen
pub record HasCommits (b : Stage) (n : ℕ) (seen : List LifeEntry) : Type 0 where
  pub stage : Stage
  pub leads : LeadsTo b seen stage
  pub counted : n ≡ commits_at stage

-- a reply comes with that number
abbrev pub IsCountedIn : Stage → Answer → List LifeEntry → Type 0
IsCountedIn b (answer.Reply a n) seen = HasCommits b n seen
IsCountedIn b answer.Drained seen = Unit {0}
IsCountedIn b (answer.Unasked f) seen = Unit {0}

-- the log's seat took a turn
pub record LogTurn (v w : View LifeEntry Stage) : Type 0 where
  pub base : w.base ≡ v.base
  pub owners : w.owners ≡ v.owners
  pub turns : w.turns + 1 ≡ v.turns

-- it took a batch of commits
pub record TakesBatch (brings : Store → List Event → List Event → Type 0) (commits : ℕ) (v w : View LifeEntry Stage) : Type 0 where
  pub brought : (b : Stage) → v.base ≡ Some b → ∥ IsBrought brings b commits v.seen w.seen ∥₁

-- the last entry tells that the log has failed
pub record TellsFailure (seen : List LifeEntry) : Type 0 where
  pub before : List LifeEntry
  pub is : seen ≡ before ++ LogFailed ∷ []

-- it left where the list was last taken
pub record TakesNone (v w : View LifeEntry Stage) : Type 0 where
  pub same : taken_of w.seen ≡ taken_of v.seen

-- a seat of the log took at most so many turns. What it was told before, it is told still
pub record TakesLogTurns (n : ℕ) (v w : View Kept Place) : Type 0 where
  pub base : w.base ≡ v.base
  pub owners : w.owners ≡ v.owners
  pub turns : v.turns ≤ w.turns + n
  pub spent : w.turns ≤ v.turns
  pub still : total_in v.seen ≤ total_in w.seen

-- the reply to a commit that was made
abbrev pub is_commit_reply : StoreReply → Bool
is_commit_reply (Reply Committed) = true
is_commit_reply (Reply r) = false
is_commit_reply Later = false
is_commit_reply (Ended r) = false

-- what the seat sees by the result of a call
abbrev pub Gains : Stage → Session → Request → Result StoreReply AskError → View LifeEntry Stage → View LifeEntry Stage → Type 0
Gains b s q (Ok (Reply r)) v w = SeesCall b s q r v w
Gains b s q (Ok Later) v w = SeesNoCall s.0 v w
Gains b s q (Ok (Ended r)) v w = SeesNoCall s.0 v w
Gains b s q (Err Unsure) v w = SeesCall b s q Committed v w
Gains b s q (Err (Unasked f)) v w = SeesNoCall s.0 v w

-- the log has told that it keeps all commits of the life that was seen
pub record SafeAt (b : Stage) (seen : List LifeEntry) (told : List Kept) : Type 0 where
  pub stage : Stage
  pub leads : LeadsTo b seen stage
  pub kept : commits_at stage ≤ total_in told

-- a seat of the log took a turn, and was told that the log keeps fewer commits than the life that was seen has
pub record NotToldAt (b : Stage) (seen : List LifeEntry) (v w : View Kept Place) : Type 0 where
  pub stage : Stage
  pub leads : LeadsTo b seen stage
  pub fewer : total_in w.seen < commits_at stage
  pub looked : w.turns < v.turns
