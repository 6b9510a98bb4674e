-- The one list of a store's whole life, and when it is legal.
use Rattle.std.specs.Prelude.{◌≡◌, ℕ, ◌==◌, ◌&&◌, ◌||◌, Bool, true, false, cond, List, [], ◌∷◌, Option, Some, None, filter}
use Rattle.std.specs.List.{list_any}
use Rattle.teb_rules.specs.declared.names.Reply.{Reply}
use Rattle.teb_rules.specs.declared.names.Request.{Request}
use Rattle.teb_rules.specs.declared.names.Session.{Session}
use Rattle.short_reply.specs.declared.ShortReply.{ShortReply}
use Rattle.short_reply.specs.ShortReplies.{full_reply, HasValues}
use Rattle.shared_store.specs.declared.entry.LifeEntry.{LifeEntry}
use Rattle.shared_store.specs.declared.entry.LifeEntry.TheVariants.{Asked, CommitsTaken, EpochEnded, LogFailed}
use Rattle.shared_store.specs.declared.entry.TheConstants.{LOG_SEAT}
use Rattle.shared_store.specs.Beginning.{HasRoomFor}
use Rattle.shared_store.specs.Stages.{Stage, reply_at, asked_at, stopped_at, IsNextEpoch}

-- the session at whose turn the entry came; of marks, the log's seat
abbrev pub owner_of : LifeEntry → ℕ
owner_of (Asked by s q r) = by.0
owner_of CommitsTaken = LOG_SEAT
owner_of EpochEnded = LOG_SEAT
owner_of LogFailed = LOG_SEAT

-- the short form of a reply; none if it has the values of a scan
abbrev pub IsShortOf : Reply → Option ShortReply → Type 0
IsShortOf reply (Some short) = full_reply short ≡ reply
IsShortOf reply None = HasValues reply

-- a request of session s; the reply is that of the rules. Once the log has failed, nothing is asked, and a Begin of a session that holds no
-- transaction is asked only if fewer than MOST_TXNS transactions have begun in the epoch
pub record IsAsked (g : Stage) (s : Session) (q : Request) (short : Option ShortReply) (h : Stage) : Type 0 where
  pub runs : g.stopped ≡ false
  pub room : HasRoomFor g.standing.events s q
  pub reply : IsShortOf (reply_at g s q) short
  pub next : h ≡ asked_at g s q

-- from stage to stage: a request, commits that are taken, an epoch that begins, or a log that has failed
abbrev pub Step : Stage → LifeEntry → Stage → Type 0
Step g (Asked by s q r) h = IsAsked g s q r h
Step g CommitsTaken h = h ≡ g
Step g EpochEnded h = IsNextEpoch g h
Step g LogFailed h = h ≡ stopped_at g

abbrev pub Runs : Stage → List LifeEntry → Stage → Type 0
Runs g [] h = h ≡ g
Runs g (e ∷ es) h = (m : Stage) × Step g e m × Runs m es h

abbrev pub LeadsTo : Stage → List LifeEntry → Stage → Type 0
LeadsTo g es h = ∥ Runs g es h ∥₁

-- the list is a life from this stage on
abbrev pub IsLegalLife : Stage → List LifeEntry → Type 0
IsLegalLife g es = ∥ ((h : Stage) × Runs g es h) ∥₁

-- with it all commits have gone to the log: they were taken, or the epoch has ended
abbrev pub is_taking : LifeEntry → Bool
is_taking (Asked by s q r) = false
is_taking CommitsTaken = true
is_taking EpochEnded = true
is_taking LogFailed = false

-- the list up to the last entry with which all commits had gone to the log
abbrev pub taken_of : List LifeEntry → List LifeEntry
taken_of [] = []
taken_of (e ∷ es) = let more = taken_of es in cond (is_taking e || list_any is_taking es) (e ∷ more) []

-- with it the log has failed
abbrev pub is_stop : LifeEntry → Bool
is_stop (Asked by s q r) = false
is_stop CommitsTaken = false
is_stop EpochEnded = false
is_stop LogFailed = true

-- the list tells of a failure of the log
abbrev pub has_stop : List LifeEntry → Bool
has_stop es = list_any is_stop es

-- session n asked it itself
abbrev pub is_call_of : ℕ → LifeEntry → Bool
is_call_of n (Asked by s q r) = (by.0 == n) && (s.0 == n)
is_call_of n CommitsTaken = false
is_call_of n EpochEnded = false
is_call_of n LogFailed = false

-- the calls of session n, in order
abbrev pub calls_of : ℕ → List LifeEntry → List LifeEntry
calls_of n es = filter (is_call_of n) es

-- it came at the turn of session n, and is no call of it
abbrev pub IsForOther : ℕ → LifeEntry → Type 0
IsForOther n e = (owner_of e ≡ n) × (is_call_of n e ≡ false)
