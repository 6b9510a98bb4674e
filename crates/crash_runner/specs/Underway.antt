-- A run on a disk, as it goes on and as it stops.
use Rattle.std.specs.Prelude.{◌≡◌, ℕ, suc, ◌+◌, ◌^◌, ◌<◌, ◌≤◌, Bool, false, List, [], ◌∷◌, ◌++◌, length, take}
use Rattle.teb_rules.specs.declared.names.Session.{Session}
use Rattle.teb_rules.specs.declared.names.Reply.TheVariants.{Committed}
use Rattle.teb_rules.specs.declared.names.Request.{Request}
use Rattle.teb_rules.specs.declared.names.Request.TheVariants.{End}
use Rattle.teb_rules.specs.declared.history.Event.{Event}
use Rattle.teb_rules.specs.Setup.{Store}
use Rattle.teb_rules.specs.Accepted.{IsSound}
use Rattle.teb_rules.specs.Answer.{answer}
use Rattle.teb_rules.specs.Run.{history_after}
use Rattle.engine_core.specs.EngineModel.{IsReached}
use Rattle.crash_disk.specs.Calls.{Promise, Tally, IsBefore}
use Rattle.crash_disk.specs.Sizes.{default_capacity, reserved_calls, reserved_bytes}
use Rattle.record_journal.specs.Format.{records, recovered, Whole}
use Rattle.commit_laws.specs.Commits.{commit_count, put_count}
use Rattle.commit_laws.specs.Records.{records_of}
use Rattle.commit_journal.specs.Kept.{Kept}
use Rattle.script_text.specs.declared.Line.{Line}
use Rattle.script_text.specs.declared.Answered.{Answered}
use Rattle.script_runner.specs.replay.Logs.{Requests, log_of, replayed}
use Rattle.crash_runner.specs.Crashes.{calls_of, committed_replies, Course}

-- the device promises as many calls and bytes as any script takes
pub record IsRoomy (p : Promise) : Type 0 where
  pub reads : 2 ^ 32 ≤ p.reads + 1
  pub writes : reserved_calls ≤ p.writes
  pub bytes : reserved_bytes ≤ p.bytes

-- how many of the events are commits or puts; each request but an End adds one at most
abbrev pub effects : List Event → ℕ
effects H = commit_count H + put_count H

abbrev pub weight : Request → ℕ
weight End = 0
weight _ = 1

-- so far no call has failed: two were made for the journal and four for each commit, and these are the replies
pub record IsUnderway {D : Type 0} (promise : Promise) (tally : D → Tally) (safe : D → List ℕ) (k : Kept D) (log : List Answered) : Type 0 where
  pub sound : IsSound k.store.setup
  pub reached : IsReached k.store k.events
  pub replies : committed_replies log ≡ commit_count k.events
  pub runs : k.stopped ≡ false
  pub end : k.end ≡ length (records (records_of k.store.setup k.events))
  pub promised : (tally k.disk).promise ≡ promise
  pub room : IsRoomy promise
  pub made : (tally k.disk).made ≡ calls_of (commit_count k.events)
  pub written : (tally k.disk).written ≤ 1 + k.end + commit_count k.events
  pub passed : IsBefore promise.stop (calls_of (commit_count k.events))
  pub kept : recovered default_capacity (safe k.disk) ≡ Whole (records_of k.store.setup k.events)

-- these are the replies and the history after some requests that follow H
pub record HasAsked (X : Store) (asked : Requests) (log : List Answered) (H : List Event) (log' : List Answered) (H' : List Event) : Type 0 where
  pub replies : log' ≡ log ++ log_of X H asked
  pub events : H' ≡ history_after X H asked

-- there is room for the calls that read a whole disk
pub record HasRoom (t : Tally) : Type 0 where
  pub room : IsRoomy t.promise
  pub made : t.made < reserved_calls
  pub written : t.written ≤ reserved_bytes

-- of requests with this log and this history: the first replies were given, and the next request is a commit that the history before
-- grants, at one of whose calls the disk failed; what was safe has the commits before it
pub record StopsAt (promise : Promise) (X : Store) (log : List Answered) (H : List Event) (given : List Answered) (t : Tally) (safe : List ℕ) : Type 0 where
  pub before : List Event
  pub reached : IsReached X before
  pub commit : Session × Request
  pub rest : Requests
  pub replies : log ≡ given ++ log_of X before (commit ∷ rest)
  pub events : H ≡ history_after X before (commit ∷ rest)
  pub granted : (answer X before commit.0 commit.1).0 ≡ Committed
  pub earlier : committed_replies given ≡ commit_count before
  pub late : calls_of (commit_count before) < promise.stop
  pub soon : promise.stop ≤ calls_of (suc (commit_count before))
  pub kept : recovered default_capacity safe ≡ Whole (records_of X.setup before)
  pub room : HasRoom t

-- what a replay on a disk comes to, which fails from its call `stop` on: the replies that were given, and whether it stopped; the
-- records of the first commits are safe
pub record IsRunOn (stop : ℕ) (X : Store) (lines : List Line) (given : List Answered) (stopped : Bool) (t : Tally) (safe : List ℕ) : Type 0 where
  pub before : List Event
  pub reached : IsReached X before
  pub course : Course stop (log_of X [] (replayed X [] lines)) (commit_count (history_after X [] (replayed X [] lines))) given stopped (commit_count before)
  pub first : records_of X.setup before ≡ take (commit_count before) (records_of X.setup (history_after X [] (replayed X [] lines)))
  pub kept : recovered default_capacity safe ≡ Whole (records_of X.setup before)
  pub room : HasRoom t
