-- The result of a run on a disk.
use Rattle.std.proofs.Common.{◌≡◌, ◌≤◌, ◌<◌, ◌+◌, ◌-◌, ◌/◌, ℕ, suc, Bool, true, false, List, [], ◌∷◌, ◌++◌, length, take, refl, sym, ◌∙◌, ap, subst, arith, append_assoc, length-append, ℤ}
use Rattle.std.proofs.lemmas.List.{take_all, take_at, append-nil, length-take}
use Rattle.teb_rules.specs.declared.names.Cell.{Cell}
use Rattle.teb_rules.specs.declared.names.Session.{Session}
use Rattle.teb_rules.specs.declared.names.Request.{Request}
use Rattle.teb_rules.specs.declared.names.Reply.{Reply}
use Rattle.teb_rules.specs.declared.names.Reply.TheVariants.{Committed}
use Rattle.teb_rules.specs.names.Rows.{row_of, IsAscending}
use Rattle.teb_rules.specs.declared.history.Event.{Event}
use Rattle.teb_rules.specs.Setup.{Setup, Store}
use Rattle.teb_rules.specs.Accepted.{IsSound}
use Rattle.teb_rules.specs.Answer.{answer}
use Rattle.teb_rules.specs.Run.{history_after}
use Rattle.teb_rules.proofs.lemmas.laws.Sound.{tree_facts}
use Rattle.engine_core.specs.EngineModel.{IsReached}
use Rattle.crash_disk.specs.Calls.{Promise, Tally, IsBefore}
use Rattle.crash_disk.specs.Sizes.{default_capacity}
use Rattle.record_journal.specs.Format.{Record, recovered, Whole}
use Rattle.record_journal.specs.Journal.{after_records}
use Rattle.commit_laws.specs.Commits.{commit_count}
use Rattle.commit_laws.specs.Records.{records_of, record_of}
use Rattle.commit_laws.proofs.Prefixes.{length-records}
use Rattle.commit_laws.proofs.Laws.{records_final, records_leave_the_rows}
use Rattle.commit_journal.specs.Kept.{Kept}
use Rattle.commit_journal.proofs.Replies.{Outcome, commits, others, outcome, committed_now}
use Rattle.teb_rules.specs.Epochs.{AreFinalRows}
use Rattle.script_text.specs.declared.Line.{Line}
use Rattle.script_text.specs.declared.Answered.{Answered}
use Rattle.script_runner.specs.replay.Logs.{Requests, log_of, replayed}
use Rattle.script_runner.proofs.lemmas.replay.Logged.{history_none, history_step}
use Rattle.crash_runner.specs.Crashes.{calls_of, Through, AtOnce, AtCommit, AreRowsAfter}
use Rattle.crash_runner.specs.Underway.{HasRoom, IsUnderway, HasAsked, StopsAt, IsRunOn}
use Rattle.crash_runner.proofs.Steps.{lawful_of}

-- ---- the records of a history are the first ones of any later history

record AreMore (rs qs : List Record) : Type 0 where
  more : List Record
  is : qs ≡ rs ++ more

answered_more : (S : Setup) (H : List Event) (s : Session) (r : Request) (x : Reply × List Event) → Outcome S H s r x → AreMore (records_of S H) (records_of S x.1)
unfolding records_of
answered_more S H s r x (commits t asked is) = record { more = record_of S H t ∷ []; is = ap (λ (y : Reply × List Event). records_of S y.1) is }
answered_more S H s r x (others q) = record { more = []; is = q.1 ∙ sym (append-nil (records_of S H)) }

records_more : (X : Store) (asked : Requests) (H : List Event) → AreMore (records_of X.setup H) (records_of X.setup (history_after X H asked))
records_more X [] H = record { more = []; is = ap (records_of X.setup) (history_none X H) ∙ sym (append-nil (records_of X.setup H)) }
records_more X (a ∷ rest) H =
    let one = answered_more X.setup H a.0 a.1 (answer X H a.0 a.1) (outcome X H a.0 a.1) in
    let behind = records_more X rest (answer X H a.0 a.1).1 in
    record {
      more = one.more ++ behind.more;
      is = ap (records_of X.setup) (history_step X H a rest) ∙ behind.is ∙ ap (λ (rs : List Record). rs ++ behind.more) one.is ∙ append_assoc (records_of X.setup H) one.more behind.more;
    }

first_records : (X : Store) (asked : Requests) (H : List Event) → records_of X.setup H ≡ take (commit_count H) (records_of X.setup (history_after X H asked))
first_records X asked H =
    let m = records_more X asked H in
    sym (ap (take (commit_count H)) m.is ∙ take_at (records_of X.setup H) m.more (commit_count H) (length-records X.setup H))

-- a later history has at least as many commits
commits_more : (X : Store) (asked : Requests) (H : List Event) → commit_count H ≤ commit_count (history_after X H asked)
commits_more X asked H =
    let m = records_more X asked H in
    omega (arith, length-records X.setup H, length-records X.setup (history_after X H asked), ap length m.is, length-append (records_of X.setup H) m.more)

granted_counts : (X : Store) (a : Session × Request) (rest : Requests) (H : List Event) → (answer X H a.0 a.1).0 ≡ Committed → suc (commit_count H) ≤ commit_count (history_after X H (a ∷ rest))
unfolding commit_count
granted_counts X a rest H granted =
    let now = committed_now X.setup H a.0 a.1 (answer X H a.0 a.1) (outcome X H a.0 a.1) granted in
    let grown : commit_count (answer X H a.0 a.1).1 ≡ suc (commit_count H) = ap commit_count now.2 in
    omega (arith, commits_more X rest (answer X H a.0 a.1).1, grown, ap commit_count (history_step X H a rest))

-- ---- how a run ends

pub went_through : {D : Type 0} (p : Promise) (tally : D → Tally) (safe : D → List ℕ) (k : Kept D) (X : Store) (lines : List Line) (log : List Answered) → k.store ≡ X → IsUnderway p tally safe k log
    → HasAsked X (replayed X [] lines) [] [] log k.events → HasRoom (tally k.disk) → IsRunOn p.stop X lines log false (tally k.disk) (safe k.disk)
went_through p tally safe k X lines log store u asked room =
    let count = ap commit_count (sym asked.events) in
    let count_records = length-records X.setup k.events in
    record {
      before = k.events;
      reached = subst (λ (Y : Store). IsReached Y k.events) store u.reached;
      course = Through (subst (λ (H : List Event). IsBefore p.stop (calls_of (commit_count H))) asked.events u.passed) asked.replies refl (sym count);
      first = sym (ap (λ (H : List Event). take (commit_count k.events) (records_of X.setup H)) (sym asked.events) ∙ take_all (commit_count k.events) (records_of X.setup k.events)
          (omega (arith, count_records)));
      kept = subst (λ (Y : Store). recovered default_capacity (safe k.disk) ≡ Whole (records_of Y.setup k.events)) store u.kept;
      room = room;
    }

quarter : (stop n : ℕ) → calls_of n < stop → stop ≤ calls_of (suc n) → n ≡ (stop - 3) / 4
quarter stop n late soon = omega (arith, late, soon)

pub was_stopped : (p : Promise) (X : Store) (lines : List Line) (given : List Answered) (t : Tally) (safe : List ℕ)
    → StopsAt p X (log_of X [] (replayed X [] lines)) (history_after X [] (replayed X [] lines)) given t safe → IsRunOn p.stop X lines given true t safe
was_stopped p X lines given t safe s =
    let asked = s.commit ∷ s.rest in
    let counts = granted_counts X s.commit s.rest s.before s.granted in
    record {
      before = s.before;
      reached = s.reached;
      course = AtCommit (omega (arith, s.late)) (omega (arith, s.soon, counts, ap commit_count s.events)) (quarter p.stop (commit_count s.before) s.late s.soon)
          (record {
            commit = record { session = s.commit.0; reply = (answer X s.before s.commit.0 s.commit.1).0 };
            behind = log_of X (answer X s.before s.commit.0 s.commit.1).1 s.rest;
            parts = s.replies;
            committed = s.granted;
            earlier = s.earlier;
          })
          refl;
      first = first_records X asked s.before ∙ ap (λ (H : List Event). take (commit_count s.before) (records_of X.setup H)) (sym s.events);
      kept = s.kept;
      room = s.room;
    }

none_reached : (X : Store) → IsReached X []
none_reached X = ([], sym (history_none X []))

pub never_began : (stop : ℕ) (X : Store) (lines : List Line) (t : Tally) (safe : List ℕ) → 0 < stop → stop ≤ 2 → recovered default_capacity safe ≡ Whole [] → HasRoom t
    → IsRunOn stop X lines [] true t safe
unfolding commit_count records_of
never_began stop X lines t safe some low none room = record {
  before = [];
  reached = none_reached X;
  course = AtOnce some low refl refl refl;
  first = refl;
  kept = none;
  room = room;
}

-- ---- the recovered rows

module _ (stop : ℕ) (X : Store) (lines : List Line) (given : List Answered) (stopped : Bool) (t : Tally) (safe : List ℕ) (run : IsRunOn stop X lines given stopped t safe) (sound : IsSound X.setup)
    (rows : List (Cell × ℤ)) (after : (x : Cell) → row_of rows x ≡ after_records (records_of X.setup run.before) (row_of X.rows) x) (ascending : IsAscending rows) where
  abbrev H : List Event
  H = history_after X [] (replayed X [] lines)

  pub rows_are_after : AreRowsAfter X H (commit_count run.before) rows
  rows_are_after =
      let lawful = lawful_of X H sound (replayed X [] lines, refl) in
      let few : commit_count run.before ≤ commit_count H = omega (
        arith,
        length-records X.setup run.before,
        length-records X.setup H,
        ap length run.first,
        length-take (commit_count run.before) (records_of X.setup H),
      ) in
      record {
        ascending = ascending;
        each = λ x. after x ∙ ap (λ (rs : List Record). after_records rs (row_of X.rows) x) run.first ∙ records_leave_the_rows X H sound lawful (commit_count run.before) few x;
      }

  -- they are also the final rows of `run.before`, the history whose records were recovered
  pub rows_are_final : AreFinalRows X run.before rows
  rows_are_final = record {
    ascending = ascending;
    each = λ x. after x ∙ records_final X (tree_facts X.setup sound) run.before (lawful_of X run.before sound run.reached) x;
  }
