-- The guarantees hold for every run.
use Rattle.std.proofs.Common.{List, []}
use Rattle.std.proofs.lemmas.Bool.{both_ways}
use Rattle.teb_rules.specs.declared.names.Session.{Session}
use Rattle.teb_rules.specs.declared.names.Request.{Request}
use Rattle.teb_rules.specs.declared.history.Event.{Event}
use Rattle.teb_rules.specs.Setup.{Store}
use Rattle.teb_rules.specs.Accepted.{IsSound}
use Rattle.teb_rules.specs.Answer.{answer}
use Rattle.teb_rules.specs.laws.Laws.{OfEveryRun, OfEveryStore, reached}
use Rattle.teb_rules.specs.laws.TreeFacts.{TreeFacts}
use Rattle.teb_rules.proofs.lemmas.laws.Answers.{Good}
use Rattle.teb_rules.proofs.lemmas.laws.Grows.{not_aborted}
use Rattle.teb_rules.proofs.lemmas.laws.Reachable.{answer_good, empty_good, run_good}
use Rattle.teb_rules.proofs.lemmas.laws.Sound.{tree_facts}
use Rattle.guarantees.specs.Time.{IsCommitOrdered, IsStrict}
use Rattle.guarantees.specs.Waiting.{HasNoDeadlock}
use Rattle.guarantees.specs.Reading.{ReadsGoOn}
use Rattle.guarantees.specs.Cascades.{AbortsAlone}
use Rattle.guarantees.specs.Causes.{NamesCauses}
use Rattle.guarantees.proofs.Following.{answer_keeps, run_keeps}
use Rattle.guarantees.proofs.Strict.{commit_ordered, keeps_real_time}
use Rattle.guarantees.proofs.Admitted.{Admits, in_time, keeps_admits}
use Rattle.guarantees.proofs.Unread.{no_cascade, reads_committed}
use Rattle.guarantees.proofs.Fallen.{Fallen, fell_after, keeps_fallen, none_fallen, positive}
use Rattle.guarantees.proofs.ToldAborts.{answer_names}
use Rattle.guarantees.proofs.Oldest.{no_deadlock}
use Rattle.guarantees.proofs.Served.{reads_served, scans_served, writes_is}

good_run : (X : Store) → IsSound X.setup → (asked : List (Session × Request)) → Good X.setup (reached X asked)
good_run X s asked = run_good X (tree_facts X.setup s) s.profiles asked [] (empty_good X.setup)

fallen_run : (X : Store) → IsSound X.setup → (asked : List (Session × Request)) → Fallen (reached X asked)
fallen_run X s asked = run_keeps X Fallen (keeps_fallen X) s none_fallen asked

pub is_strict : OfEveryRun IsStrict
is_strict X s asked k =
    let a = tree_facts X.setup s in
    let l = (good_run X s asked).legal in
    keeps_real_time X.setup a (reached X asked) l (in_time X.setup a (reached X asked) l (run_keeps X (Admits X.setup) (keeps_admits X) s tt asked) k)

pub is_commit_ordered : OfEveryRun IsCommitOrdered
is_commit_ordered X s asked o = commit_ordered X.setup (tree_facts X.setup s) (reached X asked) (good_run X s asked).legal o

pub has_no_deadlock : OfEveryStore HasNoDeadlock
has_no_deadlock X s asked = no_deadlock X (reached X asked)

names : (X : Store) (a : TreeFacts X.setup) (s : IsSound X.setup) (H : List Event) → Good X.setup H → Fallen H → NamesCauses X H
names X a s H g q = record {
  told = λ z r c e. let k = (answer_names X a H z r g.legal q).told c e in record { txn = k.0; holds = k.1; grounds = k.2; kept = k.3 };
  others = λ z r v b d n. let k = (answer_names X a H z r g.legal q).others v b d n in
      (k.0, fell_after X.setup (answer X H z r).1 v k.0 (answer_good X a s.profiles H z r g).legal (answer_keeps X Fallen (keeps_fallen X) H g q z r) k.1);
  after = λ t u c. fell_after X.setup H t u g.legal q c;
}

pub names_causes : OfEveryStore NamesCauses
names_causes X s asked = names X (tree_facts X.setup s) s (reached X asked) (good_run X s asked) (fallen_run X s asked)

pub reads_go_on : OfEveryStore ReadsGoOn
reads_go_on X s asked =
    let H = reached X asked in
    let l = (good_run X s asked).legal in
    let n = names_causes X s asked in
    record {
      reads = λ z t x h u f. reads_served X H z t x l h u f;
      scans = λ z t x k h u f. scans_served X H z t x k l h u f;
      late = λ z r m u x e. writes_is x r (n.told z r _ e).grounds.asks;
      first = λ z r m u x e. writes_is x r (n.told z r _ e).grounds.asks;
    }

pub aborts_alone : OfEveryStore AbortsAlone
aborts_alone X s asked h =
    let H = reached X asked in
    let l = (good_run X s asked).legal in
    let rc = reads_committed X.setup (tree_facts X.setup s) H l h in
    let n = names_causes X s asked in
    record {
      alone = λ t u. no_cascade X.setup H t l rc u;
      none_after = λ t u e. let f = fallen_run X s asked t u e in both_ways _ (not_aborted X.setup H u.0 l (rc t u.0 f.1 (positive X.setup H u.0 l f.2))) f.2;
      told = λ z r u e. let f = fallen_run X s asked _ u (n.told z r _ e).grounds.kept in both_ways _ (not_aborted X.setup H u.0 l (rc _ u.0 f.1 (positive X.setup H u.0 l f.2))) f.2;
    }
