-- A property that every answer keeps holds in every run.
use Rattle.std.proofs.Common.{◌≡◌, ℕ, suc, Bool, true, false, cond, not, ◌&&◌, ltb, leb, List, [], ◌∷◌, Option, Some, None, is_none, refl, ℤ, ◌+ℤ◌}
use Rattle.teb_rules.specs.declared.names.TheConstants.{MOST_TXNS, SESSIONS}
use Rattle.teb_rules.specs.declared.names.Cell.{Cell}
use Rattle.teb_rules.specs.declared.names.Spot.{Spot}
use Rattle.teb_rules.specs.declared.names.Node.{Node}
use Rattle.teb_rules.specs.declared.names.Session.{Session}
use Rattle.teb_rules.specs.declared.names.Cause.{Cause}
use Rattle.teb_rules.specs.declared.names.Cause.TheVariants.{Newer, Asked, Ended}
use Rattle.teb_rules.specs.declared.names.Request.{Request}
use Rattle.teb_rules.specs.declared.names.Request.TheVariants.{Begin, Read, Write, Add, Delete, Scan, Prepare, Commit, Abort, End}
use Rattle.teb_rules.specs.declared.names.Refusal.TheVariants.{UnknownType, Full, UnknownTable, NotInProfile, Overflow, Range, BadSession}
use Rattle.teb_rules.specs.declared.names.Refusal.TheVariants.{Prepared as IsPrepared}
use Rattle.teb_rules.specs.declared.names.Reply.TheVariants.{Aborted, Again, Prepared}
use Rattle.teb_rules.specs.declared.history.Event.{Event}
use Rattle.teb_rules.specs.declared.history.Event.TheVariants.{Began, Got, Put, Ready, Done, Gone, Told}
use Rattle.teb_rules.specs.history.Phases.{aborted, begun_count, cause_of, held, is_after, kind_of, prepared, unfinished}
use Rattle.teb_rules.specs.Setup.{Store, profile}
use Rattle.teb_rules.specs.Accepted.{IsSound}
use Rattle.teb_rules.specs.Steps.{cursor, least_step}
use Rattle.teb_rules.specs.Versions.{read}
use Rattle.teb_rules.specs.declared.Broken.{Broken}
use Rattle.teb_rules.specs.declared.Broken.TheVariants.{Late as WasLate, First as WasFirst, Pivot as IsPivot}
use Rattle.teb_rules.specs.declared.Stop.{Stop}
use Rattle.teb_rules.specs.declared.Stop.TheVariants.{Go as Free, Wait as Waits, Break as Breaks}
use Rattle.teb_rules.specs.Verdicts.{cause_at}
use Rattle.teb_rules.specs.Stops.{access_stop, begin_stop, commit_stop, prepare_stop, scan_stop}
use Rattle.teb_rules.specs.Cascade.{abort, txn}
use Rattle.teb_rules.specs.Answer.{Answered, added, answer, answer_new, answer_of, answer_to, begin_or_wait, broken_off}
use Rattle.teb_rules.specs.Answer.{cells_from, fits, is_scan, or_refused, or_stop, put_value, read_all, refuse, scan_values}
use Rattle.teb_rules.specs.Run.{history_after}
use Rattle.std.proofs.Common.{unwrap_or}
use Rattle.teb_rules.specs.laws.Laws.{reached}
use Rattle.teb_rules.proofs.lemmas.laws.Answers.{Good}
use Rattle.teb_rules.proofs.lemmas.laws.Reachable.{answer_good, empty_good, untold_gone}
use Rattle.teb_rules.proofs.lemmas.laws.Holding.{held_holds, holds_cases}
use Rattle.teb_rules.proofs.lemmas.laws.Sound.{tree_facts}
use Rattle.teb_rules.proofs.lemmas.laws.Waits.{node}
use Rattle.std.proofs.lemmas.Bool.{both_ways}
use Rattle.std.proofs.Common.{inl, inr}

-- an event that neither begins nor aborts a transaction
abbrev pub is_plain : Event → Bool
is_plain (Began t s k i) = false
is_plain (Gone t c) = false
is_plain _ = true

-- Q is kept by each event that an answer adds: a plain one, a Began that does not wait, and an abort with its cascade
pub record Keeps (X : Store) (Q : List Event → Type 0) : Type 0 where
  pub plain : (e : Event) (P : List Event) → is_plain e ≡ true → Q P → Q (e ∷ P)
  pub begins : (s : Session) (k : Spot) (P : List Event) → ((u n : ℕ) → begin_stop X.setup P k ≡ Waits (txn u) (node n) → ⊥) → Q P → Q (Began (txn (suc (begun_count P))) s k.kind k.instance ∷ P)
  pub aborts : (H : List Event) (t : ℕ) (c : Cause) → Good X.setup H → unfinished H t ≡ true → is_after (Some c) ≡ false → Q H → Q (abort H t c)

pub cause_not_after : (n : Node) (b : Broken) → is_after (Some (cause_at n b)) ≡ false
cause_not_after n (WasLate u x) = refl
cause_not_after n (WasFirst u x) = refl
cause_not_after n (IsPivot a b c d) = refl

-- a transaction that is held and not aborted is unfinished
pub held_runs : (H : List Event) (s t : ℕ) → held H s ≡ Some t → aborted H t ≡ false → unfinished H t ≡ true
held_runs H s t h a = elim (holds_cases H s t (held_holds H s t h)) [ inl u ↦ u | inr u ↦ absurd (both_ways _ a (untold_gone H t u)) ]

module _ (X : Store) (Q : List Event → Type 0) (k : Keeps X Q) where
  cond_keeps : (b : Bool) (x y : Answered) → Q x.1 → Q y.1 → Q (cond b x y).1
  cond_keeps true x y f g = f
  cond_keeps false x y f g = g

  reads_keep : (t : ℕ) (xs : List Cell) (H : List Event) → Q H → Q (read_all X H t xs).1
  unfolding read_all
  reads_keep t [] H q = q
  reads_keep t (x ∷ xs) H q = let r = read X.setup X.rows H t x in reads_keep t xs (Got (txn t) x (txn r.0) r.1 ∷ H) (k.plain (Got (txn t) x (txn r.0) r.1) H refl q)

  module _ (H : List Event) (g : Good X.setup H) (q : Q H) where
    or_stop_keeps : (t : ℕ) (s : Stop) (granted : Answered) → unfinished H t ≡ true → Q granted.1 → Q (or_stop H t s granted).1
    or_stop_keeps t Free granted u f = f
    or_stop_keeps t (Waits v n) granted u f = cond_keeps (ltb t v.0) (broken_off H t (Newer n v)) (Again v n, H) (k.aborts H t (Newer n v) g u refl q) q
    or_stop_keeps t (Breaks n b) granted u f = k.aborts H t (cause_at n b) g u (cause_not_after n b) q

    refused_keeps : (t : ℕ) (x : Cell) (granted : Answered) → Q granted.1 → Q (or_refused X H t x granted).1
    refused_keeps t x granted f =
        let inner = cond (is_none (least_step (profile X.setup (kind_of H t)) (cursor X.setup H t) x.table.0)) (refuse H NotInProfile) granted in
        cond_keeps (not (ltb x.table.0 X.tables)) (refuse H UnknownTable) (cond (prepared H t) (refuse H IsPrepared) inner) q
        (cond_keeps (prepared H t) (refuse H IsPrepared) inner q
        (cond_keeps (is_none (least_step (profile X.setup (kind_of H t)) (cursor X.setup H t) x.table.0)) (refuse H NotInProfile) granted q f))

    put_keeps : (t : ℕ) (x : Cell) (v : Option ℤ) → unfinished H t ≡ true → Q (put_value X.setup H t x v).1
    put_keeps t x v u = or_stop_keeps t (access_stop X.setup H t x true) _ u (k.plain (Put (txn t) x v) H refl q)

    added_keeps : (t : ℕ) (x : Cell) (v : ℤ) (o : Option ℤ) → unfinished H t ≡ true → Q (added X.setup H t x v o).1
    added_keeps t x v None u = q
    added_keeps t x v (Some b) u = cond_keeps (fits (b +ℤ v)) (put_value X.setup H t x (Some (b +ℤ v))) (refuse H Overflow) (put_keeps t x (Some (b +ℤ v)) u) q

    of_keeps : (t : ℕ) (r : Request) → unfinished H t ≡ true → Q (answer_of X H t r).1
    unfolding answer_of read
    of_keeps t (Begin s) u = q
    of_keeps t (Read x) u = refused_keeps t x _ (or_stop_keeps t (access_stop X.setup H t x false) _ u (k.plain (Got (txn t) x _ _) H refl q))
    of_keeps t (Write x v) u = refused_keeps t x _ (put_keeps t x (Some v) u)
    of_keeps t (Add x v) u = refused_keeps t x _ (added_keeps t x v _ u)
    of_keeps t (Delete x) u = refused_keeps t x _ (put_keeps t x None u)
    of_keeps t (Scan x n) u = refused_keeps t x _
        (cond_keeps (is_scan x n) (scan_values X H t x n) (refuse H Range) (or_stop_keeps t (scan_stop X.setup H t (cells_from x n)) _ u (reads_keep t (cells_from x n) H q)) q)
    of_keeps t Prepare u = cond_keeps (prepared H t) (refuse H IsPrepared) (or_stop H t (prepare_stop X.setup H t) (Prepared, Ready (txn t) ∷ H)) q
        (or_stop_keeps t (prepare_stop X.setup H t) _ u (k.plain (Ready (txn t)) H refl q))
    of_keeps t Commit u = or_stop_keeps t (commit_stop X.setup H t) _ u (k.plain (Done (txn t)) H refl q)
    of_keeps t Abort u = k.aborts H t Asked g u refl q
    of_keeps t End u = k.aborts H t Ended g u refl q

    begin_keeps : (s : Session) (j : Spot) (o : Stop) → begin_stop X.setup H j ≡ o → Q (begin_or_wait H s j o).1
    begin_keeps s j (Waits u n) e = q
    begin_keeps s j Free e = k.begins s j H (λ u n w. absurd (let z : Free ≡ Waits (txn u) (node n) = cc in cc)) q
    begin_keeps s j (Breaks m b) e = k.begins s j H (λ u n w. absurd (let z : Breaks m b ≡ Waits (txn u) (node n) = cc in cc)) q

    new_keeps : (s : Session) (r : Request) → Q (answer_new X.setup H s r).1
    unfolding answer_new
    new_keeps s (Begin j) =
        let inner = begin_or_wait H s j (begin_stop X.setup H j) in
        cond_keeps (not (ltb j.kind.0 X.setup.types)) (refuse H UnknownType) (cond (leb MOST_TXNS (begun_count H)) (refuse H Full) inner) q
        (cond_keeps (leb MOST_TXNS (begun_count H)) (refuse H Full) inner q (begin_keeps s j (begin_stop X.setup H j) refl))
    new_keeps s (Read x) = q
    new_keeps s (Write x v) = q
    new_keeps s (Add x v) = q
    new_keeps s (Delete x) = q
    new_keeps s (Scan x n) = q
    new_keeps s Prepare = q
    new_keeps s Commit = q
    new_keeps s Abort = q
    new_keeps s End = q

    to_keeps : (s : Session) (r : Request) (o : Option ℕ) → held H s.0 ≡ o → Q (answer_to X H s r o).1
    to_keeps s r None e = new_keeps s r
    to_keeps s r (Some t) e = go (aborted H t) refl
      where
        go : (b : Bool) → aborted H t ≡ b → Q (cond b (Aborted (unwrap_or (cause_of H t) Asked), Told (txn t) ∷ H) (answer_of X H t r)).1
        go true f = k.plain (Told (txn t)) H refl q
        go false f = of_keeps t r (held_runs H s.0 t e f)

    pub answer_keeps : (s : Session) (r : Request) → Q (answer X H s r).1
    unfolding answer
    answer_keeps s r = cond_keeps (leb 1 s.0 && leb s.0 SESSIONS) (answer_to X H s r (held H s.0)) (refuse H BadSession) (to_keeps s r (held H s.0) refl) q

  run_from : IsSound X.setup → (asked : List (Session × Request)) (H : List Event) → Good X.setup H → Q H → Q (history_after X H asked)
  unfolding history_after
  run_from s [] H g q = q
  run_from s (r ∷ rest) H g q = run_from s rest (answer X H r.0 r.1).1 (answer_good X (tree_facts X.setup s) s.profiles H r.0 r.1 g) (answer_keeps H g q r.0 r.1)

  pub run_keeps : IsSound X.setup → Q [] → (asked : List (Session × Request)) → Q (reached X asked)
  run_keeps s q asked = run_from s asked [] (empty_good X.setup) q
