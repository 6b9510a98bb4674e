-- The transaction that a request would commit, and what holds after it commits.
use Rattle.std.proofs.Common.{◌≡◌, ◌<◌, ◌≤◌, ◌+◌, ◌*◌, ℕ, Bool, true, false, cond, List, [], ◌∷◌, ◌++◌, length, Option, Some}
use Rattle.std.proofs.Common.{None, refl, sym, ap, subst, ◌∙◌, arith, inl, inr, length-append, Result, Ok, Err, ℤ, take}
use Rattle.std.proofs.lemmas.Bool.{cases_lt}
use Rattle.teb_rules.specs.declared.names.Txn.{Txn}
use Rattle.teb_rules.specs.declared.names.Session.{Session}
use Rattle.teb_rules.specs.declared.names.Request.{Request}
use Rattle.teb_rules.specs.declared.names.Request.TheVariants.{Begin, Read, Write, Add, Delete, Scan, Prepare, Commit, Abort, End}
use Rattle.teb_rules.specs.declared.history.Event.{Event}
use Rattle.teb_rules.specs.declared.history.Event.TheVariants.{Done}
use Rattle.teb_rules.specs.history.Phases.{held, unfinished}
use Rattle.teb_rules.specs.history.Written.{txn_of}
use Rattle.teb_rules.specs.Setup.{Store}
use Rattle.teb_rules.specs.Cascade.{txn}
use Rattle.record_journal.specs.declared.journal.Journal.{Journal}
use Rattle.crash_disk.specs.Calls.{Tally, IsUpTo}
use Rattle.record_journal.specs.Format.{Record, body, records}
use Rattle.crash_disk.specs.Sizes.{default_capacity}
use Rattle.record_journal.specs.Journal.{IsBody}
use Rattle.record_journal.specs.Kept.{Keeps}
use Rattle.commit_laws.specs.Commits.{commit_count}
use Rattle.commit_laws.specs.Records.{records_of, record_of, puts_of}
use Rattle.commit_laws.proofs.Prefixes.{length-records}
use Rattle.std.specs.Prelude.{IfOk}
use Rattle.teb_rules.specs.declared.names.Cell.{Cell}
use Rattle.teb_rules.specs.names.Rows.{row_of}
use Rattle.teb_rules.specs.Accepted.{IsSound}
use Rattle.teb_rules.specs.laws.Lawful.{Lawful, ReadsRows}
use Rattle.teb_rules.proofs.lemmas.laws.RowReads.{run_rows}
use Rattle.engine_core.specs.EngineModel.{IsReached}
use Rattle.crash_disk.specs.Sizes.{default_capacity}
use Rattle.record_journal.specs.Journal.{StandsFor, after_records}
use Rattle.commit_laws.specs.Commits.{rows_after}
use Rattle.commit_laws.proofs.Laws.{records_leave_the_rows}
use Rattle.commit_journal.specs.Kept.{committing, if_unfinished, IsFull}
use Rattle.commit_journal.specs.Whole.{KeepsAll, HasFirst}

pub not_commit : (H : List Event) (s : Session) (r : Request) → (r ≡ Commit → ⊥) → committing H s r ≡ None
not_commit H s Commit never = absurd (never refl)
not_commit H s (Begin k) never = refl
not_commit H s (Read x) never = refl
not_commit H s (Write x v) never = refl
not_commit H s (Add x v) never = refl
not_commit H s (Delete x) never = refl
not_commit H s (Scan x n) never = refl
not_commit H s Prepare never = refl
not_commit H s Abort never = refl
not_commit H s End never = refl

pub txn_of_some : (o : Option ℕ) (t : Txn) → Some t ≡ txn_of o → o ≡ Some t.0
txn_of_some None t e = absurd (cc)
txn_of_some (Some n) t e = ap (λ (u : Option Txn). number u) (sym e)
  where
    number : Option Txn → Option ℕ
    number None = None
    number (Some u) = Some u.0

pub committing_some : (H : List Event) (s : Session) (t : Txn) → Some t ≡ txn_of (held H s.0) → unfinished H t.0 ≡ true → Some t ≡ txn_of (committing H s Commit)
committing_some H s t e u = ap txn_of (sym (ap (if_unfinished H) (txn_of_some (held H s.0) t e) ∙ ap (λ (b : Bool). cond b (Some t.0) None) u))

pub committing_none : (H : List Event) (s : Session) (t : Txn) → Some t ≡ txn_of (held H s.0) → unfinished H t.0 ≡ false → None ≡ txn_of (committing H s Commit)
committing_none H s t e u = ap txn_of (sym (ap (if_unfinished H) (txn_of_some (held H s.0) t e) ∙ ap (λ (b : Bool). cond b (Some t.0) None) u))

-- the transaction that would be committed is unfinished
pub committing_unfinished : (H : List Event) (s : Session) (r : Request) (t : ℕ) → committing H s r ≡ Some t → unfinished H t ≡ true
committing_unfinished H s Commit t e = go (held H s.0) e
  where
    go : (o : Option ℕ) → if_unfinished H o ≡ Some t → unfinished H t ≡ true
    go None e = absurd (cc)
    go (Some u) e = pick (unfinished H u) refl e
      where
        pick : (b : Bool) → unfinished H u ≡ b → cond b (Some u) None ≡ Some t → unfinished H t ≡ true
        pick true f e = let q : u ≡ t = cc in subst (λ (z : ℕ). unfinished H z ≡ true) q f
        pick false f e = absurd (cc)
committing_unfinished H s (Begin k) t e = absurd (cc)
committing_unfinished H s (Read x) t e = absurd (cc)
committing_unfinished H s (Write x v) t e = absurd (cc)
committing_unfinished H s (Add x v) t e = absurd (cc)
committing_unfinished H s (Delete x) t e = absurd (cc)
committing_unfinished H s (Scan x n) t e = absurd (cc)
committing_unfinished H s Prepare t e = absurd (cc)
committing_unfinished H s Abort t e = absurd (cc)
committing_unfinished H s End t e = absurd (cc)

pub same_txn : (o : Option ℕ) (t u : ℕ) → o ≡ Some t → o ≡ Some u → t ≡ u
same_txn o t u a b = let q : Some t ≡ Some u = sym a ∙ b in cc

-- a body has at least one byte
pub body_some : (r : Record) (bytes : List ℕ) → IsBody r bytes → 0 < length bytes
body_some r bytes is = omega (arith, ap length is.is, length-append (body r) (0 ∷ []))

pub has_room : (H : List Event) (left : ℕ) (s : Session) (r : Request) (t : ℕ) → committing H s r ≡ Some t → (IsFull H left s r → ⊥) → 6 + 14 * length (puts_of H t) ≤ left
has_room H left s r t e fits = elim (cases_lt left (6 + 14 * length (puts_of H t))) [ inl lt ↦ absurd (fits (record { txn = t; commits = e; full = lt })) | inr le ↦ le ]

-- ---- what the journal of a store keeps after a request

pub records_more : (X Y : Store) (H K : List Event) (t : ℕ) → Y ≡ X → K ≡ Done (txn t) ∷ H → records_of Y.setup K ≡ records_of X.setup H ++ record_of X.setup H t ∷ []
unfolding records_of
records_more X Y H K t is-store is-events = ap (λ (Z : Store). records_of Z.setup K) is-store ∙ ap (records_of X.setup) is-events

module _ {D : Type 0} (seen : D → List ℕ) (may_leave : D → List ℕ → Type 0) where
  -- the history is empty
  pub keeps_none : (X : Store) (H : List Event) (j : Journal D) → H ≡ [] → Keeps seen may_leave [] j → KeepsAll seen may_leave X H j
  unfolding records_of
  keeps_none X H j is d = subst (λ (P : List Event). KeepsAll seen may_leave X P j) (sym is) d

  -- no transaction was committed
  pub keeps_same : (X Y : Store) (H K : List Event) (j : Journal D) → KeepsAll seen may_leave X H j → Y ≡ X → records_of X.setup K ≡ records_of X.setup H → KeepsAll seen may_leave Y K j
  keeps_same X Y H K j d is-store same = subst (λ (Z : Store). KeepsAll seen may_leave Z K j) (sym is-store) (subst (λ (rs : List Record). Keeps seen may_leave rs j) (sym same) d)

  -- all commits are acknowledged if the disk has not failed
  pub all_acknowledged : (X : Store) (H : List Event) (j : Journal D) → KeepsAll seen may_leave X H j → j.stopped ≡ false → j.progress.acknowledged ≡ commit_count H
  all_acknowledged X H j d runs = (d.running runs).all ∙ length-records X.setup H

  -- the journal ends after the records of all commits if the disk has not failed
  pub ends_behind : (X : Store) (H : List Event) (j : Journal D) → KeepsAll seen may_leave X H j → j.stopped ≡ false → j.progress.end ≡ length (records (records_of X.setup H))
  ends_behind X H j d runs = (d.running runs).at_rest.size

-- no call was made
pub no_calls : (k n : ℕ) (a b : Tally) → b ≡ a → IsUpTo k n a b
no_calls k n a b same = subst (IsUpTo k n a) (sym same) (record { made = omega arith; written = omega arith; promise = refl })

pub fewer_bytes : (k m n : ℕ) (a b : Tally) → m ≤ n → IsUpTo k m a b → IsUpTo k n a b
fewer_bytes k m n a b le calls = record { made = calls.made; written = omega (arith, le, calls.written); promise = calls.promise }

pub none_first : (X : Store) (H : List Event) (least : ℕ) (image : List ℕ) → H ≡ [] → StandsFor default_capacity least [] image → HasFirst X H 0 image
unfolding records_of
none_first X H least image is s = subst (λ (P : List Event). HasFirst X P 0 image) (sym is) (record { k = s.k; no_fewer = omega arith; no_more = s.no_more; stands = s.stands })

pub if_ok_map : {T E : Type 0} (r : Result T E) (P Q : T → Type 0) → IfOk r P → ((v : T) → P v → Q v) → IfOk r Q
if_ok_map (Ok v) P Q p f = f v p
if_ok_map (Err e) P Q p f = tt

-- rows that were recovered from an image of the disk are those after the first k commits
pub found_rows : (X : Store) (H : List Event) (k least : ℕ) (rows start : List (Cell × ℤ)) → IsSound X.setup → Lawful X.setup H → X.rows ≡ start
    → (least ≤ k) × (k ≤ length (records_of X.setup H)) × ((x : Cell) → row_of rows x ≡ after_records (take k (records_of X.setup H)) (row_of start) x)
    → (least ≤ k) × (k ≤ commit_count H) × ((x : Cell) → row_of rows x ≡ rows_after X H k x)
found_rows X H k least rows start s l same is =
    let le : k ≤ commit_count H = omega (arith, is.1, length-records X.setup H) in (
      is.0,
      le,
      λ x. is.2 x ∙ sym (ap (λ (R : List (Cell × ℤ)). after_records (take k (records_of X.setup H)) (row_of R) x) same) ∙ records_leave_the_rows X H s l k le x,
    )

-- a history that requests lead to reads the starting rows right
pub reads_reached : (X : Store) (H : List Event) → IsReached X H → ReadsRows X.rows H
unfolding ReadsRows
reads_reached X H r = subst (ReadsRows X.rows) (sym r.1) (run_rows X r.0 [] tt)
