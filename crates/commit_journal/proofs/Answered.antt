-- What a store keeps across an answer of its engine: X and H are the store and history before the call, Z and L those after it.
use Rattle.std.proofs.Common.{◌≡◌, ◌+◌, ◌≤◌, ℕ, List, ◌∷◌, ◌++◌, [], length, Some, ap, sym, subst, ◌∙◌, arith}
use Rattle.teb_rules.specs.declared.names.Session.{Session}
use Rattle.teb_rules.specs.declared.names.Request.{Request}
use Rattle.teb_rules.specs.declared.names.Reply.{Reply}
use Rattle.teb_rules.specs.declared.names.Reply.TheVariants.{Committed}
use Rattle.teb_rules.specs.declared.names.naming.NameBook.{NameBook}
use Rattle.teb_rules.specs.declared.history.Event.{Event}
use Rattle.teb_rules.specs.declared.history.Event.TheVariants.{Done}
use Rattle.teb_rules.specs.Setup.{Store}
use Rattle.teb_rules.specs.Cascade.{txn}
use Rattle.teb_rules.specs.Answer.{answer}
use Rattle.engine_core.specs.EngineModel.{EngineModel}
use Rattle.record_journal.specs.declared.journal.Journal.{Journal}
use Rattle.record_journal.specs.Format.{Record}
use Rattle.record_journal.specs.Journal.{IsBody}
use Rattle.record_journal.specs.Kept.{Keeps}
use Rattle.commit_laws.specs.Records.{records_of, record_of}
use Rattle.commit_journal.specs.Answered.{IsBodyFor}
use Rattle.commit_journal.specs.Kept.{Kept, committing, kept_of, IsFull}
use Rattle.commit_journal.specs.Whole.{KeepsAll}
use Rattle.commit_journal.proofs.Replies.{outcome, committed_now, records_same}
use Rattle.commit_journal.proofs.Asked.{keeps_same, records_more, body_some, has_room}

-- the answer commits the transaction that the session asked to commit
pub record Commits (H L : List Event) (s : Session) (r : Request) : Type 0 where
  pub number : ℕ
  pub asked : committing H s r ≡ Some number
  pub events : L ≡ Done (txn number) ∷ H

pub commits_reply : (X : Store) (H : List Event) (s : Session) (r : Request) (reply : Reply) → reply ≡ (answer X H s r).0 → reply ≡ Committed → (answer X H s r).0 ≡ Committed
commits_reply X H s r reply replied is = sym replied ∙ is

pub commits : (X : Store) (H L : List Event) (s : Session) (r : Request) (reply : Reply) → reply ≡ (answer X H s r).0 → L ≡ (answer X H s r).1 → reply ≡ Committed → Commits H L s r
commits X H L s r reply replied events is = of_now (committed_now X.setup H s r (answer X H s r) (outcome X H s r) (commits_reply X H s r reply replied is))
  where
    of_now : (t : ℕ) × (committing H s r ≡ Some t) × ((answer X H s r).1 ≡ Done (txn t) ∷ H) → Commits H L s r
    of_now now = record { number = now.0; asked = now.1; events = events ∙ now.2 }

module _ (X : Store) (H L : List Event) (s : Session) (r : Request) (bytes : List ℕ) (commit : Commits H L s r) (body : IsBodyFor X H s r bytes) where
  pub is_some : 1 ≤ length bytes
  is_some = omega (arith, body_some _ _ (body commit.number commit.asked).0)

  pub fits_in : (left : ℕ) → (IsFull H left s r → ⊥) → length bytes + 1 ≤ left
  fits_in left fits = omega (arith, (body commit.number commit.asked).1, has_room H left s r commit.number commit.asked fits)

  -- a property that holds whenever records are kept holds for the records before the answer
  pub of_before : {D : Type 0} (seen : D → List ℕ) (may_leave : D → List ℕ → Type 0) (j : Journal D) (P : List Record → Type 0)
      → ((asked : List Record) (c : Record) → IsBody c bytes → Keeps seen may_leave asked j → P asked)
      → KeepsAll seen may_leave X H j → P (records_of X.setup H)
  of_before seen may_leave j P holds kept = holds (records_of X.setup H) (record_of X.setup H commit.number) (body commit.number commit.asked).0 kept

  -- a property that holds for the kept records with one more holds for the records after the answer
  pub of_behind : {D : Type 0} (seen : D → List ℕ) (may_leave : D → List ℕ → Type 0) (Z : Store) (j : Journal D) (P : List Record → Type 0)
      → Z ≡ X
      → ((asked : List Record) (c : Record) → IsBody c bytes → Keeps seen may_leave asked j → P (asked ++ c ∷ [])) → KeepsAll seen may_leave X H j → P (records_of Z.setup L)
  of_behind seen may_leave Z j P store holds kept =
      subst P (sym (records_more X Z H L commit.number store commit.events))
      (holds (records_of X.setup H) (record_of X.setup H commit.number) (body commit.number commit.asked).0 kept)

-- the kept state differs only in its events
pub same_but_events : {D : Type 0} (e f : EngineModel) (j : Journal D) → f.store ≡ e.store → f.names ≡ e.names → kept_of f j ≡ record (kept_of e j) { events = f.events }
same_but_events e f j store names = ap (λ (Z : Store). kept_of (record f { store = Z }) j) store ∙ ap (λ (N : NameBook). kept_of (record f { store = e.store; names = N }) j) names

module _ {D : Type 0} (seen : D → List ℕ) (may_leave : D → List ℕ → Type 0) where
  -- making the engine ready keeps what the journal keeps
  pub keeps_alike : (e f : EngineModel) (j : Journal D) → kept_of f j ≡ kept_of e j → KeepsAll seen may_leave e.store e.events j → KeepsAll seen may_leave f.store f.events j
  keeps_alike e f j same kept = subst (λ (o : Kept D). KeepsAll seen may_leave o.store o.events j) (sym same) kept

  -- an answer that commits no transaction keeps what the journal keeps
  pub keeps_quiet : (X Z : Store) (H L : List Event) (j : Journal D) (s : Session) (r : Request) (reply : Reply)
      → KeepsAll seen may_leave X H j → Z ≡ X → reply ≡ (answer X H s r).0
      → L ≡ (answer X H s r).1 → (reply ≡ Committed → ⊥) → KeepsAll seen may_leave Z L j
  keeps_quiet X Z H L j s r reply kept store replied after other =
      keeps_same seen may_leave X Z H L j kept store
      (subst (λ (P : List Event). records_of X.setup P ≡ records_of X.setup H) (sym after) (records_same X.setup H s r (answer X H s r) (outcome X H s r)
      (λ q. other (replied ∙ q))))
