-- The body of the record that a request would commit.
use Rattle.std.proofs.Common.{◌≡◌, ◌+◌, ◌≤◌, ℕ, List, [], ◌∷◌, ◌++◌, length, Option, Some, None, ◌∙◌, ap, refl, arith}
use Rattle.teb_rules.specs.declared.names.Session.{Session}
use Rattle.teb_rules.specs.declared.names.Request.{Request}
use Rattle.teb_rules.specs.declared.names.Reply.{Reply}
use Rattle.teb_rules.specs.declared.names.Reply.TheVariants.{Committed}
use Rattle.teb_rules.specs.declared.history.Event.{Event}
use Rattle.teb_rules.specs.Setup.{Store}
use Rattle.teb_rules.specs.Answer.{answer}
use Rattle.record_journal.specs.Format.{Record}
use Rattle.record_journal.specs.Journal.{IsBody}
use Rattle.commit_laws.specs.Records.{records_of, record_of}
use Rattle.commit_journal.specs.Answered.{IsBodyFor}
use Rattle.commit_journal.specs.Kept.{committing, IsFull}
use Rattle.commit_journal.proofs.Answered.{commits}
use Rattle.commit_journal.proofs.Asked.{has_room, records_more}
use Rattle.commit_journal.proofs.Replies.{outcome, records_same}

-- with the gate byte, it takes no more than the bytes that are left
pub body_fits : (X : Store) (H : List Event) (s : Session) (r : Request) (left : ℕ) (bytes : List ℕ) → 1 ≤ left → IsBodyFor X H s r bytes
    → (committing H s r ≡ None → bytes ≡ []) → (IsFull H left s r → ⊥) → length bytes + 1 ≤ left
body_fits X H s r left bytes some body none fits = go (committing H s r) refl
  where
    go : (o : Option ℕ) → committing H s r ≡ o → length bytes + 1 ≤ left
    go None e = omega (arith, some, ap length (none e))
    go (Some t) e = omega (arith, (body t e).1, has_room H left s r t e fits)

-- an answer that commits adds the record whose body the bytes are
pub record_added : (X Z : Store) (H L : List Event) (s : Session) (r : Request) (reply : Reply) (bytes : List ℕ) → reply ≡ (answer X H s r).0 → L ≡ (answer X H s r).1 → Z ≡ X → reply ≡ Committed
    → IsBodyFor X H s r bytes
    → (c : Record) × IsBody c bytes × (records_of Z.setup L ≡ records_of X.setup H ++ c ∷ [])
record_added X Z H L s r reply bytes replied events store is body =
    let commit = commits X H L s r reply replied events is in
    (record_of X.setup H commit.number, (body commit.number commit.asked).0, records_more X Z H L commit.number store commit.events)

-- any other answer adds none
pub none_added : (X Z : Store) (H L : List Event) (s : Session) (r : Request) (reply : Reply) → reply ≡ (answer X H s r).0 → L ≡ (answer X H s r).1 → Z ≡ X → (reply ≡ Committed → ⊥)
    → records_of Z.setup L ≡ records_of X.setup H
none_added X Z H L s r reply replied events store never =
    ap (λ (Y : Store). records_of Y.setup L) store
    ∙ ap (records_of X.setup) events
    ∙ records_same X.setup H s r (answer X H s r) (outcome X H s r) (λ q. never (replied ∙ q))
