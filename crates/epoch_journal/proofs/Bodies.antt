-- The bytes of records that are added together.
use Rattle.std.proofs.Common.{◌≡◌, ℕ, ◌+◌, ◌-◌, ◌<◌, ◌≤◌, List, [], ◌∷◌, ◌++◌, length, drop, None, refl, sym, ◌∙◌, ap, subst, arith, append_assoc, length-append}
use Rattle.std.specs.List.{AllByRecursion}
use Rattle.std.proofs.lemmas.List.{append-nil, set_at}
use Rattle.record_journal.specs.Format.{Record, RecordFits, body as body_of, records, Whole, reading, record_of}
use Rattle.record_journal.specs.Journal.{IsBody}
use Rattle.record_journal.proofs.Spelled.{push_all, pushed, records-push, reading_records, reading_closed, all_push}
use Rattle.record_journal.proofs.Reading.{damaged}
use Rattle.epoch_journal.specs.Bodies.{AreBodies, opened}
use Rattle.epoch_journal.specs.Group.{records_in, whole_of}

pub records-append : (rs qs : List Record) → records (rs ++ qs) ≡ records rs ++ records qs
records-append [] qs = refl
records-append (r ∷ rs) qs = ap (λ (l : List ℕ). 1 ∷ (body_of r ++ l)) (records-append rs qs) ∙ ap (λ (l : List ℕ). 1 ∷ l) (sym (append_assoc (body_of r) (records rs) (records qs)))

pub all_append : {X : Type 0} (P : X → Type 0) (xs ys : List X) → AllByRecursion P xs → AllByRecursion P ys → AllByRecursion P (xs ++ ys)
all_append P [] ys all others = others
all_append P (x ∷ xs) ys all others = (all.0, all_append P xs ys all.1 others)

-- a record takes at least one byte
pub few_records : (rs : List Record) → length rs ≤ length (records rs)
few_records [] = omega arith
few_records (r ∷ rs) = omega (arith, length-append (body_of r) (records rs), few_records rs)

pub length-bodies : (rs : List Record) (bytes : List ℕ) → AreBodies rs bytes → length bytes ≡ length (records rs)
length-bodies [] bytes are = ap length are.is
length-bodies (r ∷ rs) bytes are = omega (arith, ap length are.is, length-append (body_of r ++ records rs) (0 ∷ []))

-- a commit mark and the bodies are the records and an end mark
pub marked_bodies : (rs : List Record) (bytes : List ℕ) → AreBodies rs bytes → 0 < length bytes → 1 ∷ bytes ≡ records rs ++ 0 ∷ []
marked_bodies [] bytes are some = absurd (omega (arith, ap length are.is))
marked_bodies (r ∷ rs) bytes are some = ap (λ (l : List ℕ). 1 ∷ l) are.is

pub one_body : (r : Record) (bytes : List ℕ) → IsBody r bytes → AreBodies (r ∷ []) bytes
one_body r bytes is_body = record { fit = (is_body.fits, tt); is = is_body.is ∙ ap (λ (l : List ℕ). l ++ 0 ∷ []) (sym (append-nil (body_of r))) }

pub no_bodies : (bytes : List ℕ) → bytes ≡ [] → AreBodies [] bytes
no_bodies bytes is = record { fit = tt; is = is }

no_record : record_of [] ≡ None
unfolding record_of
no_record = refl

-- reading the bytes gives back the records
pub records_told : (rs : List Record) (bytes : List ℕ) → AreBodies rs bytes → records_in bytes ≡ rs
unfolding records_in
records_told [] bytes are = ap (λ (l : List ℕ). whole_of (reading 0 0 (1 ∷ l))) are.is ∙ ap whole_of (damaged [] 0 [] (reading 0 0 (1 ∷ [])) no_record refl)
records_told (r ∷ rs) bytes are =
    let q = r ∷ rs in
    ap (λ (l : List ℕ). whole_of (reading 0 0 (1 ∷ l))) are.is
    ∙ ap whole_of
    (reading_records q 0 (0 ∷ []) are.fit
    ∙ ap (push_all q) (reading_closed (0 + length (records q)) 0 [] (λ is. omega arith))
    ∙ pushed q []
    ∙ ap Whole (append-nil q))

pub told_again : (rs : List Record) (bytes : List ℕ) → AreBodies rs bytes → AreBodies (records_in bytes) bytes
told_again rs bytes are = subst (λ (q : List Record). AreBodies q bytes) (sym (records_told rs bytes are)) are

-- one more record: its body after the others
pub pushed_body : (rs : List Record) (r : Record) (bytes body more : List ℕ) → AreBodies rs bytes → IsBody r body → more ≡ opened bytes ++ body → AreBodies (rs ++ r ∷ []) more
pushed_body rs r bytes body more are is_body is = record { fit = all_push RecordFits rs r are.fit is_body.fits; is = is ∙ spelled rs are }
  where
    spelled : (rs : List Record) → AreBodies rs bytes → opened bytes ++ body ≡ drop 1 (records (rs ++ r ∷ []) ++ 0 ∷ [])
    spelled [] are = ap (λ (l : List ℕ). opened l ++ body) are.is ∙ is_body.is ∙ ap (λ (l : List ℕ). l ++ 0 ∷ []) (sym (append-nil (body_of r)))
    spelled (q ∷ rs) are =
        let front = body_of q ++ records rs in
        ap (λ (l : List ℕ). opened l ++ body) are.is
        ∙ ap (λ (l : List ℕ). l ++ body) (set_at front 0 [] 1 (length (front ++ 0 ∷ []) - 1) (omega (arith, length-append front (0 ∷ []))))
        ∙ append_assoc front (1 ∷ []) body
        ∙ ap (λ (l : List ℕ). front ++ 1 ∷ l) is_body.is
        ∙ ap (drop 1) (sym (records-push (q ∷ rs) r (0 ∷ [])))
