-- Only a scan is answered with a scan's values.
use Rattle.std.proofs.Common.{◌≡◌, ℕ, Bool, true, false, cond, ◌&&◌, leb, not, ltb, List, ◌∷◌, Option, Some, None, is_none, ℤ, subst}
use Rattle.std.specs.Prelude.{◌+ℤ◌}
use Rattle.teb_rules.specs.declared.names.TheConstants.{MOST_TXNS, SESSIONS}
use Rattle.teb_rules.specs.declared.names.Cell.{Cell}
use Rattle.teb_rules.specs.declared.names.Reply.{Reply}
use Rattle.teb_rules.specs.declared.names.Reply.TheVariants.{Refused}
use Rattle.teb_rules.specs.declared.names.Reply.TheVariants as reply
use Rattle.teb_rules.specs.declared.names.Refusal.{Refusal}
use Rattle.teb_rules.specs.declared.names.Refusal.TheVariants.{BadSession, InTxn, UnknownType, Full, NoTxn, UnknownTable, Prepared, NotInProfile, Overflow}
use Rattle.teb_rules.specs.declared.names.Request.{Request}
use Rattle.teb_rules.specs.declared.names.Request.TheVariants.{Begin, Read, Write, Add, Delete, Scan, Commit, Abort, End}
use Rattle.teb_rules.specs.declared.names.Request.TheVariants as request
use Rattle.teb_rules.specs.declared.names.Session.{Session}
use Rattle.teb_rules.specs.declared.names.Spot.{Spot}
use Rattle.teb_rules.specs.declared.history.Event.{Event}
use Rattle.teb_rules.specs.declared.history.Event.TheVariants.{Ready, Done}
use Rattle.teb_rules.specs.Cascade.{txn}
use Rattle.teb_rules.specs.Versions.{read}
use Rattle.teb_rules.specs.history.Phases.{begun_count, held, aborted, prepared, kind_of}
use Rattle.teb_rules.specs.history.Accesses.{last_put, last_got}
use Rattle.teb_rules.specs.Setup.{Setup, Store, profile}
use Rattle.teb_rules.specs.Steps.{least_step, cursor}
use Rattle.teb_rules.specs.Stops.{access_stop, prepare_stop, commit_stop, begin_stop}
use Rattle.teb_rules.specs.declared.Stop.{Stop}
use Rattle.teb_rules.specs.declared.Stop.TheVariants.{Go, Wait, Break}
use Rattle.teb_rules.specs.Answer.{Answered, refuse, or_stop, or_refused, got_value, put_value, added, add_base, fits, answer, answer_new, answer_of, answer_to, begin_or_wait}
use Rattle.short_reply.specs.ShortReplies.{HasValues, IsNoScan}

-- the reply has no scan values
pub record IsPlain (a : Answered) : Type 0 where
  pub none : HasValues a.0 → ⊥

plain : (r : Reply) (H : List Event) → (HasValues r → ⊥) → IsPlain (r, H)
plain r H none = record { none = none }

refuses : (H : List Event) (why : Refusal) → IsPlain (refuse H why)
refuses H why = plain (Refused why) H (λ v. v)

-- a choice between two plain answers is plain
either : (b : Bool) (a d : Answered) → IsPlain a → IsPlain d → IsPlain (cond b a d)
either true a d p q = p
either false a d p q = q

stopped_plain : (H : List Event) (t : ℕ) (s : Stop) (granted : Answered) → IsPlain granted → IsPlain (or_stop H t s granted)
stopped_plain H t Go granted p = p
stopped_plain H t (Wait u n) granted p = either (ltb t u.0) _ _ (plain _ _ (λ v. v)) (plain _ _ (λ v. v))
stopped_plain H t (Break n b) granted p = plain _ _ (λ v. v)

refused_plain : (X : Store) (H : List Event) (t : ℕ) (x : Cell) (granted : Answered) → IsPlain granted → IsPlain (or_refused X H t x granted)
refused_plain X H t x granted p =
    either (not (ltb x.table.0 X.tables)) _ _ (refuses H UnknownTable)
    (either (prepared H t) _ _ (refuses H Prepared)
    (either (is_none (least_step (profile X.setup (kind_of H t)) (cursor X.setup H t) x.table.0)) _ _ (refuses H NotInProfile) p))

put_plain : (S : Setup) (H : List Event) (t : ℕ) (x : Cell) (v : Option ℤ) → IsPlain (put_value S H t x v)
put_plain S H t x v = stopped_plain H t (access_stop S H t x true) _ (plain _ _ (λ v. v))

added_plain : (S : Setup) (H : List Event) (t : ℕ) (x : Cell) (v : ℤ) (b : Option ℤ) → IsPlain (added S H t x v b)
added_plain S H t x v None = plain _ _ (λ v. v)
added_plain S H t x v (Some b) = either (fits (b +ℤ v)) _ _ (put_plain S H t x (Some (b +ℤ v))) (refuses H Overflow)

waited_plain : (H : List Event) (s : Session) (k : Spot) (w : Stop) → IsPlain (begin_or_wait H s k w)
waited_plain H s k (Wait u n) = plain _ _ (λ v. v)
waited_plain H s k Go = plain _ _ (λ v. v)
waited_plain H s k (Break n b) = plain _ _ (λ v. v)

new_plain : (S : Setup) (H : List Event) (s : Session) (r : Request) → IsPlain (answer_new S H s r)
unfolding answer_new
new_plain S H s (Begin k) =
    either (not (ltb k.kind.0 S.types)) _ _ (refuses H UnknownType)
    (either (leb MOST_TXNS (begun_count H)) _ _ (refuses H Full) (waited_plain H s k (begin_stop S H k)))
new_plain S H s (Read x) = refuses H NoTxn
new_plain S H s (Write x w) = refuses H NoTxn
new_plain S H s (Add x w) = refuses H NoTxn
new_plain S H s (Delete x) = refuses H NoTxn
new_plain S H s (Scan x n) = refuses H NoTxn
new_plain S H s request.Prepare = refuses H NoTxn
new_plain S H s Commit = refuses H NoTxn
new_plain S H s Abort = refuses H NoTxn
new_plain S H s End = refuses H NoTxn

of_plain : (X : Store) (H : List Event) (t : ℕ) (r : Request) → IsNoScan r → IsPlain (answer_of X H t r)
unfolding answer_of
of_plain X H t (Begin k) h = refuses H InTxn
of_plain X H t (Read x) h = refused_plain X H t x _ (stopped_plain H t (access_stop X.setup H t x false) (got_value H t x (read X.setup X.rows H t x)) (plain _ _ (λ v. v)))
of_plain X H t (Write x w) h = refused_plain X H t x _ (put_plain X.setup H t x _)
of_plain X H t (Add x w) h = refused_plain X H t x _ (added_plain X.setup H t x w (add_base (last_put H t x) (last_got H t x)))
of_plain X H t (Delete x) h = refused_plain X H t x _ (put_plain X.setup H t x None)
of_plain X H t (Scan x n) h = absurd h
of_plain X H t request.Prepare h = either (prepared H t) _ _ (refuses H Prepared) (stopped_plain H t (prepare_stop X.setup H t) (reply.Prepared, Ready (txn t) ∷ H) (plain _ _ (λ v. v)))
of_plain X H t Commit h = stopped_plain H t (commit_stop X.setup H t) (reply.Committed, Done (txn t) ∷ H) (plain _ _ (λ v. v))
of_plain X H t Abort h = plain _ _ (λ v. v)
of_plain X H t End h = plain _ _ (λ v. v)

to_plain : (X : Store) (H : List Event) (s : Session) (r : Request) (o : Option ℕ) → IsNoScan r → IsPlain (answer_to X H s r o)
to_plain X H s r None h = new_plain X.setup H s r
to_plain X H s r (Some t) h = either (aborted H t) _ _ (plain _ _ (λ v. v)) (of_plain X H t r h)

-- the answer to a request other than a scan is plain
plain_answer : (X : Store) (H : List Event) (s : Session) (r : Request) → IsNoScan r → IsPlain (answer X H s r)
unfolding answer
plain_answer X H s r h = either (leb 1 s.0 && leb s.0 SESSIONS) _ _ (to_plain X H s r (held H s.0) h) (refuses H BadSession)

-- a request other than a scan is not answered with scan values
pub no_scan : (X : Store) (H : List Event) (s : Session) (r : Request) (a : Answered) → IsNoScan r → HasValues a.0 → a ≡ answer X H s r → ⊥
no_scan X H s r a h v e = (plain_answer X H s r h).none (subst (λ (b : Answered). HasValues b.0) e v)
