-- How the answer rule treats a refusal, a stop and a grant.
use Rattle.std.proofs.Common.{◌≡◌, ◌&&◌, ℕ, suc, ◌<◌, ◌≤◌, true, false, cond, ltb, leb, List, ◌∷◌, Option, Some, None, refl, sym, ◌∙◌, ap, subst}
use Rattle.teb_rules.specs.declared.names.TheConstants.{MOST_TXNS, SESSIONS}
use Rattle.teb_rules.specs.declared.names.Cell.{Cell}
use Rattle.std.proofs.lemmas.Bool.{le-leb, lt-leb}
use Rattle.teb_rules.specs.declared.names.Node.{Node}
use Rattle.teb_rules.specs.declared.names.Txn.{Txn}
use Rattle.teb_rules.specs.declared.names.Session.{Session}
use Rattle.teb_rules.specs.declared.names.Spot.{Spot}
use Rattle.teb_rules.specs.declared.names.Refusal.{Refusal}
use Rattle.teb_rules.specs.declared.names.Refusal.TheVariants.{UnknownType, Full, NoTxn, Range, BadSession}
use Rattle.teb_rules.specs.declared.names.Request.{Request}
use Rattle.teb_rules.specs.declared.names.Request.TheVariants.{Begin}
use Rattle.teb_rules.specs.declared.names.Reply.TheVariants.{Again, Begun}
use Rattle.teb_rules.specs.declared.history.Event.TheVariants.{Began}
use Rattle.teb_rules.specs.history.Phases.{begun_count, held, aborted}
use Rattle.teb_rules.specs.history.Written.{held_txn, txn_of}
use Rattle.teb_rules.specs.Cascade.{txn}
use Rattle.teb_rules.specs.Setup.{Setup}
use Rattle.teb_rules.specs.Stops.{begin_stop}
use Rattle.teb_rules.specs.declared.history.Event.{Event}
use Rattle.teb_rules.specs.Setup.{Store}
use Rattle.teb_rules.specs.declared.Stop.{Stop}
use Rattle.teb_rules.specs.declared.Stop.TheVariants as stop
use Rattle.teb_rules.specs.Answer.{Answered, or_stop, or_refused, refuse, is_scan, answer, answer_to, answer_of, answer_new, begin_or_wait}
use Rattle.engine_core.specs.declared.engine_view.EngineView.{EngineView}
use Rattle.engine_core.specs.Views.{store_in, events_in}
use Rattle.engine_core.specs.declared.decision.Decision.{Decision}
use Rattle.engine_core.specs.declared.decision.Decision.TheVariants.{Answer}
use Rattle.short_reply.specs.declared.ShortReply.TheVariants as short
use Rattle.engine_core.specs.Decisions.{carried, told, IsRefusal, IsStopped}

-- a request of t that is stopped, and one that is not stopped
pub stops : (X : Store) (H : List Event) (t : ℕ) (s r : Stop) (d : Decision) (granted : Answered) → s ≡ r → IsStopped X H t s d → carried X H d ≡ or_stop H t r granted
stops X H t s r d granted e k = k.0 granted ∙ ap (λ (z : Stop). or_stop H t z granted) e

pub goes : (X : Store) (H : List Event) (t : ℕ) (s r : Stop) (granted : Answered) → s ≡ r → s ≡ stop.Go → granted ≡ or_stop H t r granted
goes X H t s r granted e q = ap (λ (z : Stop). or_stop H t z granted) (sym q ∙ e)

-- an access that is refused, and one that is not refused
pub is_refused : (X : Store) (H : List Event) (t : ℕ) (x : Cell) (o : Option Refusal) (why : Refusal) (d : Decision) (granted : Answered) → IsRefusal X H t x o → o ≡ Some why
    → d ≡ Answer (short.Refused why) → carried X H d ≡ or_refused X H t x granted
is_refused X H t x o why d granted k q e = let f = subst (IsRefusal X H t x) q k in ap (carried X H) e ∙ sym (f granted)

pub is_not_refused : (X : Store) (H : List Event) (t : ℕ) (x : Cell) (o : Option Refusal) (granted : Answered) → IsRefusal X H t x o → o ≡ None → or_refused X H t x granted ≡ granted
is_not_refused X H t x o granted k q = let f = subst (IsRefusal X H t x) q k in f granted

-- the answers to a session that holds no transaction
pub begins_unknown : (S : Setup) (H : List Event) (s : Session) (k : Spot) → ltb k.kind.0 S.types ≡ false → answer_new S H s (Begin k) ≡ refuse H UnknownType
unfolding answer_new
begins_unknown S H s k e = rw e refl

pub begins_full : (S : Setup) (H : List Event) (s : Session) (k : Spot) → ltb k.kind.0 S.types ≡ true → MOST_TXNS ≤ begun_count H → answer_new S H s (Begin k) ≡ refuse H Full
unfolding answer_new
begins_full S H s k e f = rw (e, le-leb MOST_TXNS (begun_count H) f) refl

pub begins_late : (S : Setup) (H : List Event) (s : Session) (k : Spot) (u : Txn) (n : Node) → ltb k.kind.0 S.types ≡ true → begun_count H < MOST_TXNS → stop.Wait u n ≡ begin_stop S H k
    → answer_new S H s (Begin k) ≡ (Again u n, H)
unfolding answer_new
begins_late S H s k u n e f w = rw (e, lt-leb MOST_TXNS (begun_count H) f, ← w) refl

pub begins : (S : Setup) (H : List Event) (s : Session) (k : Spot) (t : Txn) → ltb k.kind.0 S.types ≡ true → begun_count H < MOST_TXNS → ((u : Txn) (n : Node) → begin_stop S H k ≡ stop.Wait u n → ⊥)
    → t.0 ≡ suc (begun_count H) →
    answer_new S H s (Begin k) ≡ (Begun t, Began t s k.kind k.instance ∷ H)
unfolding answer_new
begins S H s k t e f w q = rw (e, lt-leb MOST_TXNS (begun_count H) f) (go (begin_stop S H k) w ∙ ap (λ (n : ℕ). (Begun (txn n), Began (txn n) s k.kind k.instance ∷ H)) (sym q))
  where
    go : (o : Stop) → ((u : Txn) (n : Node) → o ≡ stop.Wait u n → ⊥) → begin_or_wait H s k o ≡ (Begun (txn (suc (begun_count H))), Began (txn (suc (begun_count H))) s k.kind k.instance ∷ H)
    go stop.Go w = refl
    go (stop.Wait u n) w = absurd (w u n refl)
    go (stop.Break n b) w = refl

pub holds_nothing : (S : Setup) (H : List Event) (s : Session) (r : Request) → ((k : Spot) → r ≡ Begin k → ⊥) → answer_new S H s r ≡ refuse H NoTxn
unfolding answer_new
holds_nothing S H s (Begin k) f = absurd (f k refl)
holds_nothing S H s _ f = refl

-- a scan whose range of cells is invalid, and one whose range is valid
pub out_of_range : (H : List Event) (x : Cell) (n : ℕ) (granted : Answered) → is_scan x n ≡ false → cond (is_scan x n) granted (refuse H Range) ≡ refuse H Range
out_of_range H x n granted e = rw e refl

pub in_range : (H : List Event) (x : Cell) (n : ℕ) (granted : Answered) → is_scan x n ≡ true → cond (is_scan x n) granted (refuse H Range) ≡ granted
in_range H x n granted e = rw e refl

-- the answer depends on what the session holds
pub bad_session : (X : Store) (H : List Event) (s : Session) (r : Request) → (leb 1 s.0 && leb s.0 SESSIONS) ≡ false → answer X H s r ≡ refuse H BadSession
unfolding answer
bad_session X H s r b = rw b refl

good_session : (X : Store) (H : List Event) (s : Session) (r : Request) → (leb 1 s.0 && leb s.0 SESSIONS) ≡ true → answer X H s r ≡ answer_to X H s r (held H s.0)
unfolding answer
good_session X H s r b = rw b refl

nobody_held : (H : List Event) (s : Session) → held_txn H s ≡ None → held H s.0 ≡ None
nobody_held H s e = go (held H s.0) e
  where
    go : (o : Option ℕ) → txn_of o ≡ None → o ≡ None
    go None e = refl
    go (Some t) e = absurd (cc)

somebody_held : (H : List Event) (s : Session) (t : Txn) → held_txn H s ≡ Some t → held H s.0 ≡ Some t.0
somebody_held H s t e = go (held H s.0) e
  where
    go : (o : Option ℕ) → txn_of o ≡ Some t → o ≡ Some t.0
    go None e = absurd (cc)
    go (Some u) e = let q : record { 0 = u } ≡ t = cc in ap (λ (v : Txn). Some v.0) q

pub nothing_held : (X : Store) (H : List Event) (s : Session) (r : Request) → (leb 1 s.0 && leb s.0 SESSIONS) ≡ true → held_txn H s ≡ None → answer X H s r ≡ answer_new X.setup H s r
nothing_held X H s r b e = good_session X H s r b ∙ ap (answer_to X H s r) (nobody_held H s e)

pub aborted_held : (X : Store) (H : List Event) (s : Session) (r : Request) (t : Txn) → (leb 1 s.0 && leb s.0 SESSIONS) ≡ true → held_txn H s ≡ Some t → aborted H t.0 ≡ true
    → answer X H s r ≡ told H t.0
aborted_held X H s r t b e a = good_session X H s r b ∙ ap (answer_to X H s r) (somebody_held H s t e) ∙ rw a refl

pub running_held : (X : Store) (H : List Event) (s : Session) (r : Request) (t : Txn) → (leb 1 s.0 && leb s.0 SESSIONS) ≡ true → held_txn H s ≡ Some t → aborted H t.0 ≡ false
    → answer X H s r ≡ answer_of X H t.0 r
running_held X H s r t b e a = good_session X H s r b ∙ ap (answer_to X H s r) (somebody_held H s t e) ∙ rw a refl

-- the answer to a session depends only on the view of the engine and on the transaction
pub asked_of : {C : Type 0} {g : _} (p q : EngineView C g) (t u : Txn) (d : Decision) (r : Request) → p ≡ q → t ≡ u → carried (store_in p) (events_in p) d ≡ answer_of (store_in p) (events_in p) t.0 r
    → carried (store_in q) (events_in q) d ≡ answer_of (store_in q) (events_in q) u.0 r
asked_of {C} {g} p q t u d r e k h =
    subst (λ (w : EngineView C g). carried (store_in w) (events_in w) d ≡ answer_of (store_in w) (events_in w) u.0 r) e
    (subst (λ (v : Txn). carried (store_in p) (events_in p) d ≡ answer_of (store_in p) (events_in p) v.0 r) k h)
