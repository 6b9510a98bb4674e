-- Every history that requests lead to is lawful and settled.
use Rattle.std.proofs.Common.{◌≡◌, ◌⊎◌, ℕ, suc, ◌<◌, Bool, true, false, cond, not, ◌&&◌, eqb, ltb, List, [], ◌∷◌, Option, Some, None, refl, subst, inl, inr, arith, length, ltb-true, lt-ltb, find}
use Rattle.std.proofs.lemmas.Bool.{both_ways, and_parts, or_cases, not-false}
use Rattle.teb_rules.specs.declared.history.Event.{Event}
use Rattle.teb_rules.specs.declared.history.Event.TheVariants.{Began, Got, Put, Ready, Done, Gone, Told}
use Rattle.teb_rules.specs.history.Accesses.{read_from}
use Rattle.teb_rules.specs.history.Phases.{txns, gone_at, aborted, unfinished, begun_count, held, untold, is_after, cause_of, is_gone}
use Rattle.teb_rules.specs.history.Positions.{first, newest, first_event}
use Rattle.teb_rules.specs.laws.Lawful.{Lawful}
use Rattle.teb_rules.specs.laws.TreeFacts.{TreeFacts}
use Rattle.teb_rules.specs.Accepted.{HasProfiles}
use Rattle.teb_rules.specs.Answer.{refuse, answer_of, begin_or_wait, answer_new, answer_to, answer}
use Rattle.teb_rules.specs.Cascade.{txn}
use Rattle.teb_rules.specs.Run.{history_after}
use Rattle.teb_rules.specs.Setup.{Store, Setup}
use Rattle.teb_rules.specs.declared.Stop.{Stop}
use Rattle.teb_rules.specs.declared.Stop.TheVariants.{Go as Free, Wait as Waits, Break as Breaks}
use Rattle.std.proofs.Common.{leb, unwrap_or}
use Rattle.teb_rules.specs.declared.names.TheConstants.{MOST_TXNS, SESSIONS}
use Rattle.teb_rules.specs.declared.names.Session.{Session}
use Rattle.teb_rules.specs.declared.names.Cause.{Cause}
use Rattle.teb_rules.specs.declared.names.Cause.TheVariants.{Asked}
use Rattle.teb_rules.specs.declared.names.Request.{Request}
use Rattle.teb_rules.specs.declared.names.Request.TheVariants.{Begin, Read, Write, Add, Delete, Scan, Prepare, Commit, Abort, End}
use Rattle.teb_rules.specs.declared.names.Reply.TheVariants.{Aborted}
use Rattle.teb_rules.specs.declared.names.Refusal.TheVariants.{UnknownType, Full, BadSession}
use Rattle.teb_rules.proofs.lemmas.laws.Positions.{first_cases, before, now, later}
use Rattle.teb_rules.proofs.lemmas.laws.Answers.{Good}
use Rattle.teb_rules.proofs.lemmas.laws.Answers.{cond_good, plain_good, answer_of_good}
use Rattle.teb_rules.proofs.lemmas.laws.Cascades.{abort_good}
use Rattle.teb_rules.specs.declared.names.Spot.{Spot}
use Rattle.teb_rules.specs.Stops.{begin_stop}

gone_more : (e : Event) (P : List Event) (t : ℕ) → (aborted P t ≡ true) ⊎ (is_gone t e ≡ true) → aborted (e ∷ P) t ≡ true
unfolding aborted gone_at first_event
gone_more e P t o = elim (first_cases (newest (is_gone t)) e P) [
  | before a b ↦ lt-ltb _ _ (let z : first (newest (is_gone t)) (e ∷ P) < suc (length P) = omega arith in z)
  | now a b c ↦ lt-ltb _ _ (let z : first (newest (is_gone t)) (e ∷ P) < suc (length P) = omega arith in z)
  | later a b c ↦ absurd (elim o [ inl h ↦ (let z = ltb-true _ _ h in omega arith) | inr h ↦ both_ways _ b h ])
]

is_some_cause : Option Cause → Bool
is_some_cause None = false
is_some_cause (Some c) = true

cause_gone : (H : List Event) (t : ℕ) → is_some_cause (cause_of H t) ≡ true → aborted H t ≡ true
unfolding cause_of is_some_cause
cause_gone [] t h = absurd (cc)
cause_gone (Gone u c ∷ P) t h = go (eqb u.0 t) refl h (cause_gone P t)
  where
    go : (b : Bool) → eqb u.0 t ≡ b → is_some_cause (cond b (Some c) (cause_of P t)) ≡ true → (is_some_cause (cause_of P t) ≡ true → aborted P t ≡ true) → aborted (Gone u c ∷ P) t ≡ true
    go true e k ih = gone_more (Gone u c) P t (inr e)
    go false e k ih = gone_more (Gone u c) P t (inl (ih k))
cause_gone (Began u a k inst ∷ P) t h = gone_more (Began u a k inst) P t (inl (cause_gone P t h))
cause_gone (Got u x w v ∷ P) t h = gone_more (Got u x w v) P t (inl (cause_gone P t h))
cause_gone (Put u x v ∷ P) t h = gone_more (Put u x v) P t (inl (cause_gone P t h))
cause_gone (Ready u ∷ P) t h = gone_more (Ready u) P t (inl (cause_gone P t h))
cause_gone (Done u ∷ P) t h = gone_more (Done u) P t (inl (cause_gone P t h))
cause_gone (Told u ∷ P) t h = gone_more (Told u) P t (inl (cause_gone P t h))

after_some : (o : Option Cause) → is_after o ≡ true → is_some_cause o ≡ true
unfolding is_some_cause
after_some None h = absurd (cc)
after_some (Some c) h = refl

pub untold_gone : (H : List Event) (t : ℕ) → untold H t ≡ true → aborted H t ≡ true
unfolding untold
untold_gone H t h = cause_gone H t (after_some (cause_of H t) (and_parts _ _ h).0)

pub find_is : (p : ℕ → Bool) (us : List ℕ) (u : ℕ) → find p us ≡ Some u → p u ≡ true
find_is p [] u h = absurd (cc)
find_is p (v ∷ vs) u h = go (p v) refl h (find_is p vs u)
  where
    go : (b : Bool) → p v ≡ b → cond b (Some v) (find p vs) ≡ Some u → (find p vs ≡ Some u → p u ≡ true) → p u ≡ true
    go true e k ih = let q : v ≡ u = cc in subst (λ (z : ℕ). p z ≡ true) q e
    go false e k ih = ih k

held_is : (H : List Event) (s t : ℕ) → held H s ≡ Some t → aborted H t ≡ false → unfinished H t ≡ true
unfolding held
held_is H s t h a = elim (or_cases _ _ (and_parts _ _ (find_is _ (txns H) t h)).1) [ inl u ↦ u | inr u ↦ absurd (both_ways _ a (untold_gone H t u)) ]

begin_good : (S : Setup) (H : List Event) (s : Session) (k : Spot) (o : Stop) → Good S H → k.kind.0 < S.types → held H s.0 ≡ None → (leb 1 s.0 && leb s.0 SESSIONS) ≡ true
    → Good S (begin_or_wait H s k o).1
begin_good S H s k (Waits u n) g h e q = g
begin_good S H s k Free g h e q = plain_good S (Began (record { 0 = suc (begun_count H) }) s k.kind k.instance) H g (refl, h, g.settled, e, q) (λ u. refl) (λ t w. refl)
begin_good S H s k (Breaks n b) g h e q = plain_good S (Began (record { 0 = suc (begun_count H) }) s k.kind k.instance) H g (refl, h, g.settled, e, q) (λ u. refl) (λ t w. refl)

new_good : (S : Setup) (H : List Event) (s : Session) (r : Request) → Good S H → held H s.0 ≡ None → (leb 1 s.0 && leb s.0 SESSIONS) ≡ true → Good S (answer_new S H s r).1
unfolding answer_new
new_good S H s (Begin k) g e q =
    let inner = begin_or_wait H s k (begin_stop S H k) in
    cond_good S (not (ltb k.kind.0 S.types)) (refuse H UnknownType) (cond (leb MOST_TXNS (begun_count H)) (refuse H Full) inner) (λ a. g)
    (λ a. cond_good S (leb MOST_TXNS (begun_count H)) (refuse H Full) inner (λ b. g) (λ b. begin_good S H s k _ g (ltb-true _ _ (not-false _ a)) e q))
new_good S H s (Read x) g e q = g
new_good S H s (Write x v) g e q = g
new_good S H s (Add x v) g e q = g
new_good S H s (Delete x) g e q = g
new_good S H s (Scan x n) g e q = g
new_good S H s Prepare g e q = g
new_good S H s Commit g e q = g
new_good S H s Abort g e q = g
new_good S H s End g e q = g

to_good : (X : Store) (a : TreeFacts X.setup) (hp : HasProfiles X.setup) (H : List Event) (s : Session) (r : Request) (o : Option ℕ) → held H s.0 ≡ o → (leb 1 s.0 && leb s.0 SESSIONS) ≡ true
    → Good X.setup H → Good X.setup (answer_to X H s r o).1
to_good X a hp H s r None e q g = new_good X.setup H s r g e q
to_good X a hp H s r (Some t) e q g = cond_good X.setup (aborted H t) (Aborted (unwrap_or (cause_of H t) Asked), Told (txn t) ∷ H) (answer_of X H t r)
    (λ b. plain_good X.setup (Told (txn t)) H g b (λ u. refl) (λ v w. refl))
    (λ b. let u = held_is H s.0 t e b in answer_of_good X a hp H t r g (λ c. abort_good X.setup a H t c g u) u)

-- every answer leaves a lawful and settled history
pub answer_good : (X : Store) (a : TreeFacts X.setup) (hp : HasProfiles X.setup) (H : List Event) (s : Session) (r : Request) → Good X.setup H → Good X.setup (answer X H s r).1
unfolding answer
answer_good X a hp H s r g = cond_good X.setup (leb 1 s.0 && leb s.0 SESSIONS) (answer_to X H s r (held H s.0)) (refuse H BadSession) (λ b. to_good X a hp H s r (held H s.0) refl b g) (λ b. g)

pub run_good : (X : Store) (a : TreeFacts X.setup) (hp : HasProfiles X.setup) (asked : List (Session × Request)) (H : List Event) → Good X.setup H → Good X.setup (history_after X H asked)
unfolding history_after
run_good X a hp [] H g = g
run_good X a hp (r ∷ rest) H g = run_good X a hp rest (answer X H r.0 r.1).1 (answer_good X a hp H r.0 r.1 g)

pub empty_good : (S : Setup) → Good S []
unfolding Lawful read_from
empty_good S = record { legal = tt; settled = λ t w p q. absurd (cc) }
