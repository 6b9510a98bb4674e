-- Phases and numbers of transactions, event by event, in a numbered history.
use Rattle.std.proofs.Common.{◌≡◌, ℕ, suc, ◌<◌, ◌≤◌, Bool, true, false, not, ◌&&◌, ◌||◌, eqb, List, [], ◌∷◌, ◌++◌, refl, sym, ◌∙◌, ap, subst, inl, inr, arith, eqb-true, eq-eqb, le_refl}
use Rattle.std.proofs.lemmas.Bool.{cases_order, both_ways, or_cases, or_left, or_right, or_parts, or_from, and_parts, false_from_ne_true, not-true}
use Rattle.teb_rules.specs.declared.names.Txn.{Txn}
use Rattle.teb_rules.specs.declared.names.Spot.{Spot}
use Rattle.teb_rules.specs.declared.names.Session.{Session}
use Rattle.teb_rules.specs.declared.names.Kind.{Kind}
use Rattle.teb_rules.specs.Setup.{Setup}
use Rattle.teb_rules.specs.Tree.{on, side, on_path, side_at}
use Rattle.teb_rules.proofs.lemmas.laws.Serial.{numbers-In}
use Rattle.teb_rules.specs.declared.history.Event.{Event}
use Rattle.teb_rules.specs.declared.history.Event.TheVariants.{Began, Done, Gone}
use Rattle.teb_rules.specs.history.Positions.{first, first_event}
use Rattle.teb_rules.specs.history.Phases.{is_began, is_done, is_gone, began_at, done_at, gone_at, begun, committed, aborted, unfinished, begun_count, numbers, txns, spot_of}
use Rattle.teb_rules.specs.Serializes.{In}
use Rattle.teb_rules.proofs.lemmas.laws.Locks.{In-numbers}
use Rattle.teb_rules.proofs.lemmas.laws.Cascades.{numbers_pos}
use Rattle.batch_book.specs.Histories.{IsNumbered, MayCome}
pub use Rattle.teb_rules.proofs.lemmas.history.Newest.{begun-cons as begun_step, committed-cons as committed_step, aborted-cons as aborted_step, unfinished-cons as unfinished_step}
pub use Rattle.teb_rules.proofs.lemmas.laws.Holding.{unfinished_same as unfinished_kept}

pub unfinished_is : (H : List Event) (u : ℕ) → unfinished H u ≡ (begun H u && not (committed H u) && not (aborted H u))
unfolding unfinished
unfinished_is H u = refl

pub unfinished_parts : (H : List Event) (u : ℕ) → unfinished H u ≡ true → (begun H u ≡ true) × (committed H u ≡ false) × (aborted H u ≡ false)
unfinished_parts H u h =
    let p = and_parts _ _ (sym (unfinished_is H u) ∙ h) in
    let q = and_parts _ _ p.0 in
    (q.0, not-true _ q.1, not-true _ p.1)

pub unfinished_from : (H : List Event) (u : ℕ) → begun H u ≡ true → committed H u ≡ false → aborted H u ≡ false → unfinished H u ≡ true
unfinished_from H u b c a = unfinished_is H u ∙ (λ i. b i && not (c i) && not (a i))

or_none : (b c : Bool) → (b || c) ≡ false → c ≡ false
or_none true c h = absurd (cc)
or_none false c h = h

-- a transaction that is unfinished after an event that does not begin it was unfinished before
pub unfinished_before : (e : Event) (P : List Event) (u : ℕ) → is_began u e ≡ false → unfinished (e ∷ P) u ≡ true → unfinished P u ≡ true
unfinished_before e P u b h =
    let p = unfinished_parts (e ∷ P) u h in
    unfinished_from P u
    ((λ i. sym b i || begun P u) ∙ sym (begun_step e P u) ∙ p.0)
    (or_none _ _ (sym (committed_step e P u) ∙ p.1))
    (or_none _ _ (sym (aborted_step e P u) ∙ p.2))

-- the numbers of the transactions that have begun
count_grows : (e : Event) (P : List Event) → begun_count P ≤ begun_count (e ∷ P)
unfolding begun_count
count_grows (Began t s k inst) P = omega arith
count_grows _ P = le_refl _

counted : (e : Event) (P : List Event) (u : ℕ) → MayCome P e → is_began u e ≡ true → (u ≡ suc (begun_count P)) × (begun_count (e ∷ P) ≡ suc (begun_count P))
unfolding begun_count
counted (Began t s k inst) P u m b = (sym (eqb-true t.0 u b) ∙ m, refl)
counted _ P u m b = absurd (cc)

pub begun_none : (u : ℕ) → begun [] u ≡ false
unfolding begun began_at first_event first
begun_none u = refl

pub begun_bounds : (H : List Event) (u : ℕ) → IsNumbered H → begun H u ≡ true → (0 < u) × (u ≤ begun_count H)
unfolding IsNumbered
begun_bounds [] u l h = absurd (both_ways _ (begun_none u) h)
begun_bounds (e ∷ P) u l h = elim (or_cases (is_began u e) (begun P u) (sym (begun_step e P u) ∙ h)) [
  | inl b ↦ (let r = counted e P u l.0 b in let a = r.0 in let c = r.1 in (omega arith, omega arith))
  | inr b ↦ (let r = begun_bounds P u l.1 b in let a = r.0 in let d = r.1 in let c = count_grows e P in (a, omega arith))
]

-- no transaction begins twice
pub begins_new : (e : Event) (P : List Event) (u : ℕ) → IsNumbered P → MayCome P e → is_began u e ≡ true → begun P u ≡ false
begins_new e P u l m b = false_from_ne_true _ (λ h. let r = begun_bounds P u l h in let a = r.1 in let c = (counted e P u m b).0 in absurd (omega arith))

pub begins_once : (e : Event) (P : List Event) (u : ℕ) → IsNumbered P → MayCome P e → begun P u ≡ true → is_began u e ≡ false
begins_once e P u l m h = false_from_ne_true _ (λ b. both_ways _ (begins_new e P u l m b) h)

same_number : (t u n : ℕ) → t ≡ n → u ≡ n → eqb t u ≡ true
same_number t u n a b = eq-eqb t u (a ∙ sym b)

pub begun_all : (H : List Event) (u : ℕ) → IsNumbered H → 0 < u → u ≤ begun_count H → begun H u ≡ true
unfolding IsNumbered begun_count
begun_all [] u l a h = absurd (omega arith)
begun_all (Began t s k inst ∷ P) u l a h = elim (cases_order u (suc (begun_count P))) [
  | inl q ↦ begun_step _ P u ∙ or_left _ (begun P u) (same_number t.0 u (suc (begun_count P)) l.0 q)
  | inr o ↦ elim o [
    | inl r ↦ begun_step _ P u ∙ or_right (is_began u (Began t s k inst)) _ (begun_all P u l.1 a (omega arith))
    | inr r ↦ absurd (omega arith)
  ]
]
begun_all (e ∷ P) u l a h = begun_step e P u ∙ or_right (is_began u e) _ (begun_all P u l.1 a h)

-- a transaction that has not begun is not finished
pub finish_begun : (H : List Event) (u : ℕ) → IsNumbered H → begun H u ≡ false → (committed H u ≡ false) × (aborted H u ≡ false)
unfolding IsNumbered
finish_begun [] u l h = unfold committed aborted done_at gone_at first_event first in (refl, refl)
finish_begun (e ∷ P) u l h =
    let b = or_parts (is_began u e) (begun P u) (sym (begun_step e P u) ∙ h) in
    let r = finish_begun P u l.1 b.1 in
    let n = no_finish e P u l.0 b.1 in
    (committed_step e P u ∙ or_from _ _ n.0 r.0, aborted_step e P u ∙ or_from _ _ n.1 r.1)
  where
    other : (P : List Event) (t u : ℕ) → unfinished P t ≡ true → begun P u ≡ false → eqb t u ≡ false
    other P t u h b = false_from_ne_true _ (λ q. both_ways _ b (subst (λ (z : ℕ). begun P z ≡ true) (eqb-true t u q) (unfinished_parts P t h).0))

    no_finish : (e : Event) (P : List Event) (u : ℕ) → MayCome P e → begun P u ≡ false → (is_done u e ≡ false) × (is_gone u e ≡ false)
    no_finish (Done t) P u m b = (other P t.0 u m b, refl)
    no_finish (Gone t c) P u m b = (refl, other P t.0 u m b)
    no_finish _ P u m b = (refl, refl)

-- a transaction is in `txns` if and only if it has begun
pub txns-In : (H : List Event) (u : ℕ) → IsNumbered H → begun H u ≡ true → In u (txns H)
unfolding txns
txns-In H u l h = let r = begun_bounds H u l h in In-numbers (begun_count H) u r.0 r.1

pub In-txns_begun : (H : List Event) (u : ℕ) → IsNumbered H → In u (txns H) → begun H u ≡ true
unfolding txns
In-txns_begun H u l i = begun_all H u l (numbers_pos (begun_count H) u i) (numbers-In (begun_count H) u i)

pub txns_began : (t : Txn) (s : Session) (k : Kind) (inst : ℕ) (P : List Event) → t.0 ≡ suc (begun_count P) → txns (Began t s k inst ∷ P) ≡ txns P ++ t.0 ∷ []
unfolding txns begun_count numbers
txns_began t s k inst P e = ap (λ (z : ℕ). numbers (begun_count P) ++ z ∷ []) (sym e)

abbrev pub is_began_event : Event → Bool
is_began_event (Began t s k i) = true
is_began_event _ = false

pub txns_kept : (e : Event) (P : List Event) → is_began_event e ≡ false → txns (e ∷ P) ≡ txns P
unfolding txns begun_count
txns_kept (Began t s k inst) P h = absurd (cc)
txns_kept _ P h = refl

pub spot_kept : (e : Event) (P : List Event) (u : ℕ) → is_began u e ≡ false → spot_of (e ∷ P) u ≡ spot_of P u
unfolding spot_of
spot_kept (Began t s k inst) P u h = rw h refl
spot_kept _ P u h = refl

pub spot_began : (t : Txn) (s : Session) (k : Kind) (inst : ℕ) (P : List Event) → spot_of (Began t s k inst ∷ P) t.0 ≡ record { kind = k; instance = inst }
unfolding spot_of
spot_began t s k inst P = rw (eq-eqb t.0 t.0 refl) refl

pub on_kept : (S : Setup) (e : Event) (P : List Event) (n u : ℕ) → is_began u e ≡ false → on S (e ∷ P) n u ≡ on S P n u
unfolding on
on_kept S e P n u h = ap (on_path S.tree n) (spot_kept e P u h)

pub side_kept : (S : Setup) (e : Event) (P : List Event) (n u : ℕ) → is_began u e ≡ false → side S (e ∷ P) n u ≡ side S P n u
unfolding side
side_kept S e P n u h = ap (λ (z : Spot). side_at S.tree n z u) (spot_kept e P u h)
