-- An orderly history stays orderly, event by event.
use Rattle.std.proofs.Common.{◌≡◌, ℕ, suc, ◌<◌, ◌≤◌, Bool, true, false, cond, ◌||◌, eqb, List, [], ◌∷◌, refl, sym, ◌∙◌, ap, subst, arith, inl, inr, IsTrue}
use Rattle.std.proofs.lemmas.Bool.{cases_Bool, or_cases, and_parts, or_right, both_ways, eqb-true}
use Rattle.teb_rules.specs.declared.names.Cell.{Cell}
use Rattle.teb_rules.specs.declared.names.Spot.{Spot}
use Rattle.teb_rules.specs.declared.history.Event.{Event}
use Rattle.teb_rules.specs.declared.history.Event.TheVariants.{Began, Got, Put, Ready, Done, Gone, Told}
use Rattle.teb_rules.specs.history.Phases.{is_began, began_at, begun, begun_count, unfinished, spot_of, kind_of}
use Rattle.teb_rules.specs.history.Accesses.{is_put, is_got, put_at, got_at, wrote, got}
use Rattle.teb_rules.proofs.lemmas.history.Any.{came_any}
use Rattle.teb_rules.specs.Setup.{Setup}
use Rattle.phase_api.specs.FactsView.{IsOrderly}
use Rattle.phase_api.specs.Calls.{MayNote}
use Rattle.teb_rules.proofs.lemmas.history.Newest.{begun-cons, wrote-cons, got-cons}

pub unfinished_begun : (H : List Event) (u : ℕ) → IsTrue (unfinished H u) → IsTrue (begun H u)
unfolding unfinished
unfinished_begun H u h = (and_parts _ _ (and_parts _ _ h).0).0

begun_same : (e : Event) (P : List Event) (u : ℕ) → is_began u e ≡ false → begun (e ∷ P) u ≡ begun P u
begun_same e P u f = begun-cons e P u ∙ ap (λ (b : Bool). b || begun P u) f

pub begun_kept : (e : Event) (P : List Event) (u : ℕ) → IsTrue (begun P u) → IsTrue (begun (e ∷ P) u)
begun_kept e P u b = begun-cons e P u ∙ or_right (is_began u e) (begun P u) b

-- a transaction that accesses a cell by this event has begun
record Accesses (e : Event) (P : List Event) : Type 0 where
  put : (u : ℕ) (x : Cell) → is_put u x e ≡ true → IsTrue (begun P u)
  get : (u : ℕ) (x : Cell) → is_got u x e ≡ true → IsTrue (begun P u)

wrote_next : (S : Setup) (P : List Event) (e : Event) → Accesses e P → IsOrderly S P → (u : ℕ) (x : Cell) → IsTrue (wrote (e ∷ P) u x) → IsTrue (begun (e ∷ P) u)
wrote_next S P e a o u x w = begun_kept e P u (elim (or_cases (is_put u x e) (wrote P u x) (sym (wrote-cons e P u x) ∙ w)) [ inl h ↦ a.put u x h | inr h ↦ o.wrote u x h ])

got_next : (S : Setup) (P : List Event) (e : Event) → Accesses e P → IsOrderly S P → (u : ℕ) (x : Cell) → IsTrue (got (e ∷ P) u x) → IsTrue (begun (e ∷ P) u)
got_next S P e a o u x g = begun_kept e P u (elim (or_cases (is_got u x e) (got P u x) (sym (got-cons e P u x) ∙ g)) [ inl h ↦ a.get u x h | inr h ↦ o.got u x h ])

-- an event that begins no transaction
no_began : (S : Setup) (P : List Event) (e : Event) → ((u : ℕ) → is_began u e ≡ false) → begun_count (e ∷ P) ≡ begun_count P → ((u : ℕ) → kind_of (e ∷ P) u ≡ kind_of P u) → Accesses e P
    → IsOrderly S P → IsOrderly S (e ∷ P)
no_began S P e f c k a o = record {
  typed = λ u b. subst (λ (n : ℕ). n < S.types) (sym (k u)) (o.typed u (sym (begun_same e P u (f u)) ∙ b));
  numbered = λ u b. subst (λ (n : ℕ). (0 < u) × (u ≤ n)) (sym c) (o.numbered u (sym (begun_same e P u (f u)) ∙ b));
  wrote = wrote_next S P e a o;
  got = got_next S P e a o;
}

none : (e : Event) (P : List Event) → ((u : ℕ) (x : Cell) → is_put u x e ≡ false) → ((u : ℕ) (x : Cell) → is_got u x e ≡ false) → Accesses e P
none e P f g = record { put = λ u x h. absurd (both_ways _ (f u x) h); get = λ u x h. absurd (both_ways _ (g u x) h) }

is_begun : (P : List Event) (t u : ℕ) → IsTrue (unfinished P t) → eqb t u ≡ true → IsTrue (begun P u)
is_begun P t u h e = subst (λ (z : ℕ). begun P z ≡ true) (eqb-true t u e) (unfinished_begun P t h)

pub orderly_next : (S : Setup) (P : List Event) (n : ℕ) (e : Event) → MayNote S P n e → IsOrderly S P → IsOrderly S (e ∷ P)
unfolding begun_count spot_of
orderly_next S P n (Began t s k i) m o =
    let e : Event = Began t s k i in
    let a = none e P (λ u x. refl) (λ u x. refl) in
    let spot_in : Bool → ℕ → Spot = λ b u. cond b (record { kind = k; instance = i }) (spot_of P u) in
    record {
      typed = λ u b. elim (cases_Bool (eqb t.0 u)) [
        | inl q ↦ subst (λ (n : ℕ). n < S.types) (sym (ap (λ (b : Bool). (spot_in b u).kind.0) q)) m.1
        | inr q ↦ subst (λ (n : ℕ). n < S.types) (sym (ap (λ (b : Bool). (spot_in b u).kind.0) q)) (o.typed u (sym (begun_same e P u q) ∙ b))
      ];
      numbered = λ u b. elim (cases_Bool (eqb t.0 u)) [
        | inl q ↦ (let z : t.0 ≡ u = eqb-true t.0 u q in let y = m.0 in (omega arith, omega arith))
        | inr q ↦ (let y = o.numbered u (sym (begun_same e P u q) ∙ b) in (y.0, omega arith))
      ];
      wrote = wrote_next S P e a o;
      got = got_next S P e a o;
    }
orderly_next S P n (Got t x w v) m o = no_began S P (Got t x w v) (λ u. refl) refl (λ u. refl) (record { put = λ u y h. absurd (cc); get = λ u y h. is_begun P t.0 u m.0 (and_parts _ _ h).0 }) o
orderly_next S P n (Put t x v) m o = no_began S P (Put t x v) (λ u. refl) refl (λ u. refl) (record { put = λ u y h. is_begun P t.0 u m.0 (and_parts _ _ h).0; get = λ u y h. absurd (cc) }) o
orderly_next S P n (Ready t) m o = no_began S P (Ready t) (λ u. refl) refl (λ u. refl) (none (Ready t) P (λ u x. refl) (λ u x. refl)) o
orderly_next S P n (Done t) m o = no_began S P (Done t) (λ u. refl) refl (λ u. refl) (none (Done t) P (λ u x. refl) (λ u x. refl)) o
orderly_next S P n (Gone t c) m o = no_began S P (Gone t c) (λ u. refl) refl (λ u. refl) (none (Gone t c) P (λ u x. refl) (λ u x. refl)) o
orderly_next S P n (Told t) m o = no_began S P (Told t) (λ u. refl) refl (λ u. refl) (none (Told t) P (λ u x. refl) (λ u x. refl)) o

-- the empty history
pub orderly_none : (S : Setup) → IsOrderly S []
unfolding begun began_at wrote put_at got got_at
orderly_none S = record {
  typed = λ u b. absurd (both_ways _ (came_any (is_began u) []) b);
  numbered = λ u b. absurd (both_ways _ (came_any (is_began u) []) b);
  wrote = λ u x w. absurd (both_ways _ (came_any (is_put u x) []) w);
  got = λ u x g. absurd (both_ways _ (came_any (is_got u x) []) g);
}

-- a new transaction has accessed nothing
pub new_accesses_none : (S : Setup) (P : List Event) (t : ℕ) (x : Cell) → IsOrderly S P → t ≡ suc (begun_count P) → (wrote P t x ≡ false) × (got P t x ≡ false)
new_accesses_none S P t x o new = (
  elim (cases_Bool (wrote P t x)) [ inl e ↦ absurd (let z = o.numbered t (o.wrote t x e) in omega arith) | inr e ↦ e ],
  elim (cases_Bool (got P t x)) [ inl e ↦ absurd (let z = o.numbered t (o.got t x e) in omega arith) | inr e ↦ e ],
)
