use Rattle.std.proofs.Common.{◌≡◌, ◌<◌, ◌∷◌, ℕ, List, length, get_or, set, inl, inr, refl, sym, ◌∙◌, ap, subst, arith, eq-eqb, ne_eqb}
use Rattle.std.proofs.lemmas.Bool.{cases_eq}
use Rattle.std.proofs.lemmas.List.{get_or-set_same, get_or-set_other}
use Rattle.teb_rules.specs.declared.names.Txn.{Txn}
use Rattle.teb_rules.specs.declared.names.Kind.{Kind}
use Rattle.teb_rules.specs.declared.names.Session.{Session}
use Rattle.teb_rules.specs.declared.history.Event.{Event}
use Rattle.teb_rules.specs.declared.history.Event.TheVariants.{Began, Got, Put, Ready, Done, Gone, Told}
use Rattle.engine_core.specs.Latest.{AreLatest, listed, latest_txn}
use Rattle.engine_core.proofs.latest_txns.LatestTxns.note.Goals as goal

began-listed : (ts : List Txn) (H : List Event) (t : Txn) (a : Session) (k : Kind) (i : ℕ) → a.0 < length ts → AreLatest ts H → (s : ℕ) → listed (set ts a.0 t) s ≡ latest_txn (Began t a k i ∷ H) s
unfolding latest_txn
began-listed ts H t a k i l f s = elim (cases_eq s a.0) [
  | inl e ↦ rw (eq-eqb a.0 s (sym e)) (subst (λ (n : ℕ). get_or (set ts a.0 t) n (record { 0 = 0 }) ≡ t) (sym e) (get_or-set_same ts a.0 t (record { 0 = 0 }) l))
  | inr ne ↦ rw (ne_eqb a.0 s (λ e. ne (sym e))) (get_or-set_other ts a.0 s t (record { 0 = 0 }) ne ∙ f s)
]

other-latest : (e : Event) (H : List Event) (s : ℕ) → ((t : Txn) (a : Session) (k : Kind) (i : ℕ) → e ≡ Began t a k i → ⊥) → latest_txn (e ∷ H) s ≡ latest_txn H s
unfolding latest_txn
other-latest (Began t a k i) H s others = absurd (others t a k i refl)
other-latest (Got u x w z) H s others = refl
other-latest (Put u x z) H s others = refl
other-latest (Ready u) H s others = refl
other-latest (Done u) H s others = refl
other-latest (Gone u c) H s others = refl
other-latest (Told u) H s others = refl

pub returns-in-Began : goal.returns-in-Began
returns-in-Began c = λ H f s.
    let within : c.in-Began.session.0 < length c.self.inside.txns = omega arith in
    (λ j. listed (set c.self.inside.txns (c.from.ensures j) c.in-Began.txn) s)
    ∙ began-listed c.self.inside.txns H c.in-Began.txn c.in-Began.session c.in-Began.kind c.in-Began.instance within (subst (λ (ts : List Txn). AreLatest ts H) (sym c.self.view_is) f) s
    ∙ ap (λ (e : Event). latest_txn (e ∷ H) s) (sym c.in-Began.is)

pub returns-in_default : goal.returns-in_default
returns-in_default c = λ H f s. f s ∙ sym (other-latest c.args.event H s c.in_default.not-Began)
