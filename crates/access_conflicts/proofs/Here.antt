-- Whether a node is on the path of a transaction is recorded at its Began.
use Rattle.std.proofs.Common.{◌≡◌, ◌⊎◌, ℕ, ℤ, zero, suc, ◌<◌, ◌≤◌, Bool, true, false, eqb, List, Option, [], ◌∷◌, ◌++◌, length, drop, refl, sym, ◌∙◌, ap, subst, arith, inl, inr, IsTrue, length-append}
use Rattle.std.proofs.lemmas.Bool.{ne_eqb, eq-eqb, cases_lt, or_left}
use Rattle.teb_rules.proofs.lemmas.history.Newest.{begun-cons}
use Rattle.std.proofs.lemmas.List.{get_or_append_left, get_or_push}
use Rattle.teb_rules.specs.declared.names.Txn.{Txn}
use Rattle.teb_rules.specs.declared.names.Session.{Session}
use Rattle.teb_rules.specs.declared.names.Kind.{Kind}
use Rattle.teb_rules.specs.declared.names.Cause.{Cause}
use Rattle.teb_rules.specs.declared.names.Cell.{Cell}
use Rattle.teb_rules.specs.declared.history.Event.{Event}
use Rattle.teb_rules.specs.declared.history.Event.TheVariants.{Began, Got, Put, Ready, Done, Gone, Told}
use Rattle.teb_rules.specs.history.Phases.{begun, begun_count, unfinished, spot_of}
use Rattle.teb_rules.specs.Setup.{Setup}
use Rattle.teb_rules.specs.Tree.{on}
use Rattle.phase_api.specs.FactsView.{IsOrderly}
use Rattle.phase_api.specs.Calls.{MayNote}
use Rattle.access_conflicts.specs.Registered.{is_here, AreHere}
use Rattle.access_conflicts.proofs.Orderly.{unfinished_begun}

pub here_none : (S : Setup) (n : ℕ) (here : List Bool) → here ≡ [] → AreHere here S [] n
unfolding begun_count
here_none S n here e = record { counted = ap length e; told = λ t pos le. absurd (omega arith) }

-- the event begins a transaction
abbrev pub begins : Event → Bool
begins (Began t s k i) = true
begins _ = false

module _ (S : Setup) (P : List Event) (n : ℕ) (here : List Bool) (a : AreHere here S P n) where
  -- an event that begins no transaction keeps the record valid
  pub here_kept : (e : Event) → begins e ≡ false → AreHere here S (e ∷ P) n
  unfolding begun_count on spot_of
  here_kept (Began t s k i) q = absurd (cc)
  here_kept (Got t x w v) q = record { counted = a.counted; told = a.told }
  here_kept (Put t x v) q = record { counted = a.counted; told = a.told }
  here_kept (Ready t) q = record { counted = a.counted; told = a.told }
  here_kept (Done t) q = record { counted = a.counted; told = a.told }
  here_kept (Gone t c) q = record { counted = a.counted; told = a.told }
  here_kept (Told t) q = record { counted = a.counted; told = a.told }

  -- a Began appends an entry to the record
  pub here_begun : (t : Txn) (s : Session) (k : Kind) (i : ℕ) (h : Bool) → t.0 ≡ suc (begun_count P) → h ≡ on S (Began t s k i ∷ P) n t.0 → AreHere (here ++ h ∷ []) S (Began t s k i ∷ P) n
  unfolding begun_count
  here_begun t s k i h new is = record {
    counted = (let l = length-append here (h ∷ []) in omega (arith, l, a.counted));
    told = at;
  }
    where
      at : (u : ℕ) → 0 < u → u ≤ suc (begun_count P) → is_here (here ++ h ∷ []) u ≡ on S (Began t s k i ∷ P) n u
      at zero pos le = absurd (omega arith)
      at (suc j) pos le = elim (cases_lt j (length here)) [
        | inl lt ↦ get_or_append_left here (h ∷ []) false j lt ∙ a.told (suc j) pos (omega (arith, lt, a.counted))
            ∙ (unfold on in unfold spot_of in rw (ne_eqb t.0 (suc j) (λ e. omega (arith, e, new, lt, a.counted))) refl)
        | inr ge ↦
            let z : j ≡ length here = omega (arith, ge, le, a.counted) in
            let m : t.0 ≡ suc j = omega (arith, z, new, a.counted) in
            get_or_push here h false j (sym z) ∙ is ∙ ap (on S (Began t s k i ∷ P) n) m
      ]

  -- the entry of an unfinished transaction is right
  pub here_told : (t : ℕ) → IsOrderly S P → IsTrue (unfinished P t) → is_here here t ≡ on S P n t
  here_told t o u = let m = o.numbered t (unfinished_begun P t u) in a.told t m.0 m.1

on_kept : (S : Setup) (P : List Event) (n t : ℕ) (e : Event) → begins e ≡ false → on S (e ∷ P) n t ≡ on S P n t
unfolding on spot_of
on_kept S P n t (Began u s k i) q = absurd (cc)
on_kept S P n t (Got u x w v) q = refl
on_kept S P n t (Put u x v) q = refl
on_kept S P n t (Ready u) q = refl
on_kept S P n t (Done u) q = refl
on_kept S P n t (Gone u c) q = refl
on_kept S P n t (Told u) q = refl

-- the same at the newest event
module _ (S : Setup) (H : List Event) (n : ℕ) (e : Event) (i : H ≡ e ∷ drop 1 H) (m : MayNote S (drop 1 H) n e) (here : List Bool) (o : IsOrderly S (drop 1 H)) (a : AreHere here S (drop 1 H) n) where
  pub here_now : begins e ≡ false → AreHere here S H n
  here_now q = subst (λ (G : List Event). AreHere here S G n) (sym i) (here_kept S (drop 1 H) n here a e q)

  told_now : (t : ℕ) → begins e ≡ false → IsTrue (unfinished (drop 1 H) t) → is_here here t ≡ on S H n t
  told_now t q u = here_told S (drop 1 H) n here a t o u ∙ sym (on_kept S (drop 1 H) n t e q) ∙ ap (λ (G : List Event). on S G n t) (sym i)

  pub told_access : (t : Txn) (x : Cell) → (((w : Txn) × (v : Option ℤ) × (e ≡ Got t x w v)) ⊎ ((v : Option ℤ) × (e ≡ Put t x v))) → is_here here t.0 ≡ on S H n t.0
  told_access t x q = elim q [
    | inl g ↦ told_now t.0 (ap begins g.2) (subst (λ (d : Event). MayNote S (drop 1 H) n d) g.2 m).0
    | inr p ↦ told_now t.0 (ap begins p.1) (subst (λ (d : Event). MayNote S (drop 1 H) n d) p.1 m).0
  ]

  pub here_access : (t : Txn) (x : Cell) → (((w : Txn) × (v : Option ℤ) × (e ≡ Got t x w v)) ⊎ ((v : Option ℤ) × (e ≡ Put t x v))) → AreHere here S H n
  here_access t x q = elim q [ inl g ↦ here_now (ap begins g.2) | inr p ↦ here_now (ap begins p.1) ]

  pub told_end : (t : Txn) → ((e ≡ Done t) ⊎ ((c : Cause) × (e ≡ Gone t c))) → is_here here t.0 ≡ on S H n t.0
  told_end t q = elim q [
    | inl d ↦ told_now t.0 (ap begins d) (subst (λ (d : Event). MayNote S (drop 1 H) n d) d m)
    | inr g ↦ told_now t.0 (ap begins g.1) (subst (λ (d : Event). MayNote S (drop 1 H) n d) g.1 m)
  ]

  pub here_end : (t : Txn) → ((e ≡ Done t) ⊎ ((c : Cause) × (e ≡ Gone t c))) → AreHere here S H n
  here_end t q = elim q [ inl d ↦ here_now (ap begins d) | inr g ↦ here_now (ap begins g.1) ]

  pub here_anew : (here' : List Bool) (t : Txn) (s : Session) (k : Kind) (j : ℕ) (h : Bool) → e ≡ Began t s k j → h ≡ on S H n t.0 → here' ≡ here ++ h ∷ [] → AreHere here' S H n
  here_anew here' t s k j h q is more =
      let new = (subst (λ (d : Event). MayNote S (drop 1 H) n d) q m).0 in
      let now : H ≡ Began t s k j ∷ drop 1 H = i ∙ ap (λ (d : Event). d ∷ drop 1 H) q in
      subst (λ (hs : List Bool). AreHere hs S H n) (sym more)
      (subst (λ (G : List Event). AreHere (here ++ h ∷ []) S G n) (sym now) (here_begun S (drop 1 H) n here a t s k j h new (is ∙ ap (λ (G : List Event). on S G n t.0) now)))

  pub began_typed : (t : Txn) (s : Session) (k : Kind) (j : ℕ) → e ≡ Began t s k j → IsTrue (begun H t.0)
  began_typed t s k j q = subst (λ (G : List Event). IsTrue (begun G t.0)) (sym (i ∙ ap (λ (d : Event). d ∷ drop 1 H) q))
      (begun-cons (Began t s k j) (drop 1 H) t.0 ∙ or_left (eqb t.0 t.0) (begun (drop 1 H) t.0) (eq-eqb t.0 t.0 refl))
