-- The cursors after the newest event of a lawful history.
use Rattle.std.proofs.Common.{◌≡◌, ℕ, suc, ◌<◌, ◌≤◌, true, false, List, [], ◌∷◌, ◌++◌, length, drop, Option, ℤ, refl, sym, ap, ◌∙◌, subst, arith, eqb, eqb-true, inl, inr, ◌⊎◌}
use Rattle.std.proofs.lemmas.Bool.{cases_Bool, both_ways, or_parts}
use Rattle.teb_rules.specs.declared.names.Cell.{Cell}
use Rattle.teb_rules.specs.declared.names.Txn.{Txn}
use Rattle.teb_rules.specs.declared.names.Kind.{Kind}
use Rattle.teb_rules.specs.declared.names.Session.{Session}
use Rattle.teb_rules.specs.declared.history.Event.{Event}
use Rattle.teb_rules.specs.declared.history.Event.TheVariants.{Began, Got, Put, Ready, Done, Gone, Told}
use Rattle.teb_rules.specs.history.Phases.{begun, begun_count, kind_of, spot_of, unfinished}
use Rattle.teb_rules.specs.Setup.{Setup, profile}
use Rattle.teb_rules.specs.Steps.{cursor}
use Rattle.teb_rules.specs.laws.Lawful.{Lawful}
use Rattle.phase_api.specs.declared.facts.Facts.{Facts}
use Rattle.phase_api.specs.FactsView.{setup_of, events_of, IsTyped}
use Rattle.cursor_book.specs.Cursors.{CursorsOf, moved}
use Rattle.cursor_book.proofs.Moves.{length-cursors, cursors_began, cursors_got, cursors_put, cursors_ready, cursors_done, cursors_gone, cursors_told}
use Rattle.teb_rules.proofs.lemmas.laws.Timeline.{begun_counted}
use Rattle.teb_rules.proofs.lemmas.history.Newest.{begun-cons}
use Rattle.candidate_reads.proofs.Sources.{begun_place}
use Rattle.engine_core.proofs.Running.{unfinished_numbered, unfinished_typed, begun_unfinished}

-- the transaction of a granted access was unfinished
got_unfinished : (S : Setup) (P : List Event) (t w : Txn) (x : Cell) (v : Option ℤ) → Lawful S (Got t x w v ∷ P) → unfinished P t.0 ≡ true
unfolding Lawful
got_unfinished S P t w x v l = l.0.0.unfinished

put_unfinished : (S : Setup) (P : List Event) (t : Txn) (x : Cell) (v : Option ℤ) → Lawful S (Put t x v ∷ P) → unfinished P t.0 ≡ true
unfolding Lawful
put_unfinished S P t x v l = l.0.unfinished

lawful_before : (S : Setup) (e : Event) (P : List Event) → Lawful S (e ∷ P) → Lawful S P
unfolding Lawful
lawful_before S e P l = l.1

other : (u t : ℕ) (P : List Event) → begun P u ≡ true → begun P t ≡ false → eqb u t ≡ false
other u t P b n = elim (cases_Bool (eqb u t)) [ inl e ↦ absurd (both_ways _ n (subst (λ (z : ℕ). begun P z ≡ true) (eqb-true u t e) b)) | inr e ↦ e ]

-- an access begins no transaction
got_begun : (P : List Event) (t w : Txn) (x : Cell) (v : Option ℤ) (u : ℕ) → begun (Got t x w v ∷ P) u ≡ begun P u
got_begun P t w x v u = begun-cons (Got t x w v) P u

put_begun : (P : List Event) (t : Txn) (x : Cell) (v : Option ℤ) (u : ℕ) → begun (Put t x v ∷ P) u ≡ begun P u
put_begun P t x v u = begun-cons (Put t x v) P u

got_kind : (P : List Event) (t w : Txn) (x : Cell) (v : Option ℤ) (u : ℕ) → kind_of (Got t x w v ∷ P) u ≡ kind_of P u
unfolding spot_of
got_kind P t w x v u = refl

put_kind : (P : List Event) (t : Txn) (x : Cell) (v : Option ℤ) (u : ℕ) → kind_of (Put t x v ∷ P) u ≡ kind_of P u
unfolding spot_of
put_kind P t x v u = refl

-- the cursor of a transaction that has not begun is at step 0
idle_cursor : (S : Setup) (P : List Event) (t : ℕ) → Lawful S P → begun P t ≡ false → cursor S P t ≡ 0
unfolding cursor
idle_cursor S [] t l b = refl
idle_cursor S (Began u s k i ∷ P) t l b = idle_cursor S P t (lawful_before S (Began u s k i) P l) (or_parts _ _ (sym (begun-cons (Began u s k i) P t) ∙ b)).1
idle_cursor S (Got u x w v ∷ P) t l b =
    let n = sym (got_begun P u w x v t) ∙ b in
    rw (other u.0 t P (begun_unfinished P u.0 (got_unfinished S P u w x v l)) n) (idle_cursor S P t (lawful_before S (Got u x w v) P l) n)
idle_cursor S (Put u x v ∷ P) t l b =
    let n = sym (put_begun P u x v t) ∙ b in
    rw (other u.0 t P (begun_unfinished P u.0 (put_unfinished S P u x v l)) n) (idle_cursor S P t (lawful_before S (Put u x v) P l) n)
idle_cursor S (Ready u ∷ P) t l b = idle_cursor S P t (lawful_before S (Ready u) P l) (sym (begun-cons (Ready u) P t) ∙ b)
idle_cursor S (Done u ∷ P) t l b = idle_cursor S P t (lawful_before S (Done u) P l) (sym (begun-cons (Done u) P t) ∙ b)
idle_cursor S (Gone u c ∷ P) t l b = idle_cursor S P t (lawful_before S (Gone u c) P l) (sym (begun-cons (Gone u c) P t) ∙ b)
idle_cursor S (Told u ∷ P) t l b = idle_cursor S P t (lawful_before S (Told u) P l) (sym (begun-cons (Told u) P t) ∙ b)

-- the transaction with the next number has not begun
unbegun : (S : Setup) (P : List Event) → Lawful S P → begun P (suc (begun_count P)) ≡ false
unbegun S P l = elim (cases_Bool (begun P (suc (begun_count P)))) [ inl y ↦ absurd (let q = (begun_counted S P (suc (begun_count P)) l (begun_place P _ y)).1 in omega arith) | inr n ↦ n ]

-- facts about the transaction of an access that is the newest event
pub record IsMover (f : Facts) (cs : List ℕ) (t : ℕ) : Type 0 where
  pub typed : IsTyped f t
  pub above : 0 < t
  pub begun : t ≤ length cs

mover : (f : Facts) (e : Event) (P : List Event) (cs : List ℕ) (t : ℕ) → events_of f ≡ e ∷ P → Lawful (setup_of f) (e ∷ P) → CursorsOf cs (setup_of f) P → unfinished P t ≡ true
    → begun (e ∷ P) t ≡ begun P t → kind_of (e ∷ P) t ≡ kind_of P t → IsMover f cs t
mover f e P cs t n l c u b k =
    let S = setup_of f in
    let q = unfinished_numbered S P t (lawful_before S e P l) u in
    let m = length-cursors cs S P c in
    record {
      typed = record {
        begun = ap (λ (H : List Event). begun H t) n ∙ b ∙ begun_unfinished P t u;
        kind = subst (λ (z : ℕ). z < S.types) (sym (ap (λ (H : List Event). kind_of H t) n ∙ k)) (unfinished_typed S P t (lawful_before S e P l) u);
      };
      above = q.0;
      begun = (let h = q.1 in omega arith);
    }

module _ (f : Facts) (e : Event) (cs : List ℕ) (newest : events_of f ≡ e ∷ drop 1 (events_of f)) (lawful : Lawful (setup_of f) (events_of f))
    (stood : CursorsOf cs (setup_of f) (drop 1 (events_of f))) where
  lawful_with : (d : Event) → e ≡ d → Lawful (setup_of f) (d ∷ drop 1 (events_of f))
  lawful_with d q = subst (λ (H : List Event). Lawful (setup_of f) H) (newest ∙ ap (λ (d : Event). d ∷ drop 1 (events_of f)) q) lawful

  got_mover : (t w : Txn) (x : Cell) (v : Option ℤ) → e ≡ Got t x w v → IsMover f cs t.0
  got_mover t w x v q = mover f (Got t x w v) (drop 1 (events_of f)) cs t.0 (newest ∙ ap (λ (d : Event). d ∷ drop 1 (events_of f)) q) (lawful_with (Got t x w v) q) stood
      (got_unfinished (setup_of f) (drop 1 (events_of f)) t w x v (lawful_with (Got t x w v) q)) (got_begun (drop 1 (events_of f)) t w x v t.0) (got_kind (drop 1 (events_of f)) t w x v t.0)

  put_mover : (t : Txn) (x : Cell) (v : Option ℤ) → e ≡ Put t x v → IsMover f cs t.0
  put_mover t x v q = mover f (Put t x v) (drop 1 (events_of f)) cs t.0 (newest ∙ ap (λ (d : Event). d ∷ drop 1 (events_of f)) q) (lawful_with (Put t x v) q) stood
      (put_unfinished (setup_of f) (drop 1 (events_of f)) t x v (lawful_with (Put t x v) q)) (put_begun (drop 1 (events_of f)) t x v t.0) (put_kind (drop 1 (events_of f)) t x v t.0)

  with_newest : (d : Event) (ds : List ℕ) → e ≡ d → CursorsOf ds (setup_of f) (d ∷ drop 1 (events_of f)) → CursorsOf ds (setup_of f) (events_of f)
  with_newest d ds q h = subst (λ (H : List Event). CursorsOf ds (setup_of f) H) (sym (newest ∙ ap (λ (d : Event). d ∷ drop 1 (events_of f)) q)) h

  got_moves : (t w : Txn) (x : Cell) (v : Option ℤ) (ds : List ℕ) → e ≡ Got t x w v → ds ≡ moved cs t.0 (profile (setup_of f) (kind_of (events_of f) t.0)) x.table.0
      → CursorsOf ds (setup_of f) (events_of f)
  got_moves t w x v ds q k =
      let S = setup_of f in
      let P = drop 1 (events_of f) in
      let n = unfinished_numbered S P t.0 (lawful_before S _ P (lawful_with (Got t x w v) q)) (got_unfinished S P t w x v (lawful_with (Got t x w v) q)) in
      let same : kind_of (events_of f) t.0 ≡ kind_of P t.0 = ap (λ (H : List Event). kind_of H t.0) (newest ∙ ap (λ (d : Event). d ∷ P) q) ∙ got_kind P t w x v t.0 in
      with_newest (Got t x w v) ds q (subst (λ (ds : List ℕ). CursorsOf ds S (Got t x w v ∷ P)) (sym (k ∙ ap (λ (z : ℕ). moved cs t.0 (profile S z) x.table.0) same))
      (cursors_got cs S P t x stood n.0 n.1 w v))

  put_moves : (t : Txn) (x : Cell) (v : Option ℤ) (ds : List ℕ) → e ≡ Put t x v → ds ≡ moved cs t.0 (profile (setup_of f) (kind_of (events_of f) t.0)) x.table.0
      → CursorsOf ds (setup_of f) (events_of f)
  put_moves t x v ds q k =
      let S = setup_of f in
      let P = drop 1 (events_of f) in
      let n = unfinished_numbered S P t.0 (lawful_before S _ P (lawful_with (Put t x v) q)) (put_unfinished S P t x v (lawful_with (Put t x v) q)) in
      let same : kind_of (events_of f) t.0 ≡ kind_of P t.0 = ap (λ (H : List Event). kind_of H t.0) (newest ∙ ap (λ (d : Event). d ∷ P) q) ∙ put_kind P t x v t.0 in
      with_newest (Put t x v) ds q (subst (λ (ds : List ℕ). CursorsOf ds S (Put t x v ∷ P)) (sym (k ∙ ap (λ (z : ℕ). moved cs t.0 (profile S z) x.table.0) same))
      (cursors_put cs S P t x stood n.0 n.1 v))

  -- the newest event is an access of x by t
  abbrev pub IsAccess : Txn → Cell → Type 0
  IsAccess t x = ((w : Txn) × (v : Option ℤ) × (e ≡ Got t x w v)) ⊎ ((v : Option ℤ) × (e ≡ Put t x v))

  pub access_mover : (t : Txn) (x : Cell) → IsAccess t x → IsMover f cs t.0
  access_mover t x (inl (w, v, q)) = got_mover t w x v q
  access_mover t x (inr (v, q)) = put_mover t x v q

  pub access_moves : (t : Txn) (x : Cell) (ds : List ℕ) → IsAccess t x → ds ≡ moved cs t.0 (profile (setup_of f) (kind_of (events_of f) t.0)) x.table.0 → CursorsOf ds (setup_of f) (events_of f)
  access_moves t x ds (inl (w, v, q)) = got_moves t w x v ds q
  access_moves t x ds (inr (v, q)) = put_moves t x v ds q

  pub began_stands : (t : Txn) (s : Session) (k : Kind) (i : ℕ) (ds : List ℕ) → e ≡ Began t s k i → ds ≡ cs ++ 0 ∷ [] → CursorsOf ds (setup_of f) (events_of f)
  began_stands t s k i ds q m =
      let S = setup_of f in
      let P = drop 1 (events_of f) in
      with_newest (Began t s k i) ds q
      (subst (λ (ds : List ℕ). CursorsOf ds S (Began t s k i ∷ P)) (sym m)
      (cursors_began cs S P t s k i stood
      (idle_cursor S P (suc (begun_count P)) (lawful_before S _ P (lawful_with (Began t s k i) q)) (unbegun S P (lawful_before S _ P (lawful_with (Began t s k i) q))))))

  pub others_stand : ((t : Txn) (s : Session) (k : Kind) (i : ℕ) → e ≡ Began t s k i → ⊥) → ((t : Txn) (x : Cell) (w : Txn) (v : Option ℤ) → e ≡ Got t x w v → ⊥)
      → ((t : Txn) (x : Cell) (v : Option ℤ) → e ≡ Put t x v → ⊥) → CursorsOf cs (setup_of f) (events_of f)
  others_stand b r w = subst (λ (H : List Event). CursorsOf cs (setup_of f) H) (sym newest) (go e b r w)
    where
      go : (d : Event) → ((t : Txn) (s : Session) (k : Kind) (i : ℕ) → d ≡ Began t s k i → ⊥) → ((t : Txn) (x : Cell) (w : Txn) (v : Option ℤ) → d ≡ Got t x w v → ⊥)
          → ((t : Txn) (x : Cell) (v : Option ℤ) → d ≡ Put t x v → ⊥) → CursorsOf cs (setup_of f) (d ∷ drop 1 (events_of f))
      go (Began t s k i) b r w = absurd (b t s k i refl)
      go (Got t x w' v) b r w = absurd (r t x w' v refl)
      go (Put t x v) b r w = absurd (w t x v refl)
      go (Ready t) b r w = cursors_ready cs (setup_of f) (drop 1 (events_of f)) t stood
      go (Done t) b r w = cursors_done cs (setup_of f) (drop 1 (events_of f)) t stood
      go (Gone t c) b r w = cursors_gone cs (setup_of f) (drop 1 (events_of f)) t c stood
      go (Told t) b r w = cursors_told cs (setup_of f) (drop 1 (events_of f)) t stood
