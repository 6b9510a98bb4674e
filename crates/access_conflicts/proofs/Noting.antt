-- A register after one more event.
use Rattle.std.proofs.Common.{◌≡◌, ℕ, ℤ, true, false, ◌||◌, List, ◌∷◌, ◌⊎◌, Option, drop, refl, sym, ◌∙◌, ap, subst, inl, inr, IsTrue}
use Rattle.teb_rules.specs.declared.names.Cell.{Cell}
use Rattle.teb_rules.specs.declared.names.Txn.{Txn}
use Rattle.teb_rules.specs.declared.names.Session.{Session}
use Rattle.teb_rules.specs.declared.names.Kind.{Kind}
use Rattle.teb_rules.specs.declared.names.Cause.{Cause}
use Rattle.teb_rules.specs.declared.history.Event.{Event}
use Rattle.teb_rules.specs.declared.history.Event.TheVariants.{Began, Got, Put, Ready, Done, Gone, Told}
use Rattle.teb_rules.specs.history.Phases.{begun, unfinished, spot_of}
use Rattle.teb_rules.specs.history.Accesses.{wrote, got}
use Rattle.teb_rules.specs.Setup.{Setup}
use Rattle.teb_rules.specs.Tree.{on}
use Rattle.phase_api.specs.declared.facts.Facts.{Facts}
use Rattle.phase_api.specs.FactsView.{IsOrderly, IsTyped, setup_of, events_of}
use Rattle.phase_api.specs.Calls.{MayNote}
use Rattle.hold_book.specs.Books.{Held, shown}
use Rattle.hold_book.specs.Holders.{HoldsOf, MayHold, LeavesHolds}
use Rattle.hold_book.proofs.Holders.{stands_left}
use Rattle.access_conflicts.specs.Registered.{BookStands}
use Rattle.hold_book.proofs.Releasing.{released_if, released_done, released_gone}
use Rattle.access_conflicts.proofs.Orderly.{orderly_next, unfinished_begun, begun_kept, new_accesses_none}

-- an unfinished transaction with the node on its path may hold a cell
may_hold : (S : Setup) (P : List Event) (n t : ℕ) → IsOrderly S P → IsTrue (unfinished P t) → IsTrue (on S P n t) → MayHold S P n t
may_hold S P n t o u h = let m = o.numbered t (unfinished_begun P t u) in record { some = m.0; begun = m.1; unfinished = u; on = h }

-- the newest event, which may be noted
module _ (S : Setup) (H : List Event) (n : ℕ) (e : Event) (i : H ≡ e ∷ drop 1 H) (m : MayNote S (drop 1 H) n e) where
  pub orderly_now : IsOrderly S (drop 1 H) → IsOrderly S H
  orderly_now o = subst (λ (G : List Event). IsOrderly S G) (sym i) (orderly_next S (drop 1 H) n e m o)

  begun_now : (t : ℕ) → IsTrue (unfinished (drop 1 H) t) → IsTrue (begun H t)
  begun_now t u = subst (λ (G : List Event). IsTrue (begun G t)) (sym i) (begun_kept e (drop 1 H) t (unfinished_begun (drop 1 H) t u))

  pub accessor_begun : (t : Txn) (x : Cell) → ((w : Txn) × (v : Option ℤ) × (e ≡ Got t x w v)) → IsTrue (begun H t.0)
  accessor_begun t x q = begun_now t.0 (subst (λ (d : Event). MayNote S (drop 1 H) n d) q.2 m).0

  pub writer_begun : (t : Txn) (x : Cell) → ((v : Option ℤ) × (e ≡ Put t x v)) → IsTrue (begun H t.0)
  writer_begun t x q = begun_now t.0 (subst (λ (d : Event). MayNote S (drop 1 H) n d) q.1 m).0

  -- a book with the holds of the history with the event is valid after the event
  registered : (b : Held) → IsOrderly S (drop 1 H) → HoldsOf b S (e ∷ drop 1 H) n → BookStands n b S H
  registered b o h = record { orderly = orderly_now o; holds = subst (λ (G : List Event). HoldsOf b S G n) (sym i) h }

  module _ (b : Held) (r : BookStands n b S (drop 1 H)) where
    left : (d : Event) → e ≡ d → LeavesHolds S (drop 1 H) n d → BookStands n b S H
    left d q l = registered b r.orderly (stands_left b S (drop 1 H) n e (subst (λ (d : Event). LeavesHolds S (drop 1 H) n d) (sym q) l) r.holds)

    on_before : (d : Event) (t : ℕ) → e ≡ d → on S (d ∷ drop 1 H) n t ≡ on S (drop 1 H) n t → on S (drop 1 H) n t ≡ on S H n t
    on_before d t q s = sym s ∙ ap (λ (d : Event). on S (d ∷ drop 1 H) n t) (sym q) ∙ ap (λ (G : List Event). on S G n t) (sym i)

    same_on_got : (t : Txn) (x : Cell) (w : Txn) (v : Option ℤ) → e ≡ Got t x w v → on S (drop 1 H) n t.0 ≡ on S H n t.0
    same_on_got t x w v q = on_before (Got t x w v) t.0 q (unfold on in unfold spot_of in refl)

    same_on_put : (t : Txn) (x : Cell) (v : Option ℤ) → e ≡ Put t x v → on S (drop 1 H) n t.0 ≡ on S H n t.0
    same_on_put t x v q = on_before (Put t x v) t.0 q (unfold on in unfold spot_of in refl)

    pub got_on : (b' : Held) (t : Txn) (x : Cell) (w : Txn) (v : Option ℤ) → e ≡ Got t x w v → on S H n t.0 ≡ true
        → (MayHold S (drop 1 H) n t.0 → HoldsOf b S (drop 1 H) n → HoldsOf b' S (Got t x w v ∷ drop 1 H) n) → BookStands n b' S H
    got_on b' t x w v q h f =
        let may = (subst (λ (d : Event). MayNote S (drop 1 H) n d) q m).0 in
        registered b' r.orderly (subst (λ (d : Event). HoldsOf b' S (d ∷ drop 1 H) n) (sym q) (f (may_hold S (drop 1 H) n t.0 r.orderly may (same_on_got t x w v q ∙ h)) r.holds))

    pub got_off : (t : Txn) (x : Cell) (w : Txn) (v : Option ℤ) → e ≡ Got t x w v → on S H n t.0 ≡ false → BookStands n b S H
    got_off t x w v q h = left (Got t x w v) q (same_on_got t x w v q ∙ h)

    pub put_on : (b' : Held) (t : Txn) (x : Cell) (v : Option ℤ) → e ≡ Put t x v → on S H n t.0 ≡ true
        → (MayHold S (drop 1 H) n t.0 → HoldsOf b S (drop 1 H) n → HoldsOf b' S (Put t x v ∷ drop 1 H) n) → BookStands n b' S H
    put_on b' t x v q h f =
        let may = (subst (λ (d : Event). MayNote S (drop 1 H) n d) q m).0 in
        registered b' r.orderly (subst (λ (d : Event). HoldsOf b' S (d ∷ drop 1 H) n) (sym q) (f (may_hold S (drop 1 H) n t.0 r.orderly may (same_on_put t x v q ∙ h)) r.holds))

    pub put_off : (t : Txn) (x : Cell) (v : Option ℤ) → e ≡ Put t x v → on S H n t.0 ≡ false → BookStands n b S H
    put_off t x v q h = left (Put t x v) q (same_on_put t x v q ∙ h)

    finished : (b' : Held) (d : Event) → e ≡ d → HoldsOf b' S (d ∷ drop 1 H) n → BookStands n b' S H
    finished b' d q h = registered b' r.orderly (subst (λ (d : Event). HoldsOf b' S (d ∷ drop 1 H) n) (sym q) h)

    pub finished_on : (b' : Held) (t : Txn) → ((e ≡ Done t) ⊎ ((c : Cause) × (e ≡ Gone t c)))
        → ((x : Cell) → shown b' x ≡ released_if (wrote H t.0 x || got H t.0 x) t.0 (shown b x)) → BookStands n b' S H
    finished_on b' t o out = elim o [
      | inl q ↦ finished b' (Done t) q (released_done b b' S (drop 1 H) n t r.holds (now (Done t) q))
      | inr q ↦ finished b' (Gone t q.0) q.1 (released_gone b b' S (drop 1 H) n t r.holds q.0 (now (Gone t q.0) q.1))
    ]
      where
        now : (d : Event) → e ≡ d → (x : Cell) → shown b' x ≡ released_if (wrote (d ∷ drop 1 H) t.0 x || got (d ∷ drop 1 H) t.0 x) t.0 (shown b x)
        now d q x = subst (λ (G : List Event). shown b' x ≡ released_if (wrote G t.0 x || got G t.0 x) t.0 (shown b x)) (i ∙ ap (λ (d : Event). d ∷ drop 1 H) q) (out x)

    pub finished_off : (t : Txn) → ((e ≡ Done t) ⊎ ((c : Cause) × (e ≡ Gone t c))) → on S H n t.0 ≡ false → BookStands n b S H
    finished_off t o h = elim o [
      | inl q ↦ left (Done t) q (on_before (Done t) t.0 q (unfold on in unfold spot_of in refl) ∙ h)
      | inr q ↦ left (Gone t q.0) q.1 (on_before (Gone t q.0) t.0 q.1 (unfold on in unfold spot_of in refl) ∙ h)
    ]

    pub began : (t : Txn) (s : Session) (k : Kind) (j : ℕ) → e ≡ Began t s k j → BookStands n b S H
    began t s k j q =
        let new = (subst (λ (d : Event). MayNote S (drop 1 H) n d) q m).0 in
        left (Began t s k j) q (new, (λ x. new_accesses_none S (drop 1 H) t.0 x r.orderly new))

    pub readied : (t : Txn) → e ≡ Ready t → BookStands n b S H
    readied t q = left (Ready t) q tt

    pub told : (t : Txn) → e ≡ Told t → BookStands n b S H
    told t q = left (Told t) q tt

-- a transaction of the history that has begun has a type of the tree
pub typed_now : (f : Facts) (t : ℕ) → IsOrderly (setup_of f) (events_of f) → IsTrue (begun (events_of f) t) → IsTyped f t
typed_now f t o b = record { begun = b; kind = o.typed t b }
