-- The cursors of a history, event by event.
use Rattle.std.proofs.Common.{◌≡◌, ℕ, suc, ◌-◌, ◌<◌, ◌≤◌, cond, eqb, List, [], ◌∷◌, ◌++◌, length, map, refl, sym, ap, ◌∙◌, eq-eqb, Option, unwrap_or, ℤ}
use Rattle.std.proofs.lemmas.Bool.{ne_eqb}
use Rattle.std.proofs.Math.ListN.{set}
use Rattle.std.proofs.lemmas.List.{map-append}
use Rattle.teb_rules.specs.declared.names.Cell.{Cell}
use Rattle.teb_rules.specs.declared.names.Kind.{Kind}
use Rattle.teb_rules.specs.declared.names.Session.{Session}
use Rattle.teb_rules.specs.declared.names.Txn.{Txn}
use Rattle.teb_rules.specs.declared.names.Cause.{Cause}
use Rattle.teb_rules.specs.declared.history.Event.{Event}
use Rattle.teb_rules.specs.declared.history.Event.TheVariants.{Began, Got, Put, Ready, Done, Gone, Told}
use Rattle.teb_rules.specs.history.Phases.{txns, numbers, begun_count, kind_of}
use Rattle.teb_rules.specs.Setup.{Setup, profile}
use Rattle.teb_rules.specs.Steps.{cursor, least_step}
use Rattle.cursor_book.specs.Cursors.{CursorsOf, cursor_in, moved}
use Rattle.cursor_book.proofs.Numbered.{length-map-numbers, at-map-numbers, set-map-numbers}

-- there is one cursor for each transaction that has begun
pub length-cursors : (cs : List ℕ) (S : Setup) (H : List Event) → CursorsOf cs S H → length cs ≡ begun_count H
unfolding txns
length-cursors cs S H h = ap length h ∙ length-map-numbers (cursor S H) (begun_count H)

pub cursor_at : (cs : List ℕ) (S : Setup) (H : List Event) (t : ℕ) → CursorsOf cs S H → 0 < t → t ≤ begun_count H → cursor_in cs t ≡ cursor S H t
unfolding txns
cursor_at cs S H t h a b = ap (λ (xs : List ℕ). cursor_in xs t) h ∙ at-map-numbers (cursor S H) (begun_count H) t a b

-- the empty history
pub cursors_none : (S : Setup) → CursorsOf [] S []
unfolding txns begun_count numbers
cursors_none S = refl

-- a transaction begins; it has done nothing yet
pub cursors_began : (cs : List ℕ) (S : Setup) (P : List Event) (t : Txn) (s : Session) (k : Kind) (i : ℕ) → CursorsOf cs S P → cursor S P (suc (begun_count P)) ≡ 0
    → CursorsOf (cs ++ 0 ∷ []) S (Began t s k i ∷ P)
unfolding txns begun_count numbers cursor
cursors_began cs S P t s k i h z = ap (λ (xs : List ℕ). xs ++ 0 ∷ []) h ∙ ap (λ (c : ℕ). map (cursor S P) (numbers (begun_count P)) ++ c ∷ []) (sym z)
    ∙ sym (map-append (cursor S P) (numbers (begun_count P)) (suc (begun_count P) ∷ []))

-- the cursor of u after an access by t, which may be u or another transaction
cursor_got : (S : Setup) (P : List Event) (t w : Txn) (x : Cell) (v : Option ℤ) (u : ℕ) → cursor S (Got t x w v ∷ P) u ≡ cond (eqb t.0 u)
    (unwrap_or (least_step (profile S (kind_of P u)) (cursor S P u) x.table.0) (cursor S P u)) (cursor S P u)
unfolding cursor
cursor_got S P t w x v u = refl

cursor_put : (S : Setup) (P : List Event) (t : Txn) (x : Cell) (v : Option ℤ) (u : ℕ)
    → cursor S (Put t x v ∷ P) u ≡ cond (eqb t.0 u) (unwrap_or (least_step (profile S (kind_of P u)) (cursor S P u) x.table.0) (cursor S P u)) (cursor S P u)
unfolding cursor
cursor_put S P t x v u = refl

module _ (cs : List ℕ) (S : Setup) (P : List Event) (t : Txn) (x : Cell) (h : CursorsOf cs S P) (above : 0 < t.0) (begun : t.0 ≤ begun_count P) where
  after : (e : Event) → ((u : ℕ) → cursor S (e ∷ P) u ≡ cond (eqb t.0 u) (unwrap_or (least_step (profile S (kind_of P u)) (cursor S P u) x.table.0) (cursor S P u)) (cursor S P u))
      → moved cs t.0 (profile S (kind_of P t.0)) x.table.0 ≡ map (cursor S (e ∷ P)) (numbers (begun_count P))
  unfolding txns
  after e f =
      let at = cursor_at cs S P t.0 h above begun in
      let mine : unwrap_or (least_step (profile S (kind_of P t.0)) (cursor_in cs t.0) x.table.0) (cursor_in cs t.0) ≡ cursor S (e ∷ P) t.0
      = ap (λ (c : ℕ). unwrap_or (least_step (profile S (kind_of P t.0)) c x.table.0) c) at ∙ sym (f t.0 ∙ rw (eq-eqb t.0 t.0 refl) refl) in
      ap (λ (v : ℕ). set cs (t.0 - 1) v) mine ∙ ap (λ (xs : List ℕ). set xs (t.0 - 1) (cursor S (e ∷ P) t.0)) h
      ∙ set-map-numbers (cursor S P) (cursor S (e ∷ P)) (begun_count P) t.0 above begun (λ u ne. sym (f u ∙ rw (ne_eqb t.0 u (λ q. ne (sym q))) refl))

  pub cursors_got : (w : Txn) (v : Option ℤ) → CursorsOf (moved cs t.0 (profile S (kind_of P t.0)) x.table.0) S (Got t x w v ∷ P)
  unfolding txns begun_count
  cursors_got w v = after (Got t x w v) (cursor_got S P t w x v)

  pub cursors_put : (v : Option ℤ) → CursorsOf (moved cs t.0 (profile S (kind_of P t.0)) x.table.0) S (Put t x v ∷ P)
  unfolding txns begun_count
  cursors_put v = after (Put t x v) (cursor_put S P t x v)

-- no other event moves a cursor
pub cursors_ready : (cs : List ℕ) (S : Setup) (P : List Event) (t : Txn) → CursorsOf cs S P → CursorsOf cs S (Ready t ∷ P)
unfolding txns begun_count cursor
cursors_ready cs S P t h = h

pub cursors_done : (cs : List ℕ) (S : Setup) (P : List Event) (t : Txn) → CursorsOf cs S P → CursorsOf cs S (Done t ∷ P)
unfolding txns begun_count cursor
cursors_done cs S P t h = h

pub cursors_gone : (cs : List ℕ) (S : Setup) (P : List Event) (t : Txn) (c : Cause) → CursorsOf cs S P → CursorsOf cs S (Gone t c ∷ P)
unfolding txns begun_count cursor
cursors_gone cs S P t c h = h

pub cursors_told : (cs : List ℕ) (S : Setup) (P : List Event) (t : Txn) → CursorsOf cs S P → CursorsOf cs S (Told t ∷ P)
unfolding txns begun_count cursor
cursors_told cs S P t h = h
