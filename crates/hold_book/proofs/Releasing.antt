-- The release of the holds of a transaction that finishes, event by event.
use Rattle.std.proofs.Common.{◌≡◌, ℕ, ℤ, Bool, true, false, cond, not, eqb, ◌||◌, is_some, List, [], ◌∷◌, ◌⊎◌, Option, Some, None, refl, sym, ◌∙◌, ap, inl, inr}
use Rattle.std.specs.List.{list_any}
use Rattle.teb_rules.specs.declared.names.Cell.{Cell}
use Rattle.teb_rules.specs.declared.names.Txn.{Txn}
use Rattle.teb_rules.specs.declared.names.Cause.{Cause}
use Rattle.teb_rules.specs.names.Cells.{same_cell}
use Rattle.teb_rules.specs.declared.history.Event.{Event}
use Rattle.teb_rules.specs.declared.history.Event.TheVariants.{Got, Put, Done, Gone}
use Rattle.teb_rules.specs.history.OwnEvents.{own_events, put_in, got_in}
use Rattle.teb_rules.specs.history.Accesses.{wrote, got}
use Rattle.teb_rules.proofs.lemmas.history.OwnWalks.{wrote_own, got_own}
use Rattle.teb_rules.proofs.lemmas.history.Newest.{wrote-cons, got-cons}
use Rattle.teb_rules.specs.Setup.{Setup}
use Rattle.hold_book.specs.declared.Hold.{Hold}
use Rattle.hold_book.specs.Books.{Held, shown, released}
use Rattle.hold_book.specs.Holders.{HoldsOf}
use Rattle.hold_book.proofs.Holders.{stands_done, stands_gone, released_off, holder_accessed}
use Rattle.teb_rules.proofs.lemmas.names.SameCells.{same_cell-true}

-- the event is an access of x
abbrev pub is_access : Cell → Event → Bool
is_access x e = is_some (put_in x e) || is_some (got_in x e)

-- one of the events is an access of x
abbrev pub accesses : List Event → Cell → Bool
accesses es x = list_any (is_access x) es

-- the holds of the others if b is true, and else all holds
abbrev pub released_if : Bool → ℕ → List Hold → List Hold
released_if b t hs = cond b (released t hs) hs

-- an event that accesses y accesses x if and only if x and y are the same cell
pub access_of : (e : Event) (y : Cell) → ((t : Txn) × (w : Txn) × (v : Option ℤ) × (e ≡ Got t y w v)) ⊎ ((t : Txn) × (v : Option ℤ) × (e ≡ Put t y v)) → (x : Cell) → is_access x e ≡ same_cell y x
access_of e y o x = elim o [ inl q ↦ ap (is_access x) q.3 ∙ some_if (same_cell y x) q.2 | inr q ↦ ap (is_access x) q.2 ∙ or_none (same_cell y x) q.1 ]
  where
    some_if : (b : Bool) (v : Option ℤ) → is_some (cond b (Some v) None) ≡ b
    some_if true v = refl
    some_if false v = refl

    or_none : (b : Bool) (v : Option ℤ) → (is_some (cond b (Some v) None) || false) ≡ b
    or_none true v = refl
    or_none false v = refl

released_twice : (t : ℕ) (hs : List Hold) → released t (released t hs) ≡ released t hs
released_twice t [] = refl
released_twice t (g ∷ hs) = go (eqb g.txn.0 t) refl (released_twice t hs)
  where
    go : (b : Bool) → eqb g.txn.0 t ≡ b → released t (released t hs) ≡ released t hs → released t (cond (not b) (g ∷ released t hs) (released t hs)) ≡ cond (not b) (g ∷ released t hs) (released t hs)
    go true q ih = ih
    go false q ih = rw q (ap (λ (l : List Hold). g ∷ l) ih)

module _ (t : ℕ) where
  -- t is being released from the book a: b is the book so far, and of t's events `all`, those in `left` are still to be visited
  pub record IsReleasing (a b : Held) (all left : List Event) : Type 0 where
    pub shown : (x : Cell) → released_if (accesses left x) t (shown b x) ≡ released_if (accesses all x) t (shown a x)
    pub spare : b.spare ≡ a.spare

  -- after an access of y is visited, t holds y no more
  pub releasing_next : (a b c : Held) (all left rest : List Event) (e : Event) (y : Cell) → IsReleasing a b all left → left ≡ e ∷ rest → ((x : Cell) → is_access x e ≡ same_cell y x)
      → shown c y ≡ released t (shown b y) → ((x : Cell) → same_cell y x ≡ false → shown c x ≡ shown b x) → c.spare ≡ b.spare → IsReleasing a c all rest
  releasing_next a b c all left rest e y h q same here else spare = record {
    shown = λ x. go x (same_cell y x) refl (accesses rest x) ∙ ap (λ (p : Bool). released_if p t (shown b x)) (both x) ∙ h.shown x;
    spare = spare ∙ h.spare;
  }
    where
      both : (x : Cell) → (same_cell y x || accesses rest x) ≡ accesses left x
      both x = sym (ap (λ (es : List Event). accesses es x) q ∙ ap (λ (p : Bool). p || accesses rest x) (same x))

      once : (r : Bool) (hs : List Hold) → released_if r t (released t hs) ≡ released t hs
      once true hs = released_twice t hs
      once false hs = refl

      go : (x : Cell) (s : Bool) → same_cell y x ≡ s → (r : Bool) → released_if r t (shown c x) ≡ released_if (s || r) t (shown b x)
      go x true f r = ap (λ (hs : List Hold). released_if r t hs) ((λ j. shown c (sym (same_cell-true y x f) j)) ∙ here ∙ (λ j. released t (shown b (same_cell-true y x f j)))) ∙ once r (shown b x)
      go x false f r = ap (λ (hs : List Hold). released_if r t hs) (else x f)

-- t's own events say which cells it has accessed
accessed_own : (H : List Event) (t : ℕ) (x : Cell) → accesses (own_events H t) x ≡ (wrote H t x || got H t x)
accessed_own H t x = either (own_events H t) ∙ (λ j. sym (wrote_own H t x) j || sym (got_own H t x) j)
  where
    regroup : (p g ps gs : Bool) → ((p || g) || (ps || gs)) ≡ ((p || ps) || (g || gs))
    regroup true g ps gs = refl
    regroup false true true gs = refl
    regroup false true false gs = refl
    regroup false false ps gs = refl

    either : (es : List Event) → accesses es x ≡ (list_any (λ e. is_some (put_in x e)) es || list_any (λ e. is_some (got_in x e)) es)
    either [] = refl
    either (e ∷ es) = ap (λ (b : Bool). is_access x e || b) (either es) ∙ regroup (is_some (put_in x e)) (is_some (got_in x e)) _ _

-- once no event is left, all holds are released
pub released_own : (H : List Event) (t : ℕ) (a b : Held) (left : List Event) → IsReleasing t a b (own_events H t) left → left ≡ [] → (x : Cell) → shown b x ≡ released_if (wrote H t x || got H t x) t
    (shown a x)
released_own H t a b left h q x =
    ap (λ (es : List Event). released_if (accesses es x) t (shown b x)) (sym q) ∙ h.shown x ∙ ap (λ (p : Bool). released_if p t (shown a x)) (accessed_own H t x)

-- a transaction that holds a cell has accessed it, so releasing the cells that t has accessed releases all its holds
module _ (b b' : Held) (S : Setup) (P : List Event) (n : ℕ) (t : Txn) (stood : HoldsOf b S P n) where
  all_released : (e : Event) → ((x : Cell) → (wrote (e ∷ P) t.0 x || got (e ∷ P) t.0 x) ≡ (wrote P t.0 x || got P t.0 x))
      → ((x : Cell) → shown b' x ≡ released_if (wrote (e ∷ P) t.0 x || got (e ∷ P) t.0 x) t.0 (shown b x)) → (x : Cell) → shown b' x ≡ released t.0 (shown b x)
  all_released e same out x = out x ∙ ap (λ (p : Bool). released_if p t.0 (shown b x)) (same x) ∙ go (wrote P t.0 x || got P t.0 x) refl
    where
      go : (p : Bool) → (wrote P t.0 x || got P t.0 x) ≡ p → released_if p t.0 (shown b x) ≡ released t.0 (shown b x)
      go true q = refl
      go false q = stood.shows x ∙ sym (ap (released t.0) (stood.shows x) ∙ released_off S P n x t.0 (holder_accessed S P n x t.0 q))

  pub released_done : ((x : Cell) → shown b' x ≡ released_if (wrote (Done t ∷ P) t.0 x || got (Done t ∷ P) t.0 x) t.0 (shown b x)) → HoldsOf b' S (Done t ∷ P) n
  released_done out = stands_done b b' S P n t stood (all_released (Done t) (λ x j. wrote-cons (Done t) P t.0 x j || got-cons (Done t) P t.0 x j) out)

  pub released_gone : (c : Cause) → ((x : Cell) → shown b' x ≡ released_if (wrote (Gone t c ∷ P) t.0 x || got (Gone t c ∷ P) t.0 x) t.0 (shown b x)) → HoldsOf b' S (Gone t c ∷ P) n
  released_gone c out = stands_gone b b' S P n t stood c (all_released (Gone t c) (λ x j. wrote-cons (Gone t c) P t.0 x j || got-cons (Gone t c) P t.0 x j) out)
