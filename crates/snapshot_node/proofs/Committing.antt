-- The committed writers of a cell, and what the book's committed writers show, after one more event.
use Rattle.std.proofs.Common.{◌≡◌, ℕ, ℤ, ◌+◌, ◌≤◌, Bool, true, false, cond, eqb, ◌&&◌, ◌||◌, List, ◌∷◌, Option, refl, sym, ◌∙◌, ap, arith, inl, inr, eqb-true}
use Rattle.std.proofs.lemmas.Bool.{cases_Bool, and_right}
use Rattle.teb_rules.specs.declared.names.Cell.{Cell}
use Rattle.teb_rules.specs.declared.names.Txn.{Txn}
use Rattle.teb_rules.specs.declared.names.Session.{Session}
use Rattle.teb_rules.specs.declared.names.Kind.{Kind}
use Rattle.teb_rules.specs.declared.names.Cause.{Cause}
use Rattle.teb_rules.specs.names.Cells.{same_cell}
use Rattle.teb_rules.proofs.lemmas.names.Bools.{and_true}
use Rattle.teb_rules.specs.declared.history.Event.{Event}
use Rattle.teb_rules.specs.declared.history.Event.TheVariants.{Began, Got, Put, Ready, Done, Gone, Told}
use Rattle.teb_rules.specs.history.Phases.{is_began, is_done, committed, unfinished}
use Rattle.teb_rules.specs.history.Accesses.{is_put, wrote}
use Rattle.teb_rules.specs.Setup.{Setup}
use Rattle.teb_rules.specs.Tree.{on}
use Rattle.batch_book.proofs.Numbered.{committed_step, unfinished_parts, on_kept, unfinished_kept}
use Rattle.phase_api.specs.FactsView.{IsOrderly}
use Rattle.phase_api.specs.Calls.{MayNote}
use Rattle.access_conflicts.proofs.Orderly.{new_accesses_none}
use Rattle.access_book.specs.Touched.{any_puts, puts_among}
use Rattle.access_book.specs.Books.{Shown, committed_of, touched_of, is_among, is_accessor, AreKept}
use Rattle.snapshot_node.specs.Standing.{has_committed_in}
use Rattle.snapshot_node.specs.Committed.{CommittedStand, pending_in, puts_of, is_pending}
use Rattle.snapshot_node.proofs.Writing.{committed_kept, wrote_kept}
use Rattle.snapshot_node.proofs.Pending.{pending_stays, pending_more, pending_began, pending_ended, ends_done, ends_gone}
use Rattle.snapshot_node.proofs.Touching.{touched_at, puts_at, count_at}

-- an event that is none of u's Began, Put and Done changes nothing for u
still_committed : (S : Setup) (P : List Event) (n : ℕ) (e : Event) (x : Cell) (u : ℕ) → is_began u e ≡ false → is_put u x e ≡ false → is_done u e ≡ false
    → has_committed_in S (e ∷ P) n x u ≡ has_committed_in S P n x u
still_committed S P n e x u b p d = λ j. on_kept S e P n u b j && committed_kept e P u d j && wrote_kept e P u x p j

-- t begins; it has put nothing yet
began_committed : (S : Setup) (P : List Event) (n : ℕ) (t : Txn) (s : Session) (k : Kind) (i : ℕ) → ((x : Cell) → wrote P t.0 x ≡ false) → (x : Cell) (u : ℕ)
    → has_committed_in S (Began t s k i ∷ P) n x u ≡ has_committed_in S P n x u
began_committed S P n t s k i new x u = elim (cases_Bool (eqb t.0 u)) [
  | inl q ↦ and_right _ _ (wrote_kept (Began t s k i) P u x refl ∙ none q) ∙ sym (and_right _ _ (none q))
  | inr q ↦ still_committed S P n (Began t s k i) x u q refl refl
]
  where
    none : eqb t.0 u ≡ true → wrote P u x ≡ false
    none q = ap (λ (v : ℕ). wrote P v x) (sym (eqb-true t.0 u q)) ∙ new x

uncommitted : (S : Setup) (H : List Event) (n : ℕ) (x : Cell) (u : ℕ) → committed H u ≡ false → has_committed_in S H n x u ≡ false
uncommitted S H n x u h = ap (λ (b : Bool). b && wrote H u x) (and_right (on S H n u) (committed H u) h)

-- t, which is unfinished, puts y; the committed writers stay
put_committed : (S : Setup) (P : List Event) (n : ℕ) (t : Txn) (y : Cell) (v : Option ℤ) (x : Cell) (u : ℕ) → unfinished P t.0 ≡ true
    → has_committed_in S (Put t y v ∷ P) n x u ≡ has_committed_in S P n x u
put_committed S P n t y v x u run = elim (cases_Bool (eqb t.0 u)) [
  | inl q ↦ uncommitted S (Put t y v ∷ P) n x u (committed_kept (Put t y v) P u refl ∙ still q) ∙ sym (uncommitted S P n x u (still q))
  | inr q ↦ still_committed S P n (Put t y v) x u refl (ap (λ (b : Bool). b && same_cell y x) q) refl
]
  where
    still : eqb t.0 u ≡ true → committed P u ≡ false
    still q = ap (committed P) (sym (eqb-true t.0 u q)) ∙ (unfinished_parts P t.0 run).1

-- t commits
done_committed : (S : Setup) (P : List Event) (n : ℕ) (t : Txn) (x : Cell) (u : ℕ) → (has_committed_in S P n x u || (on S P n t.0 && wrote P t.0 x && eqb t.0 u)) ≡ has_committed_in S
    (Done t ∷ P) n x u
done_committed S P n t x u = go (eqb t.0 u) refl ∙ sym (λ j. on_kept S (Done t) P n u refl j && committed_step (Done t) P u j && wrote_kept (Done t) P u x refl j)
  where
    joins : (o c w : Bool) → (((o && c) && w) || ((o && w) && true)) ≡ ((o && (true || c)) && w)
    joins true true true = refl
    joins true true false = refl
    joins true false true = refl
    joins true false false = refl
    joins false c w = refl

    apart : (h a : Bool) → (h || (a && false)) ≡ h
    apart true a = refl
    apart false true = refl
    apart false false = refl

    go : (q : Bool) → eqb t.0 u ≡ q → (has_committed_in S P n x u || (on S P n t.0 && wrote P t.0 x && q)) ≡ (on S P n u && (q || committed P u) && wrote P u x)
    go true q = let e = eqb-true t.0 u q in (λ j. has_committed_in S P n x u || (on S P n (e j) && wrote P (e j) x && true)) ∙ joins (on S P n u) (committed P u) (wrote P u x)
    go false q = apart (has_committed_in S P n x u) (on S P n t.0 && wrote P t.0 x)

module _ (S : Setup) (P : List Event) (n : ℕ) (a : Shown) (old : CommittedStand n a S P) where
  -- an event that changes neither the committed writers nor the pending puts
  stays : (a' : Shown) (e : Event) → AreKept (committed_of a) (committed_of a') → a'.pending ≡ a.pending → ((x : Cell) (u : ℕ) → has_committed_in S (e ∷ P) n x u ≡ has_committed_in S P n x u)
      → pending_in S (e ∷ P) n ≡ pending_in S P n → CommittedStand n a' S (e ∷ P)
  stays a' e k q h p = record { put = λ x u. ap (is_among u) (k x) ∙ old.put x u ∙ sym (h x u); pending = q ∙ old.pending ∙ sym p }

  pub committed_began : (a' : Shown) → AreKept (committed_of a) (committed_of a') → a'.pending ≡ a.pending → (t : Txn) (s : Session) (k : Kind) (i : ℕ) → IsOrderly S P → MayNote S P n (Began t s k i)
      → CommittedStand n a' S (Began t s k i ∷ P)
  committed_began a' d q t s k i o m =
      let new : (x : Cell) → wrote P t.0 x ≡ false = λ x. (new_accesses_none S P t.0 x o m.0).0 in
      stays a' (Began t s k i) d q (began_committed S P n t s k i new) (pending_began S P n t s k i new)

  pub committed_got : (a' : Shown) → AreKept (committed_of a) (committed_of a') → a'.pending ≡ a.pending → (t : Txn) (y : Cell) (w : Txn) (v : Option ℤ) → CommittedStand n a' S (Got t y w v ∷ P)
  committed_got a' d q t y w v = stays a' _ d q (λ x u. still_committed S P n (Got t y w v) x u refl refl refl) (pending_stays S P n (Got t y w v) (λ u. refl) (λ u. refl) (λ u. refl) refl)

  pub committed_ready : (t : Txn) → CommittedStand n a S (Ready t ∷ P)
  committed_ready t = stays a _ (λ x. refl) refl (λ x u. still_committed S P n (Ready t) x u refl refl refl) (pending_stays S P n (Ready t) (λ u. refl) (λ u. refl) (λ u. refl) refl)

  pub committed_told : (t : Txn) → CommittedStand n a S (Told t ∷ P)
  committed_told t = stays a _ (λ x. refl) refl (λ x u. still_committed S P n (Told t) x u refl refl refl) (pending_stays S P n (Told t) (λ u. refl) (λ u. refl) (λ u. refl) refl)

  module _ (t : Txn) (y : Cell) (v : Option ℤ) (run : unfinished P t.0 ≡ true) where
    waits : (o : Bool) → on S P n t.0 ≡ o → is_pending S (Put t y v ∷ P) n (Put t y v) ≡ o
    waits o q = (λ j. (on_kept S (Put t y v) P n t.0 refl ∙ q) j && (unfinished_kept (Put t y v) P t.0 refl refl refl ∙ run) j) ∙ and_true o

    pub committed_put : (a' : Shown) → on S P n t.0 ≡ true → AreKept (committed_of a) (committed_of a') → a'.pending ≡ a.pending + 1 → CommittedStand n a' S (Put t y v ∷ P)
    committed_put a' o d q = record {
      put = λ x u. ap (is_among u) (d x) ∙ old.put x u ∙ sym (put_committed S P n t y v x u run);
      pending = q ∙ ap {B = ℕ} (λ (k : ℕ). k + 1) old.pending ∙ sym (pending_more S P n (Put t y v) (λ u. refl) (λ u. refl) (λ u. refl) (waits true o));
    }

    pub committed_put_off : on S P n t.0 ≡ false → CommittedStand n a S (Put t y v ∷ P)
    committed_put_off o = stays a _ (λ x. refl) refl (λ x u. put_committed S P n t y v x u run) (pending_stays S P n (Put t y v) (λ u. refl) (λ u. refl) (λ u. refl) (waits false o))

  -- t ends, and the book shows its accesses
  module _ (t : Txn) (run : unfinished P t.0 ≡ true) (z : touched_of a t.0 ≡ touched_at S P n t.0) where
    counted : puts_among (touched_of a t.0) ≡ cond (on S P n t.0) (puts_of P t.0) 0
    counted = ap puts_among z ∙ count_at S P n t.0

    done_fewer : pending_in S P n ≡ pending_in S (Done t ∷ P) n + cond (on S P n t.0) (puts_of P t.0) 0
    done_fewer = pending_ended S P n (Done t) t.0 (λ u. refl) refl run (ends_done P t)

    pub ended_puts : puts_among (touched_of a t.0) ≤ a.pending
    ended_puts = omega (arith, old.pending, done_fewer, counted)

    pub committed_done : (a' : Shown) → ((x : Cell) (u : ℕ) → is_accessor (committed_of a') x u ≡ (is_accessor (committed_of a) x u || (any_puts x (touched_of a t.0) && eqb t.0 u)))
        → a'.pending + puts_among (touched_of a t.0) ≡ a.pending → CommittedStand n a' S (Done t ∷ P)
    committed_done a' w p = record {
      put = λ x u. w x u ∙ (λ j. old.put x u j || ((ap (any_puts x) z ∙ puts_at S P n t.0 x) j && eqb t.0 u)) ∙ done_committed S P n t x u;
      pending = omega (arith, p, old.pending, done_fewer, counted);
    }

    pub committed_gone : (a' : Shown) (c : Cause) → AreKept (committed_of a) (committed_of a') → a'.pending + puts_among (touched_of a t.0) ≡ a.pending → CommittedStand n a' S (Gone t c ∷ P)
    committed_gone a' c d p = record {
      put = λ x u. ap (is_among u) (d x) ∙ old.put x u ∙ sym (still_committed S P n (Gone t c) x u refl refl refl);
      pending = (let fewer = pending_ended S P n (Gone t c) t.0 (λ u. refl) refl run (ends_gone P t c) in omega (arith, p, old.pending, fewer, counted));
    }
