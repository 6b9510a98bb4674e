-- The writers of a cell that are not aborted, after one more event.
use Rattle.std.proofs.Common.{◌≡◌, ℕ, ℤ, suc, Bool, true, false, not, eqb, ◌&&◌, ◌||◌, List, ◌∷◌, Option, refl, sym, ◌∙◌, ap, inl, inr, eqb-true}
use Rattle.std.proofs.lemmas.Bool.{cases_Bool, and_right, or_left, or_right}
use Rattle.teb_rules.specs.declared.names.Txn.{Txn}
use Rattle.teb_rules.specs.declared.names.Session.{Session}
use Rattle.teb_rules.specs.declared.names.Kind.{Kind}
use Rattle.teb_rules.specs.declared.names.Cause.{Cause}
use Rattle.teb_rules.specs.declared.names.Cell.{Cell}
use Rattle.teb_rules.specs.names.Cells.{same_cell}
use Rattle.teb_rules.proofs.lemmas.names.Bools.{and_true}
use Rattle.teb_rules.specs.declared.history.Event.{Event}
use Rattle.teb_rules.specs.declared.history.Event.TheVariants.{Began, Put, Done, Gone}
use Rattle.teb_rules.specs.history.Phases.{is_began, is_done, is_gone, begun, committed, aborted, unfinished, begun_count}
use Rattle.teb_rules.specs.history.Accesses.{is_put, wrote}
use Rattle.teb_rules.proofs.lemmas.history.Newest.{wrote-cons}
use Rattle.teb_rules.specs.Setup.{Setup}
use Rattle.teb_rules.specs.Tree.{on}
use Rattle.batch_book.proofs.Numbered.{committed_step, unfinished_step, unfinished_parts, unfinished_kept, on_kept}
use Rattle.phase_api.specs.FactsView.{IsOrderly}
use Rattle.access_conflicts.proofs.Orderly.{new_accesses_none}
use Rattle.snapshot_node.specs.Standing.{counts, has_put_in}

pub wrote_kept : (e : Event) (P : List Event) (u : ℕ) (x : Cell) → is_put u x e ≡ false → wrote (e ∷ P) u x ≡ wrote P u x
wrote_kept e P u x h = wrote-cons e P u x ∙ ap (λ (b : Bool). b || wrote P u x) h

pub committed_kept : (e : Event) (P : List Event) (u : ℕ) → is_done u e ≡ false → committed (e ∷ P) u ≡ committed P u
committed_kept e P u h = committed_step e P u ∙ ap (λ (b : Bool). b || committed P u) h

-- an event that is none of u's Began, Done and Gone does not change whether u counts
counts_kept : (e : Event) (P : List Event) (u : ℕ) → is_began u e ≡ false → is_done u e ≡ false → is_gone u e ≡ false → counts (e ∷ P) u ≡ counts P u
counts_kept e P u b d g = (λ j. unfinished_kept e P u b d g j || committed_kept e P u d j)

-- t, which is unfinished, commits, and still counts
counts_done : (P : List Event) (t : Txn) (u : ℕ) → unfinished P t.0 ≡ true → counts (Done t ∷ P) u ≡ counts P u
counts_done P t u run = elim (cases_Bool (eqb t.0 u)) [
  | inl q ↦ or_right (unfinished (Done t ∷ P) u) _ (committed_step (Done t) P u ∙ or_left (eqb t.0 u) _ q) ∙ sym (or_left (unfinished P u) _ (ap (unfinished P) (sym (eqb-true t.0 u q)) ∙ run))
  | inr q ↦ counts_kept (Done t) P u refl q refl
]

-- t, which is unfinished, aborts, and no longer counts
counts_gone : (P : List Event) (t : Txn) (c : Cause) (u : ℕ) → unfinished P t.0 ≡ true → counts (Gone t c ∷ P) u ≡ (counts P u && not (eqb t.0 u))
counts_gone P t c u run = elim (cases_Bool (eqb t.0 u)) [
  | inl q ↦ (λ j. ended q j || over q j) ∙ sym (and_right (counts P u) _ (ap not q))
  | inr q ↦ counts_kept (Gone t c) P u refl refl q ∙ sym (and_true (counts P u)) ∙ ap (λ (z : Bool). counts P u && not z) (sym q)
]
  where
    off : (a b : Bool) → (a && not (true || b)) ≡ false
    off true b = refl
    off false b = refl

    ended : eqb t.0 u ≡ true → unfinished (Gone t c ∷ P) u ≡ false
    ended q = unfinished_step (Gone t c) P u ∙ ap (λ (z : Bool). (begun P u && not (committed P u)) && not (z || aborted P u)) q ∙ off (begun P u && not (committed P u)) (aborted P u)

    over : eqb t.0 u ≡ true → committed (Gone t c ∷ P) u ≡ false
    over q = committed_kept (Gone t c) P u refl ∙ ap (committed P) (sym (eqb-true t.0 u q)) ∙ (unfinished_parts P t.0 run).1

-- an event that is none of u's Began, Put, Done and Gone changes nothing for u
pub still_put : (S : Setup) (P : List Event) (n : ℕ) (e : Event) (x : Cell) (u : ℕ) → is_began u e ≡ false → is_put u x e ≡ false → is_done u e ≡ false → is_gone u e ≡ false
    → has_put_in S (e ∷ P) n x u ≡ has_put_in S P n x u
still_put S P n e x u b p d g = (λ j. on_kept S e P n u b j && counts_kept e P u b d g j && wrote_kept e P u x p j)

pub done_put : (S : Setup) (P : List Event) (n : ℕ) (t : Txn) (x : Cell) (u : ℕ) → unfinished P t.0 ≡ true → has_put_in S (Done t ∷ P) n x u ≡ has_put_in S P n x u
done_put S P n t x u run = (λ j. on_kept S (Done t) P n u refl j && counts_done P t u run j && wrote_kept (Done t) P u x refl j)

-- t begins; it has put nothing yet
pub began_put : (S : Setup) (P : List Event) (n : ℕ) (t : Txn) (s : Session) (k : Kind) (i : ℕ) → IsOrderly S P → t.0 ≡ suc (begun_count P) → (x : Cell) (u : ℕ)
    → has_put_in S (Began t s k i ∷ P) n x u ≡ has_put_in S P n x u
began_put S P n t s k i o new x u = elim (cases_Bool (eqb t.0 u)) [
  | inl q ↦ and_right _ _ (wrote_kept (Began t s k i) P u x refl ∙ none q) ∙ sym (and_right _ _ (none q))
  | inr q ↦ still_put S P n (Began t s k i) x u q refl refl refl
]
  where
    none : eqb t.0 u ≡ true → wrote P u x ≡ false
    none q = ap (λ (v : ℕ). wrote P v x) (sym (eqb-true t.0 u q)) ∙ (new_accesses_none S P t.0 x o new).0

-- t, which is unfinished, puts y
module _ (S : Setup) (P : List Event) (n : ℕ) (t : Txn) (y : Cell) (v : Option ℤ) (x : Cell) (u : ℕ) where
  steps : has_put_in S (Put t y v ∷ P) n x u ≡ (on S P n u && counts P u && ((eqb t.0 u && same_cell y x) || wrote P u x))
  steps = (λ j. on_kept S (Put t y v) P n u refl j && counts_kept (Put t y v) P u refl refl refl j && wrote-cons (Put t y v) P u x j)

  joins : (s w : Bool) → (s || w) ≡ (w || (s && true))
  joins true true = refl
  joins true false = refl
  joins false true = refl
  joins false false = refl

  apart : (a s : Bool) → a ≡ (a || (s && false))
  apart true s = refl
  apart false true = refl
  apart false false = refl

  pub put_put : unfinished P t.0 ≡ true → on S P n t.0 ≡ true → has_put_in S (Put t y v ∷ P) n x u ≡ (has_put_in S P n x u || (same_cell y x && eqb t.0 u))
  put_put run o = steps ∙ go (eqb t.0 u) refl
    where
      go : (e : Bool) → eqb t.0 u ≡ e → (on S P n u && counts P u && ((e && same_cell y x) || wrote P u x)) ≡ (has_put_in S P n x u || (same_cell y x && e))
      go true q =
          let z = eqb-true t.0 u q in
          let h : on S P n u ≡ true = ap (λ (w : ℕ). on S P n w) (sym z) ∙ o in
          let f : counts P u ≡ true = or_left (unfinished P u) _ (ap (unfinished P) (sym z) ∙ run) in
          (λ j. (h j && f j) && ((true && same_cell y x) || wrote P u x)) ∙ joins (same_cell y x) (wrote P u x) ∙ (λ j. ((sym h j && sym f j) && wrote P u x) || (same_cell y x && true))
      go false q = apart (has_put_in S P n x u) (same_cell y x)

  -- n is not on t's path
  pub put_elsewhere : on S P n t.0 ≡ false → has_put_in S (Put t y v ∷ P) n x u ≡ has_put_in S P n x u
  put_elsewhere o = steps ∙ go (eqb t.0 u) refl
    where
      go : (e : Bool) → eqb t.0 u ≡ e → (on S P n u && counts P u && ((e && same_cell y x) || wrote P u x)) ≡ has_put_in S P n x u
      go true q =
          let h : on S P n u ≡ false = ap (λ (w : ℕ). on S P n w) (sym (eqb-true t.0 u q)) ∙ o in
          (λ j. (h j && counts P u) && ((true && same_cell y x) || wrote P u x)) ∙ (λ j. (sym h j && counts P u) && wrote P u x)
      go false q = refl

-- t, which is unfinished, aborts and no longer counts as a writer
pub gone_put : (S : Setup) (P : List Event) (n : ℕ) (t : Txn) (c : Cause) (x : Cell) (u : ℕ) → unfinished P t.0 ≡ true
    → (has_put_in S P n x u && not ((on S P n t.0 && wrote P t.0 x) && eqb t.0 u)) ≡ has_put_in S (Gone t c ∷ P) n x u
gone_put S P n t c x u run = go (eqb t.0 u) refl
  where
    whole : has_put_in S (Gone t c ∷ P) n x u ≡ (on S P n u && (counts P u && not (eqb t.0 u)) && wrote P u x)
    whole = (λ j. on_kept S (Gone t c) P n u refl j && counts_gone P t c u run j && wrote_kept (Gone t c) P u x refl j)

    out : (o a w : Bool) → ((o && a && w) && not ((o && w) && true)) ≡ (o && (a && false) && w)
    out true true true = refl
    out true true false = refl
    out true false w = refl
    out false a w = refl

    stays : (o a w z : Bool) → ((o && a && w) && not (z && false)) ≡ (o && (a && true) && w)
    stays true true true true = refl
    stays true true true false = refl
    stays true true false z = refl
    stays true false w z = refl
    stays false a w z = refl

    go : (z : Bool) → eqb t.0 u ≡ z → (has_put_in S P n x u && not ((on S P n t.0 && wrote P t.0 x) && z)) ≡ has_put_in S (Gone t c ∷ P) n x u
    go true q =
        (λ j. has_put_in S P n x u && not ((on S P n (eqb-true t.0 u q j) && wrote P (eqb-true t.0 u q j) x) && true)) ∙ out (on S P n u) (counts P u) (wrote P u x)
        ∙ sym (whole ∙ (λ j. on S P n u && (counts P u && not (q j)) && wrote P u x))
    go false q = stays (on S P n u) (counts P u) (wrote P u x) (on S P n t.0 && wrote P t.0 x) ∙ sym (whole ∙ (λ j. on S P n u && (counts P u && not (q j)) && wrote P u x))
