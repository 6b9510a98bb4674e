-- The readers of a cell that are not aborted, after one more event.
use Rattle.std.proofs.Common.{◌≡◌, ℕ, ℤ, suc, Bool, true, false, not, eqb, ◌&&◌, ◌||◌, List, ◌∷◌, Option, refl, sym, ◌∙◌, ap, inl, inr, eqb-true}
use Rattle.std.proofs.lemmas.Bool.{cases_Bool, and_right}
use Rattle.teb_rules.specs.declared.names.Txn.{Txn}
use Rattle.teb_rules.specs.declared.names.Session.{Session}
use Rattle.teb_rules.specs.declared.names.Kind.{Kind}
use Rattle.teb_rules.specs.declared.names.Cause.{Cause}
use Rattle.teb_rules.specs.declared.names.Cell.{Cell}
use Rattle.teb_rules.specs.names.Cells.{same_cell}
use Rattle.teb_rules.specs.declared.history.Event.{Event}
use Rattle.teb_rules.specs.declared.history.Event.TheVariants.{Began, Got, Gone}
use Rattle.teb_rules.specs.history.Phases.{is_began, is_gone, aborted, unfinished, begun_count}
use Rattle.teb_rules.specs.history.Accesses.{is_got, got}
use Rattle.teb_rules.proofs.lemmas.history.Newest.{got-cons}
use Rattle.teb_rules.specs.Setup.{Setup}
use Rattle.teb_rules.specs.Tree.{on}
use Rattle.teb_rules.proofs.lemmas.laws.Answers.{aborted_kept}
use Rattle.batch_book.proofs.Numbered.{aborted_step, unfinished_parts, on_kept}
use Rattle.phase_api.specs.FactsView.{IsOrderly}
use Rattle.access_conflicts.proofs.Orderly.{new_accesses_none}
use Rattle.snapshot_node.specs.Standing.{has_read_in}

got_kept : (e : Event) (P : List Event) (u : ℕ) (x : Cell) → is_got u x e ≡ false → got (e ∷ P) u x ≡ got P u x
got_kept e P u x h = got-cons e P u x ∙ ap (λ (b : Bool). b || got P u x) h

-- an event that is none of u's Began, Got and Gone changes nothing for u
pub still_read : (S : Setup) (P : List Event) (n : ℕ) (e : Event) (x : Cell) (u : ℕ) → is_began u e ≡ false → is_got u x e ≡ false → is_gone u e ≡ false
    → has_read_in S (e ∷ P) n x u ≡ has_read_in S P n x u
still_read S P n e x u b g a = (λ j. on_kept S e P n u b j && not (aborted_kept e P u a j) && got_kept e P u x g j)

-- t begins; it has read nothing yet
pub began_read : (S : Setup) (P : List Event) (n : ℕ) (t : Txn) (s : Session) (k : Kind) (i : ℕ) → IsOrderly S P → t.0 ≡ suc (begun_count P) → (x : Cell) (u : ℕ)
    → has_read_in S (Began t s k i ∷ P) n x u ≡ has_read_in S P n x u
began_read S P n t s k i o new x u = elim (cases_Bool (eqb t.0 u)) [
  | inl q ↦ and_right _ _ (got_kept (Began t s k i) P u x refl ∙ none q) ∙ sym (and_right _ _ (none q))
  | inr q ↦ still_read S P n (Began t s k i) x u q refl refl
]
  where
    none : eqb t.0 u ≡ true → got P u x ≡ false
    none q = ap (λ (v : ℕ). got P v x) (sym (eqb-true t.0 u q)) ∙ (new_accesses_none S P t.0 x o new).1

-- t, which is unfinished, reads y
module _ (S : Setup) (P : List Event) (n : ℕ) (t : Txn) (y : Cell) (w : Txn) (v : Option ℤ) (x : Cell) (u : ℕ) where
  steps : has_read_in S (Got t y w v ∷ P) n x u ≡ (on S P n u && not (aborted P u) && ((eqb t.0 u && same_cell y x) || got P u x))
  steps = (λ j. on_kept S (Got t y w v) P n u refl j && not (aborted_kept (Got t y w v) P u refl j) && got-cons (Got t y w v) P u x j)

  joins : (s r : Bool) → (s || r) ≡ (r || (s && true))
  joins true true = refl
  joins true false = refl
  joins false true = refl
  joins false false = refl

  apart : (a s : Bool) → a ≡ (a || (s && false))
  apart true s = refl
  apart false true = refl
  apart false false = refl

  pub got_read : unfinished P t.0 ≡ true → on S P n t.0 ≡ true → has_read_in S (Got t y w v ∷ P) n x u ≡ (has_read_in S P n x u || (same_cell y x && eqb t.0 u))
  got_read run o = steps ∙ go (eqb t.0 u) refl
    where
      go : (e : Bool) → eqb t.0 u ≡ e → (on S P n u && not (aborted P u) && ((e && same_cell y x) || got P u x)) ≡ (has_read_in S P n x u || (same_cell y x && e))
      go true q =
          let z = eqb-true t.0 u q in
          let h : on S P n u ≡ true = ap (λ (w : ℕ). on S P n w) (sym z) ∙ o in
          let f : aborted P u ≡ false = ap (λ (w : ℕ). aborted P w) (sym z) ∙ (unfinished_parts P t.0 run).2 in
          (λ j. (h j && not (f j)) && ((true && same_cell y x) || got P u x)) ∙ joins (same_cell y x) (got P u x) ∙ (λ j. ((sym h j && not (sym f j)) && got P u x) || (same_cell y x && true))
      go false q = apart (has_read_in S P n x u) (same_cell y x)

  -- n is not on t's path
  pub got_elsewhere : on S P n t.0 ≡ false → has_read_in S (Got t y w v ∷ P) n x u ≡ has_read_in S P n x u
  got_elsewhere o = steps ∙ go (eqb t.0 u) refl
    where
      go : (e : Bool) → eqb t.0 u ≡ e → (on S P n u && not (aborted P u) && ((e && same_cell y x) || got P u x)) ≡ has_read_in S P n x u
      go true q =
          let h : on S P n u ≡ false = ap (λ (w : ℕ). on S P n w) (sym (eqb-true t.0 u q)) ∙ o in
          (λ j. (h j && not (aborted P u)) && ((true && same_cell y x) || got P u x)) ∙ (λ j. (sym h j && not (aborted P u)) && got P u x)
      go false q = refl

-- t aborts and no longer counts as a reader
pub gone_read : (S : Setup) (P : List Event) (n : ℕ) (t : Txn) (c : Cause) (x : Cell) (u : ℕ) → (has_read_in S P n x u && not ((on S P n t.0 && got P t.0 x) && eqb t.0 u)) ≡ has_read_in S
    (Gone t c ∷ P) n x u
gone_read S P n t c x u = go (eqb t.0 u) refl
  where
    whole : has_read_in S (Gone t c ∷ P) n x u ≡ (on S P n u && not (eqb t.0 u || aborted P u) && got P u x)
    whole = (λ j. on_kept S (Gone t c) P n u refl j && not (aborted_step (Gone t c) P u j) && got_kept (Gone t c) P u x refl j)

    out : (o a g : Bool) → ((o && a && g) && not ((o && g) && true)) ≡ (o && false && g)
    out true true true = refl
    out true true false = refl
    out true false g = refl
    out false a g = refl

    stays : (a g : Bool) → (a && not (g && false)) ≡ a
    stays true true = refl
    stays true false = refl
    stays false g = refl

    go : (z : Bool) → eqb t.0 u ≡ z → (has_read_in S P n x u && not ((on S P n t.0 && got P t.0 x) && z)) ≡ has_read_in S (Gone t c ∷ P) n x u
    go true q =
        (λ j. has_read_in S P n x u && not ((on S P n (eqb-true t.0 u q j) && got P (eqb-true t.0 u q j) x) && true)) ∙ out (on S P n u) (not (aborted P u)) (got P u x)
        ∙ sym (whole ∙ (λ j. on S P n u && not (q j || aborted P u) && got P u x))
    go false q = stays (has_read_in S P n x u) (on S P n t.0 && got P t.0 x) ∙ sym (whole ∙ (λ j. on S P n u && not (q j || aborted P u) && got P u x))
