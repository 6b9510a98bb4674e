-- The number of pending Puts after one more event.
use Rattle.std.proofs.Common.{◌≡◌, ℕ, ◌+◌, Bool, true, false, cond, not, eqb, ◌&&◌, ◌||◌, List, [], ◌∷◌, filter, refl, sym, ◌∙◌, ap, arith, eqb-true, eq-eqb, ne_eqb}
use Rattle.std.specs.List.{count_by}
use Rattle.std.proofs.lemmas.Bool.{and_from, both_ways, or_parts, false_from_ne_true}
use Rattle.std.proofs.lemmas.List.Sums.{sum_by-cons}
use Rattle.teb_rules.specs.declared.names.Cell.{Cell}
use Rattle.teb_rules.specs.declared.names.Txn.{Txn}
use Rattle.teb_rules.specs.declared.names.Session.{Session}
use Rattle.teb_rules.specs.declared.names.Kind.{Kind}
use Rattle.teb_rules.specs.declared.names.Cause.{Cause}
use Rattle.teb_rules.specs.names.Cells.{same_cell}
use Rattle.teb_rules.specs.declared.history.Event.{Event}
use Rattle.teb_rules.specs.declared.history.Event.TheVariants.{Began, Put, Done, Gone}
use Rattle.teb_rules.specs.history.Phases.{is_began, is_done, is_gone, begun, committed, aborted, unfinished}
use Rattle.teb_rules.specs.history.Accesses.{is_put, wrote}
use Rattle.teb_rules.specs.history.OwnEvents.{is_of, own_events}
use Rattle.teb_rules.proofs.lemmas.history.Newest.{wrote-cons}
use Rattle.teb_rules.specs.Setup.{Setup}
use Rattle.teb_rules.specs.Tree.{on}
use Rattle.batch_book.proofs.Numbered.{unfinished_is, unfinished_step, unfinished_kept, on_kept}
use Rattle.sorted_multimap.proofs.TakenMatches.{count_cons}
use Rattle.snapshot_node.specs.Committed.{is_any_put, puts_of, is_pending, pending_in}
use Rattle.version_chain.proofs.Cells.{same_cell-itself}

pub count_step : {A : Type 0} (p : A → Bool) (a : A) (xs : List A) → count_by p (a ∷ xs) ≡ cond (p a) 1 0 + count_by p xs
count_step p a xs = sum_by-cons (λ b. cond (p b) 1 0) a xs

-- if each event that has p has exactly one of q and r, the counts add up
count_both : (p q r : Event → Bool) → ((e : Event) → cond (p e) 1 0 ≡ cond (q e) 1 0 + cond (r e) 1 0) → (P : List Event) → count_by p P ≡ count_by q P + count_by r P
count_both p q r h [] = refl
count_both p q r h (e ∷ P) = omega (arith, count_step p e P, count_step q e P, count_step r e P, h e, count_both p q r h P)

count_none : (P : List Event) → count_by (λ (e : Event). false) P ≡ 0
count_none [] = refl
count_none (e ∷ P) = omega (arith, count_step (λ d. false) e P, count_none P)

count_own : (t : ℕ) (P : List Event) → count_by (λ e. is_of t e && is_any_put e) P ≡ puts_of P t
unfolding own_events
count_own t [] = refl
count_own t (e ∷ P) = omega (arith, count_step (λ e. is_of t e && is_any_put e) e P, count_own t P, count_cons is_any_put (is_of t e) e (filter (is_of t) P))

module _ (S : Setup) (P : List Event) (n : ℕ) where
  -- an event that begins or finishes no transaction
  module _ (e : Event) (b : (u : ℕ) → is_began u e ≡ false) (d : (u : ℕ) → is_done u e ≡ false) (g : (u : ℕ) → is_gone u e ≡ false) where
    passed : pending_in S (e ∷ P) n ≡ cond (is_pending S (e ∷ P) n e) 1 0 + pending_in S P n
    passed = count_step (is_pending S (e ∷ P) n) e P ∙ (λ j. cond (is_pending S (e ∷ P) n e) 1 0 + count_by (λ x. same x j) P)
      where
        same : (x : Event) → is_pending S (e ∷ P) n x ≡ is_pending S P n x
        same (Put u y v) = λ j. on_kept S e P n u.0 (b u.0) j && unfinished_kept e P u.0 (b u.0) (d u.0) (g u.0) j
        same _ = refl

    pub pending_stays : is_pending S (e ∷ P) n e ≡ false → pending_in S (e ∷ P) n ≡ pending_in S P n
    pending_stays h = omega (arith, passed, ap {B = ℕ} (λ (z : Bool). cond z 1 0) h)

    pub pending_more : is_pending S (e ∷ P) n e ≡ true → pending_in S (e ∷ P) n ≡ pending_in S P n + 1
    pending_more h = omega (arith, passed, ap {B = ℕ} (λ (z : Bool). cond z 1 0) h)

  -- t begins; it has put nothing yet
  pub pending_began : (t : Txn) (s : Session) (k : Kind) (i : ℕ) → ((x : Cell) → wrote P t.0 x ≡ false) → pending_in S (Began t s k i ∷ P) n ≡ pending_in S P n
  pending_began t s k i none = omega (arith, count_step (is_pending S (e ∷ P) n) e P, along P none)
    where
      e : Event
      e = Began t s k i

      other : (u : Txn) (y : Cell) → (eqb u.0 t.0 && same_cell y y) ≡ false → eqb t.0 u.0 ≡ false
      other u y h = false_from_ne_true _ (λ q. both_ways _ h (and_from _ _ (eq-eqb u.0 t.0 (sym (eqb-true t.0 u.0 q))) (same_cell-itself y)))

      same : (x : Event) → ((y : Cell) → is_put t.0 y x ≡ false) → is_pending S (e ∷ P) n x ≡ is_pending S P n x
      same (Put u y v) h = let q = other u y (h y) in λ j. on_kept S e P n u.0 q j && unfinished_kept e P u.0 q refl refl j
      same _ h = refl

      along : (Q : List Event) → ((x : Cell) → wrote Q t.0 x ≡ false) → count_by (is_pending S (e ∷ P) n) Q ≡ count_by (is_pending S P n) Q
      along [] h = refl
      along (x ∷ Q) h =
          let parts = λ (y : Cell). or_parts (is_put t.0 y x) (wrote Q t.0 y) (sym (wrote-cons x Q t.0 y) ∙ h y) in
          count_step (is_pending S (e ∷ P) n) x Q ∙ (λ j. cond (same x (λ y. (parts y).0) j) 1 0 + along Q (λ y. (parts y).1) j) ∙ sym (count_step (is_pending S P n) x Q)

  -- t, which is unfinished, ends by an event
  module _ (e : Event) (t : ℕ) (b : (u : ℕ) → is_began u e ≡ false) (none : is_pending S (e ∷ P) n e ≡ false) (run : unfinished P t ≡ true)
      (ends : (u : ℕ) → unfinished (e ∷ P) u ≡ (unfinished P u && not (eqb t u))) where
    nothing : (o r : Bool) → 0 ≡ 0 + cond (o && (r && false)) 1 0
    nothing true true = refl
    nothing true false = refl
    nothing false r = refl

    gone : (o a f : Bool) → cond (o && true) 1 0 ≡ cond (a && (f && not true)) 1 0 + cond (o && (true && true)) 1 0
    gone true true true = refl
    gone true true false = refl
    gone true false f = refl
    gone false true true = refl
    gone false true false = refl
    gone false false f = refl

    stays : (o a f : Bool) → cond (a && f) 1 0 ≡ cond (a && (f && not false)) 1 0 + cond (o && (false && true)) 1 0
    stays true true true = refl
    stays true true false = refl
    stays true false f = refl
    stays false true true = refl
    stays false true false = refl
    stays false false f = refl

    put : (u : ℕ) (q : Bool) → eqb t u ≡ q → cond (on S P n u && unfinished P u) 1 0 ≡ cond (on S P n u && (unfinished P u && not (eqb t u))) 1 0 + cond (on S P n t && (eqb u t && true)) 1 0
    put u true q =
        let z = eqb-true t u q in
        let r = eq-eqb u t (sym z) in
        let o : on S P n u ≡ on S P n t = ap (on S P n) (sym z) in
        let f : unfinished P u ≡ true = ap (unfinished P) (sym z) ∙ run in
        (λ j. cond (o j && f j) 1 0) ∙ gone (on S P n t) (on S P n u) (unfinished P u) ∙ sym (λ j. cond (on S P n u && (unfinished P u && not (q j))) 1 0 + cond (on S P n t && (r j && true)) 1 0)
    put u false q =
        let r = ne_eqb u t (λ z. both_ways _ q (eq-eqb t u (sym z))) in
        stays (on S P n t) (on S P n u) (unfinished P u) ∙ sym (λ j. cond (on S P n u && (unfinished P u && not (q j))) 1 0 + cond (on S P n t && (r j && true)) 1 0)

    each : (x : Event) → cond (is_pending S P n x) 1 0 ≡ cond (is_pending S (e ∷ P) n x) 1 0 + cond (on S P n t && (is_of t x && is_any_put x)) 1 0
    each (Put u y v) = put u.0 (eqb t u.0) refl ∙ sym (λ j. cond (on_kept S e P n u.0 (b u.0) j && ends u.0 j) 1 0 + cond (on S P n t && (eqb u.0 t && true)) 1 0)
    each x = nothing (on S P n t) (is_of t x)

    own : (o : Bool) → count_by (λ x. o && (is_of t x && is_any_put x)) P ≡ cond o (puts_of P t) 0
    own true = count_own t P
    own false = count_none P

    pub pending_ended : pending_in S P n ≡ pending_in S (e ∷ P) n + cond (on S P n t) (puts_of P t) 0
    pending_ended = omega (
      arith,
      count_both (is_pending S P n) (is_pending S (e ∷ P) n) (λ x. on S P n t && (is_of t x && is_any_put x)) each P,
      own (on S P n t),
      count_step (is_pending S (e ∷ P) n) e P,
      ap {B = ℕ} (λ (z : Bool). cond z 1 0) none,
    )

-- t, which was unfinished, is finished
pub ends_done : (P : List Event) (t : Txn) (u : ℕ) → unfinished (Done t ∷ P) u ≡ (unfinished P u && not (eqb t.0 u))
ends_done P t u = unfinished_step (Done t) P u ∙ out (begun P u) (committed P u) (aborted P u) (eqb t.0 u) ∙ ap (λ (z : Bool). z && not (eqb t.0 u)) (sym (unfinished_is P u))
  where
    out : (b c a q : Bool) → ((b && not (q || c)) && not a) ≡ (((b && not c) && not a) && not q)
    out true true a true = refl
    out true true a false = refl
    out true false true true = refl
    out true false true false = refl
    out true false false true = refl
    out true false false false = refl
    out false c a q = refl

pub ends_gone : (P : List Event) (t : Txn) (c : Cause) (u : ℕ) → unfinished (Gone t c ∷ P) u ≡ (unfinished P u && not (eqb t.0 u))
ends_gone P t c u = unfinished_step (Gone t c) P u ∙ out (begun P u && not (committed P u)) (aborted P u) (eqb t.0 u) ∙ ap (λ (z : Bool). z && not (eqb t.0 u)) (sym (unfinished_is P u))
  where
    out : (b a q : Bool) → (b && not (q || a)) ≡ ((b && not a) && not q)
    out true true true = refl
    out true true false = refl
    out true false true = refl
    out true false false = refl
    out false a q = refl
