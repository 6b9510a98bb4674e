-- Each control notes an event that the rules grant.
use Rattle.std.proofs.Common.{◌≡◌, ◌≢◌, ◌⊎◌, inl, inr, ℕ, zero, suc, ◌+◌, ◌<◌, ◌≤◌, true, List, [], ◌∷◌, length, slice_get, get_or, set, Some, refl, sym, ap, ◌∙◌, subst, arith, eqb, eqb-true, drop}
use Rattle.std.proofs.lemmas.List.{length-set}
use Rattle.std.proofs.lemmas.Option.{slice_get-get_or, slice_get_within}
use Rattle.std.proofs.lemmas.Bool.{or_cases, cases_lt}
use Rattle.teb_rules.specs.declared.names.Spot.{Spot}
use Rattle.teb_rules.specs.declared.history.Event.{Event}
use Rattle.teb_rules.specs.declared.history.Event.TheVariants.{Began, Got, Put, Ready, Done, Gone, Told}
use Rattle.teb_rules.specs.Setup.{Setup, among}
use Rattle.teb_rules.specs.Tree.{path, on_path}
use Rattle.teb_rules.specs.declared.Stop.{Stop}
use Rattle.teb_rules.specs.declared.Stop.TheVariants as stop
use Rattle.teb_rules.specs.declared.Verdict.{Verdict}
use Rattle.teb_rules.specs.declared.Verdict.TheVariants.{Go, Wait, Break}
use Rattle.teb_rules.specs.Stops.{on_begin, begin_stop, stop_of, stop_with}
use Rattle.teb_rules.specs.laws.Lawful.{Granted}
use Rattle.phase_api.specs.declared.facts.Facts.{Facts}
use Rattle.phase_api.specs.FactsView.{setup_of, events_of}
use Rattle.phase_api.specs.Calls.{MayNote, IsNewest}
use Rattle.phase_api.specs.Standing.{StandAll}
use Rattle.engine_core.specs.Decisions.{MayBegin}
use Rattle.engine_core.specs.Wholes.{RoomFor}

-- the element at n after b is written at i is b if n ≡ i, and the old one otherwise
put_or_left : {K : Type 0} (cs : List K) (i : ℕ) (b : K) (n : ℕ) (c : K) → slice_get (set cs i b) n ≡ Some c → ((n ≡ i) × (c ≡ b)) ⊎ ((n ≢ i) × (slice_get cs n ≡ Some c))
put_or_left [] i b n c e = absurd (cc)
put_or_left (a ∷ cs) zero b zero c e = inl (refl, (cc))
put_or_left (a ∷ cs) zero b (suc n) c e = inr ((λ q. omega arith), e)
put_or_left (a ∷ cs) (suc i) b zero c e = inr ((λ q. omega arith), e)
put_or_left (a ∷ cs) (suc i) b (suc n) c e = elim (put_or_left cs i b n c e) [ inl p ↦ inl (ap suc p.0, p.1) | inr q ↦ inr ((λ r. q.0 (omega arith)), q.1) ]

-- the controls below i satisfy P at their places, and the others are unchanged
pub record AreDone {K : Type 0} (P : ℕ → K → Type 0) (old new : List K) (i : ℕ) : Type 0 where
  pub len : length new ≡ length old
  pub done : (n : ℕ) (c : K) → n < i → slice_get new n ≡ Some c → P n c
  pub left : (n : ℕ) (c : K) → i ≤ n → slice_get new n ≡ Some c → slice_get old n ≡ Some c

module _ {K : Type 0} (P : ℕ → K → Type 0) where
  pub one_more_done : (old new : List K) (i : ℕ) (b : K) → AreDone P old new i → P i b → AreDone P old (set new i b) (i + 1)
  one_more_done old new i b a p = record {
    len = length-set new i b ∙ a.len;
    done = λ n c lt e. elim (put_or_left new i b n c e) [
      | inl h ↦ subst (λ (m : ℕ). P m c) (sym h.0) (subst (P i) (sym h.1) p)
      | inr h ↦ a.done n c (let d : n ≢ i = h.0 in omega arith) h.1
    ];
    left = λ n c le e. elim (put_or_left new i b n c e) [ inl h ↦ absurd (omega (arith, h.0)) | inr h ↦ a.left n c (omega arith) h.1 ];
  }

pub done_less : {K : Type 0} (P Q : ℕ → K → Type 0) (old new : List K) (i : ℕ) → ((n : ℕ) (c : K) → P n c → Q n c) → AreDone P old new i → AreDone Q old new i
done_less P Q old new i f a = record { len = a.len; done = λ n c lt e. f n c (a.done n c lt e); left = a.left }

-- the control at i is unchanged
pub next_there : {K : Type 0} (P : ℕ → K → Type 0) (old new : List K) (i : ℕ) (d : K) → AreDone P old new i → i < length new → slice_get old i ≡ Some (get_or new i d)
next_there P old new i d a lt = a.left i (get_or new i d) (omega arith) (slice_get-get_or new i d lt)

-- the control of node n has noted the newest event of H and has used at most one place of the room that all had
pub record HasNoted {K : Type 0} (node_number : K → ℕ) (stands : K → Setup → List Event → Type 0) (spare : K → ℕ) (S : Setup) (H : List Event) (old : List K) (n : ℕ) (c : K) : Type 0 where
  pub numbered : node_number c ≡ n
  pub stood : stands c S H
  pub room : (k : ℕ) → RoomFor spare (suc k) old → k ≤ spare c

-- the control at n after room was reserved: it represents every setup and history that the old one represented
pub record IsRoomy {K : Type 0} (node_number : K → ℕ) (stands : K → Setup → List Event → Type 0) (old : List K) (n : ℕ) (c : K) : Type 0 where
  pub before : K
  pub there : slice_get old n ≡ Some before
  pub numbered : node_number c ≡ node_number before
  pub stood : (S : Setup) (H : List Event) → stands before S H → stands c S H

module _ {K : Type 0} (node_number : K → ℕ) (stands : K → Setup → List Event → Type 0) (old new : List K) where
  -- each control was reserved room in, or is unchanged
  pub all_roomy : (i : ℕ) → AreDone (IsRoomy node_number stands old) old new i → (n : ℕ) (c : K) → slice_get new n ≡ Some c → IsRoomy node_number stands old n c
  all_roomy i a n c e = elim (cases_lt n i) [
    | inl lt ↦ a.done n c lt e
    | inr le ↦ record { before = c; there = a.left n c (omega arith) e; numbered = refl; stood = λ S H x. x }
  ]

  pub roomy_standing : length new ≡ length old → ((n : ℕ) (c : K) → slice_get new n ≡ Some c → IsRoomy node_number stands old n c) → (S : Setup) (H : List Event) → StandAll node_number stands old S H
      → StandAll node_number stands new S H
  roomy_standing l f S H a = record {
    one_each = l ∙ a.one_each;
    each_numbered = λ n c e. let r = f n c e in r.numbered ∙ a.each_numbered n r.before r.there;
    each_stands = λ n c e. let r = f n c e in r.stood S H (a.each_stands n r.before r.there);
  }

-- if a Begin is stopped at no node, each node of the path lets it go
free_here : (n : ℕ) (v : Verdict) (s : Stop) → stop_with n v s ≡ stop.Go → (v ≡ Go) × (s ≡ stop.Go)
free_here n Go s h = (refl, h)
free_here n (Wait u) s h = absurd (cc)
free_here n (Break b) s h = absurd (cc)

free_along : (f : ℕ → Verdict) (ns : List ℕ) (n : ℕ) → stop_of f ns ≡ stop.Go → among n ns ≡ true → f n ≡ Go
unfolding stop_of
free_along f [] n h i = absurd (cc)
free_along f (m ∷ ms) n h i = let r = free_here m (f m) (stop_of f ms) h in
    elim (or_cases (eqb m n) (among n ms) i) [ inl e ↦ subst (λ (z : ℕ). f z ≡ Go) (eqb-true m n e) r.0 | inr j ↦ free_along f ms n r.1 j ]

free_on_path : (S : Setup) (H : List Event) (s : Spot) (n : ℕ) → begin_stop S H s ≡ stop.Go → on_path S.tree n s ≡ true → on_begin S H s n ≡ Go
unfolding begin_stop on_path
free_on_path S H s n g o = free_along (on_begin S H s) (path S.tree s) n g o

-- an event that the rules grant may be noted at each node
pub granted_noted : (S : Setup) (P : List Event) (e : Event) → Granted S P e → MayBegin S P e → (n : ℕ) → MayNote S P n e
granted_noted S P (Began t s k i) g b n = (g.0, g.1, λ o. free_on_path S P (record { kind = k; instance = i }) n b.1 o)
granted_noted S P (Got t x w v) g b n = (g.0.unfinished, g.0.step)
granted_noted S P (Put t x v) g b n = (g.unfinished, g.step)
granted_noted S P (Ready t) g b n = g.unfinished
granted_noted S P (Done t) g b n = g.unfinished
granted_noted S P (Gone t c) g b n = g
granted_noted S P (Told t) g b n = g

-- what the controls learn from facts about this setup and history
module _ (f : Facts) (S : Setup) (H : List Event) (s : setup_of f ≡ S) (h : events_of f ≡ H) where
  pub told_newest : (e : Event) → H ≡ e ∷ drop 1 H → ((n : ℕ) → MayNote S (drop 1 H) n e) → (n : ℕ) → IsNewest f e n
  told_newest e q m n = record {
    is = subst (λ (P : List Event). P ≡ e ∷ drop 1 P) (sym h) q;
    may = subst (λ (T : Setup). MayNote T (drop 1 (events_of f)) n e) (sym s) (subst (λ (P : List Event). MayNote S (drop 1 P) n e) (sym h) (m n));
  }

  pub told_standing : {K : Type 0} (stands : K → Setup → List Event → Type 0) (c : K) → stands c S (drop 1 H) → stands c (setup_of f) (drop 1 (events_of f))
  told_standing stands c x = subst (λ (T : Setup). stands c T (drop 1 (events_of f))) (sym s) (subst (λ (P : List Event). stands c S (drop 1 P)) (sym h) x)

  pub all_standing : {K : Type 0} (node_number : K → ℕ) (stands : K → Setup → List Event → Type 0) (spare : K → ℕ) (old new : List K) (i : ℕ)
      → AreDone (HasNoted node_number stands spare (setup_of f) (events_of f) old) old new i → length new ≤ i → length old ≡ length S.tree → StandAll node_number stands new S H
  all_standing {K} node_number stands spare old new i a all l =
      let noted : (n : ℕ) (c : K) → slice_get new n ≡ Some c → HasNoted node_number stands spare (setup_of f) (events_of f) old n c =
      λ n c e. a.done n c (let w = slice_get_within new n c e in omega arith) e in
      record {
        one_each = a.len ∙ l;
        each_numbered = λ n c e. (noted n c e).numbered;
        each_stands = λ n c e. subst (λ (T : Setup). stands c T H) s (subst (λ (P : List Event). stands c (setup_of f) P) h (noted n c e).stood);
      }
