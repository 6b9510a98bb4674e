-- What a granted read implies, and that the values read are the final ones.
use Rattle.std.proofs.Common.{◌≡◌, ◌≢◌, ℕ, suc, ◌<◌, ◌≤◌, Bool, true, false, cond, List, [], ◌∷◌, Option, Some, None, refl, sym, ◌∙◌, ap, subst, inl, inr, arith, ℤ, length, ne_eqb, find, filter}
use Rattle.std.proofs.lemmas.Bool.{cases_Bool, both_ways, false_from_ne_true, and_parts, and_from, not-true, not_from_false, eqb-false}
use Rattle.std.specs.List.{list_all}
use Rattle.teb_rules.specs.declared.names.Txn.{Txn}
use Rattle.teb_rules.specs.declared.names.Cell.{Cell}
use Rattle.teb_rules.specs.declared.history.Event.{Event}
use Rattle.teb_rules.specs.declared.history.Event.TheVariants.{Began, Got, Put, Ready, Done, Gone, Told}
use Rattle.teb_rules.specs.history.Accesses.{is_put, put_at, wrote, last_put}
use Rattle.teb_rules.specs.history.Phases.{txns, aborted}
use Rattle.teb_rules.specs.history.Positions.{upto, newest, first_event}
use Rattle.teb_rules.specs.laws.Lawful.{Lawful, MayAccess}
use Rattle.teb_rules.specs.Serializes.{In}
use Rattle.teb_rules.specs.Setup.{Setup}
use Rattle.teb_rules.specs.Tree.{row, meet}
use Rattle.teb_rules.specs.Versions.{source, value_left, precedes, sees, sees_by, latest}
use Rattle.teb_rules.proofs.lemmas.laws.Positions.{before, now, later, first_cases}
use Rattle.teb_rules.proofs.lemmas.laws.Timeline.{granted_at}
use Rattle.teb_rules.proofs.lemmas.laws.Locks.{find_none}
use Rattle.std.proofs.Common.{unwrap_or}

-- t read x from w, with the value v, at position i
pub record GotAt (H : List Event) (i : ℕ) (t : Txn) (x : Cell) (w : Txn) (v : Option ℤ) : Type 0 where
  pub place : i < length H
  pub is : upto (suc i) H ≡ Got t x w v ∷ upto i H

-- an event that is not a Put of x by t leaves t's last value of x
pub put_skip : (e : Event) (P : List Event) (t : ℕ) (x : Cell) → is_put t x e ≡ false → last_put (e ∷ P) t x ≡ last_put P t x
unfolding last_put
put_skip (Put u y v) P t x h = rw h refl
put_skip (Began u s k inst) P t x h = refl
put_skip (Got u y w v) P t x h = refl
put_skip (Ready u) P t x h = refl
put_skip (Done u) P t x h = refl
put_skip (Gone u c) P t x h = refl
put_skip (Told u) P t x h = refl

put_hit : (e : Event) (P : List Event) (t : ℕ) (x : Cell) → is_put t x e ≡ true → (v : Option ℤ) × (last_put (e ∷ P) t x ≡ Some v)
unfolding last_put
put_hit (Put u y v) P t x h = (v, rw h refl)
put_hit _ P t x h = absurd (cc)

pub last_put-none : (H : List Event) (t : ℕ) (x : Cell) → length H ≤ put_at H t x → last_put H t x ≡ None
unfolding put_at first_event
last_put-none [] t x h = unfold last_put in refl
last_put-none (e ∷ P) t x h = elim (first_cases (newest (is_put t x)) e P) [
  | before a b ↦ absurd (omega arith)
  | now a b c ↦ absurd (omega arith)
  | later a b c ↦ put_skip e P t x b ∙ last_put-none P t x (omega arith)
]

pub last_put-some : (H : List Event) (t : ℕ) (x : Cell) → put_at H t x < length H → (v : Option ℤ) × (last_put H t x ≡ Some v)
unfolding put_at first_event
last_put-some [] t x h = absurd (omega arith)
last_put-some (e ∷ P) t x h = elim (cases_Bool (is_put t x e)) [
  | inl p ↦ put_hit e P t x p
  | inr p ↦ elim (first_cases (newest (is_put t x)) e P) [
    | before a b ↦ (let r = last_put-some P t x a in (r.0, put_skip e P t x p ∙ r.1))
    | now a b c ↦ absurd (both_ways _ p b)
    | later a b c ↦ absurd (omega arith)
  ]
]

-- the sources of a read: the reader's own Put, the latest seen writer, or the starting row
pub data ReadCase (S : Setup) (P : List Event) (t : ℕ) (x : Cell) (w : ℕ) : Type 0 where
  from_own : wrote P t x ≡ true → w ≡ t → ReadCase S P t x w
  from_seen : wrote P t x ≡ false → latest S P x (filter (sees S P x t) (txns P)) ≡ Some w → ReadCase S P t x w
  from_row : wrote P t x ≡ false → latest S P x (filter (sees S P x t) (txns P)) ≡ None → w ≡ 0 → ReadCase S P t x w

pub read_case : (S : Setup) (P : List Event) (t : ℕ) (x : Cell) (w : ℕ) → source S P t x ≡ w → ReadCase S P t x w
unfolding source
read_case S P t x w e = go (wrote P t x) refl (latest S P x (filter (sees S P x t) (txns P))) refl e
  where
    go : (b : Bool) → wrote P t x ≡ b → (o : Option ℕ) → latest S P x (filter (sees S P x t) (txns P)) ≡ o → cond b t (unwrap_or o 0) ≡ w → ReadCase S P t x w
    go true p o q e = from_own p (sym e)
    go false p (Some z) q e = from_seen p (q ∙ ap (λ (n : ℕ). Some n) e)
    go false p None q e = from_row p q (sym e)

-- a Got of the history was allowed, has one of these sources, and has its writer's value if that is not the starting row
pub got_case : (S : Setup) (H : List Event) (i : ℕ) (t : Txn) (x : Cell) (w : Txn) (v : Option ℤ) → Lawful S H → GotAt H i t x w v →
    MayAccess S (upto i H) t.0 x false × ReadCase S (upto i H) t.0 x w.0 × (0 < w.0 → v ≡ value_left (upto i H) w.0 x)
got_case S H i t x w v l g = let r = granted_at S H i (Got t x w v) l g.is in (r.0, read_case S (upto i H) t.0 x w.0 r.1, r.2)

pub find_some : (p : ℕ → Bool) (us : List ℕ) (u : ℕ) → find p us ≡ Some u → In u us × (p u ≡ true)
find_some p [] u h = absurd (cc)
find_some p (v ∷ vs) u h = go (p v) refl h (find_some p vs u)
  where
    go : (b : Bool) → p v ≡ b → cond b (Some v) (find p vs) ≡ Some u → (find p vs ≡ Some u → In u vs × (p u ≡ true)) → In u (v ∷ vs) × (p u ≡ true)
    go true e k ih = let q : v ≡ u = cc in (inl q, subst (λ (z : ℕ). p z ≡ true) q e)
    go false e k ih = let r = ih k in (inr r.0, r.1)

pub list_all_at : (p : ℕ → Bool) (us : List ℕ) (u : ℕ) → list_all p us ≡ true → In u us → p u ≡ true
list_all_at p [] u h i = absurd i
list_all_at p (v ∷ vs) u h i = let r = and_parts (p v) (list_all p vs) h in elim i [ inl q ↦ subst (λ (z : ℕ). p z ≡ true) q r.0 | inr j ↦ list_all_at p vs u r.1 j ]

pub list_all_from : (p : ℕ → Bool) (us : List ℕ) → ((u : ℕ) → In u us → p u ≡ true) → list_all p us ≡ true
list_all_from p [] f = refl
list_all_from p (v ∷ vs) f = and_from _ _ (f v (inl refl)) (list_all_from p vs (λ u i. f u (inr i)))

-- the writer that is read from is in the list, and no other of the list follows it
pub latest-some : (S : Setup) (P : List Event) (x : Cell) (us : List ℕ) (w : ℕ) → latest S P x us ≡ Some w → In w us × ((b : ℕ) → In b us → precedes S P x w b ≡ false)
unfolding latest
latest-some S P x us w h =
    let r = find_some _ us w h in
    (r.0, λ b i. not-true _ (list_all_at _ us b r.1 i))

-- a list that is not empty has a last element in a strict order
last_of : (lt : ℕ → ℕ → Bool) (us : List ℕ) (u : ℕ) → ((a : ℕ) → In a us → lt a a ≡ false) → ((a b c : ℕ) → In a us → In b us → In c us → lt a b ≡ true → lt b c ≡ true → lt a c ≡ true) →
    In u us → (m : ℕ) × In m us × ((b : ℕ) → In b us → lt m b ≡ false)
last_of lt [] u irr tra i = absurd i
last_of lt (v ∷ []) u irr tra i = (v, inl refl, λ b j. elim j [ inl q ↦ subst (λ (z : ℕ). lt v z ≡ false) q (irr v (inl refl)) | inr k ↦ absurd k ])
last_of lt (v ∷ x ∷ xs) u irr tra i =
    let r = last_of lt (x ∷ xs) x (λ a j. irr a (inr j)) (λ a b c j k l. tra a b c (inr j) (inr k) (inr l)) (inl refl) in
    elim (cases_Bool (lt r.0 v)) [
      | inl t ↦ (
        v,
        inl refl,
        λ b j. elim j [
          | inl q ↦ subst (λ (z : ℕ). lt v z ≡ false) q (irr v (inl refl))
          | inr k ↦ false_from_ne_true _ (λ h. both_ways _ (r.2 b k) (tra r.0 v b (inr r.1) (inl refl) (inr k) t h))
        ],
      )
      | inr f ↦ (r.0, inr r.1, λ b j. elim j [ inl q ↦ subst (λ (z : ℕ). lt r.0 z ≡ false) q f | inr k ↦ r.2 b k ])
    ]

pub latest-none : (S : Setup) (P : List Event) (x : Cell) (us : List ℕ) (u : ℕ) → ((a : ℕ) → In a us → precedes S P x a a ≡ false) →
    ((a b c : ℕ) → In a us → In b us → In c us → precedes S P x a b ≡ true → precedes S P x b c ≡ true → precedes S P x a c ≡ true) → latest S P x us ≡ None → In u us → ⊥
unfolding latest
latest-none S P x us u irr tra h i =
    let m = last_of (precedes S P x) us u irr tra i in
    both_ways _ (find_none _ us m.0 h m.1) (list_all_from _ us (λ b j. not_from_false _ (m.2 b j)))

-- a writer that t sees is another transaction, put the cell, is not aborted, and is seen at the node where the two meet
pub sees_parts : (S : Setup) (P : List Event) (x : Cell) (t w : ℕ) → sees S P x t w ≡ true → (w ≢ t) × (wrote P w x ≡ true) × (aborted P w ≡ false)
    × (sees_by (row S.tree (meet S P t w)).control S P (meet S P t w) x t w ≡ true)
unfolding sees
sees_parts S P x t w h =
    let p = and_parts _ _ h in
    let q = and_parts _ _ p.0 in
    let r = and_parts _ _ q.0 in
    (eqb-false _ _ (not-true _ r.0), r.1, not-true _ q.1, p.1)

pub sees_from : (S : Setup) (P : List Event) (x : Cell) (t w : ℕ) → w ≢ t → wrote P w x ≡ true → aborted P w ≡ false → sees_by (row S.tree (meet S P t w)).control S P (meet S P t w) x t w ≡ true
    → sees S P x t w ≡ true
unfolding sees
sees_from S P x t w a b c d = and_from _ _ (and_from _ _ (and_from _ _ (not_from_false _ (ne_eqb _ _ a)) b) (not_from_false _ c)) d
