-- Keys compare in the same way if they are cut after the first rank that is a Done, which no two transactions share.
use Rattle.std.proofs.Common.{◌≡◌, ◌≢◌, ◌⊎◌, ℕ, ◌<◌, Bool, true, false, cond, ◌&&◌, ◌||◌, eqb, ltb, List, [], ◌∷◌, ◌++◌}
use Rattle.std.proofs.Common.{length, refl, sym, ◌∙◌, ap, subst, subst₂, inl, inr, arith, append_assoc, eqb-true, ne_eqb}
use Rattle.teb_rules.specs.declared.names.Spot.{Spot}
use Rattle.teb_rules.specs.declared.names.ControlKind.{ControlKind}
use Rattle.teb_rules.specs.declared.names.ControlKind.TheVariants.{Locks, Pipeline, Timestamp, Snapshot}
use Rattle.teb_rules.specs.declared.history.Event.{Event}
use Rattle.teb_rules.specs.declared.history.Event.TheVariants.{Began, Got, Put, Ready, Done, Gone, Told}
use Rattle.teb_rules.specs.history.Phases.{spot_of, began_at, done_at, is_done}
use Rattle.teb_rules.specs.Setup.{Setup}
use Rattle.teb_rules.specs.Serializes.{Pairs}
use Rattle.teb_rules.specs.Tree.{row, path, side, side_at}
use Rattle.teb_rules.specs.Ranks.{lex, key, rank, serially}
use Rattle.teb_rules.specs.laws.Lawful.{Lawful}
use Rattle.teb_rules.specs.laws.TreeFacts.{TreeFacts}
use Rattle.teb_rules.proofs.lemmas.laws.Meeting.{Rooted, path_good, head_or, next_at, rising_front, no_child}
use Rattle.teb_rules.proofs.lemmas.laws.Paths.{key_of}
use Rattle.teb_rules.proofs.lemmas.laws.Ranks.{commits, done_rank}
use Rattle.teb_rules.proofs.lemmas.laws.Serial.{Commits}
use Rattle.teb_rules.proofs.lemmas.laws.Timeline.{apart, kind-lt}
use Rattle.serial_order.specs.Keys.{ranks_by_done, cut_of, cut_key}

-- two paths with the sides g and k at their nodes agree on the next node as long as their sides are the same
abbrev pub GoAlike : (ℕ → ℕ) → (ℕ → ℕ) → List ℕ → List ℕ → Type 0
GoAlike g k [] [] = Unit {0}
GoAlike g k [] (y ∷ ys) = ⊥
GoAlike g k (x ∷ xs) [] = ⊥
GoAlike g k (x ∷ xs) (y ∷ ys) = (x ≡ y) × (g x ≡ k x → GoAlike g k xs ys)

pub lex_cut : (f g h k : ℕ → ℕ) (last : ℕ → Bool) → ((n : ℕ) → last n ≡ true → f n ≢ h n) → (xs ys : List ℕ) → GoAlike g k xs ys
    → lex (key_of f g xs) (key_of h k ys) ≡ lex (cut_of f g last xs) (cut_of h k last ys)
unfolding lex
lex_cut f g h k last differ [] [] w = refl
lex_cut f g h k last differ [] (y ∷ ys) w = absurd w
lex_cut f g h k last differ (x ∷ xs) [] w = absurd w
lex_cut f g h k last differ (x ∷ xs) (y ∷ ys) w =
    subst (λ (z : ℕ). lex (key_of f g (x ∷ xs)) (key_of h k (z ∷ ys)) ≡ lex (cut_of f g last (x ∷ xs)) (cut_of h k last (z ∷ ys))) w.0
    (go (last x) refl (eqb (g x) (k x)) refl (λ e. lex_cut f g h k last differ xs ys (w.1 e)))
  where
    go : (c : Bool) → last x ≡ c → (d : Bool) → eqb (g x) (k x) ≡ d → (g x ≡ k x → lex (key_of f g xs) (key_of h k ys) ≡ lex (cut_of f g last xs) (cut_of h k last ys))
        → (ltb (f x) (h x) || (eqb (f x) (h x) && (ltb (g x) (k x) || (eqb (g x) (k x) && lex (key_of f g xs) (key_of h k ys)))))
        ≡ (ltb (f x) (h x) || (eqb (f x) (h x) && lex (cond c [] (g x ∷ cut_of f g last xs)) (cond c [] (k x ∷ cut_of h k last ys))))
    go true p d q behind = let z : eqb (f x) (h x) ≡ false = ne_eqb (f x) (h x) (differ x p) in rw z refl
    go false p true q behind = ap (λ (r : Bool). ltb (f x) (h x) || (eqb (f x) (h x) && (ltb (g x) (k x) || (eqb (g x) (k x) && r)))) (behind (eqb-true (g x) (k x) q))
    go false p false q behind = rw q refl

-- the paths of two transactions, and their sides
module _ (S : Setup) (a : TreeFacts S) where
  side_is : (k : Spot) (t : ℕ) (xs : List ℕ) (n : ℕ) (ls : List ℕ) → k.kind.0 < S.types → path S.tree k ≡ xs ++ n ∷ ls → side_at S.tree n k t ≡ head_or t ls
  unfolding side_at
  side_is k t xs n ls h p = rw p (next_at n t xs ls (rising_front xs n ls (subst (λ (z : List ℕ). Pairs (λ m o. m < o) z) p (path_good S a k h).rising)))

  abbrev Alike : Spot → Spot → ℕ → ℕ → List ℕ → List ℕ → Type 0
  Alike k j t u xs ys = GoAlike (λ m. side_at S.tree m k t) (λ m. side_at S.tree m j u) xs ys

  alike_from : (k j : Spot) (t u : ℕ) → k.kind.0 < S.types → j.kind.0 < S.types → (xs : List ℕ) (n : ℕ) (ls ms : List ℕ) → path S.tree k ≡ xs ++ n ∷ ls → path S.tree j ≡ xs ++ n ∷ ms
      → Alike k j t u (n ∷ ls) (n ∷ ms)
  unfolding head_or
  alike_from k j t u hk hj xs n [] [] p q = (refl, λ e. tt)
  alike_from k j t u hk hj xs n [] (m ∷ ms) p q = (refl, λ e. no_child S a k j n m xs ms hk hj p q)
  alike_from k j t u hk hj xs n (l ∷ ls) [] p q = (refl, λ e. no_child S a j k n l xs ls hj hk q p)
  alike_from k j t u hk hj xs n (l ∷ ls) (m ∷ ms) p q = (
    refl,
    λ e.
        let same : l ≡ m = sym (side_is k t xs n (l ∷ ls) hk p) ∙ e ∙ side_is j u xs n (m ∷ ms) hj q in
        subst (λ (z : ℕ). Alike k j t u (l ∷ ls) (z ∷ ms)) same (alike_from k j t u hk hj (xs ++ n ∷ []) l ls ms (p ∙ sym (append_assoc xs (n ∷ []) (l ∷ ls)))
        (q ∙ ap (λ (z : ℕ). xs ++ n ∷ z ∷ ms) (sym same) ∙ sym (append_assoc xs (n ∷ []) (l ∷ ms)))),
  )

  alike : (k j : Spot) (t u : ℕ) → k.kind.0 < S.types → j.kind.0 < S.types → (ps qs : List ℕ) → path S.tree k ≡ ps → path S.tree j ≡ qs → Rooted ps → Rooted qs → Alike k j t u ps qs
  alike k j t u hk hj [] qs p q r s = absurd r
  alike k j t u hk hj (x ∷ xs) [] p q r s = absurd s
  alike k j t u hk hj (x ∷ xs) (y ∷ ys) p q r s = subst₂ (λ (m n : ℕ). Alike k j t u (m ∷ xs) (n ∷ ys)) (sym r) (sym s)
      (alike_from k j t u hk hj [] 0 xs ys (p ∙ ap (λ (m : ℕ). m ∷ xs) r) (q ∙ ap (λ (m : ℕ). m ∷ ys) s))

own_done : (t u : ℕ) (e : Event) → is_done t e ≡ true → is_done u e ≡ true → t ≡ u
own_done t u (Done s) h k = sym (eqb-true s.0 t h) ∙ eqb-true s.0 u k
own_done t u (Began s v k i) h j = absurd (cc)
own_done t u (Got s x w v) h k = absurd (cc)
own_done t u (Put s x v) h k = absurd (cc)
own_done t u (Ready s) h k = absurd (cc)
own_done t u (Gone s c) h k = absurd (cc)
own_done t u (Told s) h k = absurd (cc)

-- no two transactions commit at the same position
done_differs : (H : List Event) (t u : ℕ) → t ≢ u → Commits H t → done_at H t ≢ done_at H u
unfolding done_at
done_differs H t u ne c e = apart (is_done t) (is_done u) H (λ d h k. ne (own_done t u d h k)) c e

by_done : (k : ControlKind) → ranks_by_done k ≡ true → (k ≡ Locks) ⊎ (k ≡ Pipeline)
by_done Locks h = inl refl
by_done Pipeline h = inr refl
by_done Timestamp h = absurd (cc)
by_done Snapshot h = absurd (cc)

pub serially_cut : (S : Setup) (a : TreeFacts S) (H : List Event) (t u : ℕ) → Lawful S H → Commits H t → Commits H u → t ≢ u → serially S H t u ≡ lex (cut_key S H t) (cut_key S H u)
unfolding serially key side
serially_cut S a H t u l ct cu ne =
    let bt : began_at H t < length H = (let z = commits S H t l ct in omega arith) in
    let bu : began_at H u < length H = (let z = commits S H u l cu in omega arith) in
    let ht = kind-lt S H t l bt in
    let hu = kind-lt S H u l bu in
    lex_cut (λ n. rank S H n t) (λ n. side S H n t) (λ n. rank S H n u) (λ n. side S H n u) (λ n. ranks_by_done (row S.tree n).control)
    (λ n h e. done_differs H t u ne ct (sym (done_rank S H n t (by_done (row S.tree n).control h)) ∙ e ∙ done_rank S H n u (by_done (row S.tree n).control h)))
    (path S.tree (spot_of H t)) (path S.tree (spot_of H u))
    (alike S a (spot_of H t) (spot_of H u) t u ht hu _ _ refl refl (path_good S a (spot_of H t) ht).rooted (path_good S a (spot_of H u) hu).rooted)
