-- Places that are amended: the result is the last place that passes one of several tests.
use Rattle.std.proofs.Common.{◌≡◌, ℕ, suc, Bool, true, false, cond, ◌||◌, List, [], ◌∷◌, reverse, Option, Some, None, max, refl, sym, ◌∙◌, ap, ap₂, arith, inl, inr}
use Rattle.std.specs.List.{list_any}
use Rattle.std.proofs.lemmas.Bool.{or_parts}
use Rattle.std.proofs.lemmas.List.{reverse-append}
use Rattle.std.proofs.lemmas.List.Folds.{list_any-append}
use Rattle.teb_rules.specs.Serializes.{In}
use Rattle.version_chain.specs.Lists.{first_place, last_place, next_place}
use Rattle.candidate_reads.specs.Shown.{later}
use Rattle.amended_reads.specs.Amended.{amended, candidate_of}

-- the last place of a list, from whether its first element passes and the last place of the rest
abbrev up : Bool → Option ℕ → Option ℕ
up b None = cond b (Some 0) None
up b (Some i) = Some (suc i)

cons_is : (p : ℕ → Bool) (w : ℕ) (ws : List ℕ) → last_place p (w ∷ ws) ≡ up (p w) (last_place p ws)
cons_is p w ws = go (last_place p ws)
  where
    go : (o : Option ℕ) → elim o as (λ _. Option ℕ) [ None ↦ cond (p w) (Some 0) None | Some i ↦ Some (suc i) ] ≡ up (p w) o
    go None = refl
    go (Some i) = refl

first_later : (c : Bool) (i : ℕ) → Some (suc i) ≡ later (Some (suc i)) (cond c (Some 0) None)
first_later true i = ap Some (let e : suc i ≡ max (suc i) 0 = omega arith in e)
first_later false i = refl

later_first : (b : Bool) (j : ℕ) → Some (suc j) ≡ later (cond b (Some 0) None) (Some (suc j))
later_first true j = ap Some (let e : suc j ≡ max 0 (suc j) = omega arith in e)
later_first false j = refl

both_first : (b c : Bool) → cond (b || c) (Some 0) None ≡ later (cond b (Some 0) None) (cond c (Some 0) None)
both_first true true = refl
both_first true false = refl
both_first false true = refl
both_first false false = refl

up_later : (b c : Bool) (o r : Option ℕ) → up (b || c) (later o r) ≡ later (up b o) (up c r)
up_later b c None None = both_first b c
up_later b c None (Some j) = later_first b j
up_later b c (Some i) None = first_later c i
up_later b c (Some i) (Some j) = ap Some (let e : suc (max i j) ≡ max (suc i) (suc j) = omega arith in e)

-- the last place that passes one of two tests is the later of their last places
last_or : (p q : ℕ → Bool) (ws : List ℕ) → last_place (λ w. p w || q w) ws ≡ later (last_place p ws) (last_place q ws)
last_or p q [] = refl
last_or p q (w ∷ ws) =
    cons_is (λ v. p v || q v) w ws
    ∙ ap (up (p w || q w)) (last_or p q ws)
    ∙ up_later (p w) (q w) (last_place p ws) (last_place q ws)
    ∙ ap₂ later (sym (cons_is p w ws)) (sym (cons_is q w ws))

-- two tests that agree on a list have the same last place
pub last_same : (p q : ℕ → Bool) (ws : List ℕ) → ((w : ℕ) → In w ws → p w ≡ q w) → last_place p ws ≡ last_place q ws
last_same p q [] h = refl
last_same p q (w ∷ ws) h = cons_is p w ws ∙ ap₂ up (h w (inl refl)) (last_same p q ws (λ v i. h v (inr i))) ∙ sym (cons_is q w ws)

last_nothing : (ws : List ℕ) → None ≡ last_place (λ _. false) ws
last_nothing [] = refl
last_nothing (w ∷ ws) = ap (up false) (last_nothing ws) ∙ sym (cons_is (λ _. false) w ws)

or_none : (b : Bool) → b ≡ (b || false)
or_none true = refl
or_none false = refl

or_in_turn : (a b c : Bool) → ((a || b) || c) ≡ (a || (b || c))
or_in_turn true b c = refl
or_in_turn false b c = refl

-- node n shows the last place that passes its test
module _ (f : ℕ → ℕ → Bool) (ws : List ℕ) where
  abbrev shown : ℕ → Option ℕ
  shown n = last_place (f n) ws

  abbrev passes : List ℕ → ℕ → Bool
  passes ns w = list_any (λ n. f n w) ns

  amended_any : (p : ℕ → Bool) (ns : List ℕ) → amended shown (last_place p ws) ns ≡ last_place (λ w. p w || passes ns w) ws
  amended_any p [] = last_same p (λ w. p w || false) ws (λ w _. or_none (p w))
  amended_any p (n ∷ ns) =
      ap (λ c. amended shown c ns) (sym (last_or p (f n) ws))
      ∙ amended_any (λ w. p w || f n w) ns
      ∙ last_same (λ w. (p w || f n w) || passes ns w) (λ w. p w || passes (n ∷ ns) w) ws (λ w _. or_in_turn (p w) (f n w) (passes ns w))

  pub candidate_any : (ns : List ℕ) → candidate_of shown ns ≡ last_place (passes ns) ws
  candidate_any [] = last_nothing ws
  candidate_any (leaf ∷ above) = amended_any (f leaf) above

turned : (a b : Bool) → (a || (b || false)) ≡ (b || a)
turned true true = refl
turned true false = refl
turned false true = refl
turned false false = refl

-- a list and its reverse have an element that passes a test, or neither does
pub any_reverse : (q : ℕ → Bool) (xs : List ℕ) → list_any q (reverse xs) ≡ list_any q xs
any_reverse q [] = refl
any_reverse q (x ∷ xs) =
    ap (list_any q) (reverse-append (x ∷ []) xs)
    ∙ list_any-append q (reverse xs) (x ∷ [])
    ∙ ap (λ (b : Bool). b || (q x || false)) (any_reverse q xs)
    ∙ turned (list_any q xs) (q x)

-- no place passes a test that no element passes
pub first_nothing : (p : ℕ → Bool) (ws : List ℕ) → list_any p ws ≡ false → None ≡ first_place p ws
first_nothing p [] e = refl
first_nothing p (w ∷ ws) e = go (p w) (or_parts (p w) (list_any p ws) e).0 (first_nothing p ws (or_parts (p w) (list_any p ws) e).1)
  where
    go : (b : Bool) → b ≡ false → None ≡ first_place p ws → None ≡ cond b (Some 0) (next_place (first_place p ws))
    go true f h = absurd (cc)
    go false f h = ap next_place h
