-- The steps that were read are those of a profile.
use Rattle.std.proofs.Common.{◌≡◌, ℕ, zero, suc, ◌+◌, ◌<◌, ◌≤◌, Bool, true, false, ◌&&◌, ◌==◌, eqb, ltb, nat_le, List, [], ◌∷◌, ◌++◌}
use Rattle.std.proofs.Common.{length, length-append, codes, Option, Some, None, Result, Ok, Err, refl, ◌∙◌, ap, arith, if◌then◌else◌}
use Rattle.std.proofs.lemmas.Bool.{or_parts, leb-true}
use Rattle.std.proofs.lemmas.List.Folds.{list_any-append}
use Rattle.std.proofs.lemmas.List.Quantifiers.{position-Some}
use Rattle.std.specs.List.{list_all}
use Rattle.std.specs.Str.{bytes_eq}
use Rattle.teb_rules.specs.names.Names.{number_of}
use Rattle.teb_rules.specs.Setup.{among, above, above_steps}
use Rattle.teb_rules.specs.Tree.{below}
use Rattle.store_setup.proofs.lemmas.tree.Parts.{length_below}
use Rattle.toml.specs.Data.{Data, Members, as_str}
use Rattle.store_setup.specs.profile.Steps.{has_twice}
use Rattle.store_setup.specs.declared.profile.faults.StepsError.{StepsError}
use Rattle.store_setup.specs.profile.Faults.{steps_fault, first_step_fault}
use Rattle.tree_toml.specs.Reading.{◌>>=◌, formed, at}
use Rattle.tree_toml.specs.Fields.{numbered, as_list, array_at, counted}
use Rattle.tree_toml.specs.Types.{step_table_at, step_from, step_in, steps_from, steps_in, steps_form, is_step}
use Rattle.tree_toml.specs.declared.fault.Place.{Place}
use Rattle.tree_toml.specs.declared.fault.TreeTextError.{TreeTextError}
use Rattle.tree_toml.specs.declared.fault.FieldWhy.{FieldWhy}
use Rattle.tree_toml.specs.declared.fault.FieldWhy.TheVariants.{Form, NoSuch}
use Rattle.tree_toml.proofs.Bound.{bind_ok, at_ok, ok_is, each_keeps, each_count}

-- a step: no table twice, and each below n
pub record IsStep (n : ℕ) (step : List ℕ) : Type 0 where
  pub some : 0 < length step
  pub once : has_twice step ≡ false
  pub within : above step ≤ n

positive : (n : ℕ) → 0 < n → eqb n 0 ≡ false
positive n h = grind arith

pub record IsPart (n : ℕ) (step : List ℕ) : Type 0 where
  pub once : has_twice step ≡ false
  pub within : above step ≤ n

flip : (x t : ℕ) → eqb x t ≡ false → eqb t x ≡ false
flip x t e = grind arith

twice_last : (t : ℕ) (xs : List ℕ) → has_twice xs ≡ false → among t xs ≡ false → has_twice (xs ++ t ∷ []) ≡ false
twice_last t [] once new = refl
twice_last t (x ∷ xs) once new =
    let own = or_parts (among x xs) (has_twice xs) once in
    let other = or_parts (eqb x t) (among t xs) new in
    rw (list_any-append (λ m. eqb m x) xs (t ∷ []), own.0, flip x t other.0, twice_last t xs own.1 other.1)

above_last : (n t : ℕ) (xs : List ℕ) → above xs ≤ n → t < n → above (xs ++ t ∷ []) ≤ n
above_last n t [] h new = omega arith
above_last n t (x ∷ xs) h new = omega (arith, above_last n t xs (omega arith) new)

found : (names : List (List ℕ)) (s : List ℕ) (t : ℕ) → numbered names s ≡ Ok t → number_of names s ≡ Some t
found names s t e = go (number_of names s) refl e
  where
    go : (o : Option ℕ) → number_of names s ≡ o → elim o as (λ _. Result ℕ FieldWhy) [ None ↦ Err NoSuch | Some n ↦ Ok n ] ≡ Ok t → number_of names s ≡ Some t
    go None is e = absurd (cc)
    go (Some n) is e = is ∙ ap Some (ok_is _ n t refl e)

-- the number of a name is below the number of names
pub numbered_within : (names : List (List ℕ)) (s : List ℕ) (t : ℕ) → numbered names s ≡ Ok t → t < length names
numbered_within names s t e = (position-Some (bytes_eq s) names t [] (found names s t e)).0

unrepeated : (b : Bool) (w : FieldWhy) (xs ys : List ℕ) → (if b then Err w else Ok xs) ≡ Ok ys → (b ≡ false) × (xs ≡ ys)
unrepeated true w xs ys e = absurd (cc)
unrepeated false w xs ys e = (refl, ok_is _ xs ys refl e)

table_kept : (p : Place) (tables : List (List ℕ)) (i : ℕ) (seen : List ℕ) (d : Data) (new : List ℕ) → IsPart (length tables) seen → step_table_at p tables i seen d ≡ Ok new
    → IsPart (length tables) new
table_kept p tables i seen d new part e =
    let made = bind_ok (formed (as_str d) >>= numbered tables) _ new (at_ok p _ new e) in
    let name = bind_ok (formed (as_str d)) (numbered tables) made.0 made.1 in
    let fresh = unrepeated (among made.0 seen) _ _ new made.2 in
    rw (← fresh.1) (record {
      once = twice_last made.0 seen part.once fresh.0;
      within = above_last (length tables) made.0 seen part.within (numbered_within tables name.0 made.0 name.2);
    })

one_more : (p : Place) (tables : List (List ℕ)) (i : ℕ) (seen : List ℕ) (d : Data) (new : List ℕ) → step_table_at p tables i seen d ≡ Ok new → length new ≡ length seen + 1
one_more p tables i seen d new e =
    let made = bind_ok (formed (as_str d) >>= numbered tables) _ new (at_ok p _ new e) in
    let fresh = unrepeated (among made.0 seen) _ _ new made.2 in
    omega (arith, ap length fresh.1, length-append seen (made.0 ∷ []))

filled : (b : Bool) (w : TreeTextError) (r : Result (List ℕ) TreeTextError) (step : List ℕ) → (if b then Err w else r) ≡ Ok step → (b ≡ false) × (r ≡ Ok step)
filled true w r step e = absurd (cc)
filled false w r step e = (refl, e)

some : {X : Type 0} (xs : List X) → (length xs == 0) ≡ false → 0 < length xs
some [] e = absurd (cc)
some (x ∷ xs) e = omega arith

step_is : (p : Place) (tables : List (List ℕ)) (ds : List Data) (step : List ℕ) → step_from p tables ds ≡ Ok step → IsStep (length tables) step
unfolding step_from
step_is p tables ds step e =
    let long = filled (length ds == 0) _ _ step e in
    let kept = each_keeps (IsPart (length tables)) (step_table_at p tables) (table_kept p tables) 0 [] ds step (record { once = refl; within = omega arith }) long.1 in
    record {
      some = omega (arith, some ds long.0, each_count length (step_table_at p tables) (one_more p tables) 0 [] ds step long.1);
      once = kept.once;
      within = kept.within;
    }

abbrev pub AreSteps : ℕ → List (List ℕ) → Type 0
AreSteps n [] = Unit {0}
AreSteps n (step ∷ steps) = IsStep n step × AreSteps n steps

steps_last : (n : ℕ) (steps : List (List ℕ)) (step : List ℕ) → AreSteps n steps → IsStep n step → AreSteps n (steps ++ step ∷ [])
steps_last n [] step so_far new = (new, tt)
steps_last n (s ∷ steps) step so_far new = (so_far.0, steps_last n steps step so_far.1 new)

-- no step has a fault, and each table is below n
pub faultless : (n i : ℕ) (steps : List (List ℕ)) → AreSteps n steps → first_step_fault i steps ≡ None
faultless n i [] h = refl
faultless n i (step ∷ steps) h = rw (positive (length step) h.0.some, h.0.once, faultless n (i + 1) steps h.1)

pub steps_within : (n : ℕ) (steps : List (List ℕ)) → AreSteps n steps → above_steps steps ≤ n
steps_within n [] h = omega arith
steps_within n (step ∷ steps) h = omega (arith, h.0.within, steps_within n steps h.1)

step_kept : (p : Place) (tables : List (List ℕ)) (i : ℕ) (steps : List (List ℕ)) (d : Data) (new : List (List ℕ)) → AreSteps (length tables) steps → step_in p tables i steps d ≡ Ok new
    → AreSteps (length tables) new
step_kept p tables i steps d new so_far e =
    let made = bind_ok (at p (formed (as_list d)) >>= step_from p tables) _ new e in
    let array = bind_ok (at p (formed (as_list d))) (step_from p tables) made.0 made.1 in
    rw (← ok_is _ _ new refl made.2) (steps_last (length tables) steps made.0 so_far (step_is p tables array.0 made.0 array.2))

step_more : (p : Place) (tables : List (List ℕ)) (i : ℕ) (steps : List (List ℕ)) (d : Data) (new : List (List ℕ)) → step_in p tables i steps d ≡ Ok new → length new ≡ length steps + 1
step_more p tables i steps d new e =
    let made = bind_ok (at p (formed (as_list d)) >>= step_from p tables) _ new e in
    omega (arith, ap length (ok_is _ _ new refl made.2), length-append steps (made.0 ∷ []))

-- 1 to 16 steps without a fault
pub record IsSteps (n : ℕ) (steps : List (List ℕ)) : Type 0 where
  pub some : 0 < length steps
  pub few : length steps ≤ 16
  pub each_one : AreSteps n steps

steps_are : (p : Place) (tables : List (List ℕ)) (ds : List Data) (steps : List (List ℕ)) → 0 < length ds → length ds ≤ 16 → steps_from p tables ds ≡ Ok steps → IsSteps (length tables) steps
unfolding steps_from
steps_are p tables ds steps some few e = record {
  some = omega (arith, each_count length (step_in p tables) (step_more p tables) 0 [] ds steps e);
  few = omega (arith, each_count length (step_in p tables) (step_more p tables) 0 [] ds steps e);
  each_one = each_keeps (AreSteps (length tables)) (step_in p tables) (step_kept p tables) 0 [] ds steps tt e;
}

-- the tables below n
above_below : (n : ℕ) → above (below n) ≤ n
unfolding below
above_below zero = omega arith
above_below (suc n) = above_last (suc n) n (below n) (omega (arith, above_below n)) (omega arith)

not_among : (n t : ℕ) → n ≤ t → among t (below n) ≡ false
unfolding below
not_among zero t h = refl
not_among (suc n) t h = rw (list_any-append (λ m. eqb m t) (below n) (n ∷ []), not_among n t (omega arith), unequal n t (omega arith))
  where
    unequal : (n t : ℕ) → n < t → eqb n t ≡ false
    unequal n t h = grind arith

once_below : (n : ℕ) → has_twice (below n) ≡ false
unfolding below
once_below zero = refl
once_below (suc n) = twice_last n (below n) (once_below n) (not_among n n (omega arith))

all_tables : (n : ℕ) → 0 < n → IsSteps n (below n ∷ [])
all_tables n h = record {
  some = omega arith;
  few = omega arith;
  each_one = (record { some = omega (arith, length_below n); once = once_below n; within = above_below n }, tt);
}

within_limits : (few many : Bool) (w : FieldWhy) (ds es : List Data) → (if few && many then Ok ds else Err w) ≡ Ok es → (few ≡ true) × (many ≡ true) × (ds ≡ es)
within_limits true true w ds es e = (refl, refl, ok_is _ ds es refl e)
within_limits true false w ds es e = absurd (cc)
within_limits false many w ds es e = absurd (cc)

checked : (b : Bool) (r : Result (List Data) FieldWhy) (es : List Data) → (if b then r else Err Form) ≡ Ok es → r ≡ Ok es
checked true r es e = e
checked false r es e = absurd (cc)

form_of : Option (List Data) → Result (Option (List Data)) FieldWhy
form_of o = elim o [ None ↦ Ok None | Some ds ↦ (if list_all is_step ds then counted 1 16 (Some ds) else Err Form) >>= (λ es. Ok (Some es)) ]

given_form : (o : Option (List Data)) (ds : List Data) → form_of o ≡ Ok (Some ds) → (0 < length ds) × (length ds ≤ 16)
unfolding form_of
given_form None ds e = absurd (cc)
given_form (Some es) ds e =
    let made = bind_ok (if list_all is_step es then counted 1 16 (Some es) else Err Form) _ (Some ds) e in
    let same : Some made.0 ≡ Some ds = ok_is _ (Some made.0) (Some ds) refl made.2 in
    let inside : made.0 ≡ ds = (cc) in
    let limits = within_limits (nat_le 1 (length es)) (nat_le (length es) 16) _ es made.0 (checked (list_all is_step es) _ made.0 made.1) in
    let long : 1 ≤ length es = leb-true 1 (length es) limits.0 in
    let short : length es ≤ 16 = leb-true (length es) 16 limits.1 in
    rw (← inside, ← limits.2) (long, short)

chosen : (p : Place) (tables : List (List ℕ)) (ms : Members) (o : Option (List Data)) (steps : List (List ℕ)) → 0 < length tables → steps_form ms ≡ Ok o
    → elim o as (λ _. Result (List (List ℕ)) TreeTextError) [ None ↦ Ok (below (length tables) ∷ []) | Some ds ↦ steps_from p tables ds ] ≡ Ok steps → IsSteps (length tables) steps
unfolding form_of
chosen p tables ms None steps some form e = rw (← ok_is _ _ steps refl e) (all_tables (length tables) some)
chosen p tables ms (Some ds) steps some form e =
    let limits = given_form (bind_ok (array_at (codes "steps") ms) form_of (Some ds) form).0 ds (bind_ok (array_at (codes "steps") ms) form_of (Some ds) form).2 in
    steps_are p tables ds steps limits.0 limits.1 e

pub steps_in_are : (p : Place) (tables : List (List ℕ)) (ms : Members) (steps : List (List ℕ)) → 0 < length tables → steps_in p tables ms ≡ Ok steps → IsSteps (length tables) steps
steps_in_are p tables ms steps some e =
    let made = bind_ok (at p (steps_form ms)) _ steps e in
    chosen p tables ms made.0 steps some (at_ok p _ made.0 made.1) made.2

pub no_fault : (p : Place) (tables : List (List ℕ)) (ms : Members) (steps : List (List ℕ)) → 0 < length tables → steps_in p tables ms ≡ Ok steps → steps_fault steps ≡ None
no_fault p tables ms steps some e =
    let good = steps_in_are p tables ms steps some e in
    rw (positive (length steps) good.some, short (length steps) good.few) (faultless (length tables) 0 steps good.each_one)
  where
    short : (n : ℕ) → n ≤ 16 → ltb 16 n ≡ false
    short n h = grind arith

pub never : (p : Place) (tables : List (List ℕ)) (ms : Members) (steps : List (List ℕ)) (fault : StepsError) → 0 < length tables → steps_in p tables ms ≡ Ok steps → steps_fault steps ≡ Some fault → ⊥
never p tables ms steps fault some e bad = let none : steps_fault steps ≡ None = no_fault p tables ms steps some e in (cc)
