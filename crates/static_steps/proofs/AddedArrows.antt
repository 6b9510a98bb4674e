-- The arrows of tables, of steps and of profiles, one after another.
use Rattle.std.proofs.Common.{◌≡◌, ℕ, zero, suc, ◌+◌, ◌-◌, ◌<◌, ◌≤◌, Bool, true, false, ◌&&◌, ◌||◌, eqb, List, [], ◌∷◌, length, get_or, take, drop, map, replicate, refl, sym, ◌∙◌, ap, arith}
use Rattle.std.proofs.lemmas.List.{take_rest, drop_more}
use Rattle.std.proofs.lemmas.List.Folds.{list_any_more}
use Rattle.std.specs.List.{list_any}
use Rattle.teb_rules.specs.declared.names.Kind.{Kind}
use Rattle.teb_rules.specs.declared.names.Table.{Table}
use Rattle.teb_rules.specs.Setup.{among, above, above_steps, above_profiles}
use Rattle.teb_rules.specs.Steps.{leads, arrow}
use Rattle.store_setup.specs.profile.Steps.{numbers_of}
use Rattle.static_steps.specs.Profiles.{profiles_of}
use Rattle.static_steps.specs.Squares.{is_in, leads_in}
use Rattle.static_steps.proofs.Bits.{none_in}
use Rattle.static_steps.proofs.Square.{or_both}

-- the arrows of the first table, then those of the other tables
pub tables_added : (tables : List Table) (rows mid new : List ℕ) (from later : ℕ) → 1 ≤ length tables → from ≡ (get_or tables 0 (record { 0 = 0 })).0 →
    ((a b : ℕ) → leads_in mid a b ≡ (leads_in rows a b || (eqb from a && is_in later b))) →
    ((a b : ℕ) → leads_in new a b ≡ (leads_in mid a b || (among a (numbers_of (take (length tables - 1) (drop 1 tables))) && is_in later b))) →
    (a b : ℕ) → leads_in new a b ≡ (leads_in rows a b || (among a (numbers_of tables) && is_in later b))
tables_added [] rows mid new from later h e f g a b = absurd (omega arith)
tables_added (t ∷ ts) rows mid new from later h e f g a b =
    let rest : take (length (t ∷ ts) - 1) (drop 1 (t ∷ ts)) ≡ ts = take_rest (t ∷ ts) 1 in
    g a b ∙ rw (rest, f a b, e) (or_both (leads_in rows a b) (eqb t.0 a) (among a (numbers_of ts)) (is_in later b))

regroup : (x l y : Bool) → ((x || l) || y) ≡ (x || (y || l))
regroup true l y = refl
regroup false true true = refl
regroup false true false = refl
regroup false false true = refl
regroup false false false = refl

-- the arrows of the later steps, then those of the step
pub step_added : (steps : List (List ℕ)) (from : ℕ) (rows mid new : List ℕ) (tables : List ℕ) (own behind later : ℕ) → from < length steps → tables ≡ get_or steps from [] →
    ((b : ℕ) → is_in own b ≡ among b tables) →
    ((b : ℕ) → is_in behind b ≡ list_any (among b) (drop (from + 1) steps)) →
    ((b : ℕ) → is_in later b ≡ (is_in own b || is_in behind b)) →
    ((a b : ℕ) → leads_in mid a b ≡ (leads_in rows a b || leads (drop (from + 1) steps) a b)) →
    ((a b : ℕ) → leads_in new a b ≡ (leads_in mid a b || (among a tables && is_in later b))) →
    (a b : ℕ) → leads_in new a b ≡ (leads_in rows a b || leads (drop from steps) a b)
unfolding leads
step_added steps from rows mid new tables own behind later h e o d l m n a b =
    n a b ∙ rw (m a b, l b, o b, d b, drop_more steps from [] h, e)
    (regroup (leads_in rows a b) (leads (drop (from + 1) steps) a b) (among a (get_or steps from []) && (among b (get_or steps from []) || list_any (among b) (drop (from + 1) steps))))

any-map : {X Y : Type 0} (p : Y → Bool) (h : X → Y) (xs : List X) → list_any p (map h xs) ≡ list_any (λ x. p (h x)) xs
any-map p h [] = refl
any-map p h (x ∷ xs) = ap (λ (b : Bool). p (h x) || b) (any-map p h xs)

-- the arrows of one more profile
pub profile_added : (ps : List (List (List ℕ))) (kinds : List Kind) (i : ℕ) (d : Kind) (old new : List ℕ) → i < length kinds →
    ((a b : ℕ) → leads_in old a b ≡ arrow (profiles_of ps (take i kinds)) a b) →
    ((a b : ℕ) → leads_in new a b ≡ (leads_in old a b || leads (get_or ps (get_or kinds i d).0 []) a b)) →
    (a b : ℕ) → leads_in new a b ≡ arrow (profiles_of ps (take (i + 1) kinds)) a b
unfolding arrow
profile_added ps kinds i d old new h f g a b =
    let steps_lead : List (List ℕ) → Bool = λ steps. leads steps a b in
    let steps_of_kind : Kind → List (List ℕ) = λ k. get_or ps k.0 [] in
    g a b ∙ rw (f a b, any-map steps_lead steps_of_kind (take i kinds), any-map steps_lead steps_of_kind (take (i + 1) kinds))
    (sym (list_any_more (λ (k : Kind). leads (get_or ps k.0 []) a b) kinds i d h))

-- the first of a list of tables is below the list's bound
pub first_named : (tables : List Table) → 1 ≤ length tables → (get_or tables 0 (record { 0 = 0 })).0 < above (numbers_of tables)
first_named [] h = absurd (omega arith)
first_named (t ∷ ts) h = omega arith

-- the tables of one profile are below the bound of all profiles
pub within_all : (ps : List (List (List ℕ))) (kinds : List Kind) (i : ℕ) (d : Kind) → i < length kinds → above_steps (get_or ps (get_or kinds i d).0 []) ≤ above_profiles (profiles_of ps kinds)
within_all ps [] i d h = absurd (omega arith)
within_all ps (k ∷ ks) zero d h = omega arith
within_all ps (k ∷ ks) (suc i) d h = let r = within_all ps ks i d (omega arith) in omega arith

-- the empty rows have no arrows
pub no_arrows : (n a b : ℕ) → leads_in (replicate n 0) a b ≡ false
unfolding leads_in
no_arrows zero a b = none_in b
no_arrows (suc n) zero b = none_in b
no_arrows (suc n) (suc a) b = no_arrows n a b
