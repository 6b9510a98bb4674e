-- The ranks that are computed from the profiles under a node are the ranks at the node.
use Rattle.std.proofs.Common.{◌≡◌, ℕ, zero, suc, ◌<◌, ◌≤◌, Bool, false, not, ◌||◌, ◌&&◌, List, [], ◌∷◌, length, filter, map, get_or, refl, sym, ◌∙◌, ap, subst, arith, inl, inr}
use Rattle.std.specs.List.{list_any, All}
use Rattle.std.proofs.lemmas.Bool.{cases_lt, ne_eqb}
use Rattle.std.proofs.Math.ListN.{get_or-eq_default}
use Rattle.teb_rules.specs.declared.names.Kind.{Kind}
use Rattle.teb_rules.proofs.lemmas.names.Bools.{and_false}
use Rattle.teb_rules.specs.Setup.{Setup, among, above, above_steps, above_profiles, ranked_tables, profile}
use Rattle.teb_rules.specs.Tree.{below}
use Rattle.teb_rules.specs.Serializes.{In}
use Rattle.teb_rules.specs.Steps.{leads, arrow, reaches, greatest, ahead, longest, table_rank, stands_under, profiles_under, rank_of_table}
use Rattle.teb_rules.proofs.lemmas.laws.Serial.{filter-In}
use Rattle.teb_rules.proofs.lemmas.laws.Cascades.{no_members}
use Rattle.teb_rules.proofs.lemmas.laws.TableRanks.{below-In}
use Rattle.static_steps.specs.Profiles.{profiles_of}
use Rattle.store_setup.specs.tree.Grown.{kind_numbers}
use Rattle.runtime_pipeline.specs.Standing.{RanksOf}

-- a table above all named ones is in no list; none reaches it, and it has rank 0
not_among : (xs : List ℕ) (a : ℕ) → above xs ≤ a → among a xs ≡ false
not_among [] a h = refl
not_among (x ∷ xs) a h = rw (ne_eqb x a (λ e. omega arith)) (not_among xs a (omega arith))

not_in_steps : (ss : List (List ℕ)) (a : ℕ) → above_steps ss ≤ a → list_any (among a) ss ≡ false
not_in_steps [] a h = refl
not_in_steps (s ∷ ss) a h = λ j. not_among s a (omega arith) j || not_in_steps ss a (omega arith) j

no_leads : (ss : List (List ℕ)) (b a : ℕ) → above_steps ss ≤ a → leads ss b a ≡ false
unfolding leads
no_leads [] b a h = refl
no_leads (s ∷ ss) b a h = (λ j. (among b s && not_in_steps (s ∷ ss) a h j) || no_leads ss b a (omega arith) j) ∙ ap (λ (c : Bool). c || false) (and_false (among b s))

no_arrow : (ps : List (List (List ℕ))) (b a : ℕ) → above_profiles ps ≤ a → arrow ps b a ≡ false
unfolding arrow
no_arrow [] b a h = refl
no_arrow (p ∷ ps) b a h = λ j. no_leads p b a (omega arith) j || no_arrow ps b a (omega arith) j

no_reach : (ps : List (List (List ℕ))) (m b a : ℕ) → above_profiles ps ≤ a → reaches ps m b a ≡ false
unfolding reaches
no_reach ps zero b a h = no_arrow ps b a h
no_reach ps (suc m) b a h = (λ j. no_reach ps m b a h j || (reaches ps m b m && no_reach ps m m a h j)) ∙ and_false (reaches ps m b m)

no_ahead : (ps : List (List (List ℕ))) (m a : ℕ) → above_profiles ps ≤ a → ahead ps m a ≡ []
unfolding ahead
no_ahead ps m a h = (λ j. filter (λ b. no_reach ps m b a h j && not (reaches ps m a b)) (below m)) ∙ no_members (below m)

no_rank : (ps : List (List (List ℕ))) (m d a : ℕ) → above_profiles ps ≤ a → longest ps m d a ≡ 0
unfolding longest
no_rank ps m zero a h = refl
no_rank ps m (suc d) a h = ap (λ (xs : List ℕ). greatest (map (λ b. suc (longest ps m d b)) xs)) (no_ahead ps m a h)

-- the bound of one profile is at most the bound of all profiles
profile_below : (ps : List (List (List ℕ))) (k : ℕ) → above_steps (get_or ps k []) ≤ above_profiles ps
profile_below [] k = omega arith
profile_below (p ∷ ps) zero = omega arith
profile_below (p ∷ ps) (suc k) = let z = profile_below ps k in omega arith

pub some_below : (ps : List (List (List ℕ))) (kinds : List Kind) → above_profiles (profiles_of ps kinds) ≤ above_profiles ps
some_below ps [] = omega arith
some_below ps (k ∷ kinds) = let z = profile_below ps k.0 in let y = some_below ps kinds in omega arith

-- the profiles of the types, by number
by_numbers : (S : Setup) (kinds : List Kind) → profiles_of S.profiles kinds ≡ map (profile S) (kind_numbers kinds)
by_numbers S [] = refl
by_numbers S (k ∷ kinds) = ap (λ (ps : List (List (List ℕ))). profile S k.0 ∷ ps) (by_numbers S kinds)

pub under_profiles : (S : Setup) (n : ℕ) (kinds : List Kind) → kind_numbers kinds ≡ filter (stands_under S.tree n) (below S.types) → profiles_of S.profiles kinds ≡ profiles_under S n
unfolding profiles_under
under_profiles S n kinds e = by_numbers S kinds ∙ ap (map (profile S)) e

-- each type of the list has a profile
all_from : (m : ℕ) (kinds : List Kind) → ((k : ℕ) → In k (kind_numbers kinds) → k < m) → (i : ℕ) (d : Kind) → i < length kinds → (get_or kinds i d).0 < m
all_from m [] f i d l = absurd (omega arith)
all_from m (k ∷ kinds) f zero d l = f k.0 (inl refl)
all_from m (k ∷ kinds) f (suc i) d l = all_from m kinds (λ j q. f j (inr q)) i d (omega arith)

pub under_known : (S : Setup) (n m : ℕ) (kinds : List Kind) → S.types ≤ m → kind_numbers kinds ≡ filter (stands_under S.tree n) (below S.types) → All (λ (k : Kind). k.0 < m) kinds
under_known S n m kinds l e = all_from m kinds (λ k i. let j = (filter-In (stands_under S.tree n) k (below S.types) (subst (λ (xs : List ℕ). In k xs) e i)).0 in let z = below-In S.types k j in
    omega arith)

pub ranks_are : (S : Setup) (n tables : ℕ) (kinds : List Kind) (ranks : List ℕ) → kind_numbers kinds ≡ filter (stands_under S.tree n) (below S.types) → tables ≡ above_profiles S.profiles
    → length ranks ≡ tables
    → ((a : ℕ) → a < tables → get_or ranks a 0 ≡ table_rank (profiles_of S.profiles kinds) tables a) → RanksOf ranks S n
unfolding rank_of_table table_rank
ranks_are S n tables kinds ranks e t l f a = elim (cases_lt a tables) [
  | inl b ↦ f a b ∙ (λ j. longest (under_profiles S n kinds e j) (t j) (t j) a)
  | inr b ↦ get_or-eq_default ranks 0 (omega arith)
      ∙ sym (no_rank (profiles_under S n) (ranked_tables S) (ranked_tables S) a (let z = some_below S.profiles kinds in let y = ap above_profiles (under_profiles S n kinds e) in omega arith))
]
