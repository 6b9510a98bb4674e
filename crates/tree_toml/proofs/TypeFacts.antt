-- The properties of the tables and the types that were read.
use Rattle.std.proofs.Common.{◌≡◌, ℕ, zero, suc, ◌+◌, ◌<◌, ◌≤◌, List, [], ◌∷◌, ◌++◌, length, length-append, get_or, codes, Ok, refl, ap, arith}
use Rattle.teb_rules.specs.Setup.{above_profiles}
use Rattle.toml.specs.Data.{Data, Members, as_str}
use Rattle.tree_toml.specs.Reading.{formed}
use Rattle.tree_toml.specs.Fields.{place, list_at, table_entry}
use Rattle.tree_toml.specs.Names.{named}
use Rattle.tree_toml.specs.Tables.{table_in, tables_in, tables_of}
use Rattle.tree_toml.specs.Types.{TypeList, no_types, name_in, steps_in, type_in, types_in, types_of}
use Rattle.tree_toml.specs.declared.fault.ListName.TheVariants as list
use Rattle.tree_toml.specs.declared.fault.Key.TheVariants as key
use Rattle.tree_toml.proofs.Bound.{bind_ok, at_ok, ok_is, each_keeps, each_count}
use Rattle.tree_toml.proofs.Profiles.{IsSteps, AreSteps, steps_in_are, steps_within}
use Rattle.tree_toml.proofs.NodeFacts.{list_ok, name_ok, named_ok}

table_more : (i : ℕ) (names : List (List ℕ)) (d : Data) (new : List (List ℕ)) → table_in i names d ≡ Ok new → length new ≡ length names + 1
table_more i names d new e =
    let made = bind_ok (formed (as_str d)) (named names) new (at_ok (place list.Tables i key.Whole) _ new e) in
    named_ok names made.0 new made.2

-- 1 to 64 tables
pub tables_ok : (ms : Members) (tables : List (List ℕ)) → tables_of ms ≡ Ok tables → (0 < length tables) × (length tables ≤ 64)
unfolding tables_in
tables_ok ms tables e =
    let ds = bind_ok (list_at list.Tables (codes "tables") key.Tables 1 64 ms) tables_in tables e in
    let limits = list_ok list.Tables (codes "tables") key.Tables 1 64 ms ds.0 ds.1 in
    let count = each_count length table_in table_more 0 [] ds.0 tables ds.2 in
    (omega (arith, count, limits.0), omega (arith, count, limits.1))

-- each profile consists of steps on tables below n
abbrev pub AreProfiles : ℕ → List (List (List ℕ)) → Type 0
AreProfiles n [] = Unit {0}
AreProfiles n (steps ∷ profiles) = IsSteps n steps × AreProfiles n profiles

profiles_last : (n : ℕ) (profiles : List (List (List ℕ))) (steps : List (List ℕ)) → AreProfiles n profiles → IsSteps n steps → AreProfiles n (profiles ++ steps ∷ [])
profiles_last n [] steps all new = (new, tt)
profiles_last n (p ∷ profiles) steps all new = (all.0, profiles_last n profiles steps all.1 new)

step_filled : (n : ℕ) (steps : List (List ℕ)) (i : ℕ) → AreSteps n steps → i < length steps → 0 < length (get_or steps i [])
step_filled n [] i all h = absurd (omega arith)
step_filled n (step ∷ steps) zero all h = all.0.some
step_filled n (step ∷ steps) (suc i) all h = step_filled n steps i all.1 (omega arith)

-- each step has a table, and each table is below n
pub profile_filled : (n : ℕ) (profiles : List (List (List ℕ))) (k i : ℕ) → AreProfiles n profiles → k < length profiles → i < length (get_or profiles k [])
    → 0 < length (get_or (get_or profiles k []) i [])
profile_filled n [] k i all h g = absurd (omega arith)
profile_filled n (steps ∷ profiles) zero i all h g = step_filled n steps i all.0.each_one g
profile_filled n (steps ∷ profiles) (suc k) i all h g = profile_filled n profiles k i all.1 (omega arith) g

pub profiles_within : (n : ℕ) (profiles : List (List (List ℕ))) → AreProfiles n profiles → above_profiles profiles ≤ n
profiles_within n [] all = omega arith
profiles_within n (steps ∷ profiles) all = omega (arith, steps_within n steps all.0.each_one, profiles_within n profiles all.1)

record AreTypes (n : ℕ) (types : TypeList) : Type 0 where
  profiles : AreProfiles n types.profiles
  same : length types.profiles ≡ length types.names

type_kept : (tables : List (List ℕ)) → 0 < length tables → (i : ℕ) (types : TypeList) (d : Data) (new : TypeList) → AreTypes (length tables) types → type_in tables i types d ≡ Ok new
    → AreTypes (length tables) new
unfolding type_in
type_kept tables some i types d new so_far e =
    let ms = bind_ok (table_entry list.Types 1 i d) _ new e in
    let names = bind_ok (name_in (place list.Types i key.Name) types.names ms.0) _ new ms.2 in
    let steps = bind_ok (steps_in (place list.Types i key.Steps) tables ms.0) _ new names.2 in
    rw (← ok_is _ _ new refl steps.2) (record {
      profiles = profiles_last (length tables) types.profiles steps.0 so_far.profiles (steps_in_are (place list.Types i key.Steps) tables ms.0 steps.0 some steps.1);
      same = omega (arith, so_far.same, name_ok (place list.Types i key.Name) types.names ms.0 names.0 names.1, length-append types.profiles (steps.0 ∷ []));
    })

type_more : (tables : List (List ℕ)) (i : ℕ) (types : TypeList) (d : Data) (new : TypeList) → type_in tables i types d ≡ Ok new → length new.names ≡ length types.names + 1
unfolding type_in
type_more tables i types d new e =
    let ms = bind_ok (table_entry list.Types 1 i d) _ new e in
    let names = bind_ok (name_in (place list.Types i key.Name) types.names ms.0) _ new ms.2 in
    let steps = bind_ok (steps_in (place list.Types i key.Steps) tables ms.0) _ new names.2 in
    omega (arith, ap (λ (t : TypeList). length t.names) (ok_is _ _ new refl steps.2), name_ok (place list.Types i key.Name) types.names ms.0 names.0 names.1)

-- at most 64 types, and as many profiles
pub record AreTyped (n : ℕ) (types : TypeList) : Type 0 where
  pub profiles : AreProfiles n types.profiles
  pub same : length types.profiles ≡ length types.names
  pub few : length types.names ≤ 64

pub types_ok : (tables : List (List ℕ)) (ms : Members) (types : TypeList) → 0 < length tables → types_of tables ms ≡ Ok types → AreTyped (length tables) types
unfolding types_in
types_ok tables ms types some e =
    let ds = bind_ok (list_at list.Types (codes "type") key.Types 1 64 ms) (types_in tables) types e in
    let limits = list_ok list.Types (codes "type") key.Types 1 64 ms ds.0 ds.1 in
    let kept = each_keeps (AreTypes (length tables)) (type_in tables) (type_kept tables some) 0 no_types ds.0 types (record { profiles = tt; same = refl }) ds.2 in
    let count = each_count (λ (t : TypeList). length t.names) (type_in tables) (type_more tables) 0 no_types ds.0 types ds.2 in
    record { profiles = kept.profiles; same = kept.same; few = omega (arith, count, limits.1) }
