-- The properties of the names that were read.
use Rattle.std.proofs.Common.{◌≡◌, ℕ, Bool, true, false, not, if◌then◌else◌, List, [], ◌∷◌, ◌++◌, codes, Ok, Err, refl, subst}
use Rattle.std.specs.List.{IsDistinct, list_all}
use Rattle.std.specs.Str.{bytes_eq}
use Rattle.std.proofs.lemmas.Bool.{and_from, and_parts}
use Rattle.std.proofs.lemmas.Cmp.{nat_list_eq_equiv}
use Rattle.std.proofs.lemmas.Map.Keys.{IsDistinct-push}
use Rattle.teb_rules.specs.names.Names.{has}
use Rattle.toml.specs.Data.{Data, Members, as_str}
use Rattle.tree_toml.specs.Reading.{formed, at}
use Rattle.tree_toml.specs.Fields.{place, list_at, table_entry}
use Rattle.teb_rules.specs.names.Names.{is_name}
use Rattle.tree_toml.specs.Names.{named}
use Rattle.tree_toml.specs.Tables.{table_in, tables_in, tables_of}
use Rattle.tree_toml.specs.Types.{TypeList, no_types, name_in, name_text_of, steps_in, type_in, types_in, types_of}
use Rattle.tree_toml.specs.Nodes.{NodeList, node_name, node_names, node_rows, nodes_of}
use Rattle.tree_toml.specs.declared.fault.FieldWhy.TheVariants.{Name, Repeated}
use Rattle.tree_toml.specs.declared.fault.ListName.TheVariants as list
use Rattle.tree_toml.specs.declared.fault.Key.TheVariants as key
use Rattle.tree_toml.specs.declared.fault.Place.{Place}
use Rattle.tree_toml.proofs.Bound.{bind_ok, at_ok, ok_is, each_keeps}

-- well-formed names, no two of them the same
pub record AreNames (names : List (List ℕ)) : Type 0 where
  pub are : list_all is_name names ≡ true
  pub differ : IsDistinct bytes_eq names

none : AreNames []
unfolding IsDistinct
none = record { are = refl; differ = tt }

all_push : (p : List ℕ → Bool) (names : List (List ℕ)) (s : List ℕ) → list_all p names ≡ true → p s ≡ true → list_all p (names ++ s ∷ []) ≡ true
all_push p [] s all here = and_from (p s) true here refl
all_push p (n ∷ names) s all here =
    let h = and_parts (p n) (list_all p names) all in
    and_from (p n) (list_all p (names ++ s ∷ [])) h.0 (all_push p names s h.1 here)

-- a name that was added is well-formed and new
added : (names : List (List ℕ)) (s : List ℕ) (new : List (List ℕ)) (a b : Bool) → (if not a then Err Name else if b then Err Repeated else Ok (names ++ s ∷ [])) ≡ Ok new
    → (a ≡ true) × (b ≡ false) × (names ++ s ∷ [] ≡ new)
added names s new true false e = (refl, refl, ok_is _ _ new refl e)
added names s new true true e = absurd (cc)
added names s new false b e = absurd (cc)

named_keeps : (names : List (List ℕ)) (s : List ℕ) (new : List (List ℕ)) → AreNames names → named names s ≡ Ok new → AreNames new
unfolding named
named_keeps names s new so_far e =
    let h = added names s new (is_name s) (has names s) e in
    subst AreNames h.2 (record {
      are = all_push is_name names s so_far.are h.0;
      differ = IsDistinct-push nat_list_eq_equiv names s so_far.differ h.1;
    })

name_keeps : (p : Place) (names : List (List ℕ)) (ms : Members) (new : List (List ℕ)) → AreNames names → name_in p names ms ≡ Ok new → AreNames new
unfolding name_in
name_keeps p names ms new so_far e =
    let made = bind_ok (at p (name_text_of ms)) _ new e in
    named_keeps names made.0 new so_far (at_ok p _ new made.2)

-- tables
table_keeps : (i : ℕ) (names : List (List ℕ)) (d : Data) (new : List (List ℕ)) → AreNames names → table_in i names d ≡ Ok new → AreNames new
table_keeps i names d new so_far e =
    let made = bind_ok (formed (as_str d)) (named names) new (at_ok (place list.Tables i key.Whole) _ new e) in
    named_keeps names made.0 new so_far made.2

pub tables_are_names : (ms : Members) (tables : List (List ℕ)) → tables_of ms ≡ Ok tables → AreNames tables
unfolding tables_in
tables_are_names ms tables e =
    let ds = bind_ok (list_at list.Tables (codes "tables") key.Tables 1 64 ms) tables_in tables e in
    each_keeps AreNames table_in table_keeps 0 [] ds.0 tables none ds.2

-- types
type_keeps : (tables : List (List ℕ)) (i : ℕ) (types : TypeList) (d : Data) (new : TypeList) → AreNames types.names → type_in tables i types d ≡ Ok new → AreNames new.names
unfolding type_in
type_keeps tables i types d new so_far e =
    let ms = bind_ok (table_entry list.Types 1 i d) _ new e in
    let names = bind_ok (name_in (place list.Types i key.Name) types.names ms.0) _ new ms.2 in
    let steps = bind_ok (steps_in (place list.Types i key.Steps) tables ms.0) _ new names.2 in
    rw (← ok_is _ _ new refl steps.2) (name_keeps (place list.Types i key.Name) types.names ms.0 names.0 so_far names.1)

pub types_are_names : (tables : List (List ℕ)) (ms : Members) (types : TypeList) → types_of tables ms ≡ Ok types → AreNames types.names
unfolding types_in
types_are_names tables ms types e =
    let ds = bind_ok (list_at list.Types (codes "type") key.Types 1 64 ms) (types_in tables) types e in
    each_keeps (λ (t : TypeList). AreNames t.names) (type_in tables) (type_keeps tables) 0 no_types ds.0 types none ds.2

-- nodes
node_keeps : (format i : ℕ) (names : List (List ℕ)) (d : Data) (new : List (List ℕ)) → AreNames names → node_name format i names d ≡ Ok new → AreNames new
node_keeps format i names d new so_far e =
    let made = bind_ok (table_entry list.Nodes format i d) _ new e in
    name_keeps (place list.Nodes i key.Name) names made.0 new so_far made.2

node_names_are : (format : ℕ) (ds : List Data) (names : List (List ℕ)) → node_names format ds ≡ Ok names → AreNames names
unfolding node_names
node_names_are format ds names e = each_keeps AreNames (node_name format) (node_keeps format) 0 [] ds names none e

pub nodes_are_names : (format : ℕ) (types : List (List ℕ)) (ms : Members) (nodes : NodeList) → nodes_of format types ms ≡ Ok nodes → AreNames nodes.names
nodes_are_names format types ms nodes e =
    let ds = bind_ok (list_at list.Nodes (codes "node") key.Nodes 1 64 ms) _ nodes e in
    let names = bind_ok (node_names format ds.0) _ nodes ds.2 in
    let rows = bind_ok (node_rows types names.0 ds.0) _ nodes names.2 in
    rw (← ok_is _ _ nodes refl rows.2) (node_names_are format ds.0 names.0 names.1)
