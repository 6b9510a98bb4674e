-- The types of a tree text, with their profiles.
use Rattle.std.specs.Prelude.{ℕ, Bool, false, ◌==◌, if◌then◌else◌, List, [], ◌∷◌, ◌++◌, length, codes, Result, Ok, Err, Option, Some, None, is_some}
use Rattle.std.specs.List.{list_all}
use Rattle.teb_rules.specs.Setup.{among}
use Rattle.teb_rules.specs.Tree.{below}
use Rattle.toml.specs.Data.{Data, Members, as_str}
use Rattle.tree_toml.specs.declared.fault.ListName.TheVariants as list
use Rattle.tree_toml.specs.declared.fault.Key.TheVariants as key
use Rattle.tree_toml.specs.declared.fault.Place.{Place}
use Rattle.tree_toml.specs.declared.fault.FieldWhy.{FieldWhy}
use Rattle.tree_toml.specs.declared.fault.FieldWhy.TheVariants.{Form, Repeated, Many}
use Rattle.tree_toml.specs.declared.fault.TreeTextError.{TreeTextError}
use Rattle.tree_toml.specs.Reading.{◌>>=◌, required, formed, fault_at, at, each}
use Rattle.tree_toml.specs.Fields.{place, as_list, text_at, array_at, counted, numbered, list_at, table_entry}
use Rattle.tree_toml.specs.Names.{named}

-- the names of the types, and their profiles, each a list of steps and a step a list of numbers of tables
pub record TypeList : Type 0 where
  pub names : List (List ℕ)
  pub profiles : List (List (List ℕ))

abbrev pub no_types : TypeList
no_types = record { names = []; profiles = [] }

abbrev pub is_text : Data → Bool
is_text d = is_some (as_str d)

abbrev pub are_texts : Option (List Data) → Bool
are_texts None = false
are_texts (Some ds) = list_all is_text ds

-- an array of texts
abbrev pub is_step : Data → Bool
is_step d = are_texts (as_list d)

-- 1 to 16 arrays of texts; none where they are not given
abbrev pub steps_form : Members → Result (Option (List Data)) FieldWhy
steps_form ms = array_at (codes "steps") ms >>= (λ o. elim o [
  | None ↦ Ok None
  | Some ds ↦ (if list_all is_step ds then counted 1 16 (Some ds) else Err Form) >>= (λ es. Ok (Some es))
])

-- the next table of a step
abbrev pub step_table : List (List ℕ) → List ℕ → Data → Result (List ℕ) FieldWhy
step_table tables seen d = formed (as_str d) >>= numbered tables >>= (λ t. if among t seen then Err Repeated else Ok (seen ++ t ∷ []))

abbrev pub step_table_at : Place → List (List ℕ) → ℕ → List ℕ → Data → Result (List ℕ) TreeTextError
step_table_at p tables i seen d = at p (step_table tables seen d)

unfoldable pub step_from : Place → List (List ℕ) → List Data → Result (List ℕ) TreeTextError
step_from p tables ds = if length ds == 0 then Err (fault_at p Many) else each (step_table_at p tables) 0 [] ds

abbrev pub step_in : Place → List (List ℕ) → ℕ → List (List ℕ) → Data → Result (List (List ℕ)) TreeTextError
step_in p tables i steps d = at p (formed (as_list d)) >>= step_from p tables >>= (λ step. Ok (steps ++ step ∷ []))

unfoldable pub steps_from : Place → List (List ℕ) → List Data → Result (List (List ℕ)) TreeTextError
steps_from p tables ds = each (step_in p tables) 0 [] ds

-- the steps of a type: where none are given, one with all tables
abbrev pub steps_in : Place → List (List ℕ) → Members → Result (List (List ℕ)) TreeTextError
steps_in p tables ms = at p (steps_form ms) >>= (λ o. elim o [ None ↦ Ok (below (length tables) ∷ []) | Some ds ↦ steps_from p tables ds ])

abbrev pub name_text_of : Members → Result (List ℕ) FieldWhy
name_text_of ms = text_at (codes "name") ms >>= required

-- the name of an entry, which none before it has
unfoldable pub name_in : Place → List (List ℕ) → Members → Result (List (List ℕ)) TreeTextError
name_in p names ms = at p (name_text_of ms) >>= (λ s. at p (named names s))

unfoldable pub type_in : List (List ℕ) → ℕ → TypeList → Data → Result TypeList TreeTextError
type_in tables i types d =
    table_entry list.Types 1 i d >>= (λ ms.
    name_in (place list.Types i key.Name) types.names ms >>= (λ names.
    steps_in (place list.Types i key.Steps) tables ms >>= (λ steps.
    Ok (record { names = names; profiles = types.profiles ++ steps ∷ [] }))))

unfoldable pub types_in : List (List ℕ) → List Data → Result TypeList TreeTextError
types_in tables ds = each (type_in tables) 0 no_types ds

abbrev pub types_of : List (List ℕ) → Members → Result TypeList TreeTextError
types_of tables ms = list_at list.Types (codes "type") key.Types 1 64 ms >>= types_in tables
