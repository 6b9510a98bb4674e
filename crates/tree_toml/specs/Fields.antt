-- The keys of a table of TOML, and what its values have to be.
use Rattle.std.specs.Prelude.{ℕ, ℤ, pos, negsuc, Bool, true, ◌&&◌, ◌==◌, nat_le, if◌then◌else◌, List, [], ◌∷◌, length, codes, Result, Ok, Err, Option, Some, None, is_some, option_map}
use Rattle.teb_rules.specs.names.Names.{has, number_of}
use Rattle.toml.specs.Data.{Data, Items, no_items, item, Members, no_members, member, get_member, as_str, as_integer, as_array, as_table}
use Rattle.tree_toml.specs.declared.fault.ListName.{ListName}
use Rattle.tree_toml.specs.declared.fault.ListName.TheVariants as list
use Rattle.tree_toml.specs.declared.fault.Key.{Key}
use Rattle.tree_toml.specs.declared.fault.Key.TheVariants as key
use Rattle.tree_toml.specs.declared.fault.Place.{Place}
use Rattle.tree_toml.specs.declared.fault.FieldWhy.{FieldWhy}
use Rattle.tree_toml.specs.declared.fault.FieldWhy.TheVariants.{Unknown, Missing, Form, NoSuch, Range, Many}
use Rattle.tree_toml.specs.declared.fault.TreeTextError.{TreeTextError}
use Rattle.tree_toml.specs.Reading.{◌>>=◌, formed, fault_at, at, each}

abbrev pub place : ListName → ℕ → Key → Place
place l i k = record { list = l; index = i; key = k }

abbrev pub at_top : Key → Place
at_top k = place list.Top 0 k

-- the keys of the top, and of an entry of each list; a node has two more from format 2 on
unfoldable pub keys_of : ListName → ℕ → List (List ℕ)
keys_of list.Top format = codes "format" ∷ codes "tables" ∷ codes "type" ∷ codes "node" ∷ codes "row" ∷ []
keys_of list.Tables format = []
keys_of list.Types format = codes "name" ∷ codes "steps" ∷ []
keys_of list.Nodes format =
    codes "name" ∷ codes "control" ∷ codes "parent" ∷ codes "types" ∷ codes "batch" ∷ codes "commit" ∷ (if nat_le 2 format then codes "of" ∷ codes "part" ∷ [] else [])
keys_of list.Rows format = codes "table" ∷ codes "key" ∷ codes "value" ∷ []

abbrev pub all_known : ListName → ℕ → Members → Bool
all_known l format no_members = true
all_known l format (member k d ms) = has (keys_of l format) k && all_known l format ms

-- an array as a list
abbrev pub list_of : Items → List Data
list_of no_items = []
list_of (item d ds) = d ∷ list_of ds

abbrev pub as_list : Data → Option (List Data)
as_list d = option_map list_of (as_array d)

-- the value at a key in one of TOML's types, none where the key is not there
abbrev pub given : {A : Type 0} → (Data → Option A) → Option Data → Result (Option A) FieldWhy
given form None = Ok None
given form (Some d) = formed (form d) >>= (λ x. Ok (Some x))

abbrev pub text_at : List ℕ → Members → Result (Option (List ℕ)) FieldWhy
text_at k ms = given as_str (get_member k ms)

abbrev pub integer_at : List ℕ → Members → Result (Option ℤ) FieldWhy
integer_at k ms = given as_integer (get_member k ms)

abbrev pub array_at : List ℕ → Members → Result (Option (List Data)) FieldWhy
array_at k ms = given as_list (get_member k ms)

-- an integer between two limits
abbrev pub within : ℕ → ℕ → ℤ → Result ℕ FieldWhy
within low high (pos n) = if nat_le low n && nat_le n high then Ok n else Err Range
within low high (negsuc n) = Err Range

-- the number of a name that is among these
abbrev pub numbered : List (List ℕ) → List ℕ → Result ℕ FieldWhy
numbered names s = elim (number_of names s) [ None ↦ Err NoSuch | Some n ↦ Ok n ]

-- an entry of a list: each table is a text, and the entries of the other lists are tables of TOML
abbrev pub is_entry : ListName → Data → Bool
is_entry list.Tables d = is_some (as_str d)
is_entry l d = is_some (as_table d)

abbrev pub entry_form : ListName → ℕ → Unit {0} → Data → Result (Unit {0}) TreeTextError
entry_form l i u d = if is_entry l d then Ok tt else Err (fault_at (place l i key.Whole) Form)

-- a list that may have no entries may be left out
abbrev pub counted : ℕ → ℕ → Option (List Data) → Result (List Data) FieldWhy
counted least most None = if least == 0 then Ok [] else Err Missing
counted least most (Some ds) = if nat_le least (length ds) && nat_le (length ds) most then Ok ds else Err Many

abbrev pub counted_at : List ℕ → ℕ → ℕ → Members → Result (List Data) FieldWhy
counted_at word least most ms = array_at word ms >>= counted least most

-- the entries of a list: its own form, how many they are, and then the form of each
abbrev pub list_at : ListName → List ℕ → Key → ℕ → ℕ → Members → Result (List Data) TreeTextError
list_at l word k least most ms =
    at (at_top k) (counted_at word least most ms) >>= (λ ds. each (entry_form l) 0 tt ds >>= (λ _. Ok ds))

-- an entry that is a table of TOML
abbrev pub entry : ListName → ℕ → Data → Result Members TreeTextError
entry l i d = at (place l i key.Whole) (formed (as_table d))

-- and all of whose keys are known
abbrev pub table_entry : ListName → ℕ → ℕ → Data → Result Members TreeTextError
table_entry l format i d = entry l i d >>= (λ ms. if all_known l format ms then Ok ms else Err (fault_at (place l i key.Whole) Unknown))
