-- Arrays, and the keys of tables, as lists.
use Rattle.std.proofs.Common.{◌≡◌, ℕ, ◌+◌, ◌<◌, List, [], ◌∷◌, ◌&&◌, Bool, true, false, String, string_bytes, map, drop, length, get_or, refl, ap}
use Rattle.std.proofs.lemmas.List.{drop_more}
use Rattle.std.specs.declared.alloc.Global.{Global}
use Rattle.std.specs.Map.{keys_of as map_keys}
use Rattle.teb_rules.specs.names.Names.{has}
use Rattle.std.specs.List.{list_all}
use Rattle.toml.specs.Data.{Data}
use Rattle.toml.specs.View.{view, members_view, items_view}
use Rattle.toml.specs.declared.value.Value.{Value}
use Rattle.toml.proofs.Views.{Entry}
use Rattle.tree_toml.specs.Fields.{list_of, all_known, keys_of}
use Rattle.tree_toml.specs.declared.fault.ListName.{ListName}

pub as_list_view : (vs : List Value) → list_of (items_view vs) ≡ map view vs
as_list_view [] = refl
as_list_view (v ∷ vs) = ap (λ ds. view v ∷ ds) (as_list_view vs)

-- each of the strings is a known key
abbrev pub are_known : ListName → ℕ → List (String Global) → Bool
are_known l format [] = true
are_known l format (k ∷ ks) = has (keys_of l format) (string_bytes k) && are_known l format ks

pub known_keys : (l : ListName) (format : ℕ) (es : List Entry) → all_known l format (members_view es) ≡ are_known l format (map_keys es)
known_keys l format [] = refl
known_keys l format (e ∷ es) = ap (λ b. has (keys_of l format) (string_bytes e.0) && b) (known_keys l format es)

-- a loop that tests each value: a value that fails, one more value
pub all_fails : (p : Data → Bool) (vs : List Value) (k : ℕ) (x : Value) (whole : Bool) → list_all p (map view (drop k vs)) ≡ whole → x ≡ get_or vs k x → k < length vs → p (view x) ≡ false
    → false ≡ whole
all_fails p vs k x whole so_far is h bad = (rw (drop_more vs k x h, ← is, bad) at so_far)

pub all_more : (p : Data → Bool) (vs : List Value) (k : ℕ) (x : Value) (whole : Bool) → list_all p (map view (drop k vs)) ≡ whole → x ≡ get_or vs k x → k < length vs → p (view x) ≡ true
    → list_all p (map view (drop (k + 1) vs)) ≡ whole
all_more p vs k x whole so_far is h good = (rw (drop_more vs k x h, ← is, good) at so_far)
