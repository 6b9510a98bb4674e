-- The nodes of a tree text. They are gone through twice, so that every name is known when a parent is read.
use Rattle.std.specs.Prelude.{ℕ, ◌-◌, Bool, true, false, not, ◌&&◌, ◌||◌, if◌then◌else◌, List, [], ◌∷◌, ◌++◌, codes, Result, Ok, Err, Option, Some, None, is_some}
use Rattle.std.specs.Str.{bytes_eq}
use Rattle.teb_rules.specs.declared.names.ControlKind.{ControlKind}
use Rattle.teb_rules.specs.declared.names.ControlKind.TheVariants.{Locks, Pipeline, Timestamp, Snapshot}
use Rattle.teb_rules.specs.Setup.{NodeRow}
use Rattle.teb_rules.specs.Tree.{is_timestamp, is_snapshot}
use Rattle.toml.specs.Data.{Data, Members, as_str, get_member}
use Rattle.tree_toml.specs.declared.fault.ListName.TheVariants as list
use Rattle.tree_toml.specs.declared.fault.Key.TheVariants as key
use Rattle.tree_toml.specs.declared.fault.Place.{Place}
use Rattle.tree_toml.specs.declared.fault.FieldWhy.{FieldWhy}
use Rattle.tree_toml.specs.declared.fault.FieldWhy.TheVariants.{Form, NoSuch, Unknown}
use Rattle.tree_toml.specs.declared.fault.TreeTextError.{TreeTextError}
use Rattle.tree_toml.specs.Reading.{◌>>=◌, required, formed, at, each}
use Rattle.tree_toml.specs.Fields.{place, text_at, integer_at, array_at, within, numbered, entry, list_at, table_entry}
use Rattle.tree_toml.specs.Types.{name_in, are_texts}

abbrev pub node_name : ℕ → ℕ → List (List ℕ) → Data → Result (List (List ℕ)) TreeTextError
node_name format i names d = table_entry list.Nodes format i d >>= name_in (place list.Nodes i key.Name) names

unfoldable pub node_names : ℕ → List Data → Result (List (List ℕ)) TreeTextError
node_names format ds = each (node_name format) 0 [] ds

abbrev pub control_named : List ℕ → Result ControlKind FieldWhy
control_named s =
    if bytes_eq s (codes "locks") then Ok Locks
    else if bytes_eq s (codes "pipeline") then Ok Pipeline
    else if bytes_eq s (codes "timestamp") then Ok Timestamp
    else if bytes_eq s (codes "snapshot") then Ok Snapshot
    else Err NoSuch

abbrev pub control_of : Members → Result ControlKind FieldWhy
control_of ms = text_at (codes "control") ms >>= required >>= control_named

abbrev pub has_key : List ℕ → Members → Bool
has_key k ms = is_some (get_member k ms)

-- only timestamp and snapshot nodes have a batch, and only timestamp nodes an order of commits
abbrev pub is_foreign : ControlKind → Members → Bool
is_foreign c ms = not (is_timestamp c || is_snapshot c) && has_key (codes "batch") ms || not (is_timestamp c) && has_key (codes "commit") ms

abbrev pub own_keys : ControlKind → Members → Result (Unit {0}) FieldWhy
own_keys c ms = if is_foreign c ms then Err Unknown else Ok tt

abbrev pub parent_of : List (List ℕ) → Members → Result (Option ℕ) FieldWhy
parent_of nodes ms = text_at (codes "parent") ms >>= (λ o. elim o [ None ↦ Ok None | Some s ↦ numbered nodes s >>= (λ n. Ok (Some n)) ])

abbrev pub texts_form : Members → Result (List Data) FieldWhy
texts_form ms = array_at (codes "types") ms >>= (λ o. elim o [ None ↦ Ok [] | Some ds ↦ if are_texts (Some ds) then Ok ds else Err Form ])

abbrev pub member_of : List (List ℕ) → Data → Result ℕ FieldWhy
member_of types d = formed (as_str d) >>= numbered types

abbrev pub member_in : Place → List (List ℕ) → ℕ → List ℕ → Data → Result (List ℕ) TreeTextError
member_in p types i kinds d = at p (member_of types d) >>= (λ k. Ok (kinds ++ k ∷ []))

unfoldable pub members_from : Place → List (List ℕ) → List Data → Result (List ℕ) TreeTextError
members_from p types ds = each (member_in p types) 0 [] ds

-- the types of a node
abbrev pub members_in : Place → List (List ℕ) → Members → Result (List ℕ) TreeTextError
members_in p types ms = at p (texts_form ms) >>= members_from p types

abbrev pub batch_of : Members → Result ℕ FieldWhy
batch_of ms = integer_at (codes "batch") ms >>= (λ o. elim o [ None ↦ Ok 64 | Some z ↦ within 1 1024 z ])

abbrev pub commit_named : List ℕ → Result Bool FieldWhy
commit_named s = if bytes_eq s (codes "free") then Ok false else if bytes_eq s (codes "ordered") then Ok true else Err NoSuch

-- whether commits are ordered
abbrev pub commit_of : Members → Result Bool FieldWhy
commit_of ms = text_at (codes "commit") ms >>= (λ o. elim o [ None ↦ Ok false | Some s ↦ commit_named s ])

-- a part, and the number of parts
pub record Share : Type 0 where
  pub part : ℕ
  pub parts : ℕ

abbrev pub whole : Share
whole = record { part = 0; parts = 1 }

abbrev pub parts_of : Members → Result ℕ FieldWhy
parts_of ms = integer_at (codes "of") ms >>= required >>= within 2 16

abbrev pub part_of : ℕ → Members → Result ℕ FieldWhy
part_of parts ms = integer_at (codes "part") ms >>= required >>= within 0 (parts - 1)

-- neither of the two keys is given, or both are
abbrev pub share_of : ℕ → Members → Result Share TreeTextError
share_of i ms =
    if not (has_key (codes "of") ms) && not (has_key (codes "part") ms) then Ok whole
    else at (place list.Nodes i key.Of) (parts_of ms) >>= (λ parts.
    at (place list.Nodes i key.Part) (part_of parts ms) >>= (λ part.
    Ok (record { part = part; parts = parts })))

-- a node without types is in no parts
abbrev pub share_for : List ℕ → Share → Share
share_for [] s = whole
share_for (k ∷ ks) s = s

-- a row, behind its control and its parent
unfoldable pub leaf_row : List (List ℕ) → ℕ → ControlKind → Option ℕ → Members → Result NodeRow TreeTextError
leaf_row types i control parent ms =
    members_in (place list.Nodes i key.Members) types ms >>= (λ members.
    at (place list.Nodes i key.Batch) (batch_of ms) >>= (λ batch.
    at (place list.Nodes i key.Commit) (commit_of ms) >>= (λ ordered.
    share_of i ms >>= (λ share.
    Ok (record { control = control; parent = parent; types = members; batch = batch; ordered = ordered; part = (share_for members share).part; parts = (share_for members share).parts })))))

unfoldable pub node_row : List (List ℕ) → List (List ℕ) → ℕ → Data → Result NodeRow TreeTextError
node_row types nodes i d =
    entry list.Nodes i d >>= (λ ms.
    at (place list.Nodes i key.Control) (control_of ms) >>= (λ control.
    at (place list.Nodes i key.Whole) (own_keys control ms) >>= (λ _.
    at (place list.Nodes i key.Parent) (parent_of nodes ms) >>= (λ parent.
    leaf_row types i control parent ms))))

abbrev pub node_in : List (List ℕ) → List (List ℕ) → ℕ → List NodeRow → Data → Result (List NodeRow) TreeTextError
node_in types nodes i rows d = node_row types nodes i d >>= (λ r. Ok (rows ++ r ∷ []))

unfoldable pub node_rows : List (List ℕ) → List (List ℕ) → List Data → Result (List NodeRow) TreeTextError
node_rows types nodes ds = each (node_in types nodes) 0 [] ds

-- the names and the rows of the nodes
pub record NodeList : Type 0 where
  pub names : List (List ℕ)
  pub rows : List NodeRow

abbrev pub nodes_of : ℕ → List (List ℕ) → Members → Result NodeList TreeTextError
nodes_of format types ms =
    list_at list.Nodes (codes "node") key.Nodes 1 64 ms >>= (λ ds.
    node_names format ds >>= (λ names.
    node_rows types names ds >>= (λ rows.
    Ok (record { names = names; rows = rows }))))
