-- The properties of the nodes that were read.
use Rattle.std.proofs.Common.{◌≡◌, ℕ, ◌+◌, ◌-◌, ◌<◌, ◌≤◌, ℤ, pos, negsuc, Bool, true, false, not, ◌&&◌, ◌==◌, nat_le, if◌then◌else◌}
use Rattle.std.proofs.Common.{List, [], ◌∷◌, length, length-append, codes, Option, Some, None, Result, Ok, Err, refl, ap, arith}
use Rattle.std.proofs.lemmas.Bool.{leb-true}
use Rattle.std.proofs.lemmas.List.Elements.{All-push, All-nil}
use Rattle.std.specs.List.{All}
use Rattle.teb_rules.specs.names.Names.{has}
use Rattle.teb_rules.specs.declared.names.ControlKind.{ControlKind}
use Rattle.teb_rules.specs.Setup.{NodeRow}
use Rattle.toml.specs.Data.{Data, Members, as_str}
use Rattle.tree_toml.specs.Reading.{◌>>=◌, required, formed, at, each}
use Rattle.tree_toml.specs.Fields.{place, integer_at, within, numbered, entry, entry_form, list_at, table_entry, counted, counted_at, array_at, at_top}
use Rattle.teb_rules.specs.names.Names.{is_name}
use Rattle.tree_toml.specs.Names.{named}
use Rattle.tree_toml.specs.Types.{name_in, name_text_of}
use Rattle.tree_toml.specs.Nodes.{member_of, member_in, members_from, members_in, texts_form, batch_of, commit_of, parts_of, part_of, Share, whole, has_key, share_of}
use Rattle.tree_toml.specs.Nodes.{share_for, leaf_row, node_row, node_in, node_rows, node_name, node_names, NodeList, nodes_of, control_of, own_keys, parent_of}
use Rattle.tree_toml.specs.Kept.{IsRow, AreRows}
use Rattle.tree_toml.specs.declared.fault.ListName.{ListName}
use Rattle.tree_toml.specs.declared.fault.ListName.TheVariants as list
use Rattle.tree_toml.specs.declared.fault.Key.{Key}
use Rattle.tree_toml.specs.declared.fault.Key.TheVariants as key
use Rattle.tree_toml.specs.declared.fault.Place.{Place}
use Rattle.tree_toml.specs.declared.fault.FieldWhy.{FieldWhy}
use Rattle.tree_toml.specs.declared.fault.FieldWhy.TheVariants.{Name, Repeated, Missing}
use Rattle.tree_toml.specs.declared.fault.TreeTextError.{TreeTextError}
use Rattle.tree_toml.proofs.Bound.{bind_ok, at_ok, ok_is, each_keeps, each_count}
use Rattle.tree_toml.proofs.Profiles.{numbered_within}

-- a result guarded by two tests, or by one, is Ok only if they pass
both_pass : {A E : Type 0} (a b : Bool) (x y : A) (w : E) → (if a && b then Ok x else Err w) ≡ Ok y → (a ≡ true) × (b ≡ true) × (x ≡ y)
both_pass true true x y w e = (refl, refl, ok_is _ x y refl e)
both_pass true false x y w e = absurd (cc)
both_pass false b x y w e = absurd (cc)

passes : {A E : Type 0} (b : Bool) (r : Result A E) (y : A) (w : E) → (if b then Err w else r) ≡ Ok y → r ≡ Ok y
passes true r y w e = absurd (cc)
passes false r y w e = e

pub within_ok : (low high : ℕ) (z : ℤ) (n : ℕ) → within low high z ≡ Ok n → (low ≤ n) × (n ≤ high)
within_ok low high (negsuc m) n e = absurd (cc)
within_ok low high (pos m) n e =
    let h = both_pass (nat_le low m) (nat_le m high) m n _ e in
    let below : low ≤ m = leb-true low m h.0 in
    let above : m ≤ high = leb-true m high h.1 in
    (omega (arith, h.2), omega (arith, h.2))

none_ok : (least most : ℕ) (b : Bool) (ds : List Data) → (least == 0) ≡ b → (if b then Ok [] else Err Missing) ≡ Ok ds → (least ≤ length ds) × (length ds ≤ most)
none_ok least most true ds is e =
    let zero : least ≡ 0 = grind arith in
    let empty : [] ≡ ds = ok_is _ [] ds refl e in
    (omega (arith, ap length empty), rw (← empty) (omega arith))
none_ok least most false ds is e = absurd (cc)

counted_ok : (least most : ℕ) (o : Option (List Data)) (ds : List Data) → counted least most o ≡ Ok ds → (least ≤ length ds) × (length ds ≤ most)
counted_ok least most None ds e = none_ok least most (least == 0) ds refl e
counted_ok least most (Some es) ds e =
    let h = both_pass (nat_le least (length es)) (nat_le (length es) most) es ds _ e in
    let low : least ≤ length es = leb-true least (length es) h.0 in
    let high : length es ≤ most = leb-true (length es) most h.1 in
    (omega (arith, ap length h.2), omega (arith, ap length h.2))

-- the number of entries of a list is within its bounds
pub list_ok : (l : ListName) (word : List ℕ) (k : Key) (least most : ℕ) (ms : Members) (ds : List Data) → list_at l word k least most ms ≡ Ok ds → (least ≤ length ds) × (length ds ≤ most)
list_ok l word k least most ms ds e =
    let made = bind_ok (at (at_top k) (counted_at word least most ms)) _ ds e in
    let checked = bind_ok (each (entry_form l) 0 tt made.0) _ ds made.2 in
    let same : made.0 ≡ ds = ok_is _ made.0 ds refl checked.2 in
    let array = bind_ok (array_at word ms) (counted least most) made.0 (at_ok (at_top k) _ made.0 made.1) in
    let h = counted_ok least most array.0 made.0 array.2 in
    (omega (arith, ap length same, h.0), omega (arith, ap length same, h.1))

-- a new name makes the list one longer
pub named_ok : (names : List (List ℕ)) (s : List ℕ) (new : List (List ℕ)) → named names s ≡ Ok new → length new ≡ length names + 1
unfolding named
named_ok names s new e =
    let there = passes (has names s) _ new Repeated (passes (not (is_name s)) _ new Name e) in
    omega (arith, ap length (ok_is _ _ new refl there), length-append names (s ∷ []))

pub name_ok : (p : Place) (names : List (List ℕ)) (ms : Members) (new : List (List ℕ)) → name_in p names ms ≡ Ok new → length new ≡ length names + 1
unfolding name_in
name_ok p names ms new e =
    let made = bind_ok (at p (name_text_of ms)) _ new e in
    named_ok names made.0 new (at_ok p _ new made.2)

node_name_ok : (format i : ℕ) (names : List (List ℕ)) (d : Data) (new : List (List ℕ)) → node_name format i names d ≡ Ok new → length new ≡ length names + 1
node_name_ok format i names d new e =
    let made = bind_ok (table_entry list.Nodes format i d) _ new e in
    name_ok (place list.Nodes i key.Name) names made.0 new made.2

node_names_ok : (format : ℕ) (ds : List Data) (names : List (List ℕ)) → node_names format ds ≡ Ok names → length names ≡ length ds
unfolding node_names
node_names_ok format ds names e = omega (arith, each_count length (node_name format) (node_name_ok format) 0 [] ds names e)

-- the types of a node are among the types
member_ok : (p : Place) (types : List (List ℕ)) (i : ℕ) (kinds : List ℕ) (d : Data) (new : List ℕ) → All (λ k. k < length types) kinds → member_in p types i kinds d ≡ Ok new
    → All (λ k. k < length types) new
member_ok p types i kinds d new all e =
    let made = bind_ok (at p (member_of types d)) _ new e in
    let name = bind_ok (formed (as_str d)) (numbered types) made.0 (at_ok p _ made.0 made.1) in
    rw (← ok_is _ _ new refl made.2) (All-push (λ k. k < length types) kinds made.0 all (numbered_within types name.0 made.0 name.2))

members_ok : (p : Place) (types : List (List ℕ)) (ms : Members) (kinds : List ℕ) → members_in p types ms ≡ Ok kinds → All (λ k. k < length types) kinds
unfolding members_from
members_ok p types ms kinds e =
    let made = bind_ok (at p (texts_form ms)) _ kinds e in
    each_keeps (All (λ k. k < length types)) (member_in p types) (member_ok p types) 0 [] made.0 kinds (All-nil (λ k. k < length types)) made.2

batch_by : (o : Option ℤ) (n : ℕ) → elim o as (λ _. Result ℕ FieldWhy) [ None ↦ Ok 64 | Some z ↦ within 1 1024 z ] ≡ Ok n → (1 ≤ n) × (n ≤ 1024)
batch_by None n e = let same : 64 ≡ n = ok_is _ 64 n refl e in (omega arith, omega arith)
batch_by (Some z) n e = within_ok 1 1024 z n e

batch_ok : (ms : Members) (n : ℕ) → batch_of ms ≡ Ok n → (1 ≤ n) × (n ≤ 1024)
batch_ok ms n e = let made = bind_ok (integer_at (codes "batch") ms) _ n e in batch_by made.0 n made.2

pub record IsShare (s : Share) : Type 0 where
  pub parts : (1 ≤ s.parts) × (s.parts ≤ 16) × (s.part < s.parts)

abbrev given_share : ℕ → Members → Result Share TreeTextError
given_share i ms = at (place list.Nodes i key.Of) (parts_of ms) >>= (λ parts. at (place list.Nodes i key.Part) (part_of parts ms) >>= (λ part. Ok (record { part = part; parts = parts })))

share_by : (i : ℕ) (ms : Members) (s : Share) (b : Bool) → (if b then Ok whole else given_share i ms) ≡ Ok s → IsShare s
share_by i ms s true e = let same : whole ≡ s = ok_is _ whole s refl e in rw (← same) (record { parts = (omega arith, omega arith, omega arith) })
share_by i ms s false e =
    let parts = bind_ok (at (place list.Nodes i key.Of) (parts_of ms)) _ s e in
    let part = bind_ok (at (place list.Nodes i key.Part) (part_of parts.0 ms)) _ s parts.2 in
    let read = bind_ok (integer_at (codes "of") ms >>= required) (within 2 16) parts.0 (at_ok _ _ parts.0 parts.1) in
    let read_part = bind_ok (integer_at (codes "part") ms >>= required) (within 0 (parts.0 - 1)) part.0 (at_ok _ _ part.0 part.1) in
    let few = within_ok 2 16 read.0 parts.0 read.2 in
    let low = within_ok 0 (parts.0 - 1) read_part.0 part.0 read_part.2 in
    rw (← ok_is _ _ s refl part.2) (record { parts = (omega (arith, few.0), few.1, omega (arith, few.0, low.1)) })

share_ok : (i : ℕ) (ms : Members) (s : Share) → share_of i ms ≡ Ok s → IsShare s
share_ok i ms s e = share_by i ms s (not (has_key (codes "of") ms) && not (has_key (codes "part") ms)) e

share_for_ok : (kinds : List ℕ) (s : Share) → IsShare s → IsShare (share_for kinds s)
share_for_ok [] s h = record { parts = (omega arith, omega arith, omega arith) }
share_for_ok (k ∷ kinds) s h = h

leaf_ok : (types : List (List ℕ)) (i : ℕ) (control : ControlKind) (parent : Option ℕ) (ms : Members) (r : NodeRow) → leaf_row types i control parent ms ≡ Ok r → IsRow (length types) r
unfolding leaf_row
leaf_ok types i control parent ms r e =
    let members = bind_ok (members_in (place list.Nodes i key.Members) types ms) _ r e in
    let batch = bind_ok (at (place list.Nodes i key.Batch) (batch_of ms)) _ r members.2 in
    let ordered = bind_ok (at (place list.Nodes i key.Commit) (commit_of ms)) _ r batch.2 in
    let share = bind_ok (share_of i ms) _ r ordered.2 in
    let own = share_for_ok members.0 share.0 (share_ok i ms share.0 share.1) in
    rw (← ok_is _ _ r refl share.2) (record {
      kinds = members_ok (place list.Nodes i key.Members) types ms members.0 members.1;
      batch = batch_ok ms batch.0 (at_ok _ _ batch.0 batch.1);
      parts = own.parts;
    })

row_ok : (types nodes : List (List ℕ)) (i : ℕ) (d : Data) (r : NodeRow) → node_row types nodes i d ≡ Ok r → IsRow (length types) r
unfolding node_row
row_ok types nodes i d r e =
    let ms = bind_ok (entry list.Nodes i d) _ r e in
    let control = bind_ok (at (place list.Nodes i key.Control) (control_of ms.0)) _ r ms.2 in
    let own = bind_ok (at (place list.Nodes i key.Whole) (own_keys control.0 ms.0)) _ r control.2 in
    let parent = bind_ok (at (place list.Nodes i key.Parent) (parent_of nodes ms.0)) _ r own.2 in
    leaf_ok types i control.0 parent.0 ms.0 r parent.2

node_kept : (types nodes : List (List ℕ)) (i : ℕ) (rows : List NodeRow) (d : Data) (new : List NodeRow) → AreRows (length types) rows → node_in types nodes i rows d ≡ Ok new
    → AreRows (length types) new
node_kept types nodes i rows d new all e =
    let made = bind_ok (node_row types nodes i d) _ new e in
    rw (← ok_is _ _ new refl made.2) (All-push (IsRow (length types)) rows made.0 all (row_ok types nodes i d made.0 made.1))

node_more : (types nodes : List (List ℕ)) (i : ℕ) (rows : List NodeRow) (d : Data) (new : List NodeRow) → node_in types nodes i rows d ≡ Ok new → length new ≡ length rows + 1
node_more types nodes i rows d new e =
    let made = bind_ok (node_row types nodes i d) _ new e in
    omega (arith, ap length (ok_is _ _ new refl made.2), length-append rows (made.0 ∷ []))

-- 1 to 64 nodes, as many names as rows
pub record AreNodes (types : ℕ) (nodes : NodeList) : Type 0 where
  pub rows : AreRows types nodes.rows
  pub some : 0 < length nodes.rows
  pub few : length nodes.rows ≤ 64
  pub names : length nodes.rows ≡ length nodes.names

pub nodes_ok : (format : ℕ) (types : List (List ℕ)) (ms : Members) (nodes : NodeList) → nodes_of format types ms ≡ Ok nodes → AreNodes (length types) nodes
unfolding node_rows
nodes_ok format types ms nodes e =
    let ds = bind_ok (list_at list.Nodes (codes "node") key.Nodes 1 64 ms) _ nodes e in
    let names = bind_ok (node_names format ds.0) _ nodes ds.2 in
    let rows = bind_ok (node_rows types names.0 ds.0) _ nodes names.2 in
    let limits = list_ok list.Nodes (codes "node") key.Nodes 1 64 ms ds.0 ds.1 in
    let named = node_names_ok format ds.0 names.0 names.1 in
    let count = each_count length (node_in types names.0) (node_more types names.0) 0 [] ds.0 rows.0 rows.1 in
    rw (← ok_is _ _ nodes refl rows.2) (record {
      rows = each_keeps (AreRows (length types)) (node_in types names.0) (node_kept types names.0) 0 [] ds.0 rows.0 (All-nil (IsRow (length types))) rows.1;
      some = omega (arith, count, limits.0);
      few = omega (arith, count, limits.1);
      names = omega (arith, count, named);
    })
