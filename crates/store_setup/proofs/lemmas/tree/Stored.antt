-- The path that is stored for a spot.
use Rattle.std.proofs.Common.{◌≡◌, ℕ, ◌<◌, ◌%◌, List, [], length, get_or, map, Vec, Global, sym, ◌∙◌, ap, arith}
use Rattle.std.proofs.lemmas.List.{get_or-map}
use Rattle.std.proofs.Math.ListN.{length-map}
use Rattle.std.proofs.Math.Nat.{mod-lt}
use Rattle.teb_rules.specs.declared.names.Node.{Node}
use Rattle.teb_rules.specs.declared.names.Spot.{Spot}
use Rattle.teb_rules.specs.Tree.{path}
use Rattle.store_setup.specs.declared.tree.tree.Tree.TheInside.{Inside}
use Rattle.store_setup.specs.tree.Grown.{node_numbers, rows_of}
use Rattle.store_setup.specs.tree.Stored.{IsStored, paths_of, path_among}

abbrev parts_of : Vec (List Node) Global → List (List ℕ)
parts_of ps = map node_numbers ps.items

-- the stored list at the type's index, read at the part's index, is the path of the spot
pub stored_path : (t : Inside) → IsStored t → (s : Spot) → s.kind.0 < length t.paths.items → (ps : Vec (List Node) Global) (p : List Node) (k i : ℕ) →
    k ≡ s.kind.0 → ps ≡ get_or t.paths.items k ps → i ≡ s.instance % length ps.items → p ≡ get_or ps.items i p → node_numbers p ≡ path (rows_of t.rows.items) s
stored_path t st s h ps p k i ek eps ei ep =
    let lk : s.kind.0 < length (paths_of t) = omega (arith, length-map t.paths.items parts_of) in
    let e : get_or (paths_of t) s.kind.0 [] ≡ parts_of ps = get_or-map parts_of t.paths.items s.kind.0 ps [] h ∙ ap parts_of (ap (λ (z : ℕ). get_or t.paths.items z ps) (sym ek) ∙ sym eps) in
    let n : length (get_or (paths_of t) s.kind.0 []) ≡ length ps.items = ap length e ∙ length-map ps.items node_numbers in
    let some : 0 < length ps.items = (let z = st.some s.kind.0 lk in omega arith) in
    let li : i < length ps.items = (let z = mod-lt s.instance some in omega arith) in
    let g : get_or (parts_of ps) i [] ≡ node_numbers p = get_or-map node_numbers ps.items i p [] li ∙ ap node_numbers (sym ep) in
    let w : path_among (get_or (paths_of t) s.kind.0 []) s ≡ get_or (parts_of ps) i [] = ap (λ (z : List (List ℕ)). get_or z (s.instance % length z) []) e
    ∙ ap (λ (z : ℕ). get_or (parts_of ps) z []) (ap (λ (z : ℕ). s.instance % z) (length-map ps.items node_numbers) ∙ sym ei) in
    sym g ∙ sym w ∙ st.right s lk
