-- In an accepted tree, the paths of a type's parts are the paths of all its instances.
use Rattle.std.proofs.Common.{◌≡◌, ℕ, zero, suc, ◌%◌, ◌<◌, Bool, true, false, cond, ◌&&◌, eqb, List, [], ◌∷◌, ◌++◌, length}
use Rattle.std.proofs.Common.{get_or, map, Option, Some, unwrap_or, refl, sym, ◌∙◌, ap, subst, inl, inr, arith, find}
use Rattle.std.specs.Option.{option_map}
use Rattle.std.proofs.lemmas.Bool.{cases_Bool, cases_lt, cases_eq}
use Rattle.std.proofs.lemmas.List.{get_or-map, length-map}
use Rattle.std.proofs.Math.Nat.{mod-lt, mod-eq_of_lt}
use Rattle.teb_rules.specs.declared.names.Spot.{Spot}
use Rattle.teb_rules.specs.Serializes.{In}
use Rattle.teb_rules.specs.Setup.{NodeRow, among}
use Rattle.teb_rules.specs.Tree.{below, houses, leaf, path, row, way}
use Rattle.teb_rules.proofs.lemmas.laws.TableRanks.{below-In}
use Rattle.teb_rules.proofs.lemmas.laws.Sound.{apart_of}
use Rattle.store_setup.specs.tree.Grown.{Grown}
use Rattle.store_setup.specs.tree.Homes.{parts_of, part_paths, spot_of}
use Rattle.store_setup.specs.tree.Sound.{IsAccepted}
use Rattle.store_setup.specs.tree.Stored.{path_among}
use Rattle.store_setup.proofs.lemmas.tree.Facts.{setup_of_tree, sound_of, facts_of}

-- two homes of a type have the same number of parts
same_parts : (T : Grown) → IsAccepted T → (k m n : ℕ) → m < length T.rows → n < length T.rows → among k (row T.rows m).types ≡ true → among k (row T.rows n).types ≡ true
    → (row T.rows m).parts ≡ (row T.rows n).parts
same_parts T a k m n hm hn im in_n =
    let s = sound_of T a.some a.parts a.faultless in
    elim (cases_lt m n) [
      | inl l ↦ (apart_of (setup_of_tree T) s k m n l hn im in_n).parts
      | inr l ↦ elim (cases_eq m n) [
        | inl e ↦ ap (λ (z : ℕ). (row T.rows z).parts) e
        | inr e ↦ (let l2 : n < m = omega arith in sym (apart_of (setup_of_tree T) s k n m l2 hm in_n im).parts)
      ]
    ]

-- the first row that passes p
record First (p : NodeRow → Bool) (T : List NodeRow) : Type 0 where
  node : ℕ
  within : node < length T
  is : find p T ≡ Some (row T node)
  passes : p (row T node) ≡ true

first_row : (p : NodeRow → Bool) (T : List NodeRow) (n : ℕ) → n < length T → p (row T n) ≡ true → First p T
first_row p [] n h e = absurd (omega arith)
first_row p (r ∷ rs) n h e = elim (cases_Bool (p r)) [
  | inl b ↦ record { node = 0; within = omega arith; is = ap (λ (z : Bool). cond z (Some r) (find p rs)) b; passes = b }
  | inr b ↦ later n h e b (λ m. first_row p rs m)
]
  where
    later : (n : ℕ) → n < length (r ∷ rs) → p (row (r ∷ rs) n) ≡ true → p r ≡ false → ((m : ℕ) → m < length rs → p (row rs m) ≡ true → First p rs) → First p (r ∷ rs)
    later zero h e b ih = absurd (cc)
    later (suc n) h e b ih = let f = ih n (omega arith) e in record {
      node = suc f.node;
      within = (let z = f.within in omega arith);
      is = ap (λ (z : Bool). cond z (Some r) (find p rs)) b ∙ f.is;
      passes = f.passes;
    }

-- p is the number of parts of type k, and of each of its homes
record Parted (T : Grown) (k p : ℕ) : Type 0 where
  is : unwrap_or (parts_of k T.rows) 0 ≡ p
  some : 0 < p
  each : (n : ℕ) → n < length T.rows → among k (row T.rows n).types ≡ true → (row T.rows n).parts ≡ p

parted : (T : Grown) → IsAccepted T → (s : Spot) → s.kind.0 < T.types → Parted T s.kind.0 (row T.rows (leaf T.rows s)).parts
parted T a s h =
    let l = (facts_of T a).housed s h in
    let f = first_row (λ r. among s.kind.0 r.types) T.rows (leaf T.rows s) l.0 l.1 in
    let each : (n : ℕ) → n < length T.rows → among s.kind.0 (row T.rows n).types ≡ true → (row T.rows n).parts ≡ (row T.rows (leaf T.rows s)).parts =
    (λ n hn i. same_parts T a s.kind.0 n (leaf T.rows s) hn l.0 i l.1) in
    record {
      is = ap (λ (o : Option NodeRow). unwrap_or (option_map (λ r. r.parts) o) 0) f.is ∙ each f.node f.within f.passes;
      some = (let z = a.parts (leaf T.rows s) l.0 in omega arith);
      each = each;
    }

find_same : (f g : ℕ → Bool) (us : List ℕ) → ((u : ℕ) → In u us → f u ≡ g u) → find f us ≡ find g us
find_same f g [] h = refl
find_same f g (u ∷ us) h = ap (λ (b : Bool). cond b (Some u) (find f us)) (h u (inl refl)) ∙ ap (λ (o : Option ℕ). cond (g u) (Some u) o) (find_same f g us (λ v i. h v (inr i)))

mod_twice : (i p : ℕ) → 0 < p → (i % p) % p ≡ i % p
mod_twice i p h = mod-eq_of_lt (mod-lt i h)

-- the leaf of an instance is that of its part
leaf_part : (T : Grown) → IsAccepted T → (s : Spot) → s.kind.0 < T.types → (p : ℕ) → Parted T s.kind.0 p → leaf T.rows (spot_of s.kind.0 (s.instance % p)) ≡ leaf T.rows s
unfolding leaf
leaf_part T a s h p d = ap (λ (o : Option ℕ). unwrap_or o 0) (find_same (λ n. houses (row T.rows n) (spot_of s.kind.0 (s.instance % p))) (λ n. houses (row T.rows n) s) (below (length T.rows))
    (λ n i. same n (below-In (length T.rows) n i)))
  where
    same : (n : ℕ) → n < length T.rows → houses (row T.rows n) (spot_of s.kind.0 (s.instance % p)) ≡ houses (row T.rows n) s
    same n l = elim (cases_Bool (among s.kind.0 (row T.rows n).types)) [
      | inl e ↦ (let q = d.each n l e in ap (λ (z : ℕ). among s.kind.0 (row T.rows n).types && eqb z (row T.rows n).part)
          (ap (λ (z : ℕ). (s.instance % p) % z) q ∙ mod_twice s.instance p d.some ∙ ap (λ (z : ℕ). s.instance % z) (sym q)))
      | inr e ↦ ap (λ (b : Bool). b && eqb ((s.instance % p) % (row T.rows n).parts) (row T.rows n).part) e ∙ ap (λ (b : Bool). b && eqb (s.instance % (row T.rows n).parts) (row T.rows n).part)
          (sym e)
    ]

length_append_one : (xs : List ℕ) (x : ℕ) → length (xs ++ x ∷ []) ≡ suc (length xs)
length_append_one [] x = refl
length_append_one (y ∷ ys) x = ap suc (length_append_one ys x)

pub length_below : (n : ℕ) → length (below n) ≡ n
unfolding below
length_below zero = refl
length_below (suc n) = length_append_one (below n) n ∙ ap suc (length_below n)

get_last : (xs : List ℕ) (x d : ℕ) → get_or (xs ++ x ∷ []) (length xs) d ≡ x
get_last [] x d = refl
get_last (y ∷ ys) x d = get_last ys x d

get_front : (xs : List ℕ) (x i d : ℕ) → i < length xs → get_or (xs ++ x ∷ []) i d ≡ get_or xs i d
get_front [] x i d h = absurd (omega arith)
get_front (y ∷ ys) x zero d h = refl
get_front (y ∷ ys) x (suc i) d h = get_front ys x i d (omega arith)

get_below : (n i d : ℕ) → i < n → get_or (below n) i d ≡ i
unfolding below
get_below zero i d h = absurd (omega arith)
get_below (suc n) i d h = elim (cases_lt i n) [
  | inl l ↦ get_front (below n) n i d (let z = length_below n in omega arith) ∙ get_below n i d l
  | inr l ↦ (let e : i ≡ length (below n) = omega (arith, length_below n) in ap (λ (z : ℕ). get_or (below n ++ n ∷ []) z d) e ∙ get_last (below n) n d ∙ (let z : n ≡ i = omega arith in z))
]

-- the element at an index of a list that is built number by number
pub get_map : {Y : Type 0} (f : ℕ → Y) (n i : ℕ) (e : Y) → i < n → get_or (map f (below n)) i e ≡ f i
get_map f n i e h = let l : i < length (below n) = omega (arith, length_below n) in get_or-map f (below n) i 0 e l ∙ ap f (get_below n i 0 h)

-- the path that is found among those of the parts is the path of the spot
pub path_of_part : (T : Grown) → IsAccepted T → (s : Spot) → s.kind.0 < T.types → (0 < length (part_paths T.rows s.kind.0)) × (path_among (part_paths T.rows s.kind.0) s ≡ path T.rows s)
unfolding part_paths path
path_of_part T a s h =
    let p = (row T.rows (leaf T.rows s)).parts in
    let d = parted T a s h in
    let f : ℕ → List ℕ = λ i. path T.rows (spot_of s.kind.0 i) in
    let e : part_paths T.rows s.kind.0 ≡ map f (below p) = ap (λ (z : ℕ). map f (below z)) d.is in
    let n : length (map f (below p)) ≡ p = length-map (below p) f ∙ length_below p in (
      subst (λ (z : ℕ). 0 < z) (sym (ap length e ∙ n)) d.some,
      ap (λ (ps : List (List ℕ)). path_among ps s) e ∙ ap (λ (z : ℕ). get_or (map f (below p)) (s.instance % z) []) n ∙ get_map f p (s.instance % p) [] (mod-lt s.instance d.some) ∙
          ap (way T.rows) (leaf_part T a s h p d),
    )
