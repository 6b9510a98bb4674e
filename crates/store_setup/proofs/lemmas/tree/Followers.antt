-- The follower of a node on a path tells whether the node is on the path, and its side.
use Rattle.std.proofs.Common.{◌≡◌, ℕ, Bool, true, false, cond, ◌||◌, eqb, List, [], ◌∷◌, Option, Some, None, refl, ◌∙◌, ap}
use Rattle.teb_rules.specs.declared.names.Node.{Node}
use Rattle.teb_rules.specs.Setup.{among}
use Rattle.teb_rules.specs.Tree.{next_of}
use Rattle.store_setup.specs.tree.Grown.{node_numbers, side_number, side_found}
use Rattle.store_setup.specs.declared.tree.path.Follower.{Follower}
use Rattle.store_setup.specs.declared.tree.path.Follower.TheVariants.{Absent, Nobody, Child}
use Rattle.store_setup.specs.tree.Followers.{first_of, follower_in}

abbrev pub is_there : Follower → Bool
is_there Absent = false
is_there Nobody = true
is_there (Child m) = true

abbrev pub child_of : Follower → Option Node
child_of Absent = None
child_of Nobody = None
child_of (Child m) = Some m

first_there : (ms : List Node) → is_there (first_of ms) ≡ true
first_there [] = refl
first_there (m ∷ ms) = refl

pub follower_there : (n : ℕ) (ns : List Node) → is_there (follower_in n ns) ≡ among n (node_numbers ns)
follower_there n [] = refl
follower_there n (m ∷ ms) = go (eqb m.0 n) (follower_there n ms)
  where
    go : (b : Bool) → is_there (follower_in n ms) ≡ among n (node_numbers ms) → is_there (cond b (first_of ms) (follower_in n ms)) ≡ (b || among n (node_numbers ms))
    go true ih = first_there ms
    go false ih = ih

pub follower_next : (n own : ℕ) (ns : List Node) → side_number (child_of (follower_in n ns)) own ≡ next_of n own (node_numbers ns)
unfolding next_of
follower_next n own [] = refl
follower_next n own (m ∷ []) = go (eqb m.0 n)
  where
    go : (b : Bool) → side_number (child_of (cond b Nobody Absent)) own ≡ own
    go true = refl
    go false = refl
follower_next n own (m ∷ l ∷ ls) = go (eqb m.0 n) (follower_next n own (l ∷ ls))
  where
    go : (b : Bool) → side_number (child_of (follower_in n (l ∷ ls))) own ≡ next_of n own (node_numbers (l ∷ ls))
        → side_number (child_of (cond b (Child l) (follower_in n (l ∷ ls)))) own ≡ cond b l.0 (next_of n own (node_numbers (l ∷ ls)))
    go true ih = refl
    go false ih = ih

-- both are known if the follower is known
module _ (n : ℕ) (ns : List Node) (f : Follower) (e : f ≡ follower_in n ns) where
  pub known_there : is_there f ≡ among n (node_numbers ns)
  known_there = ap is_there e ∙ follower_there n ns

  pub known_next : (own : ℕ) → side_number (child_of f) own ≡ next_of n own (node_numbers ns)
  known_next own = ap (λ (g : Follower). side_number (child_of g) own) e ∙ follower_next n own ns

  pub known_side : (own : ℕ) → cond (is_there f) (Some (side_number (child_of f) own)) None ≡ side_found n own (node_numbers ns)
  known_side own = λ j. cond (known_there j) (Some (known_next own j)) None
