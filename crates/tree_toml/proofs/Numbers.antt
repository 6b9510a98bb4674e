-- Lists of numbers, and the last number of a list.
use Rattle.std.proofs.Common.{◌≡◌, ℕ, ◌+◌, Bool, ◌||◌, eqb, List, [], ◌∷◌, ◌++◌, map, length, subst, refl, ap, add-one, Vec}
use Rattle.std.specs.List.{list_any, All}
use Rattle.std.proofs.lemmas.List.{length-map, get_or-map}
use Rattle.std.specs.declared.alloc.Global.{Global}
use Rattle.teb_rules.specs.declared.names.Table.{Table}
use Rattle.teb_rules.specs.declared.names.Kind.{Kind}
use Rattle.teb_rules.specs.Setup.{among}
use Rattle.teb_rules.specs.Tree.{below}
use Rattle.store_setup.specs.tree.Grown.{kind_numbers, row_of, rows_of}
use Rattle.store_setup.specs.declared.tree.rows.NodeRow.{NodeRow as Row}
use Rattle.store_setup.specs.profile.Steps.{numbers_of, steps_of}

-- a table is found in a list if and only if its number is among the numbers
pub contains_table : (tables : List Table) (a : ℕ) → list_any (λ t. eqb t.0 a) tables ≡ among a (numbers_of tables)
contains_table [] a = refl
contains_table (t ∷ tables) a = ap (λ (b : Bool). eqb t.0 a || b) (contains_table tables a)

pub numbers_pushed : (tables : List Table) (t : Table) → numbers_of (tables ++ t ∷ []) ≡ numbers_of tables ++ t.0 ∷ []
numbers_pushed [] t = refl
numbers_pushed (x ∷ tables) t = ap (λ ns. x.0 ∷ ns) (numbers_pushed tables t)

pub steps_pushed : (steps : List (Vec Table Global)) (s : Vec Table Global) → steps_of (steps ++ s ∷ []) ≡ steps_of steps ++ numbers_of s.items ∷ []
steps_pushed [] s = refl
steps_pushed (x ∷ steps) s = ap (λ ns. numbers_of x.items ∷ ns) (steps_pushed steps s)

-- one more number below a bound
pub below_more : (tables : List Table) (t : Table) (new : List Table) (n : ℕ) → numbers_of tables ≡ below n → new ≡ tables ++ t ∷ [] → t.0 ≡ n → numbers_of new ≡ below (n + 1)
unfolding below
below_more tables t new n so_far pushed is = rw (add-one, pushed, numbers_pushed, so_far, is)

pub kinds_pushed : (kinds : List Kind) (k : Kind) → kind_numbers (kinds ++ k ∷ []) ≡ kind_numbers kinds ++ k.0 ∷ []
kinds_pushed [] k = refl
kinds_pushed (x ∷ kinds) k = ap (λ ns. x.0 ∷ ns) (kinds_pushed kinds k)

pub rows_pushed : (rows : List Row) (r : Row) → rows_of (rows ++ r ∷ []) ≡ rows_of rows ++ row_of r ∷ []
rows_pushed [] r = refl
rows_pushed (x ∷ rows) r = ap (λ rs. row_of x ∷ rs) (rows_pushed rows r)

-- what holds of all images holds of the image of each element
pub unmapped : {X Y : Type 0} (P : Y → Type 0) (f : X → Y) (xs : List X) → All P (map f xs) → All (λ x. P (f x)) xs
unmapped P f xs all k d h = subst P (get_or-map f xs k d (f d) h) (all k (f d) (rw length-map h))

pub unmapped_length : (rows : List Row) → length (rows_of rows) ≡ length rows
unmapped_length rows = length-map rows row_of
