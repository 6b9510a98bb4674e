-- The entries that were seen, as a part of later entries.
use Rattle.std.proofs.Common.{◌≡◌, ℕ, ◌+◌, ◌≤◌, leb, Bool, true, false, List, [], ◌++◌, length, get_or, sym, refl, ap, ◌∙◌, subst, arith, append_assoc, append-nil, All, if◌then◌else◌}
use Rattle.std.proofs.lemmas.List.Elements.{All-append}
use Rattle.std.proofs.lemmas.Bool.{leb-true, leb-false}
use Rattle.turn_lock.specs.Counts.{times, Has}
use Rattle.turn_lock.specs.Views.{longer}
use Rattle.turn_lock.specs.Rule.{GoesOn}
use Rattle.turn_lock.proofs.Counts.{times_append}
use Rattle.turn_lock.proofs.Lists.{All_map, All_none, All_right, rest_after}

abbrev pub IsWithin : List ℕ → List ℕ → Type 0
IsWithin a b = (o : ℕ) → times o a ≤ times o b

module _ {E : Type 0} (owner : E → ℕ) where
  pub goes_none : (xs : List E) (owners : List ℕ) → GoesOn owner xs xs owners
  goes_none xs owners = record { more = []; is = sym (append-nil xs); others = All_none (λ e. times (owner e) owners ≡ 0) }

  pub goes_fewer : (seen left : List E) (a b : List ℕ) → IsWithin a b → GoesOn owner seen left b → GoesOn owner seen left a
  goes_fewer seen left a b f g = record {
    more = g.more;
    is = g.is;
    others = All_map (λ e. times (owner e) b ≡ 0) (λ e. times (owner e) a ≡ 0) g.more (λ e z. let h = f (owner e) in omega arith)
        g.others;
  }

  -- another seat adds its entries
  pub goes_on : (seen left more : List E) (theirs mine : List ℕ) → ((o : ℕ) → times o theirs + times o mine ≤ 1) → All (λ e. Has mine (owner e)) more → GoesOn owner seen left theirs
      → GoesOn owner seen (left ++ more) theirs
  goes_on seen left more theirs mine apart own g = record {
    more = g.more ++ more;
    is = ap (λ l. l ++ more) g.is ∙ append_assoc seen g.more more;
    others = All-append (λ e. times (owner e) theirs ≡ 0) g.more more g.others
        (All_map (λ e. Has mine (owner e)) (λ e. times (owner e) theirs ≡ 0) more (λ e l. let a = apart (owner e) in omega arith) own);
  }

  both_other : (a b : List ℕ) (more : List E) → All (λ e. times (owner e) a ≡ 0) more → All (λ e. times (owner e) b ≡ 0) more → All (λ e. times (owner e) (a ++ b) ≡ 0) more
  both_other a b more p q k d l = let x = p k d l in let y = q k d l in let z = times_append (owner (get_or more k d)) a b in omega arith

  goes_longer : (xs ys left : List E) (a b : List ℕ) → GoesOn owner xs left a → GoesOn owner ys left b → length ys ≤ length xs → GoesOn owner xs left (a ++ b)
  goes_longer xs ys left a b p q l = let z = rest_after xs ys p.more q.more (sym p.is ∙ q.is) l in
      record { more = p.more; is = p.is; others = both_other a b p.more p.others (All_right (λ e. times (owner e) b ≡ 0) z.0 p.more (subst (All (λ e. times (owner e) b ≡ 0)) z.1 q.others)) }

  swap_owners : (xs left : List E) (a b : List ℕ) → GoesOn owner xs left (b ++ a) → GoesOn owner xs left (a ++ b)
  swap_owners xs left a b g = goes_fewer xs left (a ++ b) (b ++ a) (λ o. let p = times_append o a b in let q = times_append o b a in omega arith) g

  -- the longer of two lists that were seen goes on for the owners of both
  pub goes_both : (xs ys left : List E) (a b : List ℕ) → GoesOn owner xs left a → GoesOn owner ys left b → GoesOn owner (longer xs ys) left (a ++ b)
  goes_both xs ys left a b p q = go (leb (length ys) (length xs)) refl
    where
      go : (t : Bool) → leb (length ys) (length xs) ≡ t → GoesOn owner (if t then xs else ys) left (a ++ b)
      go true e = goes_longer xs ys left a b p q (leb-true (length ys) (length xs) e)
      go false e = swap_owners ys left a b (goes_longer ys xs left b a q p (let h = leb-false (length ys) (length xs) e in omega arith))
