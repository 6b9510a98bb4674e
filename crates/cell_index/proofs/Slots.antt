-- New slots have no owner, so each cell keeps its entry.
use Rattle.std.proofs.Common.{◌≡◌, ℕ, zero, suc, ◌+◌, ◌-◌, ◌*◌, ◌<◌, ◌≤◌, List, [], ◌∷◌, ◌++◌, length, get_or, take, replicate}
use Rattle.std.proofs.Common.{sym, refl, ◌∙◌, ap, subst, inl, inr, arith, Option, None, if◌then◌else◌, length-append}
use Rattle.std.specs.Prelude.{is_none, count_by, IfSome, vec_capacity}
use Rattle.std.proofs.lemmas.Bool.{cases_lt}
use Rattle.std.proofs.lemmas.List.{get_or-replicate, get_or_past, take_all, length-replicate}
use Rattle.std.proofs.lemmas.List.Sums.{count_by-le-length, sum_by-append}
use Rattle.teb_rules.specs.declared.names.Cell.{Cell}
use Rattle.cell_index.specs.declared.blocks.Owner.{Owner}
use Rattle.cell_index.specs.declared.blocks.Blocks.{Blocks}
use Rattle.cell_index.specs.Blocks.{keys, slots, slot_of, entry_by, entry_of, IsPaged}

none_behind : (os : List (Option Owner)) (k i : ℕ) → get_or (os ++ replicate k None) i None ≡ get_or os i None
none_behind [] k i = elim (cases_lt i k) [
  | inl lt ↦ get_or-replicate k i None None lt
  | inr ge ↦ get_or_past (replicate k None) i None (omega (arith, ge, length-replicate {A = Option Owner} k None))
]
none_behind (o ∷ os) k zero = refl
none_behind (o ∷ os) k (suc i) = none_behind os k i

-- new slots are added after the existing ones
pub owner_made : (os made : List (Option Owner)) (n k i : ℕ) → length os ≤ n → made ≡ take n os ++ replicate k None → get_or made i None ≡ get_or os i None
owner_made os made n k i le e = ap (λ (l : List (Option Owner)). get_or l i None) (e ∙ ap (λ (l : List (Option Owner)). l ++ replicate k None) (take_all n os le)) ∙ none_behind os k i

pub paged_made : (b b' : Blocks) → IsPaged b → length b.owners.items ≤ slots → b'.owners.items ≡ take slots b.owners.items ++ replicate (slots - length b.owners.items) None
    → b'.numbers.items ≡ b.numbers.items
    → keys * slots ≤ vec_capacity b'.numbers → IsPaged b'
paged_made b b' h few owners numbers room = record {
  within = λ x. subst (λ e. IfSome e (λ i. i < length b'.numbers.items)) (sym (same_entry x)) (subst (λ (l : List ℕ). IfSome (entry_of b x) (λ i. i < length l)) (sym numbers) (h.within x));
  apart = λ x y e ex ey. h.apart x y e (sym (same_entry x) ∙ ex) (sym (same_entry y) ∙ ey);
  few = omega (arith, made);
  pages = omega (arith, made, vacant, ap length numbers, h.pages, few);
  room = omega (arith, made, room);
}
  where
    new : ℕ
    new = slots - length b.owners.items

    items : b'.owners.items ≡ b.owners.items ++ replicate new None
    items = owners ∙ ap (λ (l : List (Option Owner)). l ++ replicate new None) (take_all slots b.owners.items few)

    same_entry : (x : Cell) → entry_of b' x ≡ entry_of b x
    same_entry x = ap (λ o. entry_by o x) (ap (λ os. get_or os (slot_of x) None) items ∙ none_behind b.owners.items new (slot_of x))

    made : length b'.owners.items ≡ slots
    made = let n = length-append b.owners.items (replicate new None) in let m = length-replicate {A = Option Owner} new None in ap length items ∙ omega (arith, n, m, few)

    vacant : count_by is_none b'.owners.items ≤ count_by is_none b.owners.items + new
    vacant =
        let sum = ap (count_by is_none) items ∙ sum_by-append (λ o. if is_none o then 1 else 0) b.owners.items (replicate new None) in
        let all = count_by-le-length is_none (replicate {A = Option Owner} new None) in
        let m = length-replicate {A = Option Owner} new None in
        omega (arith, sum, all, m)
