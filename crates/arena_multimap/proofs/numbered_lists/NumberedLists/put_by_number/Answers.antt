use Rattle.std.proofs.Common.{◌≡◌, ℕ, ◌+◌, ◌<◌, ◌≤◌, ◌∙◌, max, Bool, cond, eqb, List, set, length, sym, ap, arith}
use Rattle.teb_rules.specs.history.Ascending.{put_by}
use Rattle.arena_multimap.specs.declared.arena.Arena.{Arena}
use Rattle.arena_multimap.specs.Arenas.{list_at, lists}
use Rattle.arena_multimap.specs.NumberedLists.{Shown, all_lists, list_in}
use Rattle.arena_multimap.proofs.Segments.{less_room}
use Rattle.arena_multimap.proofs.AllLists.{one_of_all, length-all_lists, edited_all}
use Rattle.arena_multimap.proofs.numbered_lists.NumberedLists.put_by_number.Goals as goal

-- a value is put in an existing list, in the terms of the contract
put_all : {V : Type 0} (a a' : Arena V) (s : Shown V) (by : V → ℕ) (v : V) (i k : ℕ) → all_lists a ≡ s.lists → i < length s.lists → k ≤ 1 → lists a' ≡ max (lists a) (i + k)
    → ((j : ℕ) → list_at a' j ≡ cond (eqb j i) (put_by by v (list_at a i)) (list_at a j)) → all_lists a' ≡ set s.lists i (put_by by v (list_in s.lists i))
put_all a a' s by v i k shown within le count edit =
    let n = length-all_lists a in
    let m = ap length shown in
    edited_all a a' i (put_by by v (list_at a i)) (omega (arith, within, le, count, n, m)) edit
    ∙ ap (λ (l : List _). set (all_lists a) i (put_by by v l)) (sym (one_of_all a i))
    ∙ ap (λ (ls : List (List _)). set ls i (put_by by v (list_in ls i))) shown

pub invariant_of-self : goal.invariant_of-self
invariant_of-self g c =
    let none = ap {B = ℕ} (λ (b : Bool). cond b 1 0) c.if-not-put_by_number.true in
    record { sound = c.put_by_number.ensures.sound; room = c.put_by_number.ensures.room _ (less_room c.self.invariant.room _ _ (omega (arith, none)) (omega (arith, none))) }

pub returns-then-not-put_by_number-clause-lists : goal.returns-then-not-put_by_number-clause-lists
returns-then-not-put_by_number-clause-lists g c =
    let none = ap {B = ℕ} (λ (b : Bool). cond b 1 0) c.if-not-put_by_number.true in
    put_all c.self.inside.lists c.put_by_number.new.self c.args.self.now g.V.Numbered.numbered_by c.args.value c.args.i (cond c.put_by_number.result 1 0)
    (ap (λ s. s.lists) c.self.view_is) c.requires.within (omega (arith, none)) c.put_by_number.ensures.lists c.put_by_number.ensures.values

pub invariant_of-self-2 : goal.invariant_of-self-2
invariant_of-self-2 g c =
    let one = ap {B = ℕ} (λ (b : Bool). cond b 1 0) c.if-not-put_by_number.false in
    let some = ap (λ s. s.spare) c.self.view_is in
    record {
      sound = c.put_by_number.ensures.sound;
      room = c.put_by_number.ensures.room _ (less_room c.self.invariant.room _ _ (omega (arith, one, some, c.requires.room)) (omega (arith, one, some, c.requires.room)));
    }

pub returns-clause-lists : goal.returns-clause-lists
returns-clause-lists g c =
    let one = ap {B = ℕ} (λ (b : Bool). cond b 1 0) c.if-not-put_by_number.false in
    put_all c.self.inside.lists c.put_by_number.new.self c.args.self.now g.V.Numbered.numbered_by c.args.value c.args.i (cond c.put_by_number.result 1 0)
    (ap (λ s. s.lists) c.self.view_is) c.requires.within (omega (arith, one)) c.put_by_number.ensures.lists c.put_by_number.ensures.values
