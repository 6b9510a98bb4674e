use Rattle.std.proofs.Common.{Bool, true, false, not, sym, List, Some, ℕ, ◌<◌, ◌≡◌, subst}
use Rattle.std.specs.Bool.{OnTrue, OnFalse}
use Rattle.teb_rules.specs.declared.names.Cell.{Cell}
use Rattle.chain_pool.specs.declared.places.Place.{Place}
use Rattle.chain_pool.specs.declared.places.Head.{Head}
use Rattle.chain_pool.specs.Threads.{steps}
use Rattle.chain_pool.specs.Places.{slot_at, sibling_at, cell_in}
use Rattle.chain_pool.proofs.Chains.{find_none}
use Rattle.chain_pool.proofs.Sizes.{owned_steps}
use Rattle.chain_pool.proofs.cell_chain.CellChain.lacks.Goals as goal

-- a list has no version of the cell
abbrev HasNone : Cell → List Place → Head → Type 0
HasNone x ps h = (n : ℕ) → n < h.len → cell_in (slot_at ps (steps (sibling_at ps) n h.first)) ≡ Some x → ⊥

on_not : (r : Bool) (X Y : Type 0) → OnFalse r X → (X → Y) → OnTrue (not r) Y
on_not true X Y h f = tt
on_not false X Y h f = f h

pub has_cell-requires : goal.has_cell-requires
has_cell-requires c =
    let p = c.args.self.pool.now in
    owned_steps p.places.items _ _ p.unused c.args.self.sound.linked c.deref.result.now c.deref.ensures.value c.args.t c.head_of-own.result c.head_of-own.ensures

pub returns-then-own-chain : goal.returns-then-own-chain
returns-then-own-chain c =
    let x = c.args.self.cell in
    let p = c.args.self.pool.now in
    on_not c.has_cell.result (HasNone x c.deref.result.now c.head_of-own.result) _ c.has_cell.ensures (λ none.
    sym (find_none p.places.items _ _ p.unused c.args.self.sound.linked x c.args.t
    (subst (λ (h : Head). HasNone x p.places.items h) c.head_of-own.ensures (subst (λ (qs : List Place). HasNone x qs c.head_of-own.result) c.deref.ensures.value none))))
