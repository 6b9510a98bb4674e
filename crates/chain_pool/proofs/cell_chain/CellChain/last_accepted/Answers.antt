use Rattle.std.proofs.Common.{ℕ, ◌<◌, sym, subst, List, Some, IfSome, slice_get, ◌≡◌}
use Rattle.std.specs.Option.{option_map}
use Rattle.chain_pool.specs.declared.places.Place.{Place}
use Rattle.chain_pool.specs.declared.places.Head.{Head}
use Rattle.chain_pool.specs.Places.{pair_at}
use Rattle.chain_pool.specs.Linked.{nth_place, versions}
use Rattle.chain_pool.proofs.Chains.{last_found, found_version, is_writer-nth}
use Rattle.chain_pool.proofs.OfCells.{head_is, len_is, walk_of}
use Rattle.chain_pool.proofs.cell_chain.CellChain.last_accepted.Goals as goal

pub last_accepted-requires-clause-walk : goal.last_accepted-requires-clause-walk
last_accepted-requires-clause-walk g c =
    let it = c.args.self in
    walk_of it.pool.now it.cell it.chain it.sound it.of_cell c.deref.result.now c.deref.ensures.value

pub last_accepted-requires-clause-callable : goal.last_accepted-requires-clause-callable
last_accepted-requires-clause-callable g c j lt =
    let it = c.args.self in
    let p = it.pool.now in
    let there = is_writer-nth p.places.items _ _ p.unused it.sound.linked it.cell it.chain.head (head_is p it.cell it.chain it.sound it.of_cell) j lt in
    subst (λ (ps : List Place). g.F.Fn.pre c.args.f.now ((pair_at ps (nth_place ps it.chain.head j)).0, tt)) (sym c.deref.ensures.value) (c.requires _ there)

pub returns-clause-place : goal.returns-clause-place
returns-clause-place g c p agrees =
    let it = c.args.self in
    let pool = it.pool.now in
    last_found pool.places.items _ _ pool.unused it.sound.linked it.cell it.chain.head (head_is pool it.cell it.chain it.sound it.of_cell) p (λ u b. g.F.Fn.post c.args.f.now (u, tt) b)
    (λ u b there answers. agrees u b there answers) c.args.from (option_map (λ v. v.at) c.last_accepted.result) (rw c.deref.ensures.value at c.last_accepted.ensures.found)

pub returns-clause-within : goal.returns-clause-within
returns-clause-within g c =
    let it = c.args.self in
    subst (λ (k : ℕ). IfSome c.last_accepted.result (λ v. v.at < k)) (len_is it.pool.now it.cell it.chain it.sound it.of_cell) c.last_accepted.ensures.within

pub returns-clause-version : goal.returns-clause-version
returns-clause-version g c =
    let it = c.args.self in
    let p = it.pool.now in
    let ps = p.places.items in
    let head = head_is p it.cell it.chain it.sound it.of_cell in
    subst (λ (h : Head). IfSome c.last_accepted.result (λ v. slice_get (versions ps h) v.at ≡ Some (v.writer, v.value))) head
    (found_version ps _ _ p.unused it.sound.linked it.cell it.chain.head head c.last_accepted.result c.last_accepted.ensures.within (rw c.deref.ensures.value at c.last_accepted.ensures.version))
