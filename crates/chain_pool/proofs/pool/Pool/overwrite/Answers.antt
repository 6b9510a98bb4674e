use Rattle.std.proofs.Common.{◌∙◌, ◌<◌, ap, sym, subst, arith, ◌≡◌, length, List}
use Rattle.chain_pool.specs.declared.places.Place.{Place}
use Rattle.chain_pool.specs.declared.places.Chain.{Chain}
use Rattle.chain_pool.specs.Heads.{chain_head, last_of, writer_head}
use Rattle.chain_pool.specs.Linked.{Linked, HasLasts, versions, nth_place}
use Rattle.chain_pool.proofs.OfCells.{len_is, walk_of, used_at}
use Rattle.chain_pool.proofs.Rewriting.{written, rewritten, rewritten_here, rewritten_else}
use Rattle.chain_pool.proofs.pool.Pool.overwrite.Goals as goal

pub place_of-place-requires-clause-walk : goal.place_of-place-requires-clause-walk
place_of-place-requires-clause-walk c =
    walk_of c.args.self.now c.args.cell c.chain_at-chain.result c.requires.sound c.chain_at-chain.ensures c.deref.result.now c.deref.ensures.value

pub place_of-place-requires-clause-within : goal.place_of-place-requires-clause-within
place_of-place-requires-clause-within c = omega (arith, len_is c.args.self.now c.args.cell c.chain_at-chain.result c.requires.sound c.chain_at-chain.ensures, c.requires.within)

pub rewrite-requires : goal.rewrite-requires
rewrite-requires c =
    let h = c.chain_at-chain.result.head in
    let lt : c.args.i < h.len = omega (arith, len_is c.args.self.now c.args.cell c.chain_at-chain.result c.requires.sound c.chain_at-chain.ensures, c.requires.within) in
    let there = c.place_of-place.ensures ∙ ap (λ (qs : List Place). nth_place qs h c.args.i) c.deref.ensures.value in
    used_at c.args.self.now c.args.cell c.chain_at-chain.result c.requires.sound c.chain_at-chain.ensures c.deref_mut.result.now c.deref_mut.ensures.value c.args.i lt c.place_of-place.result there

pub returns-clause-sound : goal.returns-clause-sound
returns-clause-sound c =
    let s = c.requires.sound in
    let e : c.deref_mut.result.now ≡ c.args.self.now.places.items = c.deref_mut.ensures.value in
    let n : c.args.self.now.places.len ≡ length c.rewrite.new.places = sym c.deref_mut.ensures.len ∙ sym c.rewrite.auto.places in
    let new = written c.args.self.now.places.len c.rewrite.new.places c.args.self.now.places.items n in
    let linked = rewritten c.args.self.now.places.items c.rewrite.new.places _ _ c.args.self.now.unused s.linked c.place_of-place.result c.args.value (c.rewrite.auto.places ∙ ap length e)
    (rw e at c.rewrite.ensures.next) (rw e at c.rewrite.ensures.previous) (rw e at c.rewrite.ensures.slot) in
    record {
      linked = subst (λ (l : List Place). Linked l (chain_head c.args.self.now.cells.entries) (writer_head c.args.self.now.writers.entries) c.args.self.now.unused) (sym new) linked;
      lasts = subst (λ (l : List Place). HasLasts l (chain_head c.args.self.now.cells.entries) (last_of c.args.self.now.cells.entries)) (sym new)
          (λ x some. s.lasts x some ∙ sym ((rw e at c.rewrite.ensures.previous) (chain_head c.args.self.now.cells.entries x).first));
      busy = s.busy;
    }

pub returns-clause-here : goal.returns-clause-here
returns-clause-here c =
    let e : c.deref_mut.result.now ≡ c.args.self.now.places.items = c.deref_mut.ensures.value in
    let n : c.args.self.now.places.len ≡ length c.rewrite.new.places = sym c.deref_mut.ensures.len ∙ sym c.rewrite.auto.places in
    let new = written c.args.self.now.places.len c.rewrite.new.places c.args.self.now.places.items n in
    let is = ap (λ (k : Chain). k.head) c.chain_at-chain.ensures in
    let there = c.place_of-place.ensures ∙ ap (λ (qs : List Place). nth_place qs c.chain_at-chain.result.head c.args.i) c.deref.ensures.value in
    ap (λ (l : List Place). versions l (chain_head c.args.self.now.cells.entries c.args.cell)) new
    ∙ rewritten_here c.args.self.now.places.items c.rewrite.new.places _ _ c.args.self.now.unused c.requires.sound.linked c.place_of-place.result c.args.value (c.rewrite.auto.places ∙ ap length e)
    (rw e at c.rewrite.ensures.next) (rw e at c.rewrite.ensures.previous) (rw e at c.rewrite.ensures.slot)
    c.args.cell c.args.i c.requires.within c.chain_at-chain.result.head is there

pub returns-clause-elsewhere : goal.returns-clause-elsewhere
returns-clause-elsewhere c x ne =
    let e : c.deref_mut.result.now ≡ c.args.self.now.places.items = c.deref_mut.ensures.value in
    let n : c.args.self.now.places.len ≡ length c.rewrite.new.places = sym c.deref_mut.ensures.len ∙ sym c.rewrite.auto.places in
    let new = written c.args.self.now.places.len c.rewrite.new.places c.args.self.now.places.items n in
    let is = ap (λ (k : Chain). k.head) c.chain_at-chain.ensures in
    let there = c.place_of-place.ensures ∙ ap (λ (qs : List Place). nth_place qs c.chain_at-chain.result.head c.args.i) c.deref.ensures.value in
    ap (λ (l : List Place). versions l (chain_head c.args.self.now.cells.entries x)) new
    ∙ rewritten_else c.args.self.now.places.items c.rewrite.new.places _ _ c.args.self.now.unused c.requires.sound.linked c.place_of-place.result c.args.value (c.rewrite.auto.places ∙ ap length e)
    (rw e at c.rewrite.ensures.next) (rw e at c.rewrite.ensures.previous) (rw e at c.rewrite.ensures.slot)
    c.args.cell c.args.i c.requires.within c.chain_at-chain.result.head is there x ne
