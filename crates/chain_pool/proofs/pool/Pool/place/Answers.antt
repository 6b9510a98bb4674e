use Rattle.std.proofs.Common.{◌∙◌, ℕ, ◌-◌, ◌<◌, ◌≤◌, ap, sym, subst, arith, length, List, insert}
use Rattle.teb_rules.specs.declared.names.Txn.{Txn}
use Rattle.indexmap.specs.IndexMap.{IndexMap, spare}
use Rattle.version_chain.specs.Lists.{Version}
use Rattle.chain_pool.specs.declared.places.Place.{Place}
use Rattle.chain_pool.specs.declared.places.Head.{Head}
use Rattle.chain_pool.specs.Threads.{steps}
use Rattle.chain_pool.specs.Heads.{CellHeads, chain_head, last_of, writer_head}
use Rattle.chain_pool.specs.Places.{place_at, previous_at}
use Rattle.chain_pool.specs.Linked.{Linked, HasLasts, versions}
use Rattle.chain_pool.proofs.Placing.{placing}
use Rattle.chain_pool.proofs.Rewriting.{written}
use Rattle.chain_pool.proofs.Sizes.{walk_within, free_first, chain_short, owned_short}
use Rattle.chain_pool.proofs.pool.Pool.place.Goals as goal

pub lengthen-chain-requires-clause-short : goal.lengthen-chain-requires-clause-short
lengthen-chain-requires-clause-short c =
    let p = c.add_free.new.self in
    let s = c.add_free.ensures.sound in
    omega (arith, chain_short p.places.items _ _ p.unused s.linked c.args.version.cell c.add_free.ensures.some, s.linked.short)

pub lengthen-own-requires-clause-short : goal.lengthen-own-requires-clause-short
lengthen-own-requires-clause-short c =
    let p = c.add_free.new.self in
    let s = c.add_free.ensures.sound in
    omega (arith, owned_short p.places.items _ _ p.unused s.linked c.args.version.writer c.add_free.ensures.some, s.linked.short)

pub neighbours-before-requires : goal.neighbours-before-requires
neighbours-before-requires c =
    let p = c.add_free.new.self in
    let ps = p.places.items in
    let s = c.add_free.ensures.sound in
    let h = c.lengthen-chain.result in
    let cell = c.args.version.cell in
    let free = free_first ps _ _ p.unused s.linked c.add_free.ensures.some in
    record {
      safe = subst (λ (qs : List Place). (n : ℕ) → 0 < h.len → steps (previous_at qs) n h.first < length qs) (sym c.deref.ensures.value)
          (subst (λ (k : Head). (n : ℕ) → 0 < k.len → steps (previous_at ps) n k.first < length ps) (sym c.lengthen-chain.ensures.result) (walk_within ps _ _ p.unused s.linked cell));
      within = omega (arith, c.requires.within, ap (λ (v : CellHeads). (chain_head v.entries cell).len) c.add_free.ensures.cells, ap (λ (k : Head). k.len) c.lengthen-chain.ensures.result);
      place = omega (arith, free.within, ap length c.deref.ensures.value);
    }

pub at-requires : goal.at-requires
at-requires c =
    let p = c.add_free.new.self in
    let free = free_first p.places.items _ _ p.unused c.add_free.ensures.sound.linked c.add_free.ensures.some in
    omega (arith, free.within, ap length c.deref-2.ensures.value)

pub link-requires : goal.link-requires
link-requires c =
    let p = c.add_free.new.self in
    let free = free_first p.places.items _ _ p.unused c.add_free.ensures.sound.linked c.add_free.ensures.some in
    record {
      place_within = omega (arith, free.within, ap length c.deref_mut.ensures.value);
      before_within = omega (arith, c.neighbours-before.ensures.before_within, ap length c.deref.ensures.value, ap length c.deref_mut.ensures.value);
      after_within = omega (arith, c.neighbours-before.ensures.after_within, ap length c.deref.ensures.value, ap length c.deref_mut.ensures.value);
    }

pub returns : goal.returns
returns c =
    let p = c.add_free.new.self in
    let s = c.add_free.ensures.sound in
    let v = c.args.version in
    let heads = chain_head c.lengthen-chain.new.self.entries in
    let owners = writer_head c.lengthen-own.new.writers.entries in
    let read = c.deref.ensures.value in
    let wrote = c.deref_mut.ensures.value in
    let placed = placing p.places.items c.link.new.places (chain_head p.cells.entries) heads (writer_head p.writers.entries) owners p.unused s.linked
    v c.args.i c.neighbours-before.result c.lengthen-chain.result c.lengthen-own.result c.lengthen-chain.ensures.result c.lengthen-own.ensures.result c.add_free.ensures.some
    (subst (λ (k : CellHeads). c.args.i ≤ (chain_head k.entries v.cell).len) (sym c.add_free.ensures.cells) c.requires.within)
    (λ q m o. let two = c.add_free.ensures.owners v.cell v.writer q m o in c.requires.absent q two.0 two.1)
    c.neighbours-before.ensures.alone (rw read at c.neighbours-before.ensures.before) (rw read at c.neighbours-before.ensures.after)
    (c.link.auto.places ∙ ap length wrote) (rw wrote at c.link.ensures.next) (rw wrote at c.link.ensures.previous) (rw wrote at c.link.ensures.slot)
    c.lengthen-chain.ensures.heads c.lengthen-own.ensures.heads in
    let new = written p.places.len c.link.new.places p.places.items (sym c.deref_mut.ensures.len ∙ sym c.link.auto.places) in
    let sibling = ap (λ (q : Place). q.sibling) (c.at.ensures ∙ ap (λ (l : List Place). place_at l p.unused.first) c.deref-2.ensures.value) in
    record {
      sound = record {
        linked = subst (λ (l : List Place). Linked l heads owners (record { first = c.at.result.now.sibling; len = p.unused.len - 1 })) (sym new)
            (subst (λ n. Linked c.link.new.places heads owners (record { first = n; len = p.unused.len - 1 })) (sym sibling) placed.linked);
        lasts = subst (λ (l : List Place). HasLasts l heads (last_of c.lengthen-chain.new.self.entries)) (sym new) (placed.lasts _ _ s.lasts c.lengthen-chain.ensures.lasts);
        busy = c.lengthen-own.ensures.busy s.busy;
      };
      here = ap (λ (l : List Place). versions l (heads v.cell)) new ∙ (placed.here ∙ ap (λ (l : List Version). insert l c.args.i (v.writer, v.value)) (c.add_free.ensures.same v.cell));
      elsewhere = λ x ne. ap (λ (l : List Place). versions l (heads x)) new ∙ (placed.elsewhere x ne ∙ c.add_free.ensures.same x);
      room = λ n r. record {
        places = omega (arith, r.places, c.add_free.ensures.len, c.add_free.ensures.capacity);
        short = omega (arith, r.short, c.add_free.ensures.len);
        cells = omega (arith, r.cells, c.lengthen-chain.ensures.room, ap (λ (k : CellHeads). k.spare) c.add_free.ensures.cells);
        writers = omega (arith, r.writers, c.lengthen-own.ensures.room, ap (λ (k : IndexMap Txn Head _). spare k) c.add_free.ensures.writers);
      };
    }
