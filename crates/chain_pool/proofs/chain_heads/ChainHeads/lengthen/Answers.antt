use Rattle.std.proofs.Common.{◌∙◌, ◌==◌, ◌+◌, ap, sym, arith, length, length-set, if◌then◌else◌}
use Rattle.teb_rules.specs.names.Cells.{same_cell}
use Rattle.chain_pool.specs.declared.places.Chain.{Chain}
use Rattle.chain_pool.specs.Heads.{CellHeads, chain_at, chain_head, last_of}
use Rattle.chain_pool.proofs.Beside.{grown, at_within, was_chain, lengthened, field_chosen}
use Rattle.chain_pool.proofs.chain_heads.ChainHeads.lengthen.Goals as goal

pub index-was-requires : goal.index-was-requires
index-was-requires c =
    let h = c.self.inside in
    let lt = at_within c.args.cell h.cells.cells h.chains.items c.self.invariant _ (ap (λ (v : CellHeads). v.entries) c.self.view_is) c.add-at.result c.add-at.ensures.place c.add_next.new.chains.items
    c.add_next.ensures.items in
    omega (arith, lt, c.add_next.new.chains.ok.0)

pub overflow_add-head : goal.overflow_add-head
overflow_add-head c =
    let h = c.self.inside in
    let is = was_chain c.args.cell h.cells.cells h.chains.items c.self.invariant _ (ap (λ (v : CellHeads). v.entries) c.self.view_is) c.add-at.result c.add-at.ensures.place c.add_next.new.chains.items
    c.add_next.ensures.items c.index-was.result.now c.index-was.ensures in
    omega (arith, ap (λ (g : Chain). g.head.len) is, c.requires.short)

pub index_mut-requires : goal.index_mut-requires
index_mut-requires c =
    let h = c.self.inside in
    let lt = at_within c.args.cell h.cells.cells h.chains.items c.self.invariant _ (ap (λ (v : CellHeads). v.entries) c.self.view_is) c.add-at.result c.add-at.ensures.place c.add_next.new.chains.items
    c.add_next.ensures.items in
    omega (arith, lt, c.add_next.new.chains.ok.0)

pub invariant_of-self : goal.invariant_of-self
invariant_of-self c =
    let h = c.self.inside in
    let long = grown c.args.cell h.cells.cells h.chains.items c.self.invariant in
    length-set _ _ _ ∙ (ap length c.add_next.ensures.items ∙ (rw c.add-at.ensures.place long.0 ∙ ap length (sym c.add-at.ensures.cells)))

pub returns-clause-result : goal.returns-clause-result
returns-clause-result c =
    let h = c.self.inside in
    ap (λ (g : Chain). g.head) (was_chain c.args.cell h.cells.cells h.chains.items c.self.invariant _ (ap (λ (v : CellHeads). v.entries) c.self.view_is) c.add-at.result c.add-at.ensures.place
    c.add_next.new.chains.items c.add_next.ensures.items c.index-was.result.now c.index-was.ensures)

pub returns-clause-heads : goal.returns-clause-heads
returns-clause-heads c x =
    let h = c.self.inside in
    let is = lengthened c.args.cell h.cells.cells h.chains.items c.self.invariant _ (ap (λ (v : CellHeads). v.entries) c.self.view_is) c.add-at.result c.add-at.ensures.place
    c.add_next.new.chains.items c.add_next.ensures.items c.add-at.new.self.cells c.add-at.ensures.cells _ x in
    field_chosen (λ (g : Chain). g.head) (same_cell c.args.cell x) _ _ (chain_at c.args.self.now.entries x) is
    ∙ ap (λ n. if same_cell c.args.cell x then record { first = n; len = c.index-was.result.now.head.len + 1 } else chain_head c.args.self.now.entries x) c.chosen.ensures

pub returns-clause-lasts : goal.returns-clause-lasts
returns-clause-lasts c x =
    let h = c.self.inside in
    let is = lengthened c.args.cell h.cells.cells h.chains.items c.self.invariant _ (ap (λ (v : CellHeads). v.entries) c.self.view_is) c.add-at.result c.add-at.ensures.place
    c.add_next.new.chains.items c.add_next.ensures.items c.add-at.new.self.cells c.add-at.ensures.cells _ x in
    let was = was_chain c.args.cell h.cells.cells h.chains.items c.self.invariant _ (ap (λ (v : CellHeads). v.entries) c.self.view_is) c.add-at.result c.add-at.ensures.place
    c.add_next.new.chains.items c.add_next.ensures.items c.index-was.result.now c.index-was.ensures in
    field_chosen (λ (g : Chain). g.last) (same_cell c.args.cell x) _ _ (chain_at c.args.self.now.entries x) is
    ∙ (ap (λ n. if same_cell c.args.cell x then n else last_of c.args.self.now.entries x) c.chosen-last.ensures
    ∙ ap (λ (g : Chain). if same_cell c.args.cell x then (if c.args.i == g.head.len then c.args.place else g.last) else last_of c.args.self.now.entries x) was)
