use Rattle.std.proofs.Common.{◌∙◌, ◌-◌, ap, arith, if◌then◌else◌}
use Rattle.teb_rules.specs.names.Cells.{same_cell}
use Rattle.chain_pool.specs.declared.places.Chain.{Chain}
use Rattle.chain_pool.specs.Heads.{CellHeads, chain_at, chain_head, last_of, without_place, last_without}
use Rattle.chain_pool.proofs.Beside.{busy_at, chain_here, shortened, field_chosen}
use Rattle.chain_pool.proofs.chain_heads.ChainHeads.shorten.Goals as goal

pub index-was-requires : goal.index-was-requires
index-was-requires c =
    let h = c.self.inside in
    let lt = busy_at c.args.cell h.cells.cells h.chains.items c.self.invariant _ (ap (λ (v : CellHeads). v.entries) c.self.view_is) c.place-at.result c.place-at.ensures c.requires in
    omega (arith, lt, h.chains.ok.0)

pub overflow_sub-head : goal.overflow_sub-head
overflow_sub-head c =
    let h = c.self.inside in
    let lt = busy_at c.args.cell h.cells.cells h.chains.items c.self.invariant _ (ap (λ (v : CellHeads). v.entries) c.self.view_is) c.place-at.result c.place-at.ensures c.requires in
    let is = chain_here c.args.cell h.cells.cells h.chains.items c.self.invariant _ (ap (λ (v : CellHeads). v.entries) c.self.view_is) c.place-at.result c.place-at.ensures c.index-was.result.now lt
    c.index-was.ensures in
    omega (arith, ap (λ (g : Chain). g.head.len) is, c.requires)

pub index_mut-requires : goal.index_mut-requires
index_mut-requires c =
    let h = c.self.inside in
    let lt = busy_at c.args.cell h.cells.cells h.chains.items c.self.invariant _ (ap (λ (v : CellHeads). v.entries) c.self.view_is) c.place-at.result c.place-at.ensures c.requires in
    omega (arith, lt, h.chains.ok.0)

pub returns-clause-heads : goal.returns-clause-heads
returns-clause-heads c x =
    let h = c.self.inside in
    let lt = busy_at c.args.cell h.cells.cells h.chains.items c.self.invariant _ (ap (λ (v : CellHeads). v.entries) c.self.view_is) c.place-at.result c.place-at.ensures c.requires in
    let was = chain_here c.args.cell h.cells.cells h.chains.items c.self.invariant _ (ap (λ (v : CellHeads). v.entries) c.self.view_is) c.place-at.result c.place-at.ensures c.index-was.result.now lt
    c.index-was.ensures in
    let is = shortened c.args.cell h.cells.cells h.chains.items c.self.invariant _ (ap (λ (v : CellHeads). v.entries) c.self.view_is) c.place-at.result c.place-at.ensures lt _ x in
    let rest = chain_head c.args.self.now.entries x in
    field_chosen (λ (g : Chain). g.head) (same_cell c.args.cell x) _ _ (chain_at c.args.self.now.entries x) is
    ∙ (ap (λ n. if same_cell c.args.cell x then record { first = n; len = c.index-was.result.now.head.len - 1 } else rest) c.chosen.ensures
    ∙ ap (λ (g : Chain). if same_cell c.args.cell x then without_place g.head c.args.place c.args.next else rest) was)

pub returns-clause-lasts : goal.returns-clause-lasts
returns-clause-lasts c x =
    let h = c.self.inside in
    let lt = busy_at c.args.cell h.cells.cells h.chains.items c.self.invariant _ (ap (λ (v : CellHeads). v.entries) c.self.view_is) c.place-at.result c.place-at.ensures c.requires in
    let was = chain_here c.args.cell h.cells.cells h.chains.items c.self.invariant _ (ap (λ (v : CellHeads). v.entries) c.self.view_is) c.place-at.result c.place-at.ensures c.index-was.result.now lt
    c.index-was.ensures in
    let is = shortened c.args.cell h.cells.cells h.chains.items c.self.invariant _ (ap (λ (v : CellHeads). v.entries) c.self.view_is) c.place-at.result c.place-at.ensures lt _ x in
    let rest = last_of c.args.self.now.entries x in
    field_chosen (λ (g : Chain). g.last) (same_cell c.args.cell x) _ _ (chain_at c.args.self.now.entries x) is
    ∙ (ap (λ n. if same_cell c.args.cell x then n else rest) c.chosen-last.ensures
    ∙ ap (λ (g : Chain). if same_cell c.args.cell x then last_without g.last c.args.place c.args.previous else rest) was)
