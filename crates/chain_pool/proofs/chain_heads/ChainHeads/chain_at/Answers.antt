use Rattle.std.proofs.Common.{◌<◌, ◌≤◌, ap, arith, vec_len}
use Rattle.std.proofs.lemmas.Bool.Decides.{nat_tests}
use Rattle.chain_pool.specs.Heads.{CellHeads}
use Rattle.chain_pool.proofs.Beside.{chain_here, chain_none}
use Rattle.chain_pool.proofs.chain_heads.ChainHeads.chain_at.Goals as goal

pub returns-then-at-len : goal.returns-then-at-len
returns-then-at-len c =
    let h = c.self.inside in
    let lt : c.place-at.result < vec_len h.chains = grind (arith, nat_tests, c.if-at-len.true, c.len.ensures) in
    chain_here c.args.cell h.cells.cells h.chains.items c.self.invariant _ (ap (λ (v : CellHeads). v.entries) c.self.view_is) c.place-at.result c.place-at.ensures c.index.result.now
    (omega (arith, lt, h.chains.ok.0)) c.index.ensures

pub returns-else-at-len : goal.returns-else-at-len
returns-else-at-len c =
    let h = c.self.inside in
    let le : vec_len h.chains ≤ c.place-at.result = grind (arith, nat_tests, c.if-at-len.false, c.len.ensures) in
    chain_none c.args.cell h.cells.cells h.chains.items c.self.invariant _ (ap (λ (v : CellHeads). v.entries) c.self.view_is) c.place-at.result c.place-at.ensures
    (omega (arith, le, h.chains.ok.0))
