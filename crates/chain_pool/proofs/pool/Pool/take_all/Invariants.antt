use Rattle.std.proofs.Common.{◌≡◌, ◌+◌, ℕ}
use Rattle.teb_rules.specs.declared.names.Cell.{Cell}
use Rattle.version_chain.specs.Lists.{without}
use Rattle.chain_pool.specs.Pools.{IsSoundWith, chain_of, HasRoom}
use Rattle.chain_pool.proofs.pool.Pool.take_all.Given as goal

abbrev pub invariant-loop-version : goal.invariant-loop-version
invariant-loop-version l = record {
  sound : IsSoundWith l.self l.t l.left;
  count : l._version + l.left.len ≡ l._version-end;
  kept : (x : Cell) → without l.t.0 (chain_of l.self x) ≡ without l.t.0 (chain_of l.fn.self x);
  writers : l.self.writers ≡ l.fn.self.writers;
  room : (n : ℕ) → HasRoom l.fn.self n → HasRoom l.self n;
}
