use Rattle.std.proofs.Common.{rules, ◌+◌, arith}
use Rattle.chain_pool.proofs.Lookups.{busy_with}
use Rattle.chain_pool.proofs.writer_heads.lengthen.Goals as goal

pub returns-clause-busy : goal.returns-clause-busy
returns-clause-busy c = λ busy. busy_with c.args.writers.now.entries _ c.args.t (record { first = c.args.place; len = c.or_insert-head.result.now.len + 1 }) (search rules) (omega arith) busy
