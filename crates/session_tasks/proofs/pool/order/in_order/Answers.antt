use Rattle.std.proofs.Common.{rules}
use Rattle.std.proofs.lemmas.List.Sorted.{IsNonDecreasingBy-from_sort_by_key}
use Rattle.session_tasks.specs.Tasks.{number_in}
use Rattle.session_tasks.proofs.lemmas.pool.Ordering.{put_in_order}
use Rattle.session_tasks.proofs.pool.order.in_order.Goals as goal

pub returns-clause-sessions : goal.returns-clause-sessions
returns-clause-sessions g c =
    put_in_order c.args.tasks.items c.sort_unstable_by_key.new.self.items c.sort_unstable_by_key.ensures.permutation
    (IsNonDecreasingBy-from_sort_by_key number_in _ c.sort_unstable_by_key.ensures.sorted (λ a r q k. search rules)) c.requires
