use Rattle.std.proofs.Common.{Some}
use Rattle.command_words.specs.declared.command.Command.TheVariants.{Pool}
use Rattle.tebaldi.proofs.Rightness.{pooled_of, pool_refused, refused_of}
use Rattle.tebaldi.proofs.source.pool_source.Goals as goal

pub returns-in-Ok-clause-right : goal.returns-in-Ok-clause-right
returns-in-Ok-clause-right g c = λ nf nm.
    pooled_of _ _ c.put_served.result _ _ c.args.workers c.in-Ok.read c.in-Ok.ensures.read c.serve_by_pool.result c.serve_by_pool.ensures.served c.serve_by_pool.ensures.serialized
    c.put_served.ensures.written nm

pub returns-in-Err-clause-right : goal.returns-in-Err-clause-right
returns-in-Err-clause-right g c = λ nf nm.
    refused_of _ _ c.refuse.result _ _ (Some (Pool c.args.workers)) (pool_refused c.args.workers c.refuse.result c.refuse.ensures.alone)
    c.in-Err.error c.in-Err.ensures.read (c.refuse.ensures.written nf nm) c.refuse.ensures.history c.refuse.ensures.read_fault c.refuse.ensures.memory nf nm
