use Rattle.std.proofs.Common.{rules, eqb, not}
use Rattle.std.proofs.lemmas.Fn.{filter_same}
use Rattle.version_chain.proofs.plain.keep_others.Goals as goal

pub returns-clause-items : goal.returns-clause-items
returns-clause-items c = filter_same _ (λ v. not (eqb v.writer.0 c.args.t.0)) _ (λ x b f r. search rules) _ _ c.retain.ensures.filtered
