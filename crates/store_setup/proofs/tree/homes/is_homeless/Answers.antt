use Rattle.std.proofs.Common.{sym, ◌∙◌, ap, ltb, ℕ}
use Rattle.store_setup.specs.tree.Grown.{rows_of}
use Rattle.store_setup.proofs.lemmas.tree.HomeCounts.{homeless_none, homeless_some}
use Rattle.store_setup.proofs.tree.homes.is_homeless.Goals as goal

pub returns-in-Some : goal.returns-in-Some
returns-in-Some c = ap (λ (z : ℕ). ltb z c.in-Some.parts) c.count_homes.ensures.count ∙ sym (homeless_some (rows_of c.args.rows.now) c.args.k.0 c.in-Some.parts (sym c.in-Some.ensures))

pub returns-in-None : goal.returns-in-None
returns-in-None c = sym (homeless_none (rows_of c.args.rows.now) c.args.k.0 (sym c.in-None.ensures))
