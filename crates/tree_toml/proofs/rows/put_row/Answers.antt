use Rattle.std.proofs.Common.{sym, ◌∙◌, rules}
use Rattle.tree_toml.proofs.Placed.{placed, placed_again}
use Rattle.tree_toml.proofs.rows.put_row.Goals as goal

pub returns-in-None : goal.returns-in-None
returns-in-None c = placed c.args.index _ _ (c.args.cell, c.args.value) _ (sym c.in-None.is ∙ c.in_ok-insert.ensures.old) c.in_ok-insert.ensures.entries (search rules)

pub returns-in-Some : goal.returns-in-Some
returns-in-Some c = rw (c.fault.ensures, c.place.ensures) (placed_again c.args.index _ (c.args.cell, c.args.value) _ (sym c.in-Some.is ∙ c.in_ok-insert.ensures.old))
