use Rattle.std.proofs.Common.{set, arith}
use Rattle.static_steps.proofs.AddedArrows.{first_named, tables_added}
use Rattle.static_steps.proofs.Square.{row_joined}
use Rattle.static_steps.proofs.arrows.+add_arrows.Goals as goal

pub returns-in-len1-up : goal.returns-in-len1-up
returns-in-len1-up t c =
    tables_added c.args.tables.now c.args.rows.now (set c.args.rows.now c.from.result c.union.result) c.add_arrows.new.rows c.from.result c.args.later c.in-len1-up.len_at_least c.from.ensures
    (row_joined c.args.rows.now c.from.result c.union.result c.args.later (omega (arith, c.requires.named, c.from.ensures, first_named c.args.tables.now c.in-len1-up.len_at_least)) c.union.ensures)
    c.add_arrows.ensures
