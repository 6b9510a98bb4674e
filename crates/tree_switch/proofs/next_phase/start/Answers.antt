use Rattle.std.proofs.Common.{◌<◌, ℤ, List, length, sym, subst, ap}
use Rattle.std.specs.List.{All}
use Rattle.teb_rules.specs.declared.names.Cell.{Cell}
use Rattle.tree_switch.proofs.Starting.{left_within, whole_with}
use Rattle.tree_switch.proofs.next_phase.start.Goals as goal

pub new-requires-clause-setup : goal.new-requires-clause-setup
new-requires-clause-setup g c =
    let rows = left_within c.args.before.now c.setup.result.now c.args.setup c.requires.engine c.setup.ensures.store c.setup.ensures.names c.setup.ensures.whole c.requires.tables
    c.in_ok-rows.rows.items c.in_ok-rows.ensures in
    whole_with c.args.setup c.with_rows.result c.requires.setup c.with_rows.ensures.names (ap (λ (v : _). v.items) c.with_rows.ensures.profiles) c.with_rows.ensures.tree
    (subst (λ (rs : List (Cell × ℤ)). All (λ (r : Cell × ℤ). r.0.table.0 < length c.args.setup.names.tables) rs) (sym c.with_rows.ensures.rows) rows)
