use Rattle.std.proofs.Common.{◌≡◌, ◌++◌, codes, subst}
use Rattle.std.specs.Prelude.{OnOk}
use Rattle.store_setup.specs.tree.Grown.{row_of}
use Rattle.teb_rules.specs.Setup.{NodeRow}
use Rattle.teb_rules.specs.Tree.{row}
use Rattle.script_text.specs.Texts.{name_of}
use Rattle.tree_writer.proofs.Appended.{three_texts}
use Rattle.tree_writer.specs.Written.{header, node_settings, quoted, setting}
use Rattle.tree_writer.proofs.nodes.put_node.Goals as goal

pub returns : goal.returns
returns c =
    three_texts c.put_settings.result c.args.out.now.items c.put_header.new.out.items c.put_name.new.out.items c.put_settings.new.out.items (header (codes "node"))
    (setting (codes "name") (quoted (name_of c.args.names.now.nodes c.args.node.0)))
    (node_settings c.args.names.now (row c.args.tree.now.rows c.args.node.0)) c.in_ok-put_header.ensures c.in_ok-put_name.ensures
    (subst (λ (r : NodeRow). OnOk c.put_settings.result (c.put_settings.new.out.items ≡ c.put_name.new.out.items ++ node_settings c.args.names.now r)) c.row.ensures c.put_settings.ensures)
