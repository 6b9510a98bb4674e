use Rattle.shop_load.proofs.Shops.{whole_of, named_of, names_of}
use Rattle.shop_load.proofs.shop.shop_setup.Goals as goal

pub returns-clause-whole : goal.returns-clause-whole
returns-clause-whole c =
    whole_of c.in_ok-names.field-0.tables c.in_ok-names.field-0.types c.in_ok-names.field-0.nodes c.in_ok-profiles.field-0.items c.in_ok-tree.field-0 c.in_ok-rows.field-0
    c.in_ok-names.ensures.tables c.in_ok-names.ensures.types c.in_ok-names.ensures.nodes c.in_ok-profiles.ensures c.in_ok-tree.ensures c.in_ok-rows.ensures

pub returns-clause-named : goal.returns-clause-named
returns-clause-named c =
    named_of c.in_ok-names.field-0.tables c.in_ok-names.field-0.types c.in_ok-names.field-0.nodes c.in_ok-profiles.field-0.items c.in_ok-tree.field-0 c.in_ok-rows.field-0
    c.in_ok-names.ensures.nodes c.in_ok-tree.ensures

pub returns-clause-names : goal.returns-clause-names
returns-clause-names c =
    names_of c.in_ok-names.field-0.tables c.in_ok-names.field-0.types c.in_ok-names.field-0.nodes c.in_ok-profiles.field-0.items c.in_ok-tree.field-0 c.in_ok-rows.field-0
    c.in_ok-names.ensures.tables c.in_ok-names.ensures.types c.in_ok-names.ensures.nodes
