use Rattle.std.proofs.Common.{◌∙◌, List, ap, arith}
use Rattle.teb_rules.specs.declared.names.Kind.{Kind}
use Rattle.teb_rules.specs.Setup.{Setup}
use Rattle.store_setup.specs.tree.Grown.{kind_numbers}
use Rattle.runtime_pipeline.proofs.Ranks.{some_below, under_known, ranks_are}
use Rattle.runtime_pipeline.proofs.node_ranks.NodeRanks.of.Goals as goal

pub ranks-requires-clause-known : goal.ranks-requires-clause-known
ranks-requires-clause-known c =
    let S : Setup = record { types = c.args.tree.now.types; profiles = c.args.profiles.now; tree = c.args.tree.now.rows } in
    under_known S c.args.node.0 _ c.deref.result.now c.requires.profiled (ap (λ (l : List Kind). kind_numbers l) c.deref.ensures.value ∙ c.in_ok-under.ensures)

pub ranks-requires-clause-named : goal.ranks-requires-clause-named
ranks-requires-clause-named c = omega (arith, some_below c.args.profiles.now c.deref.result.now, c.ranked_tables-tables.ensures)

pub returns : goal.returns
returns c =
    let S : Setup = record { types = c.args.tree.now.types; profiles = c.args.profiles.now; tree = c.args.tree.now.rows } in
    ranks_are S c.args.node.0 c.ranked_tables-tables.result c.deref.result.now c.in_ok-ranks.ranks (ap (λ (l : List Kind). kind_numbers l) c.deref.ensures.value ∙ c.in_ok-under.ensures)
    c.ranked_tables-tables.ensures c.in_ok-ranks.ensures.0 c.in_ok-ranks.ensures.1
