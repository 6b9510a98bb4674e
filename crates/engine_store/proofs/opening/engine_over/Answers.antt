use Rattle.std.proofs.Common.{◌≡◌, List, length, ℤ, sym, ◌∙◌, ap, subst}
use Rattle.teb_rules.specs.declared.names.Cell.{Cell}
use Rattle.teb_rules.specs.Setup.{Store}
use Rattle.store_setup.specs.Stores.{store_of}
use Rattle.epoch_journal.proofs.Telling.{if_ok_one}
use Rattle.tree_switch.proofs.Starting.{whole_with}
use Rattle.engine_store.specs.Opening.{AreOfTables}
use Rattle.engine_store.proofs.Beginning.{begins}
use Rattle.engine_store.proofs.opening.engine_over.Goals as goal

pub new-requires-clause-setup : goal.new-requires-clause-setup
new-requires-clause-setup g c =
    let same = c.with_rows.ensures.rows ∙ c.in_ok-rows.ensures.items in
    whole_with c.args.setup c.with_rows.result c.requires.setup c.with_rows.ensures.names (ap (λ (v : _). v.items) c.with_rows.ensures.profiles) c.with_rows.ensures.tree
    (subst (λ (rs : List (Cell × ℤ)). AreOfTables (length c.args.setup.names.tables) rs) (sym same) c.requires.tables)

pub returns-clause-engine : goal.returns-clause-engine
returns-clause-engine g c =
    begins c.args.setup c.with_rows.result c.requires.setup c.with_rows.ensures.names (ap (λ (v : _). v.items) c.with_rows.ensures.profiles) c.with_rows.ensures.tree
    c.new.result c.new.ensures.store c.new.ensures.names c.new.ensures.events c.new.ensures.ready

pub returns-clause-rows : goal.returns-clause-rows
returns-clause-rows g c =
    if_ok_one c.new.result
    (λ e. e.store ≡ store_of c.with_rows.result)
    (λ e. e.store.rows ≡ c.args.rows.now)
    (λ e is. ap (λ (X : Store). X.rows) is ∙ c.with_rows.ensures.rows ∙ c.in_ok-rows.ensures.items)
    c.new.ensures.store
