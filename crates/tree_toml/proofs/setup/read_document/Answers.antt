use Rattle.std.proofs.lemmas.Bool.{false≢true}
use Rattle.toml.specs.View.{table_view}
use Rattle.tree_toml.proofs.Documents.{table_is, refused}
use Rattle.tree_toml.proofs.setup.read_document.Goals as goal

pub returns-in-Ok : goal.returns-in-Ok
returns-in-Ok c = table_is c.args.text.now (table_view c.in-Ok.table) c.read_setup.result c.in-Ok.ensures.ok.0 c.in-Ok.ensures.ok.1 c.read_setup.ensures

pub returns-else-is_memory : goal.returns-else-is_memory
returns-else-is_memory c = refused c.args.text.now (c.in-Err.ensures.refused (λ m. false≢true (c.if-is_memory.ensures.1 m)))
