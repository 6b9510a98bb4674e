-- Lists of names by number.
use Rattle.std.specs.Prelude.{ℕ, ◌==◌, if◌then◌else◌, List}
use Rattle.teb_rules.specs.declared.names.naming.NameBook.{NameBook}

-- the names of tables (0), of types (1) or of nodes
abbrev pub names_in : NameBook → ℕ → List (List ℕ)
names_in b k = if k == 0 then b.tables else if k == 1 then b.types else b.nodes
