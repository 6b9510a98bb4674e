-- The tree of the plain setup.
use Rattle.std.proofs.Common.{◌≡◌, ◌<◌, List, [], ◌∷◌, length, Result, Ok, refl, arith, ap, ◌∙◌, sym}
use Rattle.std.proofs.lemmas.List.Elements.{All-nil, All-cons}
use Rattle.std.proofs.lemmas.List.{length-map}
use Rattle.teb_rules.specs.Tree.{below, climb, way}
use Rattle.teb_rules.specs.Accepted.{tree_fault, homes}
use Rattle.store_setup.specs.tree.Grown.{Grown, row_of, rows_of}
use Rattle.store_setup.specs.declared.tree.rows.NodeRow.{NodeRow as Row}
use Rattle.tree_toml.specs.Reading.{Answers}
use Rattle.tree_toml.specs.SetupText.{grown, plain, plain_row}
use Rattle.tree_toml.specs.Kept.{IsRow, AreRows}
use Rattle.tree_toml.specs.declared.fault.TreeTextError.{TreeTextError}

plain_kept : AreRows 1 (plain_row ∷ [])
plain_kept = All-cons (IsRow 1) plain_row [] (record {
  kinds = All-cons (λ k. k < 1) 0 [] (omega arith) (All-nil (λ k. k < 1));
  batch = (omega arith, omega arith);
  parts = (omega arith, omega arith, omega arith);
}) (All-nil (IsRow 1))

pub rows_kept : (rows : List Row) → rows_of rows ≡ plain_row ∷ [] → AreRows 1 (rows_of rows)
rows_kept rows is = rw is plain_kept

pub one_row : (rows : List Row) → rows_of rows ≡ plain_row ∷ [] → length rows ≡ 1
one_row rows is = sym (length-map rows row_of) ∙ ap length is

plain_grown : grown (plain_row ∷ []) 1 ≡ Ok plain.tree
unfolding tree_fault homes below way climb
plain_grown = refl

pub grown_plain : (rows : List Row) (r : Result Grown TreeTextError) → rows_of rows ≡ plain_row ∷ [] → Answers (λ t. t) r (grown (rows_of rows) 1) → Answers (λ t. t) r (Ok plain.tree)
grown_plain rows r is read = rw (is, plain_grown) at read
