use Rattle.std.proofs.Common.{◌≡◌, ℕ, List, [], ◌++◌, codes, get_or, ap, ◌∙◌, subst, arith}
use Rattle.std.specs.Prelude.{OnOk}
use Rattle.std.proofs.lemmas.List.{get_or_default}
use Rattle.script_text.specs.Texts.{name_of}
use Rattle.tree_writer.proofs.Appended.{three_texts}
use Rattle.tree_writer.specs.Written.{header, quoted, setting, steps_array}
use Rattle.tree_writer.proofs.put_type.Goals as goal

pub returns : goal.returns
returns c =
    let steps = c.index-profiles-from.result in
    let here : steps ≡ get_or c.args.profiles.now c.args.k [] = c.index-profiles-from.is ∙ ap (λ (i : ℕ). get_or c.args.profiles.now i steps) c.from.ensures
    ∙ get_or_default c.args.profiles.now c.args.k steps [] c.requires in
    three_texts c.put_steps.result c.args.out.now.items c.put_header.new.out.items c.put_name.new.out.items c.put_steps.new.out.items (header (codes "type"))
    (setting (codes "name") (quoted (name_of c.args.names.now.types c.args.k)))
    (setting (codes "steps") (steps_array c.args.names.now.tables (get_or c.args.profiles.now c.args.k []))) c.in_ok-put_header.ensures c.in_ok-put_name.ensures
    (subst (λ (ps : List (List ℕ)). OnOk c.put_steps.result (c.put_steps.new.out.items ≡ c.put_name.new.out.items ++ setting (codes "steps") (steps_array c.args.names.now.tables ps))) here
    c.put_steps.ensures)
