use Rattle.tree_toml.proofs.Whole.{whole_from, named_from, names_from, limits_from, blank_is, document_is}
use Rattle.std.proofs.Common.{sym, ◌∙◌}
use Rattle.tree_toml.proofs.setup.read_tree.Goals as goal

pub returns-then-is_blank : goal.returns-then-is_blank
returns-then-is_blank c =
    let text = c.args.text.now in
    let read = blank_is text c.plain.result (sym c.is_blank.ensures ∙ c.if-is_blank.true) c.plain.ensures in
    record {
      setup = read;
      whole = whole_from text c.plain.result read;
      named = named_from text c.plain.result read;
      names = names_from text c.plain.result read;
      limits = limits_from text c.plain.result read;
    }

pub returns : goal.returns
returns c =
    let text = c.args.text.now in
    let read = document_is text c.read_document.result (sym c.is_blank.ensures ∙ c.if-is_blank.false) c.read_document.ensures in
    record {
      setup = read;
      whole = whole_from text c.read_document.result read;
      named = named_from text c.read_document.result read;
      names = names_from text c.read_document.result read;
      limits = limits_from text c.read_document.result read;
    }
