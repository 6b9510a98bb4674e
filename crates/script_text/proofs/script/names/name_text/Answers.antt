use Rattle.std.proofs.Common.{sym, ◌∙◌}
use Rattle.script_text.proofs.NameBytes.{IsUtf8-name}
use Rattle.script_text.proofs.script.names.name_text.Goals as goal

pub returns-in-Err : goal.returns-in-Err
returns-in-Err c = absurd (c.in-Err.ensures.cases.0 (IsUtf8-name c.args.word.now (sym c.is_name.ensures ∙ c.if-not-is_name.false)))
