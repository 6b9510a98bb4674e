use Rattle.std.proofs.Common.{Option, sym, ◌∙◌, ap}
use Rattle.script_text.specs.declared.Answered.{Answered}
use Rattle.answer_log.specs.Telling.{with_waiting}
use Rattle.answer_log.proofs.Lines.{lines_named}
use Rattle.answer_log.proofs.reply_text.ReplyText.into_text.Goals as goal

pub returns : goal.returns
returns c = λ answers told named.
    let names = c.args.names.now in
    let log = c.ready.new.self in
    ap (λ (w : Option Answered). with_waiting names log.text.items w) (sym c.in_ok-ready.ensures.room) ∙ c.in_ok-ready.ensures.told answers told ∙ lines_named names answers named
