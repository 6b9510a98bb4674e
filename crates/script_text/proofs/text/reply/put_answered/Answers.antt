use Rattle.std.proofs.Common.{◌++◌, decimal, refl, ap, ◌∙◌}
use Rattle.script_text.proofs.Wholes.{put_at_once, whole_line}
use Rattle.script_text.proofs.text.reply.put_answered.Goals as goal

pub returns : goal.returns
returns c =
    put_at_once _ _ _ _ _ c.extend_from_slice.ensures.items
    (c.as_bytes.ensures ∙ c.put_natural.ensures.text ∙ ap (λ n. decimal n ++ c.put_short.new.line) c.from.ensures
    ∙ ap (λ l. decimal c.args.session.0 ++ l) (c.if-not-put_short.ensures.text refl) ∙ whole_line _ _)
