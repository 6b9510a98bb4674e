use Rattle.std.proofs.Common.{◌++◌, ◌∷◌, codes, decimal, map, ap, ◌∙◌}
use Rattle.script_text.specs.Texts.{value_text}
use Rattle.script_text.specs.Puts.{spaced}
use Rattle.script_text.proofs.Wholes.{put_at_once, whole_line}
use Rattle.script_text.proofs.text.reply.put_scan.Goals as goal

pub returns : goal.returns
returns c =
    put_at_once _ _ _ _ _ c.extend_from_slice.ensures.items
    (c.as_bytes.ensures ∙ c.put_natural.ensures.text ∙ ap (λ n. decimal n ++ c.put-2.new.self) c.from.ensures
    ∙ ap (λ l. decimal c.args.session.0 ++ l)
    (c.put-2.ensures ∙ ap (λ l. codes " values" ++ l)
    (c.put_values.ensures.text ∙ ap (λ l. spaced (map value_text c.args.values.now) ++ l) (c.put.ensures ∙ ap (λ l. codes "\n" ++ l) c.new-line.ensures)))
    ∙ whole_line (decimal c.args.session.0) (codes "values" ∷ map value_text c.args.values.now))
