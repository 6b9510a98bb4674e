use Rattle.std.proofs.Common.{◌≡◌, ◌++◌, ◌∷◌, [], ap, sym, ◌∙◌, append_assoc}
use Rattle.engine_store.proofs.Labels.{label_more}
use Rattle.engine_store.proofs.label.label_of.Goals as goal

pub loop-i-preserved : goal.loop-i-preserved
loop-i-preserved c =
    let old = c.loop-i.label.items in
    let name = c.name.result.now in
    let added : c.push.new.self.items ≡ (old ++ name) ++ 10 ∷ [] = cc (c.in_ok-push.ensures.items, c.in_ok-extend_from_slice.ensures.items, c.as_bytes.ensures.value) in
    added
    ∙ append_assoc old name (10 ∷ [])
    ∙ ap (λ l. l ++ (name ++ 10 ∷ [])) c.loop-i.invariant
    ∙ sym (label_more c.args.names.now c.loop-i.i name c.name.ensures.name)
