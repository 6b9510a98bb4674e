use Rattle.std.proofs.Common.{◌+◌, ◌++◌, [], ◌∷◌, List, ℤ, to_z, of_z, w64, sym, ◌∙◌, ap, append_assoc}
use Rattle.std.proofs.lemmas.List.{append-nil}
use Rattle.teb_rules.specs.declared.names.Cell.{Cell}
use Rattle.shop_load.specs.Shop.{filled}
use Rattle.shop_load.proofs.Shops.{filled_none, filled_more}
use Rattle.shop_load.proofs.shop.fill.Goals as goal

pub loop-i-init : goal.loop-i-init
loop-i-init c = sym (ap (λ (rs : List (Cell × ℤ)). c.args.rows.now.items ++ rs) (filled_none c.args.table.0 (to_z w64 (of_z w64 c.args.value))) ∙ append-nil c.args.rows.now.items)

pub loop-i-preserved : goal.loop-i-preserved
loop-i-preserved c =
    let old = c.args.rows.now.items in
    let t = c.args.table in
    let v = to_z w64 (of_z w64 c.args.value) in
    let i = c.loop-i.i in
    let row : Cell × ℤ = (record { table = t; key = i + 1 }, v) in
    c.in_ok-push.ensures.items ∙ ap (λ (rs : List (Cell × ℤ)). rs ++ row ∷ []) c.loop-i.invariant
    ∙ append_assoc old (filled t.0 v i) (row ∷ []) ∙ sym (ap (λ (rs : List (Cell × ℤ)). old ++ rs) (filled_more t.0 v i))
