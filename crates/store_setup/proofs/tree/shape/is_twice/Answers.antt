use Rattle.std.proofs.Common.{◌≡◌, ◌<◌, Bool, false, ◌||◌, length, take, List, ◌∙◌, sym, ap, refl, arith}
use Rattle.std.specs.List.{list_any}
use Rattle.teb_rules.specs.declared.names.Kind.{Kind}
use Rattle.teb_rules.specs.Accepted.{repeats, is_twice}
use Rattle.store_setup.specs.tree.Grown.{kind_numbers, row_of, rows_of}
use Rattle.store_setup.specs.tree.Rows.{clash}
use Rattle.store_setup.proofs.lemmas.tree.Below.{is_twice_is}
use Rattle.store_setup.proofs.tree.shape.is_twice.Goals as goal

pub returns-else-repeats : goal.returns-else-repeats
returns-else-repeats c =
    let h : c.from-n.result < length c.args.rows.now = omega arith in
    let e = is_twice_is c.args.rows.now c.from-n.result c.index-rows-n.result (take c.from-n.result c.args.rows.now) h c.index-rows-n.is refl in
    let no : repeats (kind_numbers c.index-rows-n.result.types.items) ≡ false = ap (λ (ks : List Kind). repeats (kind_numbers ks)) (sym c.deref.ensures.value) ∙ sym c.repeats.ensures
    ∙ c.if-repeats.false in
    c.some_clash.ensures ∙ sym (ap (λ (b : Bool). b || list_any (λ q. clash q (row_of c.index-rows-n.result)) (rows_of (take c.from-n.result c.args.rows.now))) no) ∙ sym e ∙
    ap (is_twice (rows_of c.args.rows.now)) c.from-n.ensures
