use Rattle.std.proofs.Common.{◌∙◌, ◌++◌, ◌∷◌, [], length, not, ap, sym, subst, arith}
use Rattle.std.proofs.lemmas.List.{length_push}
use Rattle.std.proofs.lemmas.Cmp.{nat_list_eq_equiv}
use Rattle.std.proofs.lemmas.Map.Keys.{IsDistinct-push}
use Rattle.std.specs.List.{IsDistinct}
use Rattle.std.specs.Str.{bytes_eq}
use Rattle.teb_rules.proofs.lemmas.names.Texts.{inserted, long}
use Rattle.teb_rules.specs.names.Names.{has, texts}
use Rattle.teb_rules.proofs.names.naming.Names.add.Goals as goal

pub invariant_of-self-2 : goal.invariant_of-self-2
invariant_of-self-2 c =
    let ks = c.self.inside.set.keys in
    let done = inserted c.args.name.now ks c.insert.new.self.keys _ c.in_ok-key.ensures.ok (sym c.contains.ensures ∙ c.if-contains.false) c.in_ok-insert.ensures.keys in (
      omega (arith, c.requires, ap length c.self.view_is, ap length done.1, long ks, long c.insert.new.self.keys, length_push (texts ks) c.args.name.now),
      subst (IsDistinct bytes_eq) (sym done.1) (IsDistinct-push nat_list_eq_equiv (texts ks) c.args.name.now c.self.invariant.1 done.0),
    )

pub returns-clause-added : goal.returns-clause-added
returns-clause-added c =
    let old = c.self.view_is in
    let done = inserted c.args.name.now c.self.inside.set.keys c.insert.new.self.keys _ c.in_ok-key.ensures.ok (sym c.contains.ensures ∙ c.if-contains.false) c.in_ok-insert.ensures.keys in
    (ap not (sym done.0) ∙ ap (λ l. not (has l c.args.name.now)) old, done.1 ∙ ap (λ l. l ++ c.args.name.now ∷ []) old)
