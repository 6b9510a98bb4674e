use Rattle.std.proofs.Common.{◌∙◌, ap, rules, not, eqb, cond, [], List}
use Rattle.std.proofs.lemmas.Fn.{filter_same}
use Rattle.teb_rules.specs.declared.names.Txn.{Txn}
use Rattle.sorted_multimap.specs.Multimap.{values_of}
use Rattle.sorted_multimap.specs.Keys.{txn_cmp}
use Rattle.dependency_book.specs.Dependencies.{has}
use Rattle.runtime_pipeline.specs.Predecessors.{without}
use Rattle.runtime_pipeline.proofs.ListEdits.{taken_out, finished}
use Rattle.runtime_pipeline.proofs.predecessors.take_away.Goals as goal

pub returns-clause-behind : goal.returns-clause-behind
returns-clause-behind c =
    let t = c.args.t in
    let behind = c.args.behind.now.items in
    let lists = λ (v : Txn). values_of txn_cmp c.args.lists.now.entries v in (
    λ v n. c.clear_txn.ensures.values v
    ∙ ap (λ (us : List Txn). cond (eqb t.0 v.0) [] us) (c.take_out.ensures.values v ∙ ap (λ (us : List Txn). cond (has v us) (without t.0 (lists v)) (lists v)) c.deref.ensures.value
    ∙ taken_out t behind lists c.requires.behind v)
    ∙ finished t behind lists c.requires.behind c.retain.new.self.items (filter_same _ (λ (u : Txn). not (eqb u.0 t.0)) _ (λ x b q called. search rules) _ _ c.retain.ensures.filtered) v n
    )
