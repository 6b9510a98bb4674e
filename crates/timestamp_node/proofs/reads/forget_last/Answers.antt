use Rattle.std.proofs.Common.{ℕ, ◌∙◌, subst, List, Option, Some, None}
use Rattle.teb_rules.specs.declared.names.Txn.{Txn}
use Rattle.teb_rules.specs.names.Cells.{cell_cmp}
use Rattle.sorted_multimap.specs.Multimap.{values_in}
use Rattle.sorted_multimap.specs.LastMatches.{IsLastPlace}
use Rattle.sorted_multimap.proofs.CellValues.{taken_last, taken_none}
use Rattle.timestamp_node.specs.Reads.{is_by}
use Rattle.timestamp_node.proofs.reads.forget_last.Goals as goal

pub returns-in-Some-clause-values : goal.returns-in-Some-clause-values
returns-in-Some-clause-values c x =
    let old = values_in cell_cmp c.args.reads.now in
    let place = subst (λ (o : Option ℕ). IsLastPlace (is_by c.args.t) c.list.result.now o) c.in-Some.is c.last_place.ensures in
    c.take.ensures.values x ∙ taken_last (is_by c.args.t) old c.args.cell x c.in-Some.i (subst (λ (rs : List (Txn × Txn)). IsLastPlace (is_by c.args.t) rs (Some c.in-Some.i)) c.list.ensures place)

pub returns-in_default-clause-values : goal.returns-in_default-clause-values
returns-in_default-clause-values c x =
    let old = values_in cell_cmp c.args.reads.now in
    let place = subst (λ (o : Option ℕ). IsLastPlace (is_by c.args.t) c.list.result.now o) c.in_default.is c.last_place.ensures in
    taken_none (is_by c.args.t) old c.args.cell x (subst (λ (rs : List (Txn × Txn)). IsLastPlace (is_by c.args.t) rs None) c.list.ensures place)
