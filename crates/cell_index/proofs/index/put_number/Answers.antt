use Rattle.std.proofs.Common.{◌∙◌, sym, ap, if◌then◌else◌}
use Rattle.teb_rules.specs.names.Cells.{same_cell}
use Rattle.cell_index.specs.Index.{far_number}
use Rattle.cell_index.proofs.Numbers.{number_far}
use Rattle.cell_index.proofs.index.put_number.Goals as goal

pub returns-then-has-clause-numbers : goal.returns-then-has-clause-numbers
returns-then-has-clause-numbers c x =
    let n = far_number c.args.far.now x in
    c.set.ensures.numbers x n ∙ ap (λ m. if same_cell c.args.cell x then c.args.number else m) (c.owner_or_claim-owner.ensures.numbers x n (c.requires.vacant x))

pub returns-else-has-clause-numbers : goal.returns-else-has-clause-numbers
returns-else-has-clause-numbers c x =
    let claimed = c.owner_or_claim-owner in
    number_far claimed.new.self c.args.far.now c.put_in_map.new.far c.args.cell claimed.result c.args.number claimed.ensures.owner (sym c.has.ensures ∙ c.if-has.false) c.put_in_map.ensures.numbers x
    ∙ ap (λ m. if same_cell c.args.cell x then c.args.number else m) (claimed.ensures.numbers x (far_number c.args.far.now x) (c.requires.vacant x))
