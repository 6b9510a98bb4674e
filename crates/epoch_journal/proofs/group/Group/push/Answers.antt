use Rattle.std.proofs.Common.{◌≡◌, ◌++◌, ◌∷◌, [], List, ℕ, length, ◌∙◌, ◌-◌, ap, arith, length-append}
use Rattle.std.proofs.lemmas.List.{length-set}
use Rattle.epoch_journal.specs.Bodies.{opened}
use Rattle.epoch_journal.specs.Group.{GroupState, records_in}
use Rattle.epoch_journal.proofs.Bodies.{few_records, length-bodies, pushed_body, records_told, told_again}
use Rattle.epoch_journal.proofs.group.Group.push.Goals as goal

pub overflow_add-self : goal.overflow_add-self
overflow_add-self c =
    let old = c.self.inside.bytes.items in
    omega (arith, c.self.invariant.counted, few_records (records_in old), length-bodies (records_in old) old c.self.invariant.bodies)

pub invariant_of-self : goal.invariant_of-self
invariant_of-self c =
    let old = c.self.inside.bytes.items in
    let new = c.extend_from_slice.new.self.items in
    let body = c.args.body.now in
    let r = c.requires.body.0 in
    let is : new ≡ opened old ++ body = c.in-Ok.ensures.items ∙ ap (λ (l : List ℕ). l ++ body) c.open_end_mark.ensures.opened in
    let rs = records_in old in
    let pushed = pushed_body rs r old body new c.self.invariant.bodies c.requires.body.1 is in
    record { bodies = told_again (rs ++ r ∷ []) new pushed; counted = omega (arith, c.self.invariant.counted, ap length (records_told (rs ++ r ∷ []) new pushed), length-append rs (r ∷ [])) }

pub returns-clause-records : goal.returns-clause-records
returns-clause-records c r is_body =
    let old = c.self.inside.bytes.items in
    let new = c.extend_from_slice.new.self.items in
    let body = c.args.body.now in
    let is : new ≡ opened old ++ body = c.in-Ok.ensures.items ∙ ap (λ (l : List ℕ). l ++ body) c.open_end_mark.ensures.opened in
    let rs = records_in old in
    records_told (rs ++ r ∷ []) new (pushed_body rs r old body new c.self.invariant.bodies is_body is) ∙ ap (λ (s : GroupState). s.records ++ r ∷ []) c.self.view_is

pub returns-clause-spare : goal.returns-clause-spare
returns-clause-spare c =
    let old = c.self.inside.bytes.items in
    omega (
      arith,
      c.open_end_mark.ensures.capacity,
      c.extend_from_slice.ensures.capacity,
      ap (λ (s : GroupState). s.spare) c.self.view_is,
      ap length c.in-Ok.ensures.items,
      ap length c.open_end_mark.ensures.opened,
      length-append (c.open_end_mark.new.bytes.items) c.args.body.now,
      length-set old (length old - 1) 1,
    )
