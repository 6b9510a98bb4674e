use Rattle.std.proofs.Common.{◌≡◌, ℕ, ◌∙◌, ◌<◌, ◌==◌, ◌++◌, ◌∷◌, [], if◌then◌else◌, List, length, ap, sym, arith}
use Rattle.audit_check.specs.Marks.{list_at}
use Rattle.audit_check.proofs.MarkSteps.{list_set, list_read}
use Rattle.audit_check.proofs.marks.keep.Goals as goal

pub returns : goal.returns
returns c = λ n.
    let lists = c.grow.lists.items in
    let within : c.args.number < length lists = omega arith in
    let kept : c.push-2.new.self.items ≡ list_at lists c.args.number ++ c.args.kept ∷ [] = c.in_ok-push-2.ensures.items
    ∙ ap (λ (l : List ℕ). l ++ c.args.kept ∷ []) (sym (list_read lists c.args.number c.index_mut.result.now within c.index_mut.ensures.value)) in
    list_set lists c.args.number c.push-2.new.self (c.args.kept ∷ []) within kept n ∙ ap (λ (l : List ℕ). if c.args.number == n then l ++ c.args.kept ∷ [] else l) (c.grow.invariant n)
