use Rattle.std.proofs.Common.{rules, ◌≡◌, ap, sym, ◌∙◌, subst, ℕ, suc, ◌+◌, arith, [], ◌∷◌, ◌++◌, Some, replicate}
use Rattle.atomic_table.specs.Table.{opening}
use Rattle.turn_lock.specs.Views.{first_view}
use Rattle.turn_lock.specs.Rule.{Holds}
use Rattle.turn_lock.proofs.Openings.{opens, some_owner}
use Rattle.turn_lock.proofs.turn.Turn.new.Goals as goal

two_more : (n : ℕ) → replicate {A = ℕ} (n + 2) 0 ≡ 0 ∷ 0 ∷ replicate n 0
two_more n = let e : n + 2 ≡ suc (suc n) = omega arith in ap (λ (k : ℕ). replicate {A = ℕ} k 0) e

pub new-requires : goal.new-requires
new-requires g c = let m = g.T.Member in let x = c.args.value in let n = c.args.owners in let k = c.args.notes in
    let ws : c.as_slice.result.now ≡ 0 ∷ 0 ∷ replicate k 0 = c.as_slice.ensures.value ∙ (c.in-Ok.ensures {u = tt}).items_if_clones_equal (λ y e. search rules) ∙ two_more k in
    let xs : c.push_reserved.new.self.items ≡ Some x ∷ [] = c.push_reserved.ensures.items ∙ ap (λ l. l ++ Some x ∷ []) (c.in-Ok-with_capacity.ensures {u = tt}).items in
    subst (λ xs. Holds m.entries m.owner m.note m.base (m.base c.of.result.value) n k (opening c.as_slice.result.now xs (first_view (m.base c.of.result.value) k n))) (sym xs)
    (subst (λ y. Holds m.entries m.owner m.note m.base (m.base y) n k (opening c.as_slice.result.now (Some x ∷ []) (first_view (m.base y) k n))) (sym c.of.ensures)
    (opens m.entries m.owner m.note m.base x n k c.as_slice.result.now ws c.requires.empty.0 c.requires.empty.1 c.requires.owners))

pub invariant_of-result-in-Ok-new : goal.invariant_of-result-in-Ok-new
invariant_of-result-in-Ok-new g c = record { live = λ z. some_owner c.args.owners c.requires.owners (sym (ap (λ s. s.0.owners) (c.in-Ok-new.ensures {u = tt}).ok.4) ∙ z) }
