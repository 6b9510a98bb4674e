use Rattle.std.proofs.Common.{◌∙◌, ◌++◌, ◌∷◌, [], if◌then◌else◌, List, ℕ, sym, ap}
use Rattle.audit_check.specs.Keeps.{is_own}
use Rattle.audit_check.specs.Views.{line_view}
use Rattle.audit_check.proofs.ReadSteps.{own_line, no_own}
use Rattle.audit_check.proofs.reads.own_lines.Goals as goal

pub loop-i-init : goal.loop-i-init
loop-i-init c = λ t. no_own t _ c.new-own.ensures.items

pub loop-i-preserved : goal.loop-i-preserved
loop-i-preserved c = λ t.
    c.in_ok-keep_own.ensures t
    ∙ ap (λ (l : List ℕ). if is_own t (line_view c.index-lines-i.result) then l ++ c.loop-i.i ∷ [] else l) (c.loop-i.invariant t)
    ∙ sym (own_line t c.loop-i.i c.args.lines.now c.index-lines-i.result c.loop-i-test.true c.index-lines-i.is)
