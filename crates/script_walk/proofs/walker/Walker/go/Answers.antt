use Rattle.std.proofs.Common.{List, drop, None, sym, ap, ◌∙◌}
use Rattle.script_text.specs.declared.Line.{Line}
use Rattle.teb_rules.specs.Scripts.{Move, moved}
use Rattle.script_walk.specs.ScriptStates.{requests_on, lines_from, state_at}
use Rattle.script_walk.proofs.ScriptStates.{line_at, rest_at, stays, enters, leaves, returns_to, goes}
use Rattle.script_walk.specs.Advances.{move_at}
use Rattle.script_walk.proofs.walker.Walker.go.Goals as goal

pub returns-in-Stay : goal.returns-in-Stay
returns-in-Stay c = λ (lines : List Line) h.
    let k = c.args.self.now in
    let L = requests_on lines in
    let b = lines_from L k.begun in
    let there = rest_at lines k.at (line_at lines k.at h) h in
    sym (ap (λ (m : Move). moved (drop k.at L) b m) (ap move_at c.in-Stay.is) ∙ stays _ _ _ b there)

pub returns-in-Enter : goal.returns-in-Enter
returns-in-Enter c = λ (lines : List Line) h.
    let k = c.args.self.now in
    let L = requests_on lines in
    let b = lines_from L k.begun in
    let there = rest_at lines k.at (line_at lines k.at h) h in
    sym (ap (λ (m : Move). moved (drop k.at L) b m) (ap move_at c.in-Enter.is) ∙ enters _ _ _ b there)

pub returns-in-Leave : goal.returns-in-Leave
returns-in-Leave c = λ (lines : List Line) h.
    let k = c.args.self.now in
    let L = requests_on lines in
    let b = lines_from L k.begun in
    let there = rest_at lines k.at (line_at lines k.at h) h in
    sym (ap (λ (m : Move). moved (drop k.at L) b m) (ap move_at c.in-Leave.is) ∙ leaves _ _ _ b there)

pub returns-in-Return : goal.returns-in-Return
returns-in-Return c = λ (lines : List Line) h.
    let k = c.args.self.now in
    let L = requests_on lines in
    let b = lines_from L k.begun in
    let there = rest_at lines k.at (line_at lines k.at h) h in
    ap (λ n. state_at L n None) c.unwrap_or-self.ensures ∙ sym (ap (λ (m : Move). moved (drop k.at L) b m) (ap move_at c.in-Return.is) ∙ returns_to L k.at _ _ k.begun there)

pub returns-in-Go : goal.returns-in-Go
returns-in-Go c = λ (lines : List Line) h.
    let k = c.args.self.now in
    let L = requests_on lines in
    let b = lines_from L k.begun in
    let there = rest_at lines k.at (line_at lines k.at h) h in
    sym (ap (λ (m : Move). moved (drop k.at L) b m) (ap move_at c.in-Go.is) ∙ goes _ _ _ b there)
