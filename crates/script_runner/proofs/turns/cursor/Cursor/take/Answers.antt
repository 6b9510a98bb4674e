use Rattle.std.proofs.Common.{ℕ, ap, ap₂, ◌∙◌}
use Rattle.teb_rules.specs.Scripts.{ScriptState, Move, moved}
use Rattle.script_runner.specs.turns.Seats.{seat_of}
use Rattle.script_runner.proofs.lemmas.turns.Counts.{counted_at}
use Rattle.script_runner.proofs.turns.cursor.Cursor.take.Goals as goal

pub returns-then-self : goal.returns-then-self
returns-then-self c = λ a e.
    let k = c.args.self.now in
    let s = (seat_of k).state in
    ap₂ (λ (state : ScriptState) (aborts : ℕ). record { session = k.session; state = state; aborts = aborts })
    (c.go.ensures k.lines.now c.if-self.true ∙ ap (λ (m : Move). moved s.rest s.begun m) e.way)
    (counted_at k.lines.now k.walker.at a k.aborts _ c.if-self.true (λ r rs. c.aborts_after-self.ensures r rs a e))
