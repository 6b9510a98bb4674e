use Rattle.std.proofs.Common.{List, [], ◌∷◌, ◌++◌, sym, ◌∙◌, ap, ap₂}
use Rattle.std.proofs.lemmas.List.{map_push}
use Rattle.teb_rules.specs.Driver.{Seat}
use Rattle.script_runner.specs.turns.Seats.{seat_of, seats_in}
use Rattle.script_runner.proofs.lemmas.turns.Circles.{seat_made}
use Rattle.script_runner.proofs.turns.ring.Ring.new.Goals as goal

pub loop-i-preserved : goal.loop-i-preserved
loop-i-preserved c =
    ap seats_in c.in_ok-push.ensures.items ∙ map_push seat_of c.loop-i.cursors.items c.new-cursor.result
    ∙ ap₂ (λ (ws : List Seat) (w : Seat). ws ++ w ∷ []) c.loop-i.invariant c.new-cursor.ensures
    ∙ sym (seat_made c.args.scripts.now c.loop-i.i c.session.result c.lines.result.now c.session.ensures c.lines.ensures)
