use Rattle.std.proofs.Common.{◌≡◌, ◌∙◌, true, refl, sym}
use Rattle.static_steps.specs.Squares.{leads_in}
use Rattle.static_steps.proofs.chains.is_ahead.Goals as goal

pub returns-then-has : goal.returns-then-has
unfolding leads_in
returns-then-has c =
    let there : leads_in c.args.rows.now c.args.a c.args.b ≡ true = rw c.from.ensures at (sym c.has.ensures ∙ c.if-has.true) in
    let back : leads_in c.args.rows.now c.args.b c.args.a ≡ c.has-then-has.result = rw c.from-then-has.ensures at (sym c.has-then-has.ensures) in
    rw (there, back) refl

pub returns-else-has : goal.returns-else-has
unfolding leads_in
returns-else-has c =
    let not_there : leads_in c.args.rows.now c.args.a c.args.b ≡ c.has.result = rw c.from.ensures at (sym c.has.ensures) in
    rw (not_there, c.if-has.false) refl
