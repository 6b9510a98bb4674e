use Rattle.std.proofs.Common.{sym, ◌∙◌, ap, cond, Bool, Some, None, ℕ, Option}
use Rattle.store_setup.specs.tree.Grown.{rows_of}
use Rattle.teb_rules.specs.Accepted.{Fault, Homeless, is_homeless}
use Rattle.store_setup.proofs.lemmas.tree.Below.{any_zero, any_more, any_found}
use Rattle.store_setup.proofs.tree.homes.check_homes.Goals as goal

pub loop-k-init : goal.loop-k-init
loop-k-init c = any_zero (is_homeless (rows_of c.args.rows.now))

pub returns-then-is_homeless : goal.returns-then-is_homeless
returns-then-is_homeless c =
    let w : Option (ℕ × Fault) = Some (0, Homeless) in
    ap (λ (b : Bool). cond b w None) (any_found (is_homeless (rows_of c.args.rows.now)) c.loop-k.k c.args.types c.loop-k-test.true (sym c.is_homeless.ensures ∙ c.if-is_homeless.true))

pub loop-k-preserved : goal.loop-k-preserved
loop-k-preserved c = any_more (is_homeless (rows_of c.args.rows.now)) c.loop-k.k c.loop-k.invariant (sym c.is_homeless.ensures ∙ c.if-is_homeless.false)
