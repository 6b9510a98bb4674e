use Rattle.std.proofs.Common.{ap, ◌∙◌, arith}
use Rattle.std.proofs.lemmas.Bool.Decides.{nat_tests}
use Rattle.script_text.specs.Grammar.{name_at}
use Rattle.script_text.proofs.NameSteps.{found}
use Rattle.script_text.proofs.script.names.NamesAtHand.number.Goals as goal

pub returns-then-is_same : goal.returns-then-is_same
returns-then-is_same c =
    found _ c.self.inside.first c.loop-i.i _ _ (omega (arith, c.self.invariant.0)) c.self.invariant.1 (grind (arith, nat_tests, c.is_empty.ensures, c.if-not-is_empty.true))
    (c.is_same.ensures c.if-is_same.true)
    ∙ ap (λ names. name_at names c.args.word.now) c.self.view_is
