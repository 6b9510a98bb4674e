-- What an answer does to the session that asked it.
use Rattle.std.specs.Prelude.{◌≡◌, Bool, true, false}
use Rattle.teb_rules.specs.declared.names.Refusal.TheVariants.{Full}
use Rattle.teb_rules.specs.declared.names.Reply.{Reply}
use Rattle.teb_rules.specs.declared.names.Reply.TheVariants.{Refused}
use Rattle.teb_rules.specs.Scripts.{move_of}
use Rattle.script_walk.specs.Advances.{move_at}
use Rattle.script_runner.specs.declared.turns.effect.Effect.{Effect}

-- no further transaction may begin
abbrev pub is_refused_full : Reply → Bool
is_refused_full (Refused Full) = true
is_refused_full _ = false

-- e is what the answer a does: how the session goes on, and whether no further transaction may begin
pub record IsEffect (e : Effect) (a : Reply) : Type 0 where
  pub way : move_at e.advance ≡ move_of a
  pub full : e.is_full ≡ is_refused_full a
