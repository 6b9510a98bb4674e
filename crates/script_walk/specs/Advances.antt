-- How a session goes on after an answer.
use Rattle.teb_rules.specs.Scripts.{Move, Stays, Enters, Leaves, Returns, Goes}
use Rattle.script_walk.specs.declared.advance.Advance.{Advance}
use Rattle.script_walk.specs.declared.advance.Advance.TheVariants.{Stay, Enter, Leave, Return, Go}

abbrev pub move_at : Advance → Move
move_at Stay = Stays
move_at Enter = Enters
move_at Leave = Leaves
move_at Return = Returns
move_at Go = Goes
