-- How many commits a reply is.
use Rattle.std.specs.Prelude.{ℕ}
use Rattle.teb_rules.specs.declared.names.Reply.{Reply}
use Rattle.teb_rules.specs.declared.names.Reply.TheVariants.{Committed}

-- 1 for a Committed, and else 0
abbrev pub commits_in : Reply → ℕ
commits_in Committed = 1
commits_in _ = 0
