-- When an epoch is to end.
use Rattle.std.specs.Prelude.{ℕ, Bool, ◌||◌, leb, ltb}
use Rattle.teb_rules.specs.declared.names.TheConstants.{MOST_TXNS}

-- a commit did not fit, fewer bytes are left than are held in reserve, or MOST_TXNS transactions have begun
abbrev pub is_to_end : Bool → ℕ → ℕ → ℕ → Bool
is_to_end full left reserve begun = full || (ltb left reserve || leb MOST_TXNS begun)
