-- What a generated load shows.
use Rattle.std.specs.Prelude.{ℕ}
use Rattle.command_output.specs.Shown.{Shown}
use Rattle.script_runner.specs.Runs.{AreTurns, IsRun}
use Rattle.shop_load.specs.Shop.{shop}
use Rattle.shop_load.specs.Loads.{loaded_lines}
use Rattle.shop_load.specs.Summaries.{IsSummary}

-- it runs in turns over the shop, and its summary is shown
abbrev pub IsLoad : ℕ → ℕ → Shown → Type 0
IsLoad number size d = IsRun AreTurns (λ X names H log text. IsSummary number size X H log text) (record { setup = shop; lines = loaded_lines number size }) d
