use Rattle.std.proofs.Common.{ℕ, arith}
use Rattle.std.proofs.lemmas.List.{get_or-replicate}
use Rattle.script_text.proofs.scripts.counts_of.Goals as goal

pub loop-line-init : goal.loop-line-init
loop-line-init c = λ k within. omega (arith, get_or-replicate {A = ℕ} 256 k 0 0 within)
