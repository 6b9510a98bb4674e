use Rattle.runtime_pipeline.proofs.under.+is_above.Given as goal

abbrev pub decreases-is_above : goal.decreases-is_above
decreases-is_above l = l.parents
