use Rattle.runtime_pipeline.proofs.under.+stands_among.Given as goal

abbrev pub decreases-stands_among : goal.decreases-stands_among
decreases-stands_among l = l.rows
