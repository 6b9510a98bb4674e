use Rattle.tree_guarantees.proofs.types.+climb_keeps_batches.Given as goal

abbrev pub decreases-climb_keeps_batches : goal.decreases-climb_keeps_batches
decreases-climb_keeps_batches l = l.most
