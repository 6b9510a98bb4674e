use Rattle.store_setup.proofs.tree.way.+count_above.Given as goal

abbrev pub decreases-count_above : goal.decreases-count_above
decreases-count_above l = l.most
