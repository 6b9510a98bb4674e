use Rattle.store_setup.proofs.tree.way.+some_above.Given as goal

abbrev pub decreases-some_above : goal.decreases-some_above
decreases-some_above l = l.most
