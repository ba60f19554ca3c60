use Rattle.smv_cases.proofs.rules.+have_all.Given as goal

abbrev pub decreases-have_all : goal.decreases-have_all
decreases-have_all l = l.count
