use Rattle.std.proofs.Common.{◌-◌}
use Rattle.bdd_tests.proofs.cases.+build.Given as goal

abbrev pub decreases-build : goal.decreases-build
decreases-build l = l.store.now.vars - l.var
