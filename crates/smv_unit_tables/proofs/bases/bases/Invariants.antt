use Rattle.smv_unit_tables.specs.Bases.{AreBasesFrom}
use Rattle.smv_unit_tables.proofs.bases.bases.Given as goal

abbrev pub invariant-loop-place : goal.invariant-loop-place
invariant-loop-place l = AreBasesFrom l.design l.place l.bases.items
