use Rattle.smv_parse_expressions.proofs.exprs.+inside.Given as goal

-- each level is read with a level fewer
abbrev pub decreases-inside : goal.decreases-inside
decreases-inside l = l.levels
