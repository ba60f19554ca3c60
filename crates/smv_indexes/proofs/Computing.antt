-- What lets the definitions compute on a flattened expression or statement that is written out.
unfoldable pub computing : Unit {0}
unfolding Rattle.smv_core.specs.declared.flat.FlatExpr.TheBlock.hidden-the_row-FlatExpr-0 Rattle.smv_core.specs.declared.flat.FlatExpr.TheBlock.shape-the_row-FlatExpr-0 Rattle.smv_core.specs.declared.flat.FlatExpr.TheBlock.hidden-the_row-FlatExpr-1 Rattle.smv_core.specs.declared.flat.FlatExpr.TheBlock.shape-the_row-FlatExpr-1 denote.Hole.Carrier.hidden
computing = tt
