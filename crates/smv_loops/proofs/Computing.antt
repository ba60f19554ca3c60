-- What lets the definitions compute on expressions and definitions that are written out.
unfoldable pub boxes : Unit {0}
unfolding Rattle.smv_core.specs.declared.flat.FlatExpr.TheBlock.hidden-the_row-FlatExpr-0 Rattle.smv_core.specs.declared.flat.FlatExpr.TheBlock.shape-the_row-FlatExpr-0 Rattle.smv_core.specs.declared.flat.FlatExpr.TheBlock.hidden-the_row-FlatExpr-1 Rattle.smv_core.specs.declared.flat.FlatExpr.TheBlock.shape-the_row-FlatExpr-1 Rattle.smv_core.specs.declared.flat.FlatExpr.TheBlock.hidden-the_row-FlatSigned-2 Rattle.smv_core.specs.declared.flat.FlatExpr.TheBlock.shape-the_row-FlatSigned-2 Rattle.smv_core.specs.declared.flat.FlatExpr.TheBlock.hidden-the_row-FlatMember-3 Rattle.smv_core.specs.declared.flat.FlatExpr.TheBlock.shape-the_row-FlatMember-3 Rattle.smv_core.specs.declared.flat.DefBody.TheBlock.hidden-the_row-DefBody-0 Rattle.smv_core.specs.declared.flat.DefBody.TheBlock.shape-the_row-DefBody-0 Rattle.smv_core.specs.declared.flat.DefBody.TheBlock.hidden-the_row-DefBody-1 Rattle.smv_core.specs.declared.flat.DefBody.TheBlock.shape-the_row-DefBody-1 denote.Hole.Carrier.hidden
boxes = tt
