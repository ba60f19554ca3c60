-- What a worked text computes with.
use Rattle.worked_texts.proofs.FlatteningComputing as texts

unfoldable pub computing : Unit {0}
unfolding texts.computing Rattle.smv_core.specs.declared.flat.DefBody.TheBlock.hidden-the_row-DefBody-0 Rattle.smv_core.specs.declared.flat.DefBody.TheBlock.shape-the_row-DefBody-0 Rattle.smv_core.specs.declared.flat.DefBody.TheBlock.hidden-the_row-DefBody-1 Rattle.smv_core.specs.declared.flat.DefBody.TheBlock.shape-the_row-DefBody-1
computing = tt
