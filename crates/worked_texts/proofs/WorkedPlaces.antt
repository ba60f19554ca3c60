-- By computing what is found in each text.
use Rattle.std.proofs.Common.{refl}
use Rattle.worked_texts.specs.KindsWorked.{AreFound}
use Rattle.worked_texts.specs.WorkedPlaces as w
use Rattle.worked_texts.proofs.KindsComputing.{computing}

pub indexes : AreFound w.indexes
unfolding computing
indexes = refl

pub whole_references : AreFound w.whole_references
unfolding computing
whole_references = refl

pub no_signals : AreFound w.no_signals
unfolding computing
no_signals = refl

pub own_faults : AreFound w.own_faults
unfolding computing
own_faults = refl

pub sets : AreFound w.sets
unfolding computing
sets = refl

pub comprehensions : AreFound w.comprehensions
unfolding computing
comprehensions = refl

pub ranges : AreFound w.ranges
unfolding computing
ranges = refl

pub ranges_in_expressions : AreFound w.ranges_in_expressions
unfolding computing
ranges_in_expressions = refl

pub index_types : AreFound w.index_types
unfolding computing
index_types = refl

pub formals : AreFound w.formals
unfolding computing
formals = refl

pub inputs : AreFound w.inputs
unfolding computing
inputs = refl

pub outputs : AreFound w.outputs
unfolding computing
outputs = refl

pub switches : AreFound w.switches
unfolding computing
switches = refl

pub statements : AreFound w.statements
unfolding computing
statements = refl

pub splits : AreFound w.splits
unfolding computing
splits = refl

pub whole_text : AreFound w.whole_text
unfolding computing
whole_text = refl

pub parts_of_statements : AreFound w.parts_of_statements
unfolding computing
parts_of_statements = refl

pub instances : AreFound w.instances
unfolding computing
instances = refl
