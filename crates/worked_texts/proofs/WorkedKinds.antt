-- By computing what is found in each text.
use Rattle.std.proofs.Common.{refl}
use Rattle.worked_texts.specs.KindsWorked.{AreFound}
use Rattle.worked_texts.specs.WorkedKinds as w
use Rattle.worked_texts.proofs.KindsComputing.{computing}

pub rows : AreFound w.rows
unfolding computing
rows = refl

pub other_passes : AreFound w.other_passes
unfolding computing
other_passes = refl

pub logic : AreFound w.logic
unfolding computing
logic = refl

pub conditions : AreFound w.conditions
unfolding computing
conditions = refl

pub sides : AreFound w.sides
unfolding computing
sides = refl

pub first_tokens : AreFound w.first_tokens
unfolding computing
first_tokens = refl

pub orders : AreFound w.orders
unfolding computing
orders = refl

pub members : AreFound w.members
unfolding computing
members = refl

pub listed_sets : AreFound w.listed_sets
unfolding computing
listed_sets = refl

pub branches : AreFound w.branches
unfolding computing
branches = refl

pub mixes : AreFound w.mixes
unfolding computing
mixes = refl

pub targets : AreFound w.targets
unfolding computing
targets = refl

pub left_to_set_types : AreFound w.left_to_set_types
unfolding computing
left_to_set_types = refl

pub for_variables : AreFound w.for_variables
unfolding computing
for_variables = refl

pub parts_of_expressions : AreFound w.parts_of_expressions
unfolding computing
parts_of_expressions = refl

pub designs : AreFound w.designs
unfolding computing
designs = refl

pub earlier_passes : AreFound w.earlier_passes
unfolding computing
earlier_passes = refl
