-- By computing each text.
use Rattle.std.proofs.Common.{refl}
use Rattle.worked_texts.specs.CasesWorked.{HaveCases}
use Rattle.worked_texts.specs.WorkedCases as w
use Rattle.worked_texts.proofs.UsesComputing.{computing}

pub scalarsets-cases : HaveCases w.scalarsets
unfolding computing
scalarsets-cases = refl

pub ordsets-cases : HaveCases w.ordsets
unfolding computing
ordsets-cases = refl

pub others-cases : HaveCases w.others
unfolding computing
others-cases = refl

pub kept-cases : HaveCases w.kept
unfolding computing
kept-cases = refl

pub tomasulo-cases : HaveCases w.tomasulo
unfolding computing
tomasulo-cases = refl

pub declared-cases : HaveCases w.declared
unfolding computing
declared-cases = refl

pub sides-cases : HaveCases w.sides
unfolding computing
sides-cases = refl
