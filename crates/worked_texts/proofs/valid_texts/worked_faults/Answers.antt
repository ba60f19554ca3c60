-- By computing each text.
use Rattle.std.proofs.Common.{refl}
use Rattle.worked_texts.proofs.ValidTextsComputing.{computing}
use Rattle.worked_texts.proofs.valid_texts.worked_faults.Goals as goal

pub returns-clause-kinds : goal.returns-clause-kinds
unfolding computing
returns-clause-kinds c = refl

pub returns-clause-assignments : goal.returns-clause-assignments
unfolding computing
returns-clause-assignments c = refl

pub returns-clause-rules : goal.returns-clause-rules
unfolding computing
returns-clause-rules c = refl

pub returns-clause-widths : goal.returns-clause-widths
unfolding computing
returns-clause-widths c = refl
