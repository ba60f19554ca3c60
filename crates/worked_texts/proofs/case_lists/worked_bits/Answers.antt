-- By computing.
use Rattle.std.proofs.Common.{refl}
use Rattle.law_obligations.proofs.Computing.{computing}
use Rattle.law_obligations.specs.Codes.{bits_for}
use Rattle.law_obligations.specs.Readings.{are_values, reading}
use Rattle.law_reports.specs.CaseLists.{case_lists}
use Rattle.worked_texts.proofs.case_lists.worked_bits.Goals as goal

pub returns-clause-one : goal.returns-clause-one
unfolding computing bits_for
returns-clause-one c = (refl, refl)

pub returns-clause-highest : goal.returns-clause-highest
unfolding computing bits_for are_values reading
returns-clause-highest c = (refl, refl, refl, refl)

pub returns-clause-above : goal.returns-clause-above
unfolding computing bits_for are_values reading
returns-clause-above c = (refl, refl, refl)

pub returns-clause-toggle : goal.returns-clause-toggle
unfolding computing bits_for are_values reading case_lists
returns-clause-toggle c = (refl, refl, refl, refl, refl, refl, refl, refl)

pub returns-clause-moves : goal.returns-clause-moves
unfolding computing bits_for are_values reading case_lists
returns-clause-moves c = (refl, refl)

pub returns-clause-uses : goal.returns-clause-uses
unfolding computing bits_for are_values reading case_lists
returns-clause-uses c = (refl, refl, refl)
