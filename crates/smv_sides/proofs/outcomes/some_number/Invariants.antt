use Rattle.std.proofs.Common.{◌-◌}
use Rattle.smv_core.specs.Values.{numbers_from}
use Rattle.smv_sides.proofs.NumberLaws.{Numbering}
use Rattle.smv_sides.proofs.outcomes.some_number.Given as goal

abbrev pub invariant-loop-value : goal.invariant-loop-value
invariant-loop-value g l =
    Numbering g.S.Conditions.IsMade g.S.Conditions.holds g.S.Conditions.room l.fn.s l.s l.problem l.target l.sense (numbers_from l.value (l.end - l.value)) (numbers_from l.low (l.end - l.low)) l.some
