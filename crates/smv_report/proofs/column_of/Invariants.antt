use Rattle.std.specs.Prelude.{◌≡◌, ◌≤◌, ◌+◌, ◌==◌, take, fold, if◌then◌else◌}
use Rattle.smv_report.proofs.column_of.Given as goal

abbrev pub invariant-loop-byte : goal.invariant-loop-byte
invariant-loop-byte l = (l.column ≡ fold (λ column b. if b == 10 then 1 else column + 1) 1 (take l.byte-index l.byte-items)) × (l.column ≤ l.byte-index + 1)
