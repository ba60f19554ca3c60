use Rattle.std.proofs.Common.{◌≡◌, ℕ, None, length, get_or, take}
use Rattle.smv_loops.specs.Bases.{AreFirsts}
use Rattle.smv_loops.proofs.base.firsts.Given as goal

abbrev pub invariant-loop-family : goal.invariant-loop-family
invariant-loop-family l = record { room : length l.firsts.items ≡ l._family-index; none : (k : ℕ) → get_or l.firsts.items k None ≡ None }

abbrev pub invariant-loop-def : goal.invariant-loop-def
invariant-loop-def l = AreFirsts l.design l.firsts.items (take l.def-index l.design.defs)
