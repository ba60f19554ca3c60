use Rattle.std.proofs.Common.{◌≡◌, drop, filter}
use Rattle.std.specs.Prelude.{option_copied}
use Rattle.law_obligations.specs.Outlines.{earliest}
use Rattle.smv_chosen.specs.Chosen.{may_be_base, earlier_of}
use Rattle.smv_chosen.proofs.first_base.Given as goal

abbrev pub invariant-loop-def : goal.invariant-loop-def
invariant-loop-def l = earlier_of (option_copied l.found) (earliest (filter (may_be_base l.family l.f) (drop l.def-index l.defs))) ≡ earliest (filter (may_be_base l.family l.f) l.defs)
