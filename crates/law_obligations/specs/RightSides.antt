-- Right sides by the outcomes that are possible.
use Rattle.std.specs.Prelude.{List, Option, Some, None, Bool, true, false, not, ◌&&◌, ◌||◌, if◌then◌else◌}
use Rattle.std.specs.List.{list_any, list_all}
use Rattle.smv_core.specs.Outcome.{is_true}
use Rattle.smv_core.specs.declared.flat.FlatExpr.{FlatExpr, Choose', List', Each'}
use Rattle.law_obligations.specs.Places.{Place, World, AbsOutcome}
use Rattle.law_obligations.specs.May.{AbsState, Kept, seen, may}
use Rattle.law_obligations.specs.Right.{same_outcome}
use Rattle.law_obligations.specs.Mix.{Mix}

-- no set, and no conditional
abbrev pub is_plain : FlatExpr → Bool
is_plain (List' shape members at) = false
is_plain (Each' var over cond at) = false
is_plain (Choose' c cond l left r right) = false
is_plain _ = true

-- two outcomes are possible that are not the same
abbrev pub some_differ : List AbsOutcome → Bool
some_differ us = list_any (λ u. list_any (λ v. not (same_outcome u v)) us) us

-- by a condition: the branch where it is certain, always where it can only be neither 0 nor 1, and else what both branches share
abbrev pub surely_by : Mix → Bool → Bool → Bool
surely_by m x y = if m.no || m.neither then (if m.yes || m.neither then (if m.no || m.yes then x && y else true) else y) else x

module _ (w : World) (kept : Kept) (a : AbsState) where
  -- the condition of a comprehension may be 1, and is 1 for certain; a missing one is 1
  abbrev pub may_hold : Option FlatExpr → List Place → Bool
  may_hold None b = true
  may_hold (Some e) b = list_any (λ u. is_true (seen u)) (may w kept a e b)

  abbrev pub must_hold : Option FlatExpr → List Place → Bool
  must_hold None b = true
  must_hold (Some e) b = list_all (λ u. is_true (seen u)) (may w kept a e b)
