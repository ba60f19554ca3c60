-- The lines of `lint`.
use Rattle.std.specs.Prelude.{ℕ, List, [], ◌++◌, codes, flat_map, slice_get, Option, Some, None}
use Rattle.std.specs.Fmt.{decimal}
use Rattle.smv_core.specs.declared.flat.Design.{Design}
use Rattle.smv_core.specs.declared.flat.Family.{Family}
use Rattle.smv_core.specs.declared.flat.Unit.{Unit}
use Rattle.smv_core.specs.declared.tree.Text.{Text}
use Rattle.smv_problem.specs.declared.report.Plan.{Plan}
use Rattle.law_splits.specs.Leaves.{name_of_family}
use Rattle.smv_report.specs.Lines.{line}
use Rattle.smv_look_lines.specs.Parts.{place_text, type_text}
use Rattle.smv_look_lint.specs.declared.warnings.Flaw.{Flaw}
use Rattle.smv_look_bounds.specs.declared.numbers.Bounds.{Bounds}
use Rattle.smv_look_bounds.specs.declared.doubts.What.{What}
use Rattle.smv_look_bounds.specs.declared.doubts.What.TheVariants.{Above, Below, Index, Value, Always}
use Rattle.smv_look_lint.specs.declared.warnings.Flaw.TheVariants.{Doubted, Stray, StraySpan, Unapplied, Unassigned, Undefined, Unread, Unused}
use Rattle.smv_look_lint.specs.declared.warnings.Warning.{Warning}
use Rattle.smv_look_lint.specs.Lint.{warnings_of}

-- the type of a family's values
abbrev pub value_text : Design → Option Family → List ℕ
value_text d None = []
value_text d (Some f) = type_text d f.value

-- what follows where an assignment gives a value that its type does not have
abbrev pub so_free : List ℕ
so_free = codes ", so nothing is ruled out here"

-- `0..7`
abbrev pub bounds_text : Bounds → List ℕ
bounds_text b = decimal b.low ++ codes ".." ++ decimal b.high

-- `by types and conditions this is within 0..7`
abbrev pub within_text : Bounds → List ℕ
within_text b = codes "by types and conditions this is within " ++ bounds_text b

-- what is doubted of a definition
abbrev pub doubt_text : Design → What → List ℕ
doubt_text d Above = codes "types and conditions do not keep this sum up to 511; above that it is Undefined"
doubt_text d Below = codes "types and conditions do not keep this difference from going below 0; there it is Undefined"
doubt_text d (Index b over) = within_text b ++ codes "; as an index outside " ++ type_text d over ++ codes " it makes what is read Undefined"
doubt_text d (Value b over) = within_text b ++ codes "; where it is outside " ++ type_text d over ++ codes ", nothing is ruled out"
doubt_text d Always = codes "this condition is made of constants alone, so it is the same at each time"

-- what is wrong with a family
abbrev pub flaw_text : Design → Option Family → Flaw → List ℕ
flaw_text d family (Stray None) = codes "this is below 0 or above 511, so nothing is ruled out here"
flaw_text d family (Stray (Some k)) = decimal k ++ codes " is not in " ++ value_text d family ++ so_free
flaw_text d family (StraySpan span) = decimal span.low ++ codes ".." ++ decimal span.high ++ codes " is not within " ++ value_text d family ++ so_free
flaw_text d family (Doubted what) = doubt_text d what
flaw_text d family Unassigned = codes "nothing outside layers assigns it, so it is free; declare it as an input if that is meant"
flaw_text d family Undefined = codes "no layer defines it, so it is free"
flaw_text d family Unread = codes "nothing reads it and no map is about it; declare it as an output if that is meant"
flaw_text d family Unused = codes "nothing reads it and no map is about it"
flaw_text d family Unapplied = codes "nothing reads it and no proof uses its maps; declare it as an output if that is meant"

module _ (text : List ℕ) where
  -- `x at line 3 column 14: 7 is not in 0..5, so nothing is ruled out here`
  abbrev pub family_line : Design → Option Family → Warning → List ℕ
  family_line d family w = line (name_of_family family ++ place_text text w.at ++ codes ": " ++ flaw_text d family w.flaw)

  -- the line of the family that is warned of
  abbrev pub warning_line : Design → Warning → List ℕ
  warning_line d w = family_line d (slice_get d.families w.family) w

  -- a text without a unit
  abbrev pub nothing_proved : List Unit → List ℕ
  nothing_proved [] = line (codes "main" ++ place_text text 0 ++ codes ": there is no claim and no map, so nothing is proved")
  nothing_proved _ = []

  -- the lines of a text's tree and plan
  abbrev pub lint_lines : Text → Plan → List ℕ
  lint_lines tree plan = nothing_proved plan.units ++ flat_map (warning_line plan.design) (warnings_of tree plan)
