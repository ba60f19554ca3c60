-- What the soundness of the search asks of a design and of a script, part by part.
use Rattle.smv_core.specs.declared.flat.Claim.{Claim}
use Rattle.smv_core.specs.declared.flat.Def.{Def}
use Rattle.smv_core.specs.declared.flat.Design.{Design}
use Rattle.law_obligations.specs.Sets.{Has}
use Rattle.law_obligations.specs.Soundness.{IsDefinition}
use Rattle.law_obligations.specs.Whole.{IsWhole, IsWholeDef}
use Rattle.law_obligations.specs.Checked.{IsSplit}
use Rattle.law_obligations.specs.Outlines.{Entry, Script}
use Rattle.law_obligations.specs.Problems.{plan_of}

-- each claim reads whole elements
abbrev pub ReadsWholeInClaims : Design → Type 0
ReadsWholeInClaims d = (claim : Claim) → Has d.claims claim → IsWhole d.families claim.body

-- so does each definition
abbrev pub ReadsWholeInDefinitions : Design → Type 0
ReadsWholeInDefinitions d = (def : Def) → Has d.defs def → IsWholeDef d.families def

-- each definition is one of a family, no two of its assignments conflict, and it reads whole elements
abbrev pub HasDefinitions : Script → Type 0
HasDefinitions s = (def : Def) → Has s.design.defs def → IsDefinition (plan_of s) def

-- the parameters and guards of each leaf are those of its unit and of the unit's splits
abbrev pub HasSplits : Script → Type 0
HasSplits s = (entry : Entry) → Has s.entries entry → IsSplit s entry
