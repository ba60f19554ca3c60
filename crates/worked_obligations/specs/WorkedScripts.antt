-- Small outlines for the worked examples.
use Rattle.std.specs.Prelude.{ℕ, List, [], ◌∷◌, false, codes}
use Rattle.smv_core.specs.declared.flat.Simple.{Simple}
use Rattle.smv_core.specs.declared.flat.Simple.TheVariants.{Range, Set}
use Rattle.smv_core.specs.declared.flat.Family.{Family}
use Rattle.smv_core.specs.declared.flat.Def.{Def}
use Rattle.smv_core.specs.declared.flat.Claim.{Claim as FlatClaim}
use Rattle.smv_core.specs.declared.flat.Design.{Design}
use Rattle.smv_core.specs.declared.flat.Unit.TheVariants.{Map, Claim}
use Rattle.smv_core.specs.declared.flat.Guard.{Guard}
use Rattle.smv_core.specs.declared.flat.Pick.{Pick}
use Rattle.smv_core.specs.declared.flat.Assumed.{Assumed}
use Rattle.smv_core.specs.declared.flat.Choice.{Choice}
use Rattle.smv_core.specs.declared.flat.FlatExpr.{FlatExpr}
use Rattle.law_obligations.specs.Outlines.{Entry, Script}
use Rattle.worked_obligations.specs.WorkedTomasulo.{undeclared, signal, params_from}

-- one scalarset P, with these families, definitions and claims
abbrev pub over_P : List Family → List Def → List FlatClaim → Design
over_P families defs claims = record { sets = undeclared (codes "P") ∷ []; enums = []; layers = codes "L" ∷ []; families = families; defs = defs; claims = claims; splits = []; uses = [] }

-- a signal, and an array over P
abbrev pub one_of : Simple → Family
one_of value = signal [] value false

abbrev pub array_of : Simple → Family
array_of value = signal (Set 0 ∷ []) value false

-- a claim with so many parameters over P
abbrev pub claimed : List Simple → FlatExpr → ℕ → FlatClaim
claimed types body place = record { name = []; vars = []; params = params_from 0 types; body = body; place = place; at = 0 }

-- nothing but these picks, and nothing but these claims
abbrev pub picking : List Pick → Choice
picking picks = record { picks = picks; claims = []; itself = false; keeps = [] }

abbrev pub assuming : List Assumed → Choice
assuming claims = record { picks = []; claims = claims; itself = false; keeps = [] }

abbrev pub a_claim : ℕ → Assumed
a_claim claim = record { claim = claim; early = false }

-- the leaf of a claim, and of a map, by its number
abbrev pub of_claim : ℕ → List Simple → List Guard → Choice → Entry
of_claim claim types guards choice = record { unit = Claim claim; leaf = record { unit = claim; name = []; params = params_from 0 types; guards = guards }; choice = choice }

abbrev pub of_map : ℕ → List Simple → Choice → Entry
of_map def types choice = record { unit = Map def; leaf = record { unit = def; name = []; params = params_from 0 types; guards = [] }; choice = choice }

-- a claim alone
abbrev pub alone : List Family → List Def → List Simple → FlatExpr → Choice → Script
alone families defs types body choice = record { design = over_P families defs (claimed types body 0 ∷ []); entries = of_claim 0 types [] choice ∷ [] }

abbrev pub bit : Simple
bit = Range 0 1
