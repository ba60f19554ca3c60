-- What is warned of.
use Rattle.std.specs.Prelude.{ℕ, ◌+◌, List, [], ◌∷◌, ◌++◌, map, flat_map, slice_get, Bool, ◌||◌, if◌then◌else◌, nat_eq, nat_lt}
use Rattle.smv_core.specs.declared.flat.Def.{Def}
use Rattle.smv_core.specs.declared.flat.Design.{Design}
use Rattle.smv_core.specs.declared.flat.Family.{Family}
use Rattle.smv_core.specs.declared.tree.Text.{Text}
use Rattle.smv_problem.specs.declared.report.Plan.{Plan}
use Rattle.smv_look_bounds.specs.declared.doubts.Doubt.{Doubt}
use Rattle.smv_look_bounds.specs.Doubts.{def_doubts}
use Rattle.smv_look_lint.specs.declared.warnings.Flaw.TheVariants.{Doubted, Unapplied, Unassigned, Undefined, Unread, Unused}
use Rattle.smv_look_lint.specs.declared.warnings.Warning.{Warning}
use Rattle.smv_core.specs.declared.tree.Role.TheVariants.{Input, Output}
use Rattle.smv_look_lint.specs.Roles.{names_declared}
use Rattle.smv_look_lint.specs.Signals.{families_defined, families_mapped, families_picked, families_read, is_among}
use Rattle.smv_look_lint.specs.Strays.{def_strays, warning}

-- what is known of the families of a design: which have a base definition, which are read, of which a unit is a map, of which a proof uses a map, and at which places inputs and outputs are declared
pub record Known : Type 0 where
  pub defined : ℕ → Bool
  pub read : ℕ → Bool
  pub mapped : ℕ → Bool
  pub picked : ℕ → Bool
  pub inputs : ℕ → Bool
  pub outputs : ℕ → Bool

abbrev pub known_of : Text → Plan → Known
known_of tree plan = record {
  defined = is_among (families_defined plan.design);
  read = is_among (families_read plan.design);
  mapped = is_among (families_mapped plan.design plan.units);
  picked = is_among (families_picked plan.choices);
  inputs = is_among (names_declared Input tree);
  outputs = is_among (names_declared Output tree);
}

module _ (known : Known) where
  -- a family without a base definition is free: an abstract one always, and any other where it is no `input`
  abbrev pub free_warning : ℕ → Family → List Warning
  free_warning k f =
      if known.defined k then []
      else (if f.is_abstract then warning k f.at Undefined ∷ []
      else (if known.inputs f.at then [] else warning k f.at Unassigned ∷ []))

  -- where nothing reads a family and it is no `output`: maps are about it, none of which a proof uses, or no map is about it
  abbrev pub idle_warning : ℕ → Family → List Warning
  idle_warning k f =
      if known.mapped k then (if known.picked k then [] else warning k f.at Unapplied ∷ [])
      else (if f.is_abstract || known.inputs f.at then warning k f.at Unused ∷ [] else warning k f.at Unread ∷ [])

  abbrev pub unread_warning : ℕ → Family → List Warning
  unread_warning k f = if known.read k || known.outputs f.at then [] else idle_warning k f

  abbrev pub family_warnings : ℕ → Family → List Warning
  family_warnings k f = free_warning k f ++ unread_warning k f

  -- those of some families, of which the first has this number
  abbrev pub warnings_from : ℕ → List Family → List Warning
  warnings_from k [] = []
  warnings_from k (f ∷ families) = family_warnings k f ++ warnings_from (k + 1) families

-- those of the values that assignments give
abbrev pub value_warnings : Design → List Warning
value_warnings d = flat_map (λ (def : Def). def_strays (slice_get d.families def.family) def) d.defs

-- what is doubted of a definition of this family
abbrev pub doubted : ℕ → Doubt → Warning
doubted family doubt = warning family doubt.at (Doubted doubt.what)

abbrev pub doubted_in : List Family → Def → List Warning
doubted_in families def = map (doubted def.family) (def_doubts families def)

-- put before the first that does not stand earlier
abbrev pub put : Warning → List Warning → List Warning
put w [] = w ∷ []
put w (v ∷ more) = if nat_lt v.at w.at then v ∷ put w more else w ∷ v ∷ more

-- by their places; those of one place stay as they stood
abbrev pub in_order : List Warning → List Warning
in_order [] = []
in_order (w ∷ more) = put w (in_order more)

-- those that do not stand where the one before stands
abbrev pub elsewhere : ℕ → List Warning → List Warning
elsewhere at [] = []
elsewhere at (w ∷ more) = if nat_eq w.at at then elsewhere at more else w ∷ elsewhere w.at more

-- of those of one place the first
abbrev pub one_each : List Warning → List Warning
one_each [] = []
one_each (w ∷ more) = w ∷ elsewhere w.at more

-- what is doubted of the definitions, at each place once: a condition stands around the assignments of several signals, and a module in several instances
abbrev pub doubt_warnings : Design → List Warning
doubt_warnings d = one_each (in_order (flat_map (doubted_in d.families) d.defs))

-- those of the definitions
abbrev pub definition_warnings : Design → List Warning
definition_warnings d = value_warnings d ++ doubt_warnings d

-- the warnings of a text's tree and plan
abbrev pub warnings_of : Text → Plan → List Warning
warnings_of tree plan = in_order (definition_warnings plan.design ++ warnings_from (known_of tree plan) 0 plan.design.families)
