-- What is said of owners, brought together by owner.
use Rattle.std.specs.Prelude.{List, [], ◌∷◌, ◌++◌, Option, Some, None, Bool, ◌&&◌, nat_eq, if◌then◌else◌}
use Rattle.std.specs.Option.{option_eq}
use Rattle.std.specs.HashMap.{HashMap, get_by}
use Rattle.smv_core.specs.declared.flat.FlatExpr.{FlatExpr}
use Rattle.smv_core.specs.declared.flat.DefBody.{DefBody}
use Rattle.law_designs.specs.Definitions.{joined, branches}
use Rattle.smv_design.specs.declared.owners.Owner.{Owner}
use Rattle.smv_design.specs.declared.parts.Part.{Part}
use Rattle.smv_design.specs.declared.groups.Sides.{Sides}

-- as the keys of a map are compared
abbrev pub same_owner : Owner → Owner → Bool
same_owner a b = option_eq nat_eq a.layer b.layer && nat_eq a.family b.family

-- what these parts say of an owner
abbrev pub parts_for : Owner → List Part → List DefBody
parts_for owner [] = []
parts_for owner (p ∷ ps) = if same_owner p.owner owner then p.says ∷ parts_for owner ps else parts_for owner ps

-- ---- two sides

abbrev pub no_sides : Sides
no_sides = record { first = []; second = [] }

-- more parts on one side
abbrev pub filled : Sides → Bool → List DefBody → Sides
filled sides is_second parts = record {
  first = if is_second then sides.first else sides.first ++ parts;
  second = if is_second then sides.second ++ parts else sides.second;
}

-- one more part
abbrev pub more : Sides → Bool → DefBody → Sides
more sides is_second says = filled sides is_second (says ∷ [])

-- the parts as one: those of an `if` of this condition, or of several statements
abbrev pub combine : Option FlatExpr → Sides → DefBody
combine (Some cond) sides = branches cond (joined sides.first) (joined sides.second)
combine None sides = joined sides.first

-- ---- by owner

abbrev pub or_none : Option Sides → Sides
or_none (Some sides) = sides
or_none None = no_sides

-- what is noted of an owner
abbrev pub used : {S : Type 0} → HashMap Owner Sides S → Owner → Option Sides
used groups owner = get_by (same_owner owner) groups

abbrev pub held : {S : Type 0} → HashMap Owner Sides S → Owner → Sides
held groups owner = or_none (used groups owner)

-- one more part, where it is the owner's
abbrev pub one_more : Option Sides → Bool → Bool → DefBody → Option Sides
one_more sides is_it is_second says = if is_it then Some (more (or_none sides) is_second says) else sides
