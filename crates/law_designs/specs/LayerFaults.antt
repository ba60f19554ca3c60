-- What definitions outside layers may not say: they neither read nor assign abstract signals (McMillan, CAV 1998).
use Rattle.std.specs.Prelude.{ℕ, List, [], ◌++◌, map, flat_map, filter, slice_get, Option, Some, None, Bool, false, is_none}
use Rattle.smv_core.specs.declared.flat.Family.{Family}
use Rattle.smv_core.specs.declared.flat.Def.{Def}
use Rattle.smv_core.specs.declared.flat.Design.{Design}
use Rattle.law_designs.specs.Reading.{Reference, Reading, readings}

-- the assignments of a definition, of all kinds
abbrev pub assignments_of : Def → List Reading
assignments_of def = readings def.family [] def.init ++ readings def.family [] def.next ++ readings def.family [] def.comb

module _ (d : Design) where
  abbrev pub is_abstract : Option Family → Bool
  is_abstract None = false
  is_abstract (Some f) = f.is_abstract

  -- the assignments outside layers
  abbrev pub outside_layers : List Reading
  outside_layers = flat_map assignments_of (filter (λ def. is_none def.layer) d.defs)

  -- fault 19: a definition outside layers reads an abstract signal
  abbrev pub leaking : List ℕ
  leaking = map (λ (r : Reference). r.at) (filter (λ (r : Reference). is_abstract (slice_get d.families r.family)) (flat_map (λ (a : Reading). a.reads) outside_layers))

  -- fault 20: an abstract signal is assigned outside layers
  abbrev pub assigned_outside : List ℕ
  assigned_outside = map (λ (a : Reading). a.at) (filter (λ (a : Reading). is_abstract (slice_get d.families a.family)) outside_layers)
