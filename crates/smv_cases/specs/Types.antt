-- The abstract forms of the set types in a case of a leaf.
use Rattle.std.specs.Prelude.{List, map}
use Rattle.smv_core.specs.declared.flat.SetInfo.{SetInfo}
use Rattle.smv_core.specs.declared.flat.Param.{Param}
use Rattle.smv_core.specs.declared.flat.Keep.{Keep}
use Rattle.smv_core.specs.declared.flat.Class.{Class}
use Rattle.smv_core.specs.declared.abstract_type.AbsType.{AbsType}
use Rattle.law_obligations.specs.Cases.{numbered, type_in}
use Rattle.law_obligations.specs.LeafCases.{treatments_of, parameters_of}

-- one for each set type, in their order
abbrev pub types_of : List SetInfo → List Param → List Keep → List Class → List AbsType
types_of sets params keeps classes = map (λ (set, t). type_in t set (parameters_of keeps params) classes) (numbered 0 (treatments_of keeps 0 sets))
