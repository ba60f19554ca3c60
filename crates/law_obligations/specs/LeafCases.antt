-- The cases of a leaf, by what its choice keeps of each set type.
use Rattle.std.specs.Prelude.{ℕ, ◌+◌, List, [], ◌∷◌, map, Option, Some, None, Bool, true, false, if◌then◌else◌, nat_eq}
use Rattle.std.specs.List.{list_any}
use Rattle.smv_core.specs.declared.flat.Simple.{Simple}
use Rattle.smv_core.specs.declared.flat.Simple.TheVariants.{Set}
use Rattle.smv_core.specs.declared.flat.SetInfo.{SetInfo}
use Rattle.smv_core.specs.declared.flat.Param.{Param}
use Rattle.smv_core.specs.declared.flat.Keep.{Keep}
use Rattle.smv_core.specs.declared.flat.Class.{Class}
use Rattle.law_obligations.specs.Cases.{Treatment, whole, reduced, ordered, Parameter, cases}

-- the parameters of a set type that stay apart, where the choice says so
abbrev pub kept_of : List Keep → ℕ → Option (List ℕ)
kept_of [] set = None
kept_of (keep ∷ keeps) set = if nat_eq keep.set set then Some keep.params else kept_of keeps set

-- a scalarset of a declared size is reduced only where the choice says which of its parameters stay
abbrev pub treatment_of : Bool → Option ℕ → Option (List ℕ) → Treatment
treatment_of true size kept = ordered
treatment_of false (Some n) None = whole n
treatment_of false size kept = reduced size

-- each set type from a number on
abbrev pub treatments_of : List Keep → ℕ → List SetInfo → List Treatment
treatments_of keeps k [] = []
treatments_of keeps k (info ∷ sets) = treatment_of info.ordered info.size (kept_of keeps k) ∷ treatments_of keeps (k + 1) sets

-- a parameter stays unless the choice names others of its set type
abbrev pub stays : List Keep → Simple → ℕ → Bool
stays keeps (Set set) var = is_kept (kept_of keeps set)
  where
    is_kept : Option (List ℕ) → Bool
    is_kept None = true
    is_kept (Some vars) = list_any (nat_eq var) vars
stays keeps _ var = true

abbrev pub parameters_of : List Keep → List Param → List Parameter
parameters_of keeps params = map (λ p. record { over = p.over; listed = stays keeps p.over p.var }) params

-- the cases of a leaf with these parameters
abbrev pub leaf_cases : List SetInfo → List Param → List Keep → List (List Class)
leaf_cases sets params keeps = cases (treatments_of keeps 0 sets) (parameters_of keeps params)
