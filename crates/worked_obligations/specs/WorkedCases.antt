-- Worked cases.
use Rattle.std.specs.Prelude.{◌≡◌, ℕ, List, [], ◌∷◌, map, Some, None, true, false, codes}
use Rattle.smv_core.specs.Values.{number, scalar, ordinal}
use Rattle.smv_core.specs.FlatMeaning.{Numbered}
use Rattle.smv_core.specs.declared.flat.SetInfo.{SetInfo}
use Rattle.smv_core.specs.declared.flat.Param.{Param}
use Rattle.smv_core.specs.declared.flat.Simple.TheVariants.{Range, Set}
use Rattle.smv_core.specs.declared.flat.Class.{Class}
use Rattle.smv_core.specs.declared.flat.Class.TheVariants.{Number, Named, Rest}
use Rattle.smv_core.specs.declared.abstract_type.Rest.TheVariants as beside
use Rattle.law_obligations.specs.Places.{named as at, rest}
use Rattle.law_obligations.specs.Cases.{Parameter, whole, reduced, ordered, cases, type_in}
use Rattle.law_obligations.specs.Covers.{places_at, types_at}
use Rattle.law_obligations.specs.LeafCases.{leaf_cases}

-- a parameter over the first set type, listed or not
abbrev pub listed : Parameter
listed = record { over = Set 0; listed = true }

abbrev pub unlisted : Parameter
unlisted = record { over = Set 0; listed = false }

abbrev pub named : List ℕ → List Class
named cs = map Named cs

-- three parameters of one undeclared scalarset: 000, 001, 010, 011, 012; of a declared one of two values that is not reduced, without the last
abbrev pub ScalarsetCases : Type 0
ScalarsetCases = (cases (reduced None ∷ []) (listed ∷ listed ∷ listed ∷ []) ≡ map named ((0 ∷ 0 ∷ 0 ∷ []) ∷ (0 ∷ 0 ∷ 1 ∷ []) ∷ (0 ∷ 1 ∷ 0 ∷ []) ∷ (0 ∷ 1 ∷ 1 ∷ []) ∷ (0 ∷ 1 ∷ 2 ∷ []) ∷ []))
    × (cases (whole 2 ∷ []) (listed ∷ unlisted ∷ listed ∷ []) ≡ map named ((0 ∷ 0 ∷ 0 ∷ []) ∷ (0 ∷ 0 ∷ 1 ∷ []) ∷ (0 ∷ 1 ∷ 0 ∷ []) ∷ (0 ∷ 1 ∷ 1 ∷ []) ∷ []))
    × (cases (whole 1 ∷ []) (listed ∷ listed ∷ []) ≡ named (0 ∷ 0 ∷ []) ∷ [])

-- with one listed parameter of a scalarset of four values there is one case, with one class and a rest
abbrev pub ReducedCases : Type 0
ReducedCases = (cases (reduced (Some 4) ∷ []) (listed ∷ []) ≡ named (0 ∷ []) ∷ [])
    × (type_in (reduced (Some 4)) 0 (listed ∷ []) (named (0 ∷ [])) ≡ record { named = 1; rest = beside.One })
    × (cases (reduced (Some 4) ∷ []) (unlisted ∷ listed ∷ []) ≡ named (0 ∷ 0 ∷ []) ∷ (Rest 0 ∷ Named 0 ∷ []) ∷ [])
    × (cases (reduced (Some 1) ∷ []) (unlisted ∷ listed ∷ []) ≡ named (0 ∷ 0 ∷ []) ∷ [])
    × (type_in (reduced (Some 1)) 0 (unlisted ∷ listed ∷ []) (named (0 ∷ 0 ∷ [])) ≡ record { named = 1; rest = beside.None })
    × (cases (reduced None ∷ []) (unlisted ∷ []) ≡ (Rest 0 ∷ []) ∷ [])

-- in an ordset the listed parameters stand in any order; another one is at a class or in a gap
abbrev pub OrdsetCases : Type 0
OrdsetCases = (cases (ordered ∷ []) (listed ∷ listed ∷ []) ≡ map named ((0 ∷ 0 ∷ []) ∷ (0 ∷ 1 ∷ []) ∷ (1 ∷ 0 ∷ []) ∷ []))
    × (cases (ordered ∷ []) (listed ∷ unlisted ∷ []) ≡ named (0 ∷ 0 ∷ []) ∷ (Named 0 ∷ Rest 0 ∷ []) ∷ (Named 0 ∷ Rest 1 ∷ []) ∷ [])
    × (type_in ordered 0 (listed ∷ listed ∷ []) (named (1 ∷ 0 ∷ [])) ≡ record { named = 2; rest = beside.Gaps })

-- a parameter over a range has any of its values
abbrev pub RangeCases : Type 0
RangeCases = cases (reduced None ∷ []) (record { over = Range 2 3; listed = true } ∷ listed ∷ []) ≡ (Number 2 ∷ Named 0 ∷ []) ∷ (Number 3 ∷ Named 0 ∷ []) ∷ []

-- a design with a scalarset P and an ordset I, and parameters over a range, P and twice over I
abbrev pub two_sets : Numbered
two_sets = record {
  sets = record { name = codes "P"; ordered = false; size = None } ∷ record { name = codes "I"; ordered = true; size = None } ∷ [];
  enums = [];
  families = [];
  sizes = λ name. 1;
}

abbrev pub of_both : List Parameter
of_both = record { over = Range 1 1; listed = true } ∷ listed ∷ record { over = Set 1; listed = true } ∷ record { over = Set 1; listed = false } ∷ []

abbrev pub in_last_gap : List Class
in_last_gap = Number 1 ∷ Named 0 ∷ Named 0 ∷ Rest 1 ∷ []

-- each set type goes its own way, and each class is a place of its own type
abbrev pub SeveralTypes : Type 0
SeveralTypes = (cases (reduced None ∷ ordered ∷ []) of_both ≡ map (λ last. Number 1 ∷ Named 0 ∷ Named 0 ∷ last ∷ []) (Named 0 ∷ Rest 0 ∷ Rest 1 ∷ []))
    × (types_at two_sets.sets (reduced None ∷ ordered ∷ []) of_both in_last_gap (codes "P") ≡ record { named = 1; rest = beside.One })
    × (types_at two_sets.sets (reduced None ∷ ordered ∷ []) of_both in_last_gap (codes "I") ≡ record { named = 1; rest = beside.Gaps })
    × (places_at two_sets of_both in_last_gap ≡ at (number 1) ∷ at (scalar (codes "P") 0) ∷ at (ordinal (codes "I") 0) ∷ rest (ordinal (codes "I") 1) ∷ [])

-- two parameters of a scalarset P of four values
abbrev pub four : List SetInfo
four = record { name = codes "P"; ordered = false; size = Some 4 } ∷ []

abbrev pub of_four : List Param
of_four = record { var = 0; over = Set 0; name = codes "i" } ∷ record { var = 1; over = Set 0; name = codes "j" } ∷ []

-- as it is; with `P->{j}`, where i is any value beside j; and with `P->{}`, where both are any
abbrev pub KeptParameters : Type 0
KeptParameters = (leaf_cases four of_four [] ≡ map named ((0 ∷ 0 ∷ []) ∷ (0 ∷ 1 ∷ []) ∷ []))
    × (leaf_cases four of_four (record { set = 0; params = 1 ∷ [] } ∷ []) ≡ named (0 ∷ 0 ∷ []) ∷ (Rest 0 ∷ Named 0 ∷ []) ∷ [])
    × (leaf_cases four of_four (record { set = 0; params = [] } ∷ []) ≡ (Rest 0 ∷ Rest 0 ∷ []) ∷ [])
