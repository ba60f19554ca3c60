-- Worked reading: what is read at rests, by constants, by `forall` variables and by left sides, and for each condition of the laws a case without it in which what is not read matters.
use Rattle.std.specs.Prelude.{◌≡◌, ℕ, List, [], ◌∷◌, map, Option, Some, None, true, false, codes}
use Rattle.smv_core.specs.Values.{Name, number, scalar}
use Rattle.smv_core.specs.declared.flat.Simple.{Simple}
use Rattle.smv_core.specs.declared.flat.Simple.TheVariants.{Range, Set}
use Rattle.smv_core.specs.declared.flat.Family.{Family}
use Rattle.smv_core.specs.declared.flat.DefBody.{DefBody, Assign, First, Forall}
use Rattle.smv_core.specs.declared.flat.FlatExpr.{FlatExpr, Number, Read, Var, All, Sum, Modulo}
use Rattle.smv_core.specs.declared.flat.FlatSigned.{FlatSigned}
use Rattle.smv_core.specs.declared.abstract_type.Rest.TheVariants as beside
use Rattle.law_obligations.specs.Places.{Place, named, rest, World, world, AbsOutcome}
use Rattle.law_obligations.specs.May.{AbsState, Kept, may}
use Rattle.law_obligations.specs.Results.{results}
use Rattle.law_obligations.specs.Cones.{AbsElement, element, elements_read, kept}
use Rattle.law_reads.specs.Reading.{told, read_in, read_of}

abbrev pub family : Name → List Simple → Simple → Family
family name over value = record { name = name; over = over; value = value; is_abstract = false; at = 0 }

-- scalarset P, of which a case has no class; a : boolean; z : array 0..1 of boolean; m : array P of boolean; v : 1..0, which has no value; y : array 0..1 of array 0..1 of boolean
abbrev pub small : World
small = world
    (record {
      sets = record { name = codes "P"; ordered = false; size = None } ∷ [];
      enums = [];
      families = family (codes "a") [] (Range 0 1) ∷ family (codes "z") (Range 0 1 ∷ []) (Range 0 1) ∷ family (codes "m") (Set 0 ∷ []) (Range 0 1) ∷ family (codes "v") [] (Range 1 0)
          ∷ family (codes "y") (Range 0 1 ∷ Range 0 1 ∷ []) (Range 0 1) ∷ [];
      sizes = λ name. 1;
    })
    (λ name. record { named = 0; rest = beside.One })

abbrev pub num : ℕ → FlatExpr
num k = Number k 0

abbrev pub i : FlatExpr
i = Var 0 0

abbrev pub a : FlatExpr
a = Read 0 [] 0

abbrev pub z : FlatExpr → FlatExpr
z index = Read 1 (index ∷ []) 0

abbrev pub minus : FlatExpr → FlatSigned
minus e = record { minus = true; of = e }

abbrev pub place : ℕ → Place
place k = named (number k)

abbrev pub at_rest : Place
at_rest = rest (scalar (codes "P") 0)

abbrev pub it : ℕ → AbsElement
it family = element family []

abbrev pub at : ℕ → ℕ → AbsElement
at family k = element family (place k ∷ [])

abbrev pub these : List ℕ → List AbsOutcome
these ks = map (λ k. Some (place k)) ks

-- every element has this value; those without index and those at a rest have this one, and others 0
abbrev pub all : ℕ → AbsState
all k family indexes = place k

abbrev pub without_index : ℕ → AbsState
without_index k family [] = place k
without_index k family (p ∷ ps) = place 0

abbrev pub at_rests : ℕ → AbsState
at_rests k family (rest v ∷ ps) = place k
at_rests k family ps = place 0

abbrev pub everything_kept : Kept
everything_kept family ps = true

-- `&[a : i in P]` where P has no class: the elements of a cone are without a, which is read at the rest, and what it may be depends on a
abbrev pub Quantifiers : Type 0
Quantifiers = (elements_read small (All a 0 (Set 0) 0) [] ≡ []) × (read_in small (All a 0 (Set 0) 0) [] ≡ it 0 ∷ [])
    × (may small (kept (it 0 ∷ [])) (all 0) (All a 0 (Set 0) 0) [] ≡ these (1 ∷ 0 ∷ [])) × (may small (kept (it 0 ∷ [])) (all 1) (All a 0 (Set 0) 0) [] ≡ these (1 ∷ 1 ∷ []))
    × (may small (kept []) (all 1) (All a 0 (Set 0) 0) [] ≡ these (1 ∷ 1 ∷ 0 ∷ 0 ∷ []))

-- `z[(3 - 2) mod 2]` reads z[1] alone, `z[0 - 1]`, which is Undefined, nothing, and `z[a]` both and a
abbrev pub Constants : Type 0
Constants = (read_in small (z (Modulo (Sum (num 3) (minus (num 2) ∷ [])) 2 0)) [] ≡ at 1 1 ∷ [])
    × (read_in small (z (Sum (num 0) (minus (num 1) ∷ []))) [] ≡ []) × (may small everything_kept (all 1) (z (Sum (num 0) (minus (num 1) ∷ []))) [] ≡ None ∷ [])
    × (read_in small (z a) [] ≡ at 1 0 ∷ at 1 1 ∷ it 0 ∷ [])

-- `m[i]` with i at the rest reads nothing; were the element at the rest kept, it would matter
abbrev pub Rests : Type 0
Rests = (read_in small (Read 2 (i ∷ []) 0) (at_rest ∷ []) ≡ [])
    × (may small everything_kept (at_rests 0) (Read 2 (i ∷ []) 0) (at_rest ∷ []) ≡ these (0 ∷ [])) × (may small everything_kept (at_rests 1) (Read 2 (i ∷ []) 0) (at_rest ∷ []) ≡ these (1 ∷ []))
    × (may small (kept []) (at_rests 1) (Read 2 (i ∷ []) 0) (at_rest ∷ []) ≡ these (0 ∷ 1 ∷ []))

-- z without an index, which no text has, reads what it then finds, and neither z[0] nor z[1]
abbrev pub FewIndexes : Type 0
FewIndexes = (read_in small (Read 1 [] 0) [] ≡ it 1 ∷ []) × (told everything_kept (without_index 0) (at 1 0) ≡ told everything_kept (without_index 1) (at 1 0))
    × (may small everything_kept (without_index 0) (Read 1 [] 0) [] ≡ these (0 ∷ [])) × (may small everything_kept (without_index 1) (Read 1 [] 0) [] ≡ these (1 ∷ []))

-- a place as the result of each right side, for the element of these indexes
abbrev pub given : Kept → List Place → DefBody → List (Option Place)
given keeps indexes part = results small keeps (all 0) indexes (place 0) (λ e b. place 1) part []

-- `y[0][v] := 1` for y[1][0] reads nothing; but as v has no value it gives no result where v is not kept, and Nothing where it is
abbrev pub elsewhere : DefBody
elsewhere = Assign (num 0 ∷ Read 3 [] 0 ∷ []) (num 1) 0 0

abbrev pub NoValues : Type 0
NoValues = (read_of small (place 1 ∷ place 0 ∷ []) elsewhere [] ≡ []) × (given (kept []) (place 1 ∷ place 0 ∷ []) elsewhere ≡ []) × (given everything_kept (place 1 ∷ place 0 ∷ []) elsewhere ≡ None ∷ [])

-- `y[0][a] := 1` reads nothing for y[1][0] and gives it Nothing, once or twice; for y[0][1] it reads a
abbrev pub chosen : DefBody
chosen = Assign (num 0 ∷ a ∷ []) (num 1) 0 0

abbrev pub Elsewhere : Type 0
Elsewhere = (read_of small (place 1 ∷ place 0 ∷ []) chosen [] ≡ []) × (read_of small (place 0 ∷ place 1 ∷ []) chosen [] ≡ it 0 ∷ [])
    × (given (kept []) (place 1 ∷ place 0 ∷ []) chosen ≡ None ∷ None ∷ []) × (given everything_kept (place 1 ∷ place 0 ∷ []) chosen ≡ None ∷ [])

-- `z[0] := a; z[1] := z[0]`: z[0] reads a, and z[1] reads z[0]; `forall (i in 0..1) y[i][0] := z[i]` for y[1][0]: z[1], and for y[1][1] nothing
abbrev pub copies : DefBody
copies = First (Assign (num 0 ∷ []) a 0 0 ∷ Assign (num 1 ∷ []) (z (num 0)) 0 0 ∷ [])

abbrev pub each : DefBody
each = Forall 0 (Range 0 1) (Assign (i ∷ num 0 ∷ []) (z i) 0 0)

abbrev pub LeftSides : Type 0
LeftSides = (read_of small (place 0 ∷ []) copies [] ≡ it 0 ∷ []) × (read_of small (place 1 ∷ []) copies [] ≡ at 1 0 ∷ [])
    × (read_of small (place 1 ∷ place 0 ∷ []) each [] ≡ at 1 1 ∷ []) × (read_of small (place 1 ∷ place 1 ∷ []) each [] ≡ [])
