-- Worked tries: a wire, an element of an array by its own constant, a choice, and a signal that reads itself under a condition that has no cell, which the test at all assignments alone would let through.
use Rattle.std.specs.Prelude.{◌≡◌, List, [], ◌∷◌, filter, None}
use Rattle.smv_core.specs.Values.{number}
use Rattle.smv_core.specs.declared.flat.FlatExpr.{FlatExpr, Not, Choose, List as Listed}
use Rattle.smv_core.specs.declared.flat.FlatMember.{One}
use Rattle.law_obligations.specs.Places.{Place, named}
use Rattle.law_obligations.specs.May.{AbsState}
use Rattle.law_obligations.specs.Cones.{AbsElement, kept}
use Rattle.law_obligations.specs.Readings.{PosedCase}
use Rattle.law_arrangements.specs.Arrangements.{put, allowed}
use Rattle.law_arrangements.specs.Worked.{small, it, one, num, case, state, these, w_is, z_is, all_elements}
use Rattle.law_reads.specs.Reading.{read_now}
use Rattle.law_wires.specs.Tries.{meets_with}

-- a case with `w := e`
abbrev pub with_w : FlatExpr → PosedCase
with_w e = case all_elements (w_is e ∷ []) [] (one 1)

-- the values of w that meet `w := e` in a state, where these elements have cells
abbrev pub tried : FlatExpr → List AbsElement → AbsState → List Place
tried e cells s = filter (meets_with (with_w e) (kept cells) s (it 1)) (these (0 ∷ 1 ∷ []))

-- `w := a` reads a, and exactly the value of a meets it, by the cells of a and w alone
abbrev pub Wires : Type 0
Wires = (read_now small (w_is (one 0)) ≡ it 0 ∷ []) × (tried (one 0) (it 0 ∷ it 1 ∷ []) (state 0 1 0 0) ≡ these (0 ∷ [])) × (tried (one 0) (it 0 ∷ it 1 ∷ []) (state 1 0 0 0) ≡ these (1 ∷ []))

-- `z[0] := a; z[1] := w`: z[0] reads a, and z[1] reads w
abbrev pub Elements : Type 0
Elements = (read_now small (z_is 0) ≡ it 0 ∷ []) × (read_now small (z_is 1) ≡ it 1 ∷ [])

-- `w := {0, 1}` reads nothing, and both values meet it
abbrev pub Choices : Type 0
Choices = (read_now small (w_is (Listed (One (num 0) ∷ One (num 1) ∷ []) 0)) ≡ []) × (tried (Listed (One (num 0) ∷ One (num 1) ∷ []) 0) (it 1 ∷ []) (state 0 0 0 0) ≡ these (0 ∷ 1 ∷ []))

-- `w := y ? ~w : 0`, where y has no cell: exactly 0 meets it, but it reads y and w, and where y is 1 it allows nothing
abbrev pub own : FlatExpr
own = Choose (one 2) (Not (one 1) 0) (num 0)

abbrev pub y_is_1 : AbsState
y_is_1 = put (it 2) (named (number 1)) (state 0 0 0 0)

abbrev pub OwnReads : Type 0
OwnReads = (read_now small (w_is own) ≡ it 2 ∷ it 1 ∷ []) × (tried own (it 1 ∷ []) (state 0 0 0 0) ≡ these (0 ∷ [])) × (tried own (it 1 ∷ []) y_is_1 ≡ these (0 ∷ []))
    × (allowed (with_w own) (w_is own ∷ []) None y_is_1 (it 1) ≡ [])
