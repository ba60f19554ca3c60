-- Worked cones.
use Rattle.std.specs.Prelude.{◌≡◌, ℕ, List, [], ◌∷◌, Some, None, false, codes}
use Rattle.smv_core.specs.Values.{number, scalar}
use Rattle.smv_core.specs.declared.flat.Simple.TheVariants.{Range, Set}
use Rattle.smv_core.specs.declared.flat.Class.{Class}
use Rattle.smv_core.specs.declared.flat.Class.TheVariants.{Named, Rest}
use Rattle.smv_core.specs.declared.flat.Family.{Family}
use Rattle.smv_core.specs.declared.flat.Def.{Def}
use Rattle.smv_core.specs.declared.flat.DefBody.{Forall}
use Rattle.smv_core.specs.declared.flat.FlatExpr.{Var, And, All}
use Rattle.law_obligations.specs.Places.{named, rest}
use Rattle.law_obligations.specs.May.{AbsState, may}
use Rattle.law_obligations.specs.Outlines.{Entry, Script, outline_of}
use Rattle.law_obligations.specs.Cones.{AbsElement, element, cone, kept}
use Rattle.law_obligations.specs.Problems.{world_of, params_at}
use Rattle.worked_obligations.specs.WorkedTomasulo.{issue, slot, bt, rd, dst, iss, bv, res, bw, dout, ir_resvd, ir_tag, ir_val, st_valid, r, aux_res, rd1, val1, machine_script, signal, one, at, equal, i, num, set, set_at, always, by_layer, free}
use Rattle.worked_obligations.specs.WorkedScripts.{over_P, one_of, array_of, claimed, picking, of_claim, of_map, alone, bit}

-- the cone of a case of the first leaf
abbrev pub cone_of : Script → Entry → List Class → List AbsElement
cone_of s entry classes = cone (world_of (outline_of s) entry classes) (outline_of s) entry (params_at (outline_of s) entry classes)

abbrev pub first_cone : Script → List Class → List AbsElement
first_cone o classes = of_first o.entries
  where
    of_first : List Entry → List AbsElement
    of_first [] = []
    of_first (entry ∷ entries) = cone_of o entry classes

-- a signal, and an element at a class of P or at a number
abbrev pub it : ℕ → AbsElement
it family = element family []

abbrev pub at_class : ℕ → ℕ → AbsElement
at_class family c = element family (named (scalar (codes "P") c) ∷ [])

abbrev pub at_number : ℕ → ℕ → AbsElement
at_number family k = element family (named (number k) ∷ [])

-- d : P; v, w : array P of boolean
abbrev pub arrays : List Family
arrays = one_of (Set 0) ∷ array_of bit ∷ array_of bit ∷ []

-- `v[d]` for no parameter, where P has no class, and `v[d] & v[k]` for all k
abbrev pub IndexedBySignals : Type 0
IndexedBySignals = (first_cone (alone arrays [] [] (at 1 (one 0)) (picking [])) [] ≡ it 0 ∷ [])
    × (first_cone (alone arrays [] (Set 0 ∷ []) (And (at 1 (one 0) ∷ at 1 i ∷ [])) (picking [])) (Named 0 ∷ []) ≡ it 0 ∷ at_class 1 0 ∷ [])

-- an element at a rest is not kept and reads as every value: `v[d]` with d at the rest
abbrev pub at_the_rest : AbsState
at_the_rest family indexes = rest (scalar (codes "P") 0)

abbrev pub of_v_at_d : Script
of_v_at_d = alone arrays [] [] (at 1 (one 0)) (picking [])

abbrev pub RestsReadAsAll : Type 0
RestsReadAsAll = may (world_of (outline_of of_v_at_d) (of_claim 0 [] [] (picking [])) []) (kept (first_cone of_v_at_d [])) at_the_rest (at 1 (one 0)) [] ≡ Some (named (number 0)) ∷ Some (named (number 1)) ∷ []

-- `forall (i in P) v[i] := w[i]`, and the claim `v[k]` for all k and j, which are apart: w is read at k alone; `&[v[i] : i in P]` at both
abbrev pub copies : List Def
copies = always 1 None (Forall 0 (Set 0) (set_at i (at 2 i))) 0 ∷ []

abbrev pub FollowsIndexes : Type 0
FollowsIndexes = (first_cone (alone arrays copies (Set 0 ∷ Set 0 ∷ []) (at 1 i) (picking [])) (Named 0 ∷ Named 1 ∷ []) ≡ at_class 1 0 ∷ at_class 2 0 ∷ [])
    × (first_cone (alone arrays copies (Set 0 ∷ Set 0 ∷ []) (All (at 1 (Var 2 0)) 2 (Set 0) 0) (picking [])) (Named 0 ∷ Named 1 ∷ []) ≡ at_class 1 0 ∷ at_class 1 1 ∷ at_class 2 0 ∷ at_class 2 1 ∷ [])

-- x, y, z : boolean; x := y; y := z; a layer says y := 0
abbrev pub chain : List Def
chain = always 0 None (set (one 1)) 0 ∷ always 1 None (set (one 2)) 1 ∷ always 1 (Some 0) (set (num 0)) 2 ∷ []

abbrev pub bits : List Family
bits = one_of bit ∷ one_of bit ∷ one_of bit ∷ []

-- the cone of the claim x: a pick of y cuts it
abbrev pub PicksCut : Type 0
PicksCut = (first_cone (alone bits chain [] (one 0) (picking [])) [] ≡ it 0 ∷ it 1 ∷ it 2 ∷ [])
    × (first_cone (alone bits chain [] (one 0) (picking (free 1 ∷ []))) [] ≡ it 0 ∷ it 1 ∷ [])
    × (first_cone (alone bits chain [] (one 0) (picking (free 0 ∷ []))) [] ≡ it 0 ∷ [])
    × (first_cone (record { design = over_P bits chain (claimed [] (one 0) 3 ∷ []); entries = of_claim 0 [] [] (picking (by_layer 1 0 ∷ [])) ∷ of_map 2 [] (picking []) ∷ [] }) [] ≡ it 0 ∷ it 1 ∷ [])

-- x : array 0..1 of boolean; y : boolean; x[0] := y. The claim x[1] reads y too
abbrev pub OtherConstants : Type 0
OtherConstants = first_cone (alone (signal (Range 0 1 ∷ []) bit false ∷ one_of bit ∷ []) (always 0 None (set_at (num 0) (one 1)) 0 ∷ []) [] (at 0 (num 1)) (picking [])) [] ≡ at_number 0 1 ∷ it 1 ∷ []

-- a map of v whose element is at the rest: `forall (i in P) v[i] := w[i] & d = i` reads d, and neither v nor w at the rest
abbrev pub at_rests : Script
at_rests = record {
  design = over_P arrays (always 1 (Some 0) (Forall 0 (Set 0) (set_at i (And (at 2 i ∷ equal (one 0) i ∷ [])))) 0 ∷ []) [];
  entries = of_map 0 (Set 0 ∷ []) (record { picks = []; claims = []; itself = false; keeps = record { set = 0; params = [] } ∷ [] }) ∷ [];
}

abbrev pub TargetsAtRests : Type 0
TargetsAtRests = first_cone at_rests (Rest 0 ∷ []) ≡ it 0 ∷ []

-- two leaves of the Tomasulo machine
abbrev pub at_tag : ℕ → AbsElement
at_tag family = element family (named (scalar (codes "TAG") 0) ∷ [])

abbrev pub at_reg : ℕ → AbsElement
at_reg family = element family (named (scalar (codes "REG") 0) ∷ [])

abbrev pub TomasuloCones : Type 0
TomasuloCones = (cone_of machine_script rd1 (Named 0 ∷ Named 0 ∷ []) ≡ it rd ∷ it dout ∷ at_reg ir_resvd ∷ at_reg ir_val ∷ at_reg r ∷ [])
    × (cone_of machine_script val1 (Named 0 ∷ Named 0 ∷ Named 0 ∷ [])
    ≡ it issue ∷ it slot ∷ it bt ∷ it dst ∷ it iss ∷ it bv ∷ it res ∷ it bw ∷ at_reg ir_resvd ∷ at_reg ir_tag ∷ at_reg ir_val ∷ at_tag st_valid ∷ at_reg r ∷ at_tag aux_res ∷ [])
