-- The families of the reduced Tomasulo machine.
use Rattle.std.specs.Prelude.{ℕ, List, [], ◌∷◌, codes}
use Rattle.smv_core.specs.declared.flat.Simple.TheVariants.{Range, Set}
use Rattle.smv_core.specs.declared.flat.Family.{Family}
use Rattle.worked_texts.specs.Tomasulo.{machine}
use Rattle.worked_texts.specs.FlatteningWorked.{of_type, is_spec}

-- WORD, REG and TAG are the set types 0, 1 and 2
abbrev pub families_of_machine : List Family
families_of_machine =
    of_type (codes "issue") [] (Range 0 1) 92 ∷
    of_type (codes "go") [] (Range 0 1) 99 ∷
    of_type (codes "slot") [] (Set 2) 113 ∷
    of_type (codes "bt") [] (Set 2) 119 ∷
    of_type (codes "src") [] (Set 1) 129 ∷
    of_type (codes "dst") [] (Set 1) 134 ∷
    of_type (codes "rd") [] (Set 1) 139 ∷
    of_type (codes "iss") [] (Range 0 1) 149 ∷
    of_type (codes "bv") [] (Range 0 1) 154 ∷
    is_spec (of_type (codes "opa") [] (Set 0) 177) ∷
    is_spec (of_type (codes "res") [] (Set 0) 182) ∷
    of_type (codes "bw") [] (Set 0) 194 ∷
    of_type (codes "dout") [] (Set 0) 198 ∷
    of_type (codes "ir.resvd") (Set 1 ∷ []) (Range 0 1) 211 ∷
    of_type (codes "ir.tag") (Set 1 ∷ []) (Set 2) 211 ∷
    of_type (codes "ir.val") (Set 1 ∷ []) (Set 0) 211 ∷
    of_type (codes "st.valid") (Set 2 ∷ []) (Range 0 1) 281 ∷
    of_type (codes "st.ga") (Set 2 ∷ []) (Range 0 1) 281 ∷
    of_type (codes "st.ta") (Set 2 ∷ []) (Set 2) 281 ∷
    of_type (codes "st.va") (Set 2 ∷ []) (Set 0) 281 ∷
    is_spec (of_type (codes "r") (Set 1 ∷ []) (Set 0) 362) ∷
    is_spec (of_type (codes "aux.a") (Set 2 ∷ []) (Set 0) 394) ∷
    is_spec (of_type (codes "aux.res") (Set 2 ∷ []) (Set 0) 394) ∷
    is_spec (of_type (codes "aux.src") (Set 2 ∷ []) (Set 1) 394) ∷
    of_type (codes "f") (Set 0 ∷ []) (Set 0) 451 ∷ []

abbrev pub rows : List (List ℕ × List Family)
rows = (machine, families_of_machine) ∷ []
