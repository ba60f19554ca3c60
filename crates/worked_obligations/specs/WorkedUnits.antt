-- Worked units: the Tomasulo machine, and a map between two claims.
use Rattle.std.specs.Prelude.{◌≡◌, [], ◌∷◌, map, Some, None}
use Rattle.smv_core.specs.declared.flat.Unit.TheVariants.{Map, Claim}
use Rattle.law_obligations.specs.Units.{units_of, script_of}
use Rattle.worked_obligations.specs.WorkedTomasulo.{tomasulo, machine_script, one, num, set, always}
use Rattle.worked_obligations.specs.WorkedScripts.{over_P, one_of, claimed, bit}

abbrev pub UnitsInOrder : Type 0
UnitsInOrder = (units_of tomasulo ≡ Map 18 ∷ Map 19 ∷ Map 20 ∷ Map 21 ∷ [])
    × (script_of tomasulo (map (λ entry. entry.leaf) machine_script.entries) (map (λ entry. entry.choice) machine_script.entries) ≡ machine_script)
    × (units_of (over_P (one_of bit ∷ []) (always 0 None (set (num 0)) 0 ∷ always 0 (Some 0) (set (num 0)) 2 ∷ []) (claimed [] (one 0) 1 ∷ claimed [] (one 0) 3 ∷ [])) ≡ Claim 0 ∷ Map 1 ∷ Claim 1 ∷ [])
