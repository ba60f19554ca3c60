-- The faults of loops and of layers of a design, and the first of them.
use Rattle.std.specs.Prelude.{List, [], ◌∷◌, flat_map, Option}
use Rattle.smv_core.specs.declared.fault.Fault.{Fault}
use Rattle.smv_core.specs.declared.flat.Design.{Design}
use Rattle.smv_mentions.specs.FirstFault.{faults_at, first_of, or_else}
use Rattle.law_designs.specs.Loops.{looping}
use Rattle.law_designs.specs.LayerFaults.{leaking, assigned_outside}

abbrev pub faults_of_loops : Design → List Fault
faults_of_loops d = faults_at (18, looping d)

-- the fault of loops, 18, if there is one
abbrev pub first_fault_of_loops : Design → Option Fault
first_fault_of_loops d = first_of (faults_of_loops d)

abbrev pub faults_of_layers : Design → List Fault
faults_of_layers d = flat_map faults_at ((19, leaking d) ∷ (20, assigned_outside d) ∷ [])

-- the first fault among 19 and 20
abbrev pub first_fault_of_layers : Design → Option Fault
first_fault_of_layers d = first_of (faults_of_layers d)

-- The first fault of a design: loops are looked for before layers. A design with an earlier fault is not asked for.
abbrev pub first_fault_of_design : Design → Option Fault
first_fault_of_design d = or_else (first_fault_of_loops d) (first_fault_of_layers d)
