use Rattle.std.proofs.Common.{◌≡◌, List, take}
use Rattle.std.specs.List.{list_all}
use Rattle.smv_core.specs.declared.flat.Class.{Class}
use Rattle.smv_cases.specs.declared.slots.Slot.{Slot}
use Rattle.smv_cases.specs.Slots.{keeps}
use Rattle.smv_cases.proofs.slots.types.Given as goal

-- those so far tell as much as the slots so far
abbrev pub invariant-loop-slot : goal.invariant-loop-slot
invariant-loop-slot l = (all : List Slot) (classes : List Class) → list_all (keeps all classes) l.types.items ≡ list_all (keeps all classes) (take l.slot-index l.slots)
