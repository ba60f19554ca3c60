-- The laws: what the crate's public functions say.
use Rattle.std.specs.Prelude.{◌≡◌, List, []}
use Rattle.law_obligations.specs.Cases.{Treatment, Parameter, cases}
use Rattle.smv_cases.specs.declared.slots.Slot.{Slot}
use Rattle.smv_cases.specs.Growing.{grown}
use Rattle.smv_cases.specs.Slots.{AreSlots, parameters_of, grown_of}

-- the cases of a leaf are those that grow from none
abbrev pub CasesGrow : Type 0
CasesGrow = (treatments : List Treatment) (params : List Parameter) → cases treatments params ≡ grown treatments params [] params

-- so are those that grow at slots
abbrev pub SlotsGrow : Type 0
SlotsGrow = (treatments : List Treatment) (slots : List Slot) → AreSlots treatments slots → cases treatments (parameters_of slots) ≡ grown_of slots [] slots
