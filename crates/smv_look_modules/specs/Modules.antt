-- The modules that the faults 9 and 10 are about: the module that may be meant by `main`, and the one that contains itself.
use Rattle.std.specs.Prelude.{ℕ, List, [], map, flat_map, Option, Some, None, is_none, nat_eq}
use Rattle.smv_core.specs.Values.{Name}
use Rattle.smv_core.specs.declared.tree.Word.{Word}
use Rattle.smv_core.specs.declared.tree.Text.{Text}
use Rattle.smv_mentions.specs.Mentions.{Mention, instantiates}
use Rattle.smv_mentions.specs.NameFaults.{used_in, place_if}
use Rattle.smv_mentions.specs.Said.{told_by}
use Rattle.name_index.specs.Position.{position}
use Rattle.smv_first_fault.specs.Firsts.{least}

-- a top: its name, its formals where it is a module, and what it says about names
abbrev pub Told : Type 0
Told = Word × Option (List Word) × List Mention

-- ---- fault 9

-- the modules of which some module has an instance
abbrev pub all_used : List Told → List Name
all_used tops = flat_map (λ (top : Told). used_in top.2) tops

-- the place of a module of which none of these is an instance
abbrev pub if_unused : List Name → Told → List ℕ
if_unused used (word, None, mentions) = []
if_unused used (word, Some formals, mentions) = place_if (is_none (position used word.name)) word.at

-- where the first module of a text is named of which no module has an instance
abbrev pub unused_first : Text → Option ℕ
unused_first text = least (flat_map (if_unused (all_used (map told_by text.tops))) (map told_by text.tops))

-- ---- fault 10

module _ (at : ℕ) where
  -- this place, where the mention is an instance at the place that is asked for
  abbrev pub if_instance : ℕ → Mention → List ℕ
  if_instance place (instantiates word args) = place_if (nat_eq word.at at) place
  if_instance place _ = []

  -- where a top is named in which an instance stands there
  abbrev pub holding : Told → List ℕ
  holding top = flat_map (if_instance top.0.at) top.2

-- where the module is named in which an instance stands at a place of a text
abbrev pub holding_first : Text → ℕ → Option ℕ
holding_first text at = least (flat_map (holding at) (map told_by text.tops))
