-- What is met in flat order, as the program holds it.
use Rattle.std.specs.Prelude.{ℕ, List, [], ◌∷◌, map}
use Rattle.smv_core.specs.Values.{Name, Path}
use Rattle.smv_core.specs.Types.{types_from}
use Rattle.smv_core.specs.FlatOrder.{modules}
use Rattle.smv_core.specs.declared.tree.Text.{Text}
use Rattle.smv_core.specs.declared.tree.Item.{Item}
use Rattle.law_designs.specs.Entries.{Binders, Entry, inside_binder, item_entries, entries_in}
use Rattle.smv_flatten_families.specs.Held.{path_of}
use Rattle.smv_flatten.specs.Leaves.{binders_of, item_of}
use Rattle.smv_flatten.specs.declared.met.Met.{Met}

-- an entry inside binders, from the outside in
abbrev pub wrapped : Binders → Entry → Entry
wrapped [] entry = entry
wrapped ((word, over) ∷ around) entry = inside_binder word over (wrapped around entry)

module _ (text : Text) where
  -- what an item inside binders says in an instance; no chain of instances inside those that it declares is longer than this number
  unfoldable pub said_in : ℕ → Path → Binders × Item → List Entry
  said_in n here (around, item) = let types = types_from [] text.tops in let bodies = modules text.tops in
      map (wrapped around) (item_entries types bodies (entries_in types bodies n) here item)

  -- what a module inside binders says as an instance; no chain of instances inside it is longer than this number
  unfoldable pub inside : ℕ → Binders → Path → Name → List Entry
  inside n around here name = map (wrapped around) (entries_in (types_from [] text.tops) (modules text.tops) n here name)

  -- what is met, as entries: an instance stands for its connections alone
  abbrev pub entries_met : Met → List Entry
  entries_met met = said_in 0 (path_of met.instance.items) (binders_of met.around.items, item_of met.what)
