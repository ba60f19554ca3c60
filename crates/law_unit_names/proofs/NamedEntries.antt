-- What is met in a text whose names are words: layers and claims by names that are words.
use Rattle.std.proofs.Common.{ℕ, zero, suc, List, [], ◌∷◌, ◌++◌, map, Option, Some, None, length}
use Rattle.std.specs.List.{AllByRecursion}
use Rattle.law_lists.proofs.Each.{each_append}
use Rattle.smv_core.specs.Values.{Name, Path}
use Rattle.smv_core.specs.Types.{Types, types_from}
use Rattle.smv_core.specs.FlatOrder.{Body, modules, main, body_of}
use Rattle.smv_core.specs.declared.tree.Word.{Word}
use Rattle.smv_core.specs.declared.tree.TypeExpr.{TypeExpr}
use Rattle.smv_core.specs.declared.tree.Expr.{Expr}
use Rattle.smv_core.specs.declared.tree.Stmt.{Stmt}
use Rattle.smv_core.specs.declared.tree.Item.{Item, Declare, Instance, Layer, Forall', Block', Claim, Split, Using, Act, Row_of-Item, end_of-Item, more_of-Item}
use Rattle.smv_core.specs.declared.tree.Text.{Text}
use Rattle.law_designs.specs.Entries.{claim, split, using, Entry, layer, statement, goal, inside_binder, connections, instance_entries, item_entries, items_entries, entries_in, entries}
use Rattle.law_designs.proofs.Faultless.{each-map}
use Rattle.law_unit_names.proofs.Trees.{IsNamed, AreNamed, ItemIsNamed, ItemsAreNamed, TextIsNamed}
use Rattle.law_unit_names.proofs.Paths.{each-flat_map, AreNamedBodies, modules-named, body-named, longer}

-- a layer and a claim by words, the claim in an instance whose names are words
abbrev pub EntryIsNamed : Entry → Type 0
EntryIsNamed (layer name) = IsNamed name
EntryIsNamed (statement x) = Unit {0}
EntryIsNamed (goal instance binders (claim word vars body at)) = AreNamed instance × IsNamed word.name
EntryIsNamed (goal instance binders (split word vars of pairs at)) = Unit {0}
EntryIsNamed (goal instance binders (using uses proves at)) = Unit {0}

abbrev pub AreNamedEntries : List Entry → Type 0
AreNamedEntries es = AllByRecursion EntryIsNamed es

inside-named : (word : Word) (over : TypeExpr) (e : Entry) → EntryIsNamed e → EntryIsNamed (inside_binder word over e)
inside-named word over (layer name) h = h
inside-named word over (statement x) h = h
inside-named word over (goal instance binders (claim name vars body at)) h = h
inside-named word over (goal instance binders (split name vars of pairs at)) h = h
inside-named word over (goal instance binders (using uses proves at)) h = h

statements-named : (own : Option Name) (here : Path) (acts : List Stmt) → AreNamedEntries (map (λ (act : Stmt). statement (record { layer = own; instance = here; act = act })) acts)
statements-named own here [] = tt
statements-named own here (act ∷ acts) = (tt, statements-named own here acts)

module _ (types : Types) (bodies : List (Name × Body)) (bodied : AreNamedBodies bodies) where
  abbrev AreInside : (Path → Name → List Entry) → Type 0
  AreInside inside = (here : Path) → AreNamed here → (name : Name) → AreNamedEntries (inside here name)

  module _ (inside : Path → Name → List Entry) (goes : AreInside inside) (here : Path) (h : AreNamed here) where
    instance-named : (name : Name) (args : List Expr) (n : Name) → IsNamed n → AreNamedEntries (instance_entries types bodies inside here name args n)
    instance-named name args n is =
        each_append EntryIsNamed (map (λ (act : Stmt). statement (record { layer = None; instance = here; act = act })) (connections (body_of types bodies name) n args)) (inside (here ++ n ∷ []) name)
        (statements-named None here (connections (body_of types bodies name) n args)) (goes (here ++ n ∷ []) (longer here h n is) name)

    mutual
      item-met : (item : Item) → ItemIsNamed item → AreNamedEntries (item_entries types bodies inside here item)
      item-met (Declare role words of at) k = tt
      item-met (Instance words name args at) k =
          each-flat_map (λ (word : Word). IsNamed word.name) EntryIsNamed (λ (word : Word). instance_entries types bodies inside here name.name args word.name) (λ word is. instance-named name.name args word.name is) words k
      item-met (Layer word body at) k = (k, statements-named (Some word.name) here body)
      item-met (Forall' var over shape (more_of-Item body end_of-Item) at) k = each-map EntryIsNamed EntryIsNamed (inside_binder var over) (inside-named var over) (item_entries types bodies inside here body) (item-met body k)
      item-met (Block' shape items) k = items-met items k
      item-met (Claim word vars body at) k = ((h, k), tt)
      item-met (Split word vars of pairs at) k = (tt, tt)
      item-met (Using uses proves at) k = (tt, tt)
      item-met (Act act) k = (tt, tt)

      items-met : {m : _} (items : Row_of-Item m) → ItemsAreNamed items → AreNamedEntries (items_entries types bodies inside here items)
      items-met end_of-Item k = tt
      items-met (more_of-Item item rest) k = each_append EntryIsNamed (item_entries types bodies inside here item) (items_entries types bodies inside here rest) (item-met item k.0) (items-met rest k.1)

  met-named : (n : ℕ) → AreInside (entries_in types bodies n)
  met-named zero here h name = tt
  met-named (suc n) here h name =
      each-flat_map ItemIsNamed EntryIsNamed (item_entries types bodies (entries_in types bodies n) here) (λ item k. item-met (entries_in types bodies n) (met-named n) here h item k) (body_of types bodies name).items (body-named types bodies bodied name)

-- what is met in a text whose names are words
pub entries-named : (text : Text) → TextIsNamed text → AreNamedEntries (entries text)
entries-named text h = met-named (types_from [] text.tops) (modules text.tops) (modules-named text.tops h) (length (modules text.tops)) [] tt main
