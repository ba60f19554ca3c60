-- What is met in flat order is what the items say one by one.
use Rattle.std.proofs.Common.{◌≡◌, ◌≢◌, ℕ, zero, suc, ◌-◌, List, [], ◌∷◌, ◌++◌, map, length, None, refl, ap, sym, ◌∙◌, arith}
use Rattle.std.specs.List.{flat_map}
use Rattle.std.proofs.lemmas.Grind.{flat_map-append}
use Rattle.std.proofs.lemmas.List.{append-nil, map-append}
use Rattle.law_lists.proofs.Lists.{map-map, map_agree, map-flat_map, flat_map-flat_map, flat_map_agree}
use Rattle.smv_core.specs.Values.{Name, Path}
use Rattle.smv_core.specs.Types.{Types, types_from}
use Rattle.smv_core.specs.FlatOrder.{Body, modules, main, body_of}
use Rattle.smv_core.specs.declared.tree.Word.{Word}
use Rattle.smv_core.specs.declared.tree.Text.{Text}
use Rattle.smv_core.specs.declared.tree.TypeExpr.{TypeExpr}
use Rattle.smv_core.specs.declared.tree.Expr.{Expr}
use Rattle.smv_core.specs.declared.tree.Stmt.{Stmt}
use Rattle.smv_core.specs.declared.tree.Pair.{Pair}
use Rattle.smv_core.specs.declared.tree.Ref.{Ref}
use Rattle.smv_core.specs.declared.tree.Use.{Use}
use Rattle.smv_core.specs.declared.tree.Item.{Item, Declare, Instance, Layer, Forall', Block', Claim, Split, Using, Act, Row_of-Item, end_of-Item, more_of-Item}
use Rattle.law_designs.specs.Entries.{Binders, Entry, statement, connections, inside_binder, item_entries, items_entries, instance_entries, entries_in, entries}
use Rattle.smv_flatten.specs.Leaves.{leaves, leaves_in}
use Rattle.smv_flatten.specs.Met.{wrapped, said_in, inside}

wrapped-inner : (around : Binders) (word : Word) (over : TypeExpr) (entry : Entry) → wrapped around (inside_binder word over entry) ≡ wrapped (around ++ (word, over) ∷ []) entry
wrapped-inner [] word over entry = refl
wrapped-inner ((w, o) ∷ around) word over entry = ap (λ e. inside_binder w o e) (wrapped-inner around word over entry)

module _ (types : Types) (bodies : List (Name × Body)) (own : Path → Name → List Entry) (here : Path) where
  abbrev says : Binders × Item → List Entry
  says (around, item) = map (wrapped around) (item_entries types bodies own here item)

  instances-say : (around : Binders) (name : Word) (args : List Expr) (words : List Word) →
      map (wrapped around) (flat_map (λ word. instance_entries types bodies own here name.name args word.name) words) ≡ flat_map says (map (λ word. (around, Instance (word ∷ []) name args 0)) words)
  instances-say around name args [] = refl
  instances-say around name args (word ∷ words) =
      let one : List Entry = instance_entries types bodies own here name.name args word.name in
      let more : List Entry = flat_map (λ w. instance_entries types bodies own here name.name args w.name) words in
      map-append (wrapped around) one more ∙ ap (λ l. l ++ map (wrapped around) more) (ap (map (wrapped around)) (sym (append-nil one)))
      ∙ ap (λ l. map (wrapped around) (one ++ []) ++ l) (instances-say around name args words)

  mutual
    unfolding leaves

    item-says : (around : Binders) (item : Item) → map (wrapped around) (item_entries types bodies own here item) ≡ flat_map says (leaves around item)
    item-says around (Declare role words of at) = refl
    item-says around (Instance words name args at) = instances-say around name args words
    item-says around (Layer name body at) = sym (append-nil _)
    item-says around (Forall' var over shape (more_of-Item body end_of-Item) at) =
        map-map (wrapped around) (inside_binder var over) (item_entries types bodies own here body)
        ∙ map_agree (λ e. wrapped around (inside_binder var over e)) (wrapped (around ++ (var, over) ∷ [])) (wrapped-inner around var over) (item_entries types bodies own here body)
        ∙ item-says (around ++ (var, over) ∷ []) body
    item-says around (Block' shape items) = items-say around items
    item-says around (Claim name vars body at) = sym (append-nil _)
    item-says around (Split name vars of pairs at) = sym (append-nil _)
    item-says around (Using uses proves at) = sym (append-nil _)
    item-says around (Act act) = sym (append-nil _)

    items-say : {m : _} (around : Binders) (row : Row_of-Item m) → map (wrapped around) (items_entries types bodies own here row) ≡ flat_map says (leaves_in around row)
    items-say around end_of-Item = refl
    items-say around (more_of-Item item rest) =
        map-append (wrapped around) (item_entries types bodies own here item) (items_entries types bodies own here rest)
        ∙ ap (λ l. l ++ map (wrapped around) (items_entries types bodies own here rest)) (item-says around item)
        ∙ ap (λ l. flat_map says (leaves around item) ++ l) (items-say around rest)
        ∙ sym (flat_map-append says (leaves around item) (leaves_in around rest))

module _ (text : Text) where
  abbrev types : Types
  types = types_from [] text.tops

  abbrev bodies : List (Name × Body)
  bodies = modules text.tops

  pub inside-none : (around : Binders) (here : Path) (name : Name) → inside text 0 around here name ≡ []
  unfolding inside
  inside-none around here name = refl

  inside-more : (n : ℕ) (around : Binders) (here : Path) (name : Name) → inside text (suc n) around here name ≡ flat_map (said_in text n here) (flat_map (leaves around) (body_of types bodies name).items)
  unfolding inside said_in
  inside-more n around here name =
      let items : List Item = (body_of types bodies name).items in
      let own : Path → Name → List Entry = entries_in types bodies n in
      map-flat_map (wrapped around) (item_entries types bodies own here) items
      ∙ flat_map_agree (λ item. map (wrapped around) (item_entries types bodies own here item)) (λ item. flat_map (said_in text n here) (leaves around item)) (item-says types bodies own here around) items
      ∙ sym (flat_map-flat_map (said_in text n here) (leaves around) items)

  -- a module says what its items say one by one
  pub inside-some : (left : ℕ) (around : Binders) (here : Path) (name : Name) → left ≢ 0 → inside text left around here name ≡ flat_map (said_in text (left - 1) here) (flat_map (leaves around) (body_of types bodies name).items)
  inside-some zero around here name h = absurd (h refl)
  inside-some (suc n) around here name h = let e : suc n - 1 ≡ n = omega arith in inside-more n around here name ∙ ap (λ k. flat_map (said_in text k here) (flat_map (leaves around) (body_of types bodies name).items)) (sym e)

  -- an instance says its connections, and then what its module says
  pub said-Instance : (n : ℕ) (here : Path) (around : Binders) (word name : Word) (args : List Expr) →
      said_in text n here (around, Instance (word ∷ []) name args 0) ≡ said_in text 0 here (around, Instance (word ∷ []) name args 0) ++ inside text n around (here ++ word.name ∷ []) name.name
  unfolding inside said_in
  said-Instance n here around word name args =
      let own : List Entry = map (λ act. statement (record { layer = None; instance = here; act = act })) (connections (body_of types bodies name.name) word.name args) in
      let more : List Entry = entries_in types bodies n (here ++ word.name ∷ []) name.name in
      ap (map (wrapped around)) (append-nil (own ++ more)) ∙ map-append (wrapped around) own more
      ∙ ap (λ l. map (wrapped around) l ++ map (wrapped around) more) (sym (append-nil (own ++ []) ∙ append-nil own))

  pub said-Layer : (n : ℕ) (here : Path) (around : Binders) (word : Word) (body : List Stmt) (at : ℕ) → said_in text n here (around, Layer word body at) ≡ said_in text 0 here (around, Layer word body at)
  unfolding said_in
  said-Layer n here around word body at = refl

  pub said-Claim : (n : ℕ) (here : Path) (around : Binders) (word : Word) (vars : List Word) (body : Expr) (at : ℕ) → said_in text n here (around, Claim word vars body at) ≡ said_in text 0 here (around, Claim word vars body at)
  unfolding said_in
  said-Claim n here around word vars body at = refl

  pub said-Split : (n : ℕ) (here : Path) (around : Binders) (word : Word) (vars : List Word) (of : Ref) (pairs : List Pair) (at : ℕ) →
      said_in text n here (around, Split word vars of pairs at) ≡ said_in text 0 here (around, Split word vars of pairs at)
  unfolding said_in
  said-Split n here around word vars of pairs at = refl

  pub said-Using : (n : ℕ) (here : Path) (around : Binders) (uses : List Use) (proves : List Ref) (at : ℕ) → said_in text n here (around, Using uses proves at) ≡ said_in text 0 here (around, Using uses proves at)
  unfolding said_in
  said-Using n here around uses proves at = refl

  pub said-Act : (n : ℕ) (here : Path) (around : Binders) (act : Stmt) → said_in text n here (around, Act act) ≡ said_in text 0 here (around, Act act)
  unfolding said_in
  said-Act n here around act = refl

  pub all-inside : inside text (length bodies) [] [] main ≡ entries text
  unfolding inside
  all-inside = unwrapped (entries text)
    where
      unwrapped : (es : List Entry) → map (wrapped []) es ≡ es
      unwrapped [] = refl
      unwrapped (e ∷ es) = ap (λ l. e ∷ l) (unwrapped es)

pub ruleset noting = (flat_map-append)

pub ruleset walks = (inside-none, inside-some)

pub ruleset meets = (said-Instance, said-Layer, said-Claim, said-Split, said-Using, said-Act)

pub ruleset whole = (all-inside)
