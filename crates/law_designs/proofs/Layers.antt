-- The layer of each statement is listed, and two layers have one number where they are the same.
use Rattle.std.proofs.Common.{◌≡◌, ℕ, zero, suc, List, [], ◌∷◌, ◌++◌, map, flat_map, length, option_map, Option, Some, None, true, false, ◌||◌, refl, sym, ap, ◌∙◌, subst}
use Rattle.std.specs.Str.{bytes_eq}
use Rattle.std.specs.List.{list_any}
use Rattle.std.proofs.lemmas.Slice.Eq.{bytes_eq-Decides}
use Rattle.law_lists.proofs.Booleans.{same_tests}
use Rattle.smv_core.specs.Values.{Name, Path}
use Rattle.smv_core.specs.Types.{Types, types_from}
use Rattle.smv_core.specs.FlatOrder.{Body, body_of, modules, main}
use Rattle.smv_core.specs.Allowed.{is_layer}
use Rattle.smv_core.specs.declared.tree.Word.{Word}
use Rattle.smv_core.specs.declared.tree.Text.{Text}
use Rattle.smv_core.specs.declared.tree.TypeExpr.{TypeExpr}
use Rattle.smv_core.specs.declared.tree.Stmt.{Stmt}
use Rattle.smv_core.specs.declared.tree.Item.{Item, Declare, Instance, Layer, Forall', Block', Claim, Split, Using, Act, Row_of-Item, end_of-Item, more_of-Item}
use Rattle.law_designs.specs.Entries.{Entry, layer, statement, goal, inside_binder, connections, item_entries, items_entries, instance_entries, entries_in, entries}
use Rattle.law_designs.specs.Flattening.{layer_of, layers_of, layer_number}
use Rattle.law_designs.specs.WholeText.{is_one_layer}
use Rattle.law_designs.proofs.Lookups.{places-same, any-front, any-behind}
use Rattle.law_designs.proofs.Different.{different-keeps}

abbrev pub IsListed : List Name → Option Name → Type 0
IsListed names None = Unit {0}
IsListed names (Some a) = list_any (bytes_eq a) names ≡ true

-- the layer of each statement is one of the names
abbrev pub AreListed : List Name → List Entry → Type 0
AreListed names [] = Unit {0}
AreListed names (statement x ∷ es) = IsListed names x.layer × AreListed names es
AreListed names (layer name ∷ es) = AreListed names es
AreListed names (goal i binders g ∷ es) = AreListed names es

module _ (names others : List Name) (more : (a : Name) → list_any (bytes_eq a) names ≡ true → list_any (bytes_eq a) others ≡ true) where
  listed-more : (o : Option Name) → IsListed names o → IsListed others o
  listed-more None h = tt
  listed-more (Some a) h = more a h

  all_listed-more : (es : List Entry) → AreListed names es → AreListed others es
  all_listed-more [] h = tt
  all_listed-more (layer name ∷ es) h = all_listed-more es h
  all_listed-more (goal i binders g ∷ es) h = all_listed-more es h
  all_listed-more (statement x ∷ es) h = (listed-more x.layer h.0, all_listed-more es h.1)

-- ---- each list of entries lists its layers

abbrev HasLayers : List Entry → Type 0
HasLayers es = AreListed (flat_map layer_of es) es

listed-append : (names : List Name) (es fs : List Entry) → AreListed names es → AreListed names fs → AreListed names (es ++ fs)
listed-append names [] fs h k = k
listed-append names (layer name ∷ es) fs h k = listed-append names es fs h k
listed-append names (goal i binders g ∷ es) fs h k = listed-append names es fs h k
listed-append names (statement x ∷ es) fs h k = (h.0, listed-append names es fs h.1 k)

layers-append : (es fs : List Entry) → flat_map layer_of (es ++ fs) ≡ flat_map layer_of es ++ flat_map layer_of fs
layers-append [] fs = refl
layers-append (layer name ∷ es) fs = ap (λ l. name ∷ l) (layers-append es fs)
layers-append (goal i binders g ∷ es) fs = layers-append es fs
layers-append (statement x ∷ es) fs = layers-append es fs

has-append : (es fs : List Entry) → HasLayers es → HasLayers fs → HasLayers (es ++ fs)
has-append es fs h k = subst (λ names. AreListed names (es ++ fs)) (sym (layers-append es fs))
    (listed-append (flat_map layer_of es ++ flat_map layer_of fs) es fs
    (all_listed-more (flat_map layer_of es) (flat_map layer_of es ++ flat_map layer_of fs) (λ a e. any-front (bytes_eq a) (flat_map layer_of es) (flat_map layer_of fs) e) es h)
    (all_listed-more (flat_map layer_of fs) (flat_map layer_of es ++ flat_map layer_of fs) (λ a e. any-behind (bytes_eq a) (flat_map layer_of es) (flat_map layer_of fs) e) fs k))

has-flat_map : {X : Type 0} (f : X → List Entry) → ((x : X) → HasLayers (f x)) → (xs : List X) → HasLayers (flat_map f xs)
has-flat_map f h [] = tt
has-flat_map f h (x ∷ xs) = has-append (f x) (flat_map f xs) (h x) (has-flat_map f h xs)

layers-inside : (var : Word) (over : TypeExpr) (es : List Entry) → flat_map layer_of (map (inside_binder var over) es) ≡ flat_map layer_of es
layers-inside var over [] = refl
layers-inside var over (layer name ∷ es) = ap (λ l. name ∷ l) (layers-inside var over es)
layers-inside var over (goal i binders g ∷ es) = layers-inside var over es
layers-inside var over (statement x ∷ es) = layers-inside var over es

listed-inside : (names : List Name) (var : Word) (over : TypeExpr) (es : List Entry) → AreListed names es → AreListed names (map (inside_binder var over) es)
listed-inside names var over [] h = tt
listed-inside names var over (layer name ∷ es) h = listed-inside names var over es h
listed-inside names var over (goal i binders g ∷ es) h = listed-inside names var over es h
listed-inside names var over (statement x ∷ es) h = (h.0, listed-inside names var over es h.1)

has-inside : (var : Word) (over : TypeExpr) (es : List Entry) → HasLayers es → HasLayers (map (inside_binder var over) es)
has-inside var over es h = subst (λ names. AreListed names (map (inside_binder var over) es)) (sym (layers-inside var over es)) (listed-inside (flat_map layer_of es) var over es h)

statements-listed : (names : List Name) (o : Option Name) (here : Path) (acts : List Stmt) → IsListed names o → AreListed names (map (λ act. statement (record { layer = o; instance = here; act = act })) acts)
statements-listed names o here [] h = tt
statements-listed names o here (a ∷ acts) h = (h, statements-listed names o here acts h)

own-listed : (name : Name) (more : List Name) → list_any (bytes_eq name) (name ∷ more) ≡ true
own-listed name more = ap (λ b. b || list_any (bytes_eq name) more) ((bytes_eq-Decides name name).1 refl)

module _ (types : Types) (bodies : List (Name × Body)) where
  module _ (inside : Path → Name → List Entry) (h : (here : Path) (name : Name) → HasLayers (inside here name)) (here : Path) where
    mutual
      item-has : (item : Item) → HasLayers (item_entries types bodies inside here item)
      item-has (Declare role words of at) = tt
      item-has (Instance words name args at) =
          has-flat_map (λ word. instance_entries types bodies inside here name.name args word.name)
          (λ word. has-append (map (λ act. statement (record { layer = None; instance = here; act = act })) (connections (body_of types bodies name.name) word.name args)) (inside (here ++ word.name ∷ []) name.name)
          (statements-listed _ None here (connections (body_of types bodies name.name) word.name args) tt) (h (here ++ word.name ∷ []) name.name)) words
      item-has (Layer name body at) = statements-listed (flat_map layer_of (layer name.name ∷ map (λ act. statement (record { layer = Some name.name; instance = here; act = act })) body)) (Some name.name) here body (own-listed name.name _)
      item-has (Forall' var over shape (more_of-Item body end_of-Item) at) = has-inside var over (item_entries types bodies inside here body) (item-has body)
      item-has (Block' shape items) = items-have items
      item-has (Claim name vars body at) = tt
      item-has (Split name vars of pairs at) = tt
      item-has (Using uses proves at) = tt
      item-has (Act act) = (tt, tt)

      items-have : {m : _} (items : Row_of-Item m) → HasLayers (items_entries types bodies inside here items)
      items-have end_of-Item = tt
      items-have (more_of-Item item rest) = has-append (item_entries types bodies inside here item) (items_entries types bodies inside here rest) (item-has item) (items-have rest)

  entries_in-have : (k : ℕ) (here : Path) (name : Name) → HasLayers (entries_in types bodies k here name)
  entries_in-have zero here name = tt
  entries_in-have (suc k) here name = has-flat_map (item_entries types bodies (entries_in types bodies k) here) (item-has (entries_in types bodies k) (entries_in-have k) here) (body_of types bodies name).items

-- the layer of each statement of a text is among its layers
pub layers-listed : (text : Text) → AreListed (layers_of (entries text)) (entries text)
layers-listed text =
    all_listed-more (flat_map layer_of (entries text)) (layers_of (entries text)) (λ a e. different-keeps bytes_eq bytes_eq-Decides a (flat_map layer_of (entries text)) e) (entries text)
    (entries_in-have (types_from [] text.tops) (modules text.tops) (length (modules text.tops)) [] main)

-- ---- numbers of layers

equal-false : (a b : Name) → (a ≡ b → ⊥) → bytes_eq a b ≡ false
equal-false a b h = same_tests (bytes_eq a b) false (λ e. absurd (h ((bytes_eq-Decides a b).0 e))) (λ e. absurd (cc (e)))

apart : (a b : Name) → bytes_eq a b ≡ false → a ≡ b → ⊥
apart a b e h = let same : bytes_eq a b ≡ true = (bytes_eq-Decides a b).1 h in cc (same, e)

pub layer-same : (names : List Name) (own wanted : Option Name) → IsListed names own → is_one_layer (option_map (layer_number names) wanted) (option_map (layer_number names) own) ≡ is_layer own wanted
layer-same names None None h = refl
layer-same names None (Some b) h = refl
layer-same names (Some a) None h = refl
layer-same names (Some a) (Some b) h = places-same (bytes_eq b) (bytes_eq a) (bytes_eq a b)
    (λ x p q. (bytes_eq-Decides a b).1 ((bytes_eq-Decides a x).0 q ∙ sym ((bytes_eq-Decides b x).0 p)))
    (λ x p q. equal-false a b (λ e. apart a x q (e ∙ (bytes_eq-Decides b x).0 p)))
    (λ x p q. equal-false a b (λ e. apart b x p (sym e ∙ (bytes_eq-Decides a x).0 q)))
    names h
