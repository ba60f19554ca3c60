-- A text has no more entries in flat order than statements are counted, so its layers have numbers of 16 bits.
use Rattle.std.proofs.Common.{◌≡◌, ◌<◌, ◌≤◌, ◌+◌, ◌*◌, ℕ, zero, suc, List, [], ◌∷◌, ◌++◌, map, zip, length, Option, Some, None, option_map, IfSome, Bool, true, false, not, cond, refl, arith, length-append}
use Rattle.std.specs.Str.{bytes_eq}
use Rattle.std.specs.List.{AllByRecursion, flat_map, sum, prefix_len, position_or_len}
use Rattle.std.proofs.lemmas.List.{length-map}
use Rattle.std.proofs.lemmas.List.Sums.{sum_by-cons}
use Rattle.std.proofs.Math.Nat.{suc-mul}
use Rattle.law_lists.proofs.Lists.{filter_few}
use Rattle.law_lists.proofs.Each.{each_append, each_weaker}
use Rattle.smv_core.specs.Values.{Name, Path}
use Rattle.smv_core.specs.Types.{Types, types_from}
use Rattle.smv_core.specs.FlatOrder.{Body, modules, main, role_of, body_of}
use Rattle.smv_core.specs.declared.tree.Word.{Word}
use Rattle.smv_core.specs.declared.tree.Role.{Role}
use Rattle.smv_core.specs.declared.tree.Role.TheVariants.{Plain, Abstract, Input, Output}
use Rattle.smv_core.specs.declared.tree.Expr.{Expr, Signal'}
use Rattle.smv_core.specs.declared.tree.Stmt.{Stmt, Assign, Block', If', Switch', Default', For', Forall', end_of-Stmt, more_of-Stmt}
use Rattle.smv_core.specs.declared.tree.Item.{Item, Declare, Instance, Layer, Claim, Split, Using, Act, Row_of-Item, end_of-Item, more_of-Item}
use Rattle.smv_core.specs.declared.tree.Item as item
use Rattle.smv_core.specs.declared.tree.Text.{Text}
use Rattle.smv_core.specs.declared.flat.FlatItem.{FlatItem}
use Rattle.smv_core.specs.declared.flat.FlatItem.TheVariants as flat
use Rattle.smv_mentions.specs.Sizes.{Sized, sized_from, statements, statements_of_item, statements_of_items, statements_in}
use Rattle.law_designs.specs.Entries.{claim, split, using, Entry, layer, statement, goal, inside_binder, given_to, connection, connections, instance_entries, item_entries, items_entries, entries_in, entries}
use Rattle.law_designs.specs.Flattening.{different, layer_of, layers_of, layer_number, flat_assignments, with_places, flat_entry, flatten}
use Rattle.law_sound_texts.specs.NumbersFit.{IsShort}
use Rattle.law_sound_texts.proofs.Fitting.{LayerFits}

-- ---- lengths and sums

pub sum-cons : {X : Type 0} (f : X → ℕ) (x : X) (xs : List X) → sum (map f (x ∷ xs)) ≡ f x + sum (map f xs)
sum-cons f x xs = sum_by-cons (λ n. n) (f x) (map f xs)

flat-sum : {X Y : Type 0} (f : X → List Y) (g : X → ℕ) → ((x : X) → length (f x) ≤ g x) → (xs : List X) → length (flat_map f xs) ≤ sum (map g xs)
flat-sum f g h [] = omega arith
flat-sum f g h (x ∷ xs) =
    let a = h x in
    let b = flat-sum f g h xs in
    let c = length-append (f x) (flat_map f xs) in
    let d = sum-cons g x xs in
    omega (arith, a, b, c, d)

flat-times : {X Y : Type 0} (f : X → List Y) (n : ℕ) → ((x : X) → length (f x) ≤ n) → (xs : List X) → length (flat_map f xs) ≤ length xs * n
flat-times f n h [] = omega arith
flat-times f n h (x ∷ xs) =
    let a = h x in
    let b = flat-times f n h xs in
    let c = length-append (f x) (flat_map f xs) in
    let d = suc-mul (length xs) n in
    omega (arith, a, b, c, d)

-- ---- entries

-- a statement counts at least once
counted-once : (act : Stmt) → 1 ≤ statements act
counted-once (Assign kind left value at) = omega arith
counted-once (Block' shape parts) = omega arith
counted-once (If' test l (more_of-Stmt left end_of-Stmt) right at) = omega arith
counted-once (Switch' on shape arms other at) = omega arith
counted-once (Default' l (more_of-Stmt left end_of-Stmt) r (more_of-Stmt right end_of-Stmt) at) = omega arith
counted-once (For' var from to closed step shape (more_of-Stmt body end_of-Stmt) at) = omega arith
counted-once (Forall' var over shape (more_of-Stmt body end_of-Stmt) at) = omega arith

acts-few : (acts : List Stmt) → length acts ≤ sum (map statements acts)
acts-few [] = omega arith
acts-few (act ∷ acts) =
    let a = counted-once act in
    let b = acts-few acts in
    let c = sum-cons statements act acts in
    omega (arith, a, b, c)

given-one : (n a : Name) (e : Expr) → length (given_to n a e) ≤ 1
given-one n a (Signal' shape parts at) = omega arith
given-one n a _ = omega arith

connection-one : (role : Role) (n a : Name) (e : Expr) → length (connection role n a e) ≤ 1
connection-one Input n a e = omega arith
connection-one Output n a e = given-one n a e
connection-one Plain n a e = omega arith
connection-one Abstract n a e = omega arith

-- each formal has at most one connection
zipped-few : (items : List Item) (n : Name) (words : List Word) (args : List Expr) → length (flat_map (λ (p : Word × Expr). connection (role_of items p.0.name) n p.0.name p.1) (zip words args)) ≤ length words
zipped-few items n [] args = omega arith
zipped-few items n (word ∷ words) [] = omega arith
zipped-few items n (word ∷ words) (e ∷ args) =
    let a = connection-one (role_of items word.name) n word.name e in
    let b = zipped-few items n words args in
    let c = length-append (connection (role_of items word.name) n word.name e) (flat_map (λ (p : Word × Expr). connection (role_of items p.0.name) n p.0.name p.1) (zip words args)) in
    omega (arith, a, b, c)

module _ (types : Types) (known : List (Name × Sized)) (bodies : List (Name × Body)) where
  module _ (inside : Path → Name → List Entry) (counts : Name → ℕ) (few : (here : Path) (name : Name) → length (inside here name) ≤ counts name) (here : Path) where
    instance-few : (name : Name) (args : List Expr) (n : Name) → length (instance_entries types bodies inside here name args n) ≤ length (body_of types bodies name).formals + counts name
    instance-few name args n =
        let acts = connections (body_of types bodies name) n args in
        let a = zipped-few (body_of types bodies name).items n (body_of types bodies name).formals args in
        let b = few (here ++ n ∷ []) name in
        let c : length (map (λ act. statement (record { layer = None; instance = here; act = act })) acts) ≡ length acts = length-map acts _ in
        let d = length-append (map (λ act. statement (record { layer = None; instance = here; act = act })) acts) (inside (here ++ n ∷ []) name) in
        omega (arith, a, b, c, d)

    mutual
      item-few : (x : Item) → length (item_entries types bodies inside here x) ≤ statements_of_item known bodies counts x
      item-few (Declare role words of at) = omega arith
      item-few (Instance words name args at) =
          flat-times (λ (word : Word). instance_entries types bodies inside here name.name args word.name) (length (body_of types bodies name.name).formals + counts name.name) (λ word. instance-few name.name args word.name) words
      item-few (Layer name body at) =
          let a = acts-few body in
          let b : length (map (λ act. statement (record { layer = Some name.name; instance = here; act = act })) body) ≡ length body = length-map body _ in
          omega (arith, a, b)
      item-few (item.Forall' var over shape (more_of-Item body end_of-Item) at) =
          let a = item-few body in
          let b = length-map (item_entries types bodies inside here body) (inside_binder var over) in
          omega (arith, a, b)
      item-few (item.Block' shape items) = let a = items-few items in omega (arith, a)
      item-few (Claim name vars body at) = omega arith
      item-few (Split name vars of pairs at) = omega arith
      item-few (Using uses proves at) = omega arith
      item-few (Act act) = counted-once act

      items-few : {m : _} (row : Row_of-Item m) → length (items_entries types bodies inside here row) ≤ statements_of_items known bodies counts row
      items-few end_of-Item = omega arith
      items-few (more_of-Item x rest) =
          let a = item-few x in
          let b = items-few rest in
          let c = length-append (item_entries types bodies inside here x) (items_entries types bodies inside here rest) in
          omega (arith, a, b, c)

  entries-few : (n : ℕ) (here : Path) (name : Name) → length (entries_in types bodies n here name) ≤ statements_in known bodies n name
  entries-few zero here name = omega arith
  entries-few (suc n) here name =
      flat-sum (item_entries types bodies (entries_in types bodies n) here) (statements_of_item known bodies (statements_in known bodies n)) (item-few (entries_in types bodies n) (statements_in known bodies n) (entries-few n) here) (body_of types bodies name).items

pub text-few : (text : Text) → length (entries text) ≤ statements_in (sized_from [] text.tops) (modules text.tops) (length (modules text.tops)) main
text-few text = entries-few (types_from [] text.tops) (sized_from [] text.tops) (modules text.tops) (length (modules text.tops)) [] main

-- ---- layers

abbrev heads : List Entry → List Name
heads es = flat_map layer_of es

heads-few : (es : List Entry) → length (heads es) ≤ length es
heads-few [] = omega arith
heads-few (layer name ∷ es) = let a = heads-few es in omega (arith, a)
heads-few (statement x ∷ es) = let a = heads-few es in omega (arith, a)
heads-few (goal instance binders g ∷ es) = let a = heads-few es in omega (arith, a)

-- where there is a statement, this number is below that one
abbrev IsLess : ℕ → ℕ → Entry → Type 0
IsLess h n (statement x) = h < n
IsLess h n _ = Unit {0}

less-kept : (h n i m : ℕ) → h ≡ i → n ≡ m → (e : Entry) → IsLess h n e → IsLess i m e
less-kept h n i m p q (layer name) less = tt
less-kept h n i m p q (statement x) less = omega (arith, p, q, less)
less-kept h n i m p q (goal instance binders g) less = tt

-- each statement is one entry that is no head of a layer
less-each : (es : List Entry) (h n : ℕ) → h ≤ n → AllByRecursion (IsLess (h + length (heads es)) (n + length es)) es
less-each [] h n le = tt
less-each (layer name ∷ es) h n le =
    (tt, each_weaker (IsLess (h + 1 + length (heads es)) (n + 1 + length es)) _ (less-kept (h + 1 + length (heads es)) (n + 1 + length es) _ _ (omega arith) (omega arith)) es (less-each es (h + 1) (n + 1) (omega (arith, le))))
less-each (statement x ∷ es) h n le =
    (let a = heads-few es in omega (arith, a, le), each_weaker (IsLess (h + length (heads es)) (n + 1 + length es)) _ (less-kept (h + length (heads es)) (n + 1 + length es) _ _ refl (omega arith)) es (less-each es h (n + 1) (omega (arith, le))))
less-each (goal instance binders g ∷ es) h n le =
    (tt, each_weaker (IsLess (h + length (heads es)) (n + 1 + length es)) _ (less-kept (h + length (heads es)) (n + 1 + length es) _ _ refl (omega arith)) es (less-each es h (n + 1) (omega (arith, le))))

different-few : {X : Type 0} (same : X → X → Bool) (xs : List X) → length (different same xs) ≤ length xs
different-few same [] = omega arith
different-few same (x ∷ xs) = let a = different-few same xs in let b = filter_few (λ y. not (same x y)) (different same xs) in omega (arith, a, b)

position-most : {X : Type 0} (p : X → Bool) (xs : List X) → position_or_len p xs ≤ length xs
position-most p [] = omega arith
position-most p (x ∷ xs) = by_test (p x) (position-most p xs)
  where
    by_test : (b : Bool) → position_or_len p xs ≤ length xs → cond (not b) (1 + prefix_len (λ y. not (p y)) xs) 0 ≤ suc (length xs)
    by_test true h = omega arith
    by_test false h = omega (arith, h)

module _ (text : Text) (layers : List Name) where
  number-fits : (o : Option Name) → length layers < 65536 → IfSome (option_map (layer_number layers) o) IsShort
  number-fits None lt = tt
  number-fits (Some name) lt = let a = position-most (bytes_eq name) layers in omega (arith, a, lt)

  entry-fits : (h n : ℕ) → length layers ≤ h → n ≤ 65536 → (e : Entry) → IsLess h n e → AllByRecursion LayerFits (flat_entry text layers e)
  entry-fits h n a b (layer name) less = tt
  entry-fits h n a b (statement x) less = (number-fits x.layer (omega (arith, a, b, less)), tt)
  entry-fits h n a b (goal instance binders (claim word vars body at)) less = (tt, tt)
  entry-fits h n a b (goal instance binders (split word vars of pairs at)) less = (tt, tt)
  entry-fits h n a b (goal instance binders (using uses proves at)) less = (tt, tt)

  entries-fit : (h n : ℕ) → length layers ≤ h → n ≤ 65536 → (es : List Entry) → AllByRecursion (IsLess h n) es → AllByRecursion LayerFits (flat_map (flat_entry text layers) es)
  entries-fit h n a b [] less = tt
  entries-fit h n a b (e ∷ es) less = each_append LayerFits (flat_entry text layers e) (flat_map (flat_entry text layers) es) (entry-fits h n a b e less.0) (entries-fit h n a b es less.1)

places-fit : (k : ℕ) (items : List FlatItem) → AllByRecursion LayerFits items → AllByRecursion LayerFits (with_places k items)
places-fit k [] h = tt
places-fit k (flat.Act number act ∷ items) h = (h.0, places-fit (k + length (flat_assignments act)) items h.1)
places-fit k (flat.Claim c ∷ items) h = (h.0, places-fit (k + 1) items h.1)
places-fit k (flat.Split s ∷ items) h = (h.0, places-fit k items h.1)
places-fit k (flat.Using u ∷ items) h = (h.0, places-fit k items h.1)

-- the numbers of layers fit where there are not too many entries
pub layers-fit : (text : Text) → length (entries text) ≤ 65536 → AllByRecursion LayerFits (flatten text).items
layers-fit text le =
    let es = entries text in
    let layers = layers_of es in
    places-fit 0 (flat_map (flat_entry text layers) es)
    (entries-fit text layers (0 + length (heads es)) (0 + length es) (let a = different-few bytes_eq (heads es) in omega (arith, a)) (omega (arith, le)) es (less-each es 0 0 (omega arith)))
