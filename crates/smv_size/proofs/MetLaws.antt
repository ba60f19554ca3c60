-- Statements of items that are made of lists and values.
use Rattle.std.proofs.Common.{◌≡◌, ℕ, ◌+◌, ◌<◌, List, [], ◌∷◌, ◌++◌, map, take, length, get_or, flat_map, sum, sum_by, refl, ap, sym, ◌∙◌, arith}
use Rattle.std.proofs.lemmas.List.{take_more, map-append}
use Rattle.std.proofs.lemmas.Grind.{common_steps}
use Rattle.std.proofs.lemmas.List.Sums.{sum-map}
use Rattle.smv_core.specs.Values.{Name}
use Rattle.smv_core.specs.FlatOrder.{Body, modules}
use Rattle.smv_core.specs.declared.tree.Top.{Top}
use Rattle.smv_core.specs.declared.tree.Top.TheVariants.{SetType, Alias, Module}
use Rattle.smv_core.specs.declared.tree.Word.{Word}
use Rattle.smv_core.specs.declared.tree.TypeExpr.{TypeExpr}
use Rattle.smv_core.specs.declared.tree.Stmt.{Stmt}
use Rattle.smv_core.specs.declared.tree.Item.{Item, Layer, Forall, Block, Block', Row_of-Item, end_of-Item, more_of-Item, items-the_row-Item, items_hidden-the_row-Item-1}
use mathlib.Core.Former.{Count}
use Rattle.smv_mentions.specs.Sizes.{Sized, statements, statements_of_item, statements_of_items}
use Rattle.smv_mentions.proofs.Computing.{computing}

pub sum-turn : {A : Type 0} (f : A → ℕ) (xs : List A) (i : ℕ) (x : A) → i < length xs → x ≡ get_or xs i x → sum (map f (take i xs)) + f x ≡ sum (map f (take (i + 1) xs))
sum-turn {A} f xs i x h at =
    let rest : take (i + 1) xs ≡ take i xs ++ x ∷ [] = take_more xs i x h ∙ ap (λ (y : A). take i xs ++ y ∷ []) (sym at) in
    sym (ap (λ l. sum (map f l)) rest ∙ ap sum (map-append f (take i xs) (x ∷ [])) ∙ (grind (arith, common_steps)))

pub sum_by-sum : {A : Type 0} (f : A → ℕ) (xs : List A) → sum_by f xs ≡ sum (map f xs)
sum_by-sum f xs = sym (sum-map f xs)

-- the modules of some tops
pub modules-append : (xs ys : List Top) → modules (xs ++ ys) ≡ modules xs ++ modules ys
modules-append [] ys = refl
modules-append (SetType word ordered span at ∷ xs) ys = modules-append xs ys
modules-append (Alias word of at ∷ xs) ys = modules-append xs ys
modules-append (Module word formals body at ∷ xs) ys = ap (λ l. (word.name, record { formals = formals; items = body }) ∷ l) (modules-append xs ys)

-- one top more in a loop
pub modules-turn : {X : Type 0} (f : Name × Body → X) (tops : List Top) (i : ℕ) (top : Top) → i < length tops → top ≡ get_or tops i top
    → map f (modules (take i tops)) ++ map f (modules (top ∷ [])) ≡ map f (modules (take (i + 1) tops))
modules-turn f tops i top h at =
    let rest : take (i + 1) tops ≡ take i tops ++ top ∷ [] = take_more tops i top h ∙ ap (λ (y : Top). take i tops ++ y ∷ []) (sym at) in
    sym (ap (λ l. map f (modules l)) rest ∙ ap (map f) (modules-append (take i tops) (top ∷ [])) ∙ map-append f (modules (take i tops)) (modules (top ∷ [])))

-- one module more in a loop
pub map-turn : {A B X : Type 0} (f : B → X) (g : A → B) (xs : List A) (i : ℕ) (x : A) (before : List X) → i < length xs → x ≡ get_or xs i x → before ≡ map f (map g (take i xs))
    → before ++ f (g x) ∷ [] ≡ map f (map g (take (i + 1) xs))
map-turn {A} f g xs i x before h at e =
    let rest : take (i + 1) xs ≡ take i xs ++ x ∷ [] = take_more xs i x h ∙ ap (λ (y : A). take i xs ++ y ∷ []) (sym at) in
    ap (λ l. l ++ f (g x) ∷ []) e
    ∙ sym (ap (λ l. map f (map g l)) rest ∙ ap (map f) (map-append g (take i xs) (x ∷ [])) ∙ map-append f (map g (take i xs)) (g x ∷ []))

pub map-flat_map : {A X Y : Type 0} (f : X → Y) (xs : List X) (words : List A) → map f (flat_map (λ word. xs) words) ≡ flat_map (λ word. map f xs) words
map-flat_map f xs [] = refl
map-flat_map {A} f xs (w ∷ words) = map-append f xs (flat_map (λ (word : A). xs) words) ∙ ap (λ l. map f xs ++ l) (map-flat_map f xs words)

module _ (known : List (Name × Sized)) (bodies : List (Name × Body)) (inside : Name → ℕ) where
  abbrev count : Item → ℕ
  count item = statements_of_item known bodies inside item

  items-row : (n : _) (row : Row_of-Item n) → statements_of_items known bodies inside row ≡ sum (map count (items-the_row-Item n row))
  items-row n end_of-Item = refl
  items-row n (more_of-Item part rest) = ap (λ k. count part + k) (items-row _ rest) ∙ (grind (arith, common_steps))

  abbrev items_of : Item → (n : Count) × Row_of-Item n
  items_of (Block' shape row) = (_, row)
  items_of _ = (_, end_of-Item)

  pub met-Block : (items : List Item) → count (Block items) ≡ 1 + sum (map count items)
  met-Block items = ap (λ k. 1 + k) (items-row (items_of (Block items)).0 (items_of (Block items)).1 ∙ ap (λ l. sum (map count l)) (items_hidden-the_row-Item-1 items))

  pub met-Forall : (var : Word) (over : TypeExpr) (body : Item) (at : ℕ) → count (Forall var over body at) ≡ 1 + count body
  unfolding computing
  met-Forall var over body at = refl

  pub met-Layer : (word : Word) (body : List Stmt) (at : ℕ) → count (Layer word body at) ≡ 1 + sum_by statements body
  met-Layer word body at = ap (λ k. 1 + k) (sym (sum_by-sum statements body))
