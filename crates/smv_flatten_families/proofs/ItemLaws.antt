-- The families of instances and items.
use Rattle.std.proofs.Common.{◌≡◌, ℕ, zero, suc, ◌-◌, List, [], ◌∷◌, ◌++◌, map, flat_map, length, drop, ◌≤◌, refl, ap, sym, ◌∙◌, arith}
use Rattle.std.specs.Prelude.{unwrap_or}
use Rattle.std.proofs.lemmas.List.{append-nil}
use Rattle.std.proofs.Math.Seq.{take-length}
use Rattle.law_lists.proofs.Lists.{map-flat_map, flat_map_agree}
use Rattle.law_lists.proofs.Places.{drop_past}
use Rattle.smv_core.specs.Values.{Name, Path}
use Rattle.smv_core.specs.Types.{Shape, shape_of, find_name}
use Rattle.smv_core.specs.FlatOrder as order
use Rattle.smv_core.specs.FlatOrder.{is_abstract_role, declared_as}
use Rattle.smv_core.specs.declared.tree.Text.{Text}
use Rattle.smv_core.specs.declared.tree.Word.{Word}
use Rattle.smv_core.specs.declared.tree.Role.{Role}
use Rattle.smv_core.specs.declared.tree.Expr.{Expr}
use Rattle.smv_core.specs.declared.tree.Stmt.{Stmt}
use Rattle.smv_core.specs.declared.tree.Ref.{Ref}
use Rattle.smv_core.specs.declared.tree.Use.{Use}
use Rattle.smv_core.specs.declared.tree.Pair.{Pair}
use Rattle.smv_core.specs.declared.tree.TypeExpr.{TypeExpr}
use Rattle.smv_core.specs.declared.tree.Item.{Item, Declare, Instance, Layer, Forall, Block, Claim, Split, Using, Act}
use Rattle.law_designs.specs.Entries.{placed_in, placed_of_item}
use Rattle.smv_flatten_families.specs.Types.{leaf_of, types_of, leaves}
use Rattle.smv_flatten_families.specs.Families.{InPlace, placed_family, placed_leaf, no_body, instance_places, item_places}

declared-leaves : (text : Text) (role : Role) (path : Path) (at : ℕ) (s : Shape)
    → map (placed_family text) (map (λ f. (declared_as role path f, at)) s) ≡ map (placed_leaf path [] (is_abstract_role role) at) (map (leaf_of text) s)
declared-leaves text role path at [] = refl
declared-leaves text role path at (f ∷ s) = ap (λ l. placed_family text (declared_as role path f, at) ∷ l) (declared-leaves text role path at s)

module _ (text : Text) (left : ℕ) (here : Path) where
  pub item-Declare : (role : Role) (words : List Word) (of : TypeExpr) (at : ℕ)
      → item_places text left here (Declare role words of at) ≡ flat_map (λ word. map (placed_leaf (here ++ word.name ∷ []) [] (is_abstract_role role) word.at) (leaves text (length (types_of text)) of)) words
  unfolding item_places leaves
  item-Declare role words of at =
      map-flat_map (placed_family text) (λ word. map (λ f. (declared_as role (here ++ word.name ∷ []) f, word.at)) (shape_of (types_of text) of)) words
      ∙ flat_map_agree _ _ (λ word. declared-leaves text role (here ++ word.name ∷ []) word.at (shape_of (types_of text) of)) words
      ∙ ap (λ types. flat_map (λ word. map (placed_leaf (here ++ word.name ∷ []) [] (is_abstract_role role) word.at) (map (leaf_of text) (shape_of types of))) words) (sym (take-length (types_of text)))

  pub item-Instance : (words : List Word) (name : Word) (args : List Expr) (at : ℕ)
      → item_places text left here (Instance words name args at) ≡ flat_map (λ word. instance_places text left (here ++ word.name ∷ []) name.name) words
  unfolding item_places instance_places
  item-Instance words name args at = map-flat_map (placed_family text) (λ word. placed_in (types_of text) (order.modules text.tops) left (here ++ word.name ∷ []) name.name) words

  pub item-Layer : (name : Word) (body : List Stmt) (at : ℕ) → item_places text left here (Layer name body at) ≡ []
  unfolding item_places
  item-Layer name body at = refl

  pub item-Forall : (var : Word) (over : TypeExpr) (body : Item) (at : ℕ) → item_places text left here (Forall var over body at) ≡ []
  unfolding item_places
  item-Forall var over body at = refl

  pub item-Block : (items : List Item) → item_places text left here (Block items) ≡ []
  unfolding item_places
  item-Block items = refl

  pub item-Claim : (name : Word) (vars : List Word) (body : Expr) (at : ℕ) → item_places text left here (Claim name vars body at) ≡ []
  unfolding item_places
  item-Claim name vars body at = refl

  pub item-Split : (name : Word) (vars : List Word) (of : Ref) (pairs : List Pair) (at : ℕ) → item_places text left here (Split name vars of pairs at) ≡ []
  unfolding item_places
  item-Split name vars of pairs at = refl

  pub item-Using : (uses : List Use) (proves : List Ref) (at : ℕ) → item_places text left here (Using uses proves at) ≡ []
  unfolding item_places
  item-Using uses proves at = refl

  pub item-Act : (act : Stmt) → item_places text left here (Act act) ≡ []
  unfolding item_places
  item-Act act = refl

pub ruleset equations = (item-Declare, item-Instance, item-Layer, item-Forall, item-Block, item-Claim, item-Split, item-Using, item-Act)

-- an instance, one level down
pub instance-none : (text : Text) (here : Path) (name : Name) → instance_places text 0 here name ≡ []
unfolding instance_places
instance-none text here name = refl

pub instance-items : (text : Text) (left : ℕ) (here : Path) (name : Name)
    → instance_places text (suc left) here name ≡ flat_map (item_places text left here) (unwrap_or (find_name (order.modules text.tops) name) no_body).items
unfolding instance_places item_places
instance-items text left here name =
    map-flat_map (placed_family text) (placed_of_item (types_of text) (order.modules text.tops) (placed_in (types_of text) (order.modules text.tops) left) here)
    (unwrap_or (find_name (order.modules text.tops) name) no_body).items

-- where all items of a module were gone through
pub instance-done : (text : Text) (left : ℕ) (here : Path) (name : Name) (done old : List InPlace) (items : List Item) (i : ℕ) → (left ≡ 0 → ⊥) → length items ≤ i
    → items ≡ (unwrap_or (find_name (order.modules text.tops) name) no_body).items
    → done ++ flat_map (item_places text (left - 1) here) (drop i items) ≡ old ++ flat_map (item_places text (left - 1) here) items
    → done ≡ old ++ instance_places text left here name
instance-done text zero here name done old items i some all are known = absurd (some refl)
instance-done text (suc left) here name done old items i some all are known =
    let down : suc left - 1 ≡ left = omega arith in
    sym (append-nil done) ∙ ap (λ l. done ++ flat_map (item_places text (suc left - 1) here) l) (sym (drop_past items i all)) ∙ known
    ∙ ap (λ n. old ++ flat_map (item_places text n here) items) down ∙ ap (λ l. old ++ flat_map (item_places text left here) l) are ∙ ap (λ l. old ++ l) (sym (instance-items text left here name))
