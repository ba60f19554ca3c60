-- What is met in flat order: families at their declarations, layers, statements, claims, splits and what is used, each in its instance.
use Rattle.std.specs.Prelude.{ℕ, zero, suc, List, [], ◌∷◌, ◌++◌, map, flat_map, length, zip, Some, None}
use Rattle.smv_core.specs.Values.{Name, Path}
use Rattle.smv_core.specs.Types.{Types, Family, shape_of, types_from}
use Rattle.smv_core.specs.FlatOrder.{Body, Said, modules, main, role_of, declared_as, body_of}
use Rattle.smv_core.specs.declared.tree.Word.{Word}
use Rattle.smv_core.specs.declared.tree.Text.{Text}
use Rattle.smv_core.specs.declared.tree.Ref.{Ref}
use Rattle.smv_core.specs.declared.tree.Use.{Use}
use Rattle.smv_core.specs.declared.tree.Pair.{Pair}
use Rattle.smv_core.specs.declared.tree.Role.{Role}
use Rattle.smv_core.specs.declared.tree.Role.TheVariants.{Input, Output}
use Rattle.smv_core.specs.declared.tree.Kind.TheVariants.{Comb}
use Rattle.smv_core.specs.declared.tree.TypeExpr.{TypeExpr}
use Rattle.smv_core.specs.declared.tree.Path.{Path as TreePath, roll-Path}
use Rattle.smv_core.specs.declared.tree.Part.{Field}
use Rattle.smv_core.specs.declared.tree.Expr.{Expr, Signal, Signal', items-the_row-Part}
use Rattle.smv_core.specs.declared.tree.Stmt.{Stmt, Assign, Forall}
use Rattle.smv_core.specs.declared.tree.Item.{Item, Declare, Instance, Layer, Forall', Block', Claim, Split, Using, Act, Row_of-Item, end_of-Item, more_of-Item}
use Rattle.law_designs.specs.Statements.{first_token}

-- the variables of the binders around something, from the outside in, each with its type
abbrev pub Binders : Type 0
Binders = List (Word × TypeExpr)

-- a claim, a split of a unit, or what is used in proofs
pub data Goal : Type 0 where
  claim : Word → List Word → Expr → ℕ → Goal
  split : Word → List Word → Ref → List Pair → ℕ → Goal
  using : List Use → List Ref → ℕ → Goal

-- what is met in flat order: the head of a layer, a statement, or a goal in an instance and inside binders
pub data Entry : Type 0 where
  layer : Name → Entry
  statement : Said → Entry
  goal : Path → Binders → Goal → Entry

-- the same inside one more binder
abbrev pub inside_binder : Word → TypeExpr → Entry → Entry
inside_binder word over (layer name) = layer name
inside_binder word over (statement x) = statement (record x { act = Forall word over x.act 0 })
inside_binder word over (goal instance binders g) = goal instance ((word, over) ∷ binders) g

-- ---- connections

-- the formal a of the instance n, `n.a`, at this place
abbrev pub formal : Name → Name → ℕ → TreePath
formal n a at = roll-Path (record { parts = Field (record { name = n; at = at }) ∷ Field (record { name = a; at = at }) ∷ []; at = at })

-- the definition `e := n.b` of the argument e
abbrev pub given_to : Name → Name → Expr → List Stmt
given_to n a (Signal' shape parts at) = Assign Comb (roll-Path (record { parts = items-the_row-Part _ parts; at = at })) (Signal (formal n a at)) at ∷ []
given_to n a _ = []

-- an input a of the instance n has the definition `n.a := e`, and an output gives its argument one; both stand at the argument
abbrev pub connection : Role → Name → Name → Expr → List Stmt
connection Input n a e = Assign Comb (formal n a (first_token e)) e (first_token e) ∷ []
connection Output n a e = given_to n a e
connection _ n a e = []

-- the connections of an instance, in the order of its formals
abbrev pub connections : Body → Name → List Expr → List Stmt
connections body n args = flat_map (λ (word, e). connection (role_of body.items word.name) n word.name e) (zip body.formals args)

module _ (types : Types) (bodies : List (Name × Body)) where
  -- ---- families

  -- the families that an item declares, each with the place of the name that declares it, where those in instances are given
  abbrev pub placed_of_item : (Path → Name → List (Family × ℕ)) → Path → Item → List (Family × ℕ)
  placed_of_item inside here (Declare role words of at) = flat_map (λ word. map (λ f. (declared_as role (here ++ word.name ∷ []) f, word.at)) (shape_of types of)) words
  placed_of_item inside here (Instance words name args at) = flat_map (λ word. inside (here ++ word.name ∷ []) name.name) words
  placed_of_item inside here _ = []

  -- the families of an instance of a module; no chain of instances inside it is longer than this number
  abbrev pub placed_in : ℕ → Path → Name → List (Family × ℕ)
  placed_in zero here name = []
  placed_in (suc n) here name = flat_map (placed_of_item (placed_in n) here) (body_of types bodies name).items

  -- ---- entries

  module _ (inside : Path → Name → List Entry) (here : Path) where
    -- an instance: its connections, and then its body
    abbrev pub instance_entries : Name → List Expr → Name → List Entry
    instance_entries name args n = map (λ act. statement (record { layer = None; instance = here; act = act })) (connections (body_of types bodies name) n args) ++ inside (here ++ n ∷ []) name

    abbrev mutual
      -- what an item says, in order
      pub item_entries : Item → List Entry
      item_entries (Declare role words of at) = []
      item_entries (Instance words name args at) = flat_map (λ word. instance_entries name.name args word.name) words
      item_entries (Layer name body at) = layer name.name ∷ map (λ act. statement (record { layer = Some name.name; instance = here; act = act })) body
      item_entries (Forall' var over shape (more_of-Item body end_of-Item) at) = map (inside_binder var over) (item_entries body)
      item_entries (Block' shape items) = items_entries items
      item_entries (Claim name vars body at) = goal here [] (claim name vars body at) ∷ []
      item_entries (Split name vars of pairs at) = goal here [] (split name vars of pairs at) ∷ []
      item_entries (Using uses proves at) = goal here [] (using uses proves at) ∷ []
      item_entries (Act act) = statement (record { layer = None; instance = here; act = act }) ∷ []

      pub items_entries : {m : _} → Row_of-Item m → List Entry
      items_entries end_of-Item = []
      items_entries (more_of-Item item rest) = item_entries item ++ items_entries rest

  -- what an instance of a module says; no chain of instances inside it is longer than this number
  abbrev pub entries_in : ℕ → Path → Name → List Entry
  entries_in zero here name = []
  entries_in (suc n) here name = flat_map (item_entries (entries_in n) here) (body_of types bodies name).items

-- the families of a text, each with the place of the name that declares it
abbrev pub placed_families : Text → List (Family × ℕ)
placed_families text = let bodies = modules text.tops in placed_in (types_from [] text.tops) bodies (length bodies) [] main

-- what a text says, from the top of `main` downwards and through each instance at its declaration
abbrev pub entries : Text → List Entry
entries text = let bodies = modules text.tops in entries_in (types_from [] text.tops) bodies (length bodies) [] main
