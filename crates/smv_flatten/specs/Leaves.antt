-- What items say one by one, each with the binders around it.
use Rattle.std.specs.Prelude.{◌++◌, List, [], ◌∷◌, map}
use Rattle.smv_core.specs.declared.tree.Word.{Word}
use Rattle.smv_core.specs.declared.tree.TypeExpr.{TypeExpr}
use Rattle.smv_core.specs.declared.tree.Item.{Item, Declare, Instance, Layer, Forall', Block', Claim, Split, Using, Act, Row_of-Item, end_of-Item, more_of-Item}
use Rattle.law_designs.specs.Entries.{Binders}
use Rattle.smv_flatten.specs.declared.leaves.Binder.{Binder}
use Rattle.smv_flatten.specs.declared.leaves.What.{What}
use Rattle.smv_flatten.specs.declared.leaves.What.TheVariants as noted
use Rattle.smv_flatten.specs.declared.leaves.Leaf.{Leaf}

-- The items that are neither declarations nor binders nor blocks, with the binders around each from the outside in. Instances that are declared together are apart; the places of instances and layers
-- say nothing and are left out.
unfoldable mutual
  pub leaves : Binders → Item → List (Binders × Item)
  leaves around (Declare role words of at) = []
  leaves around (Instance words name args at) = map (λ word. (around, Instance (word ∷ []) name args 0)) words
  leaves around (Layer name body at) = (around, Layer name body 0) ∷ []
  leaves around (Forall' var over shape (more_of-Item body end_of-Item) at) = leaves (around ++ (var, over) ∷ []) body
  leaves around (Block' shape items) = leaves_in around items
  leaves around (Claim name vars body at) = (around, Claim name vars body at) ∷ []
  leaves around (Split name vars of pairs at) = (around, Split name vars of pairs at) ∷ []
  leaves around (Using uses proves at) = (around, Using uses proves at) ∷ []
  leaves around (Act act) = (around, Act act) ∷ []

  pub leaves_in : {m : _} → Binders → Row_of-Item m → List (Binders × Item)
  leaves_in around end_of-Item = []
  leaves_in around (more_of-Item item rest) = leaves around item ++ leaves_in around rest

-- binders as they are held
abbrev pub binder_of : Binder → Word × TypeExpr
binder_of binder = (binder.word.now, binder.over.now)

abbrev pub binders_of : List Binder → Binders
binders_of binders = map binder_of binders

-- an item as it is held
abbrev pub item_of : What → Item
item_of (noted.Instance name of args) = Instance (name.now ∷ []) of.now args.now 0
item_of (noted.Layer name body) = Layer name.now body.now 0
item_of (noted.Claim name vars body at) = Claim name.now vars.now body.now at
item_of (noted.Split name vars of pairs at) = Split name.now vars.now of.now pairs.now at
item_of (noted.Using uses proves at) = Using uses.now proves.now at
item_of (noted.Act act) = Act act.now

abbrev pub leaf_of : Leaf → Binders × Item
leaf_of leaf = (binders_of leaf.around.items, item_of leaf.what)
