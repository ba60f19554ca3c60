-- The layers of what is met.
use Rattle.std.specs.Prelude.{◌≡◌, List, [], ◌∷◌, ◌++◌, if◌then◌else◌, is_some}
use Rattle.smv_core.specs.Values.{Name}
use Rattle.name_index.specs.Position.{position}
use Rattle.smv_flatten.specs.declared.leaves.What.{What}
use Rattle.smv_flatten.specs.declared.leaves.What.TheVariants.{Layer}
use Rattle.smv_flatten.specs.declared.layers.Layers.{Layers}

-- a layer more, unless it is there
abbrev pub with_layer : List Name → Name → List Name
with_layer names name = if is_some (position names name) then names else names ++ name ∷ []

-- one after the other
abbrev pub with_layers : List Name → List Name → List Name
with_layers names [] = names
with_layers names (name ∷ more) = with_layers (with_layer names name) more

-- the layer that an item is, if it is one
abbrev pub heads : What → List Name
heads (Layer name body) = name.now.name ∷ []
heads _ = []

-- the index and the names are the same
abbrev pub AreSame : Layers → Type 0
AreSame layers = layers.index ≡ layers.names
