-- The roles of formals.
use Rattle.std.specs.Prelude.{List, [], ◌∷◌, map}
use Rattle.smv_core.specs.Values.{Name}
use Rattle.smv_core.specs.FlatOrder.{Body, role_of}
use Rattle.smv_core.specs.declared.tree.Top.{Top}
use Rattle.smv_core.specs.declared.tree.Top.TheVariants.{Module}
use Rattle.smv_core.specs.declared.tree.Role.{Role}
use Rattle.smv_core.specs.declared.tree.Item.{Item, Declare}

-- the signals that an item declares, each with its role
abbrev pub roles_declared : Item → List (Name × Role)
roles_declared (Declare role words of at) = map (λ word. (word.name, role)) words
roles_declared _ = []

-- a module, by its name
abbrev pub module_in : Top → List (Name × Body)
module_in (Module word formals body at) = (word.name, record { formals = formals; items = body }) ∷ []
module_in _ = []

-- the roles of the formals of a module
abbrev pub roles_of_body : Body → List Role
roles_of_body body = map (λ word. role_of body.items word.name) body.formals

abbrev pub roles_beside : Name × Body → Name × List Role
roles_beside (name, body) = (name, roles_of_body body)
