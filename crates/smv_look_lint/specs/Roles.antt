-- Which names a text declares in a role.
use Rattle.std.specs.Prelude.{ℕ, List, [], map, flat_map, Bool, true, false, if◌then◌else◌}
use Rattle.smv_core.specs.declared.tree.Word.{Word}
use Rattle.smv_core.specs.declared.tree.Role.{Role}
use Rattle.smv_core.specs.declared.tree.Role.TheVariants.{Plain, Abstract, Input, Output}
use Rattle.smv_core.specs.declared.tree.Item.{Item, Declare}
use Rattle.smv_core.specs.declared.tree.Top.{Top}
use Rattle.smv_core.specs.declared.tree.Top.TheVariants.{Module}
use Rattle.smv_core.specs.declared.tree.Text.{Text}

abbrev pub same_role : Role → Role → Bool
same_role Plain Plain = true
same_role Abstract Abstract = true
same_role Input Input = true
same_role Output Output = true
same_role _ _ = false

module _ (wanted : Role) where
  -- the places of the names that a declaration declares in this role
  abbrev pub item_names : Item → List ℕ
  item_names (Declare role words of at) = if same_role wanted role then map (λ (word : Word). word.at) words else []
  item_names _ = []

  abbrev pub top_names : Top → List ℕ
  top_names (Module word formals body at) = flat_map item_names body
  top_names _ = []

  -- the same of a whole text
  abbrev pub names_declared : Text → List ℕ
  names_declared text = flat_map top_names text.tops
