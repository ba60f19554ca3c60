-- The claims of a name, each with what the innermost binder of the variable names where the variable is one of its parameters.
use Rattle.std.specs.Prelude.{List, [], ◌∷◌, ◌++◌, flat_map, Option, Some, None, if◌then◌else◌}
use Rattle.std.specs.List.{list_any}
use Rattle.std.specs.Str.{bytes_eq}
use Rattle.smv_core.specs.Values.{Name}
use Rattle.smv_core.specs.FlatOrder.{main}
use Rattle.smv_core.specs.declared.tree.Word.{Word}
use Rattle.smv_core.specs.declared.tree.Top.{Top}
use Rattle.smv_core.specs.declared.tree.Top.TheVariants.{Module}
use Rattle.smv_core.specs.declared.tree.TypeExpr.{TypeExpr, Named}
use Rattle.smv_core.specs.declared.tree.Item.{Item, Forall', Block', Claim, Row_of-Item, end_of-Item, more_of-Item}
use Rattle.smv_strengthen.specs.declared.claims.Candidate.{Candidate}

-- the name of a type that is one name
abbrev pub type_name : Option TypeExpr → Option Name
type_name (Some (Named word at)) = Some word.name
type_name _ = None

-- what the innermost binder of the variable names, inside one binder more
abbrev pub inside : Name → Option Name → Word → TypeExpr → Option Name
inside var set word over = if bytes_eq word.name var then type_name (Some over) else set

-- the same, if the variable is one of these names
abbrev pub of_parameter : Name → Option Name → List Word → Option Name
of_parameter var set vars = if list_any (λ v. bytes_eq v.name var) vars then set else None

-- a claim with these names in its brackets
abbrev pub candidate : Name → Option Name → Word → List Word → Candidate
candidate var set word vars = record { at = word.at; set = of_parameter var set vars }

module _ (name var : Name) where
  unfoldable mutual
    -- the claims of the name in an item, under binders and blocks
    pub candidates : Option Name → Item → List Candidate
    candidates set (Forall' word over shape (more_of-Item body end_of-Item) at) = candidates (inside var set word over) body
    candidates set (Block' shape items) = all_candidates set items
    candidates set (Claim word vars body at) = if bytes_eq word.name name then candidate var set word vars ∷ [] else []
    candidates set _ = []

    pub all_candidates : {m : _} → Option Name → Row_of-Item m → List Candidate
    all_candidates set end_of-Item = []
    all_candidates set (more_of-Item item rest) = candidates set item ++ all_candidates set rest

  -- those of a module `main`
  abbrev pub top_candidates : Top → List Candidate
  top_candidates (Module word formals body at) = if bytes_eq word.name main then flat_map (candidates None) body else []
  top_candidates _ = []
