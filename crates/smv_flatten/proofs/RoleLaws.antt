-- The roles of formals.
use Rattle.std.proofs.Common.{◌≡◌, List, [], ◌∷◌, ◌++◌, map, Some, Bool, true, false, cond, ◌||◌, refl, ap, ◌∙◌}
use Rattle.std.specs.Prelude.{unwrap_or}
use Rattle.std.specs.Str.{bytes_eq}
use Rattle.std.specs.List.{flat_map, list_any}
use Rattle.law_lists.proofs.Lists.{map-flat_map}
use Rattle.smv_core.specs.Values.{Name}
use Rattle.smv_core.specs.Types.{Types, find_name}
use Rattle.smv_core.specs.FlatOrder.{Body, modules, role_of, body_of}
use Rattle.smv_core.specs.declared.tree.Word.{Word}
use Rattle.smv_core.specs.declared.tree.Top.{Top}
use Rattle.smv_core.specs.declared.tree.Top.TheVariants.{Module}
use Rattle.smv_core.specs.declared.tree.Role.{Role}
use Rattle.smv_core.specs.declared.tree.Role.TheVariants.{Plain}
use Rattle.smv_core.specs.declared.tree.Item.{Item, Declare}
use Rattle.smv_flatten.specs.Roles.{roles_declared, module_in, roles_of_body, roles_beside}

role-words : (a : Name) (role : Role) (words : List Word) (more : List (Name × Role)) →
    find_name (map (λ word. (word.name, role)) words ++ more) a ≡ cond (list_any (λ word. bytes_eq word.name a) words) (Some role) (find_name more a)
role-words a role [] more = refl
role-words a role (word ∷ words) more = ap (λ o. cond (bytes_eq word.name a) (Some role) o) (role-words a role words more) ∙ by (bytes_eq word.name a) (list_any (λ w. bytes_eq w.name a) words)
  where
    by : (b c : Bool) → cond b (Some role) (cond c (Some role) (find_name more a)) ≡ cond (b || c) (Some role) (find_name more a)
    by true c = refl
    by false c = refl

pub role-found : (items : List Item) (a : Name) → unwrap_or (find_name (flat_map roles_declared items) a) Plain ≡ role_of items a
role-found [] a = refl
role-found (Declare role words of at ∷ items) a =
    ap (λ o. unwrap_or o Plain) (role-words a role words (flat_map roles_declared items)) ∙ by (list_any (λ word. bytes_eq word.name a) words) ∙ ap (cond (list_any (λ word. bytes_eq word.name a) words) role) (role-found items a)
  where
    by : (b : Bool) → unwrap_or (cond b (Some role) (find_name (flat_map roles_declared items) a)) Plain ≡ cond b role (unwrap_or (find_name (flat_map roles_declared items) a) Plain)
    by true = refl
    by false = refl
role-found (_ ∷ items) a = role-found items a

pub ruleset roles = (role-found)

modules-in : (tops : List Top) → modules tops ≡ flat_map module_in tops
modules-in [] = refl
modules-in (Module word formals body at ∷ tops) = ap (λ l. (word.name, record { formals = formals; items = body }) ∷ l) (modules-in tops)
modules-in (_ ∷ tops) = modules-in tops

pub beside-in : (tops : List Top) → map roles_beside (modules tops) ≡ flat_map (λ top. map roles_beside (module_in top)) tops
beside-in tops = ap (map roles_beside) (modules-in tops) ∙ map-flat_map roles_beside module_in tops

pub ruleset tops = (beside-in)

-- the roles of the module of a name
pub roles-found : (types : Types) (bodies : List (Name × Body)) (name : Name) → unwrap_or (find_name (map roles_beside bodies) name) [] ≡ roles_of_body (body_of types bodies name)
roles-found types [] name = refl
roles-found types ((other, body) ∷ bodies) name = by (bytes_eq other name) (roles-found types bodies name)
  where
    by : (b : Bool) → unwrap_or (find_name (map roles_beside bodies) name) [] ≡ roles_of_body (body_of types bodies name) →
        unwrap_or (cond b (Some (roles_of_body body)) (find_name (map roles_beside bodies) name)) [] ≡ roles_of_body (unwrap_or (cond b (Some body) (find_name bodies name)) (record { formals = []; items = [] }))
    by true e = refl
    by false e = e
