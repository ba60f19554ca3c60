-- The module of a name, as it is held.
use Rattle.std.proofs.Common.{◌≡◌, List, [], ◌∷◌, Bool, true, false, cond, map, ◌++◌, ◌+◌, length, refl, ap, sym, ◌∙◌, arith}
use Rattle.std.specs.Prelude.{Option, Some, option_map, unwrap_or}
use Rattle.std.specs.Str.{bytes_eq}
use Rattle.smv_core.specs.Values.{Name}
use Rattle.smv_core.specs.Types.{find_name}
use Rattle.smv_core.specs.FlatOrder as order
use Rattle.smv_core.specs.declared.tree.Top.{Top}
use Rattle.smv_core.specs.declared.tree.Top.TheVariants.{SetType, Alias, Module}
use Rattle.smv_flatten_families.specs.declared.numbers.Body.{Body}
use Rattle.smv_flatten_families.specs.Families.{body_now, body_beside, no_body}

-- what stands beside a name, where each thing that stands there is seen in another way
pub find_name-map : {X Y : Type 0} (f : X → Y) (pairs : List (Name × X)) (name : Name) → find_name (map (λ pair. (pair.0, f pair.1)) pairs) name ≡ option_map f (find_name pairs name)
find_name-map f [] name = refl
find_name-map {X} f (pair ∷ pairs) name = by (bytes_eq pair.0 name) (find_name-map f pairs name)
  where
    by : (b : Bool) → find_name (map (λ pair. (pair.0, f pair.1)) pairs) name ≡ option_map f (find_name pairs name)
        → cond b (Some (f pair.1)) (find_name (map (λ pair. (pair.0, f pair.1)) pairs) name) ≡ option_map f (cond b (Some pair.1) (find_name pairs name))
    by true rest = refl
    by false rest = rest

-- a module that is found, or the empty one
pub body-found : (held : List (Name × Body)) (bodies : List (Name × order.Body)) (name : Name) (found : Option Body) → map body_beside held ≡ bodies → found ≡ find_name held name
    → unwrap_or (option_map body_now found) (record { formals = []; items = [] }) ≡ unwrap_or (find_name bodies name) (record { formals = []; items = [] })
body-found held bodies name found same is =
    ap (λ o. unwrap_or (option_map body_now o) (record { formals = []; items = [] })) is
    ∙ ap (λ o. unwrap_or o (record { formals = []; items = [] })) (sym (find_name-map body_now held name))
    ∙ ap (λ l. unwrap_or (find_name l name) (record { formals = []; items = [] })) same

-- the same, found or not
pub module-is : (held : List (Name × Body)) (name : Name) (found : Option Body) → found ≡ find_name held name → unwrap_or (option_map body_now found) no_body ≡ unwrap_or (find_name (map body_beside held) name) no_body
module-is held name found is = body-found held (map body_beside held) name found refl is

-- one top after the other
pub modules-step : (top : Top) (tops : List Top) → order.modules (top ∷ tops) ≡ order.modules (top ∷ []) ++ order.modules tops
modules-step (SetType word ordered span at) tops = refl
modules-step (Alias word of at) tops = refl
modules-step (Module word formals body at) tops = refl

pub count-step : (top : Top) (tops : List Top) → length (order.modules (top ∷ tops)) ≡ length (order.modules (top ∷ [])) + length (order.modules tops)
count-step (SetType word ordered span at) tops = omega arith
count-step (Alias word of at) tops = omega arith
count-step (Module word formals body at) tops = omega arith

pub ruleset steps = (modules-step, count-step)
