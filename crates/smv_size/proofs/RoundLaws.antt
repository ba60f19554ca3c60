-- One round more follows all instances one module further.
use Rattle.std.proofs.Common.{◌≡◌, ℕ, zero, suc, ◌+◌, Bool, true, false, cond, List, [], ◌∷◌, map, refl, ap, sym, subst, ◌∙◌, arith, add-one}
use Rattle.std.specs.Prelude.{Option, Some, None, option_map, option_and_then, slice_get, unwrap_or}
use Rattle.std.specs.Str.{bytes_eq}
use Rattle.std.proofs.lemmas.Option.{slice_get-map}
use Rattle.name_index.specs.Position.{position}
use Rattle.smv_core.specs.Values.{Name}
use Rattle.smv_core.specs.Types.{find_name}
use Rattle.smv_core.specs.FlatOrder.{Body}
use Rattle.smv_mentions.specs.Sizes.{Sized, things_in, statements_in}
use Rattle.smv_size.specs.Summary.{module_names, module_bodies, no_module, size_named, module_told, body_told, empty_told, AreTold}
use Rattle.smv_size.specs.declared.modules.ModuleSize.{ModuleSize}

abbrev pub no_body : Body
no_body = record { formals = []; items = [] }

-- the body beside a name, by its place
pub named-body : (bodies : List (Name × Body)) (name : Name) → option_and_then (λ i. slice_get (module_bodies bodies) i) (position (module_names bodies) name) ≡ find_name bodies name
named-body [] name = refl
named-body ((other, body) ∷ bodies) name = by (bytes_eq other name) (position (module_names bodies) name) (named-body bodies name)
  where
    by : (b : Bool) (o : Option ℕ) → option_and_then (λ i. slice_get (module_bodies bodies) i) o ≡ find_name bodies name
        → option_and_then (λ i. slice_get (body ∷ module_bodies bodies) i) (cond b (Some 0) (option_map suc o)) ≡ cond b (Some body) (find_name bodies name)
    by true o rest = refl
    by false None rest = rest
    by false (Some j) rest = rest

sized-body : (h : Body → ModuleSize) (bodies : List (Name × Body)) (name : Name) → no_module ≡ h no_body
    → size_named (module_names bodies) (map h (module_bodies bodies)) name ≡ h (unwrap_or (find_name bodies name) no_body)
sized-body h bodies name none = by (position (module_names bodies) name) ∙ ap (λ o. h (unwrap_or o no_body)) (named-body bodies name)
  where
    at : (o : Option Body) → unwrap_or (option_map h o) no_module ≡ h (unwrap_or o no_body)
    at None = none
    at (Some body) = refl

    by : (o : Option ℕ) → unwrap_or (option_and_then (λ i. slice_get (map h (module_bodies bodies)) i) o) no_module ≡ h (unwrap_or (option_and_then (λ i. slice_get (module_bodies bodies) i) o) no_body)
    by None = none
    by (Some i) = ap (λ o. unwrap_or o no_module) (slice_get-map h (module_bodies bodies) i) ∙ at (slice_get (module_bodies bodies) i)

module _ (known : List (Name × Sized)) (bodies : List (Name × Body)) (names : List Name) (same : names ≡ module_names bodies) where
  -- what is told of all bodies is told of them by their names
  pub told-named : (h : Body → ModuleSize) (sizes : List ModuleSize) → no_module ≡ h no_body → sizes ≡ map h (module_bodies bodies) → (name : Name) → size_named names sizes name ≡ h (unwrap_or (find_name bodies name) no_body)
  told-named h sizes none e name = ap (λ ns. size_named ns sizes name) same ∙ ap (λ l. size_named (module_names bodies) l name) e ∙ sized-body h bodies name none

  -- with nothing in the modules, no instance is followed
  pub told-empty : (sizes : List ModuleSize) → sizes ≡ map empty_told (module_bodies bodies) → AreTold known bodies names sizes 0
  told-empty sizes e name = told-named empty_told sizes refl e name

  pub told-next : (sizes : List ModuleSize) (n : ℕ) → sizes ≡ map (body_told known bodies (things_in known bodies n) (statements_in known bodies n)) (module_bodies bodies) → AreTold known bodies names sizes (n + 1)
  told-next sizes n e name =
      told-named (body_told known bodies (things_in known bodies n) (statements_in known bodies n)) sizes refl e name ∙ ap (λ k. module_told known bodies k name) (sym (add-one n))

  -- where a round changes nothing, no later one does
  pub told-later : (sizes : List ModuleSize) → ((n : ℕ) → AreTold known bodies names sizes n → sizes ≡ map (body_told known bodies (things_in known bodies n) (statements_in known bodies n)) (module_bodies bodies))
      → (n more : ℕ) → AreTold known bodies names sizes n → AreTold known bodies names sizes (n + more)
  told-later sizes stays n zero told = let e : n ≡ n + zero = omega arith in subst (λ k. AreTold known bodies names sizes k) e told
  told-later sizes stays n (suc more) told =
      let later = told-later sizes stays n more told in
      let next = told-next sizes (n + more) (stays (n + more) later) in
      let e : n + more + 1 ≡ n + suc more = omega arith in
      subst (λ k. AreTold known bodies names sizes k) e next
