-- The numbers of set types, enumerations and families are first places, or one above the last.
use Rattle.std.proofs.Common.{◌≡◌, ℕ, suc, ◌+◌, List, [], ◌∷◌, length, map, Bool, true, false, cond, not, refl, ap, sym, ◌∙◌, arith}
use Rattle.std.specs.Prelude.{Option, Some, None, option_map, unwrap_or}
use Rattle.std.specs.List.{position_or_len}
use Rattle.std.specs.Str.{bytes_eq}
use Rattle.law_lists.proofs.Booleans.{same_tests}
use Rattle.smv_core.specs.Values.{Name, Path}
use Rattle.smv_core.specs.Types.{Family}
use Rattle.smv_core.specs.Outcome.{same_path}
use Rattle.smv_core.specs.declared.flat.SetInfo.{SetInfo}
use Rattle.law_designs.specs.Numbers.{Scope, set_number}
use Rattle.law_designs.proofs.TypeNumbers.{paths-decide}
use Rattle.name_index.specs.Position.{position}
use Rattle.smv_flatten_families.specs.Paths.{first_place}

step : (b : Bool) (o : Option ℕ) (len n : ℕ) → unwrap_or o len ≡ n → unwrap_or (cond b (Some 0) (option_map suc o)) (suc len) ≡ cond (not b) (1 + n) 0
step true o len n e = refl
step false None len n e = omega (arith, e)
step false (Some i) len n e = omega (arith, e)

pub set-place : (infos : List SetInfo) (name : Name) → unwrap_or (position (map (λ info. info.name) infos) name) (length infos) ≡ position_or_len (λ info. bytes_eq info.name name) infos
set-place [] name = refl
set-place (info ∷ infos) name = step (bytes_eq info.name name) (position (map (λ info. info.name) infos) name) (length infos) _ (set-place infos name)

pub path-sym : (p q : Path) → same_path p q ≡ same_path q p
path-sym p q = same_tests (same_path p q) (same_path q p) (λ e. (paths-decide q p).1 (sym ((paths-decide p q).0 e))) (λ e. (paths-decide p q).1 (sym ((paths-decide q p).0 e)))

pub list-place : (lists : List Path) (names : Path) → unwrap_or (first_place lists names) (length lists) ≡ position_or_len (same_path names) lists
list-place [] names = refl
list-place (l ∷ lists) names =
    step (same_path l names) (first_place lists names) (length lists) _ (list-place lists names) ∙ ap (λ b. cond (not b) (1 + position_or_len (same_path names) lists) 0) (path-sym l names)

pub family-place : (families : List Family) (path : Path) → unwrap_or (first_place (map (λ f. f.path) families) path) (length families) ≡ position_or_len (λ f. same_path f.path path) families
family-place [] path = refl
family-place (f ∷ families) path = step (same_path f.path path) (first_place (map (λ f. f.path) families) path) (length families) _ (family-place families path)

-- ---- as they are looked up

pub set-found : (scope : Scope) (names : List Name) (count : ℕ) (name : Name) (found : Option ℕ) → names ≡ map (λ info. info.name) scope.sets → count ≡ length scope.sets → found ≡ position names name
    → unwrap_or found count ≡ set_number scope name
set-found scope names count name found same long is =
    ap (λ o. unwrap_or o count) (is ∙ ap (λ l. position l name) same) ∙ ap (unwrap_or (position (map (λ info. info.name) scope.sets) name)) long ∙ set-place scope.sets name

pub list-found : (lists : List Path) (count : ℕ) (names : Path) (found : Option ℕ) → count ≡ length lists → found ≡ first_place lists names → unwrap_or found count ≡ position_or_len (same_path names) lists
list-found lists count names found long is = ap (λ o. unwrap_or o count) is ∙ ap (unwrap_or (first_place lists names)) long ∙ list-place lists names
