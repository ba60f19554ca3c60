-- The constants of lists, found by their names.
use Rattle.std.proofs.Common.{◌≡◌, ℕ, suc, ◌+◌, List, [], ◌∷◌, ◌++◌, length, get_or, Bool, true, false, cond, not, ◌||◌, refl, ap, sym, ◌∙◌, arith}
use Rattle.std.specs.Prelude.{Option, Some, None}
use Rattle.std.specs.List.{list_any, position_or_len}
use Rattle.std.specs.Str.{bytes_eq}
use Rattle.std.proofs.lemmas.Slice.Eq.{bytes_eq-Decides}
use Rattle.law_lists.proofs.Booleans.{same_tests}
use Rattle.smv_core.specs.Values.{Name, Path}
use Rattle.smv_core.specs.Types.{find_name}
use Rattle.smv_core.specs.declared.flat.FlatExpr.{Constant as FlatConstant}
use Rattle.law_designs.specs.Numbers.{Scope, constant_in}
use Rattle.smv_flatten_families.specs.Lists.{constants_of_list, constants_from}
use Rattle.smv_flatten_families.specs.Found.{lone_name}
use Rattle.smv_flatten_families.specs.declared.enums.Constant.{Constant}

name-sym : (a b : Name) → bytes_eq a b ≡ bytes_eq b a
name-sym a b = same_tests (bytes_eq a b) (bytes_eq b a) (λ e. (bytes_eq-Decides b a).1 (sym ((bytes_eq-Decides a b).0 e))) (λ e. (bytes_eq-Decides a b).1 (sym ((bytes_eq-Decides b a).0 e)))

abbrev pub held : ℕ → ℕ → Constant
held list value = record { list = list; value = value }

-- a constant of the first list, or one of the others
in-list : (list k : ℕ) (names : List Name) (more : List (Name × Constant)) (name : Name)
    → find_name (constants_of_list list k names ++ more) name ≡ cond (list_any (bytes_eq name) names) (Some (held list (k + position_or_len (bytes_eq name) names))) (find_name more name)
in-list list k [] more name = refl
in-list list k (x ∷ names) more name =
    ap (λ b. cond b (Some (held list k)) (find_name (constants_of_list list (k + 1) names ++ more) name)) (name-sym x name) ∙ by (bytes_eq name x) (in-list list (k + 1) names more name)
  where
    ahead : (b : Bool) (o : Option Constant) (m n : ℕ) → m ≡ n → cond b (Some (held list m)) o ≡ cond b (Some (held list n)) o
    ahead b o m n e = ap (λ n. cond b (Some (held list n)) o) e

    by : (b : Bool)
        → find_name (constants_of_list list (k + 1) names ++ more) name ≡ cond (list_any (bytes_eq name) names) (Some (held list ((k + 1) + position_or_len (bytes_eq name) names))) (find_name more name)
        → cond b (Some (held list k)) (find_name (constants_of_list list (k + 1) names ++ more) name)
        ≡ cond (b || list_any (bytes_eq name) names) (Some (held list (k + cond (not b) (1 + position_or_len (bytes_eq name) names) 0))) (find_name more name)
    by true ih = let e : k ≡ k + 0 = omega arith in ap (λ n. Some (held list n)) e
    by false ih =
        ih ∙ ahead (list_any (bytes_eq name) names) (find_name more name) ((k + 1) + position_or_len (bytes_eq name) names) (k + (1 + position_or_len (bytes_eq name) names)) (omega arith)

module _ (name : Name) where
  abbrev has : List Name → Bool
  has = list_any (bytes_eq name)

  abbrev place : List (List Name) → ℕ
  place lists = position_or_len has lists

  -- the first constant of a name
  pub constant-found : (n : ℕ) (lists : List (List Name))
      → find_name (constants_from n lists) name ≡ cond (list_any has lists) (Some (held (n + place lists) (position_or_len (bytes_eq name) (get_or lists (place lists) [])))) None
  constant-found n [] = refl
  constant-found n (names ∷ lists) = in-list n 0 names (constants_from (n + 1) lists) name ∙ by (has names) (constant-found (n + 1) lists)
    where
      by : (b : Bool) → find_name (constants_from (n + 1) lists) name ≡ cond (list_any has lists) (Some (held ((n + 1) + place lists) (position_or_len (bytes_eq name) (get_or lists (place lists) [])))) None
          → cond b (Some (held n (0 + position_or_len (bytes_eq name) names))) (find_name (constants_from (n + 1) lists) name)
          ≡ cond (b || list_any has lists) (Some (held (n + cond (not b) (1 + place lists) 0) (position_or_len (bytes_eq name) (get_or (names ∷ lists) (cond (not b) (1 + place lists) 0) [])))) None
      by true ih =
          let e : n ≡ n + 0 = omega arith in
          let f : 0 + position_or_len (bytes_eq name) names ≡ position_or_len (bytes_eq name) names = omega arith in
          ap (λ m. Some (held n m)) f ∙ ap (λ m. Some (held m (position_or_len (bytes_eq name) names))) e
      by false ih =
          let e : (n + 1) + place lists ≡ n + (1 + place lists) = omega arith in
          let f : 1 + place lists ≡ suc (place lists) = omega arith in
          ih ∙ ap (λ m. cond (list_any has lists) (Some (held m (position_or_len (bytes_eq name) (get_or lists (place lists) [])))) None) e
          ∙ ap (λ m. cond (list_any has lists) (Some (held (n + (1 + place lists)) (position_or_len (bytes_eq name) (get_or (names ∷ lists) m [])))) None) (sym f)

  none-long : (lists : List (List Name)) → list_any has lists ≡ false → place lists ≡ length lists
  none-long [] e = refl
  none-long (names ∷ lists) e = by (has names) e (none-long lists)
    where
      by : (b : Bool) → (b || list_any has lists) ≡ false → (list_any has lists ≡ false → place lists ≡ length lists) → cond (not b) (1 + place lists) 0 ≡ suc (length lists)
      by true e ih = absurd (cc)
      by false e ih = let h : place lists ≡ length lists = ih e in omega (arith, h)

  past-end : (lists : List (List Name)) → get_or lists (length lists) [] ≡ []
  past-end [] = refl
  past-end (names ∷ lists) = past-end lists

-- a constant by its list and its place there, or one above the last list
pub constant-is : (scope : Scope) (path : Path) (name : Name) (found : Option Constant) (at : ℕ) → lone_name path ≡ Some name → found ≡ find_name (constants_from 0 scope.enums) name
    → (constant : Constant) → found ≡ Some constant → FlatConstant constant.list constant.value at ≡ constant_in scope path at
constant-is scope [] name found at lone is constant some = absurd (cc)
constant-is scope (a ∷ b ∷ path) name found at lone is constant some = absurd (cc)
constant-is scope (own ∷ []) name found at lone is constant some =
    let same : own ≡ name = cc in
    by (list_any (has name) scope.enums) (sym some ∙ is ∙ constant-found name 0 scope.enums) ∙ ap (λ n. constant_in scope (n ∷ []) at) (sym same)
  where
    value : ℕ
    value = position_or_len (bytes_eq name) (get_or scope.enums (place name scope.enums) [])

    by : (b : Bool) → Some constant ≡ cond b (Some (held (0 + place name scope.enums) (position_or_len (bytes_eq name) (get_or scope.enums (place name scope.enums) [])))) None
        → FlatConstant constant.list constant.value at ≡ constant_in scope (name ∷ []) at
    by true e =
        let k : constant ≡ held (0 + place name scope.enums) (position_or_len (bytes_eq name) (get_or scope.enums (place name scope.enums) [])) = cc in
        let z : 0 + place name scope.enums ≡ place name scope.enums = omega arith in
        ap (λ (k : Constant). FlatConstant k.list k.value at) k ∙ ap (λ n. FlatConstant n (position_or_len (bytes_eq name) (get_or scope.enums (place name scope.enums) [])) at) z
    by false e = absurd (cc)

pub constant-none : (scope : Scope) (path : Path) (name : Name) (found : Option Constant) (at : ℕ) → lone_name path ≡ Some name → found ≡ find_name (constants_from 0 scope.enums) name
    → found ≡ None → FlatConstant (length scope.enums) 0 at ≡ constant_in scope path at
constant-none scope [] name found at lone is none = absurd (cc)
constant-none scope (a ∷ b ∷ path) name found at lone is none = absurd (cc)
constant-none scope (own ∷ []) name found at lone is none =
    let same : own ≡ name = cc in
    by (list_any (has name) scope.enums) refl (sym none ∙ is ∙ constant-found name 0 scope.enums) ∙ ap (λ n. constant_in scope (n ∷ []) at) (sym same)
  where
    by : (b : Bool) → list_any (has name) scope.enums ≡ b → None ≡ cond b (Some (held (0 + place name scope.enums) (position_or_len (bytes_eq name) (get_or scope.enums (place name scope.enums) [])))) None
        → FlatConstant (length scope.enums) 0 at ≡ constant_in scope (name ∷ []) at
    by true h e = absurd (cc)
    by false h e =
        let long : place name scope.enums ≡ length scope.enums = none-long name scope.enums h in
        let nothing : position_or_len (bytes_eq name) (get_or scope.enums (place name scope.enums) []) ≡ 0 =
        ap (λ n. position_or_len (bytes_eq name) (get_or scope.enums n [])) long ∙ ap (λ l. position_or_len (bytes_eq name) l) (past-end name scope.enums) in
        ap (λ n. FlatConstant n 0 at) (sym long) ∙ ap (λ n. FlatConstant (place name scope.enums) n at) (sym nothing)

pub no-name : (scope : Scope) (path : Path) (at : ℕ) → lone_name path ≡ None → FlatConstant (length scope.enums) 0 at ≡ constant_in scope path at
no-name scope [] at lone = refl
no-name scope (own ∷ []) at lone = absurd (cc)
no-name scope (a ∷ b ∷ path) at lone = refl
