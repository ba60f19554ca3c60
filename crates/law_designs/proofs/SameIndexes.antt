-- An index of a flattened left side is a constant where the tree's is, and the same one.
use Rattle.std.proofs.Common.{◌≡◌, ℕ, List, [], ◌∷◌, ◌++◌, Option, Some, None, Bool, true, false, cond, refl, sym, ap, ◌∙◌}
use Rattle.std.specs.Str.{bytes_eq}
use Rattle.smv_core.specs.Values.{Name, Path, Value, number, Outcome, same, add, modulo}
use Rattle.smv_core.specs.Types.{Family}
use Rattle.smv_core.specs.Outcome.{fields_of, family_at}
use Rattle.smv_core.specs.Assignments.{Around, loop, any, Index, fixed, bare, computed, index_of, index_of_name, index_of_path, index_of_sum, add_fixed, modulo_fixed, fits}
use Rattle.smv_core.specs.FlatMeaning.{flat_index, flat_index_sum}
use Rattle.smv_core.specs.declared.tree.Expr.{Expr, Number, Signal', Not', And', Or', Implies', Iff', Compare', Within', Sum', Modulo', Choose', All', Any', List', Each', None', Some', Row_of-Signed, end_of-Signed, more_of-Signed, end_of-Expr, more_of-Expr, items-the_row-Part}
use Rattle.smv_core.specs.declared.flat.FlatExpr.{FlatExpr, Loop, Var, Modulo, Sum, Sum', Row_of-FlatSigned, end_of-FlatSigned, more_of-FlatSigned, items-the_row-FlatSigned, items_hidden-the_row-FlatSigned-2}
use Rattle.smv_core.specs.declared.flat.FlatSigned.{FlatSigned, out-FlatSigned}
use mathlib.Core.Former.{Count}
use Rattle.law_designs.specs.Numbers.{Scope, bound_in, variable, variable_at, constant_in, or_signal}
use Rattle.law_designs.specs.Statements.{flat_expr, flat_indexes, flat_signed}
use Rattle.law_designs.proofs.FlatLists.{boxes}

-- the outcome of a constant index
abbrev pub fixed_of : Index → Option Outcome
fixed_of (fixed u) = Some u
fixed_of _ = None

abbrev add_of : Bool → Option Outcome → Option Outcome → Option Outcome
add_of minus (Some u) (Some v) = Some (add minus u v)
add_of minus _ _ = None

abbrev modulo_of : Option Outcome → ℕ → Option Outcome
modulo_of (Some u) by = Some (modulo u by)
modulo_of None by = None

abbrev fits_of : Option Outcome → Value → Bool
fits_of (Some (Some u)) v = same u v
fits_of (Some None) v = false
fits_of None v = true

fixed-add : (minus : Bool) (i j : Index) → fixed_of (add_fixed minus i j) ≡ add_of minus (fixed_of i) (fixed_of j)
fixed-add minus (fixed u) (fixed v) = refl
fixed-add minus (fixed u) (bare k) = refl
fixed-add minus (fixed u) computed = refl
fixed-add minus (bare k) (fixed v) = refl
fixed-add minus (bare k) (bare j) = refl
fixed-add minus (bare k) computed = refl
fixed-add minus computed (fixed v) = refl
fixed-add minus computed (bare j) = refl
fixed-add minus computed computed = refl

fixed-modulo : (i : Index) (by : ℕ) → fixed_of (modulo_fixed i by) ≡ modulo_of (fixed_of i) by
fixed-modulo (fixed u) by = refl
fixed-modulo (bare k) by = refl
fixed-modulo computed by = refl

fits-fixed : (i : Index) (v : Value) → fits i v ≡ fits_of (fixed_of i) v
fits-fixed (fixed (Some u)) v = refl
fits-fixed (fixed None) v = refl
fits-fixed (bare k) v = refl
fits-fixed computed v = refl

-- ---- flattened sums

abbrev sum_index : Index → List FlatSigned → Index
sum_index i [] = i
sum_index i (x ∷ xs) = sum_index (add_fixed (out-FlatSigned x).minus i (flat_index (out-FlatSigned x).of)) xs

sum-row : (k : _) (row : Row_of-FlatSigned k) (i : Index) → flat_index_sum i row ≡ sum_index i (items-the_row-FlatSigned k row)
sum-row k end_of-FlatSigned i = refl
sum-row k (more_of-FlatSigned minus e rest) i = sum-row _ rest (add_fixed minus i (flat_index e))

abbrev signed_in : FlatExpr → (k : Count) × Row_of-FlatSigned k
signed_in (Sum' f head shape row) = (_, row)
signed_in _ = (_, end_of-FlatSigned)

index-Sum : (head : FlatExpr) (more : List FlatSigned) → flat_index (Sum head more) ≡ sum_index (flat_index head) more
unfolding boxes
index-Sum head more =
    let row : (k : Count) × Row_of-FlatSigned k = signed_in (Sum head more) in
    sum-row row.0 row.1 (flat_index head) ∙ ap (sum_index (flat_index head)) (items_hidden-the_row-FlatSigned-2 more)

index-Modulo : (e : FlatExpr) (by at : ℕ) → flat_index (Modulo e by at) ≡ modulo_fixed (flat_index e) by
unfolding boxes
index-Modulo e by at = refl

-- ---- the same index

module _ (scope : Scope) where
  -- where a name is no variable both are no constants
  abbrev IsSameIndex : Option FlatExpr → Index → Type 0
  IsSameIndex (Some x) i = fixed_of (flat_index x) ≡ fixed_of i
  IsSameIndex None i = None ≡ fixed_of i

  if-same : (test : Bool) (x : FlatExpr) (o : Option FlatExpr) (i j : Index) → fixed_of (flat_index x) ≡ fixed_of i → IsSameIndex o j → IsSameIndex (cond test (Some x) o) (cond test i j)
  if-same true x o i j h k = h
  if-same false x o i j h k = k

  variable-same : (vars : Around) (name : Name) (at : ℕ) → IsSameIndex (variable vars name at) (index_of_name vars name)
  variable-same [] name at = refl
  variable-same ((other, loop n) ∷ vars) name at = if-same (bytes_eq other name) (Loop n at) (variable vars name at) (fixed (Some (number n))) (index_of_name vars name) refl (variable-same vars name at)
  variable-same ((other, any) ∷ vars) name at = if-same (bytes_eq other name) (Var (bound_in vars) at) (variable vars name at) (bare _) (index_of_name vars name) refl (variable-same vars name at)

  variable_at-same : (vars : Around) (path : Path) (at : ℕ) → IsSameIndex (variable_at vars path at) (index_of_path vars path)
  variable_at-same vars [] at = refl
  variable_at-same vars (name ∷ []) at = variable-same vars name at
  variable_at-same vars (name ∷ other ∷ more) at = refl

  constant-unfixed : (path : Path) (at : ℕ) → None ≡ fixed_of (flat_index (constant_in scope path at))
  constant-unfixed [] at = refl
  constant-unfixed (name ∷ []) at = refl
  constant-unfixed (name ∷ other ∷ more) at = refl

  path-same : (o : Option FlatExpr) (f : Option Family) (path : Path) (es : List FlatExpr) (at : ℕ) (i : Index) → IsSameIndex o i → fixed_of (flat_index (or_signal scope o f path es at)) ≡ fixed_of i
  path-same (Some x) f path es at i h = h
  path-same None (Some f) path es at i h = h
  path-same None None [] es at i h = h
  path-same None None (name ∷ []) es at i h = h
  path-same None None (name ∷ other ∷ more) es at i h = h

  mutual
    index-same : (vars : Around) (e : Expr) → fixed_of (flat_index (flat_expr scope vars e)) ≡ fixed_of (index_of vars e)
    index-same vars (Number value at) = refl
    index-same vars (Signal' shape parts at) =
        let path = fields_of (items-the_row-Part _ parts) in
        path-same (variable_at vars path at) (family_at scope.families (scope.instance ++ path)) path (flat_indexes scope vars parts) at (index_of_path vars path) (variable_at-same vars path at)
    index-same vars (Sum' f (more_of-Expr first end_of-Expr) shape more) =
        ap fixed_of (index-Sum (flat_expr scope vars first) (flat_signed scope vars more)) ∙ sum-same vars more (flat_index (flat_expr scope vars first)) (index_of vars first) (index-same vars first)
    index-same vars (Modulo' shape (more_of-Expr e end_of-Expr) by at) =
        ap fixed_of (index-Modulo (flat_expr scope vars e) by at) ∙ fixed-modulo (flat_index (flat_expr scope vars e)) by ∙ ap (λ o. modulo_of o by) (index-same vars e) ∙ sym (fixed-modulo (index_of vars e) by)
    index-same vars (Not' shape (more_of-Expr e end_of-Expr) at) = refl
    index-same vars (And' shape parts) = refl
    index-same vars (Or' shape parts) = refl
    index-same vars (Implies' shape parts) = refl
    index-same vars (Iff' l (more_of-Expr left end_of-Expr) r (more_of-Expr right end_of-Expr)) = refl
    index-same vars (Compare' op l (more_of-Expr left end_of-Expr) r (more_of-Expr right end_of-Expr)) = refl
    index-same vars (Within' l (more_of-Expr left end_of-Expr) r (more_of-Expr set end_of-Expr)) = refl
    index-same vars (Choose' c (more_of-Expr test end_of-Expr) l (more_of-Expr left end_of-Expr) r (more_of-Expr right end_of-Expr)) = refl
    index-same vars (All' shape (more_of-Expr body end_of-Expr) var over at) = refl
    index-same vars (Any' shape (more_of-Expr body end_of-Expr) var over at) = refl
    index-same vars (List' shape members at) = refl
    index-same vars (Each' var over None' at) = refl
    index-same vars (Each' var over (Some' shape (more_of-Expr test end_of-Expr)) at) = refl

    sum-same : {m : _} (vars : Around) (more : Row_of-Signed m) (i j : Index) → fixed_of i ≡ fixed_of j → fixed_of (sum_index i (flat_signed scope vars more)) ≡ fixed_of (index_of_sum vars j more)
    sum-same vars end_of-Signed i j h = h
    sum-same vars (more_of-Signed minus e rest) i j h =
        sum-same vars rest (add_fixed minus i (flat_index (flat_expr scope vars e))) (add_fixed minus j (index_of vars e))
        (fixed-add minus i (flat_index (flat_expr scope vars e)) ∙ sums (index-same vars e) ∙ sym (fixed-add minus j (index_of vars e)))
      where
        sums : fixed_of (flat_index (flat_expr scope vars e)) ≡ fixed_of (index_of vars e) → add_of minus (fixed_of i) (fixed_of (flat_index (flat_expr scope vars e))) ≡ add_of minus (fixed_of j) (fixed_of (index_of vars e))
        sums g = rw (h, g) refl

  -- an index fits the values that the tree's fits
  pub fits-same : (vars : Around) (e : Expr) (v : Value) → fits (flat_index (flat_expr scope vars e)) v ≡ fits (index_of vars e) v
  fits-same vars e v = fits-fixed (flat_index (flat_expr scope vars e)) v ∙ ap (λ o. fits_of o v) (index-same vars e) ∙ sym (fits-fixed (index_of vars e) v)
