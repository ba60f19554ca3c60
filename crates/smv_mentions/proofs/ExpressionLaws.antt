-- What expressions say, on expressions that are made of lists and values.
use Rattle.std.proofs.Common.{◌≡◌, ℕ, List, [], ◌∷◌, ◌++◌, Some, None, refl, ap, ◌∙◌}
use Rattle.std.specs.List.{flat_map}
use Rattle.smv_core.specs.declared.tree.Word.{Word}
use Rattle.smv_core.specs.declared.tree.TypeExpr.{TypeExpr}
use Rattle.smv_core.specs.declared.tree.Op.{Op}
use Rattle.smv_core.specs.declared.tree.Path.{Path, out-Path}
use Rattle.smv_core.specs.declared.tree.Part.{Field, At}
use Rattle.smv_core.specs.declared.tree.Signed.{Signed}
use Rattle.smv_core.specs.declared.tree.Member.{Member, One, Span as SpanOf}
use Rattle.smv_core.specs.declared.tree.Expr.{Expr, Number, Signal, Signal', Not, And, And', Or, Or', Implies, Implies', Iff, Compare, Within, Sum, Sum', Modulo, Choose, All, Any, List as ListOf, List', Each}
use Rattle.smv_core.specs.declared.tree.Expr.{Row_of-Expr, end_of-Expr, more_of-Expr, Row_of-Part, end_of-Part, more_of-Part, Row_of-Member, end_of-Member, more_of-Member, Row_of-Signed, end_of-Signed, more_of-Signed}
use Rattle.smv_core.specs.declared.tree.Expr.{items-the_row-Part, items-the_row-Expr, items-the_row-Member, items-the_row-Signed, items_hidden-the_row-Part-0, items_hidden-the_row-Expr-2, items_hidden-the_row-Member-4, items_hidden-the_row-Signed-3}
use mathlib.Core.Former.{Count}
use Rattle.smv_mentions.specs.Mentions.{in_type, in_expr, in_row, in_parts, in_sum, in_members, in_part, in_member, in_signed, in_path, path_in, binder_in}
use Rattle.smv_mentions.proofs.Computing.{computing}

module _ (vars : List Word) where
  pub expr-Number : (value at : ℕ) → in_expr vars (Number value at) ≡ []
  unfolding in_expr
  expr-Number value at = refl

  exprs-row : (n : _) (row : Row_of-Expr n) → in_row vars row ≡ flat_map (in_expr vars) (items-the_row-Expr n row)
  unfolding in_expr
  exprs-row n end_of-Expr = refl
  exprs-row n (more_of-Expr e rest) = ap (λ l. in_expr vars e ++ l) (exprs-row _ rest)

  parts-row : (n : _) (row : Row_of-Part n) → in_parts vars row ≡ flat_map (in_part vars) (items-the_row-Part n row)
  unfolding in_expr computing
  parts-row n end_of-Part = refl
  parts-row n (more_of-Part (Field word) rest) = parts-row _ rest
  parts-row n (more_of-Part (At index) rest) = ap (λ l. in_expr vars index ++ l) (parts-row _ rest)

  signed-row : (n : _) (row : Row_of-Signed n) → in_sum vars row ≡ flat_map (in_signed vars) (items-the_row-Signed n row)
  unfolding in_expr computing
  signed-row n end_of-Signed = refl
  signed-row n (more_of-Signed minus e rest) = ap (λ l. in_expr vars e ++ l) (signed-row _ rest)

  members-row : (n : _) (row : Row_of-Member n) → in_members vars row ≡ flat_map (in_member vars) (items-the_row-Member n row)
  unfolding in_expr computing
  members-row n end_of-Member = refl
  members-row n (more_of-Member (One e) rest) = ap (λ l. in_expr vars e ++ l) (members-row _ rest)
  members-row n (more_of-Member (SpanOf span at) rest) = members-row _ rest

  abbrev exprs_of : Expr → (n : Count) × Row_of-Expr n
  exprs_of (And' shape row) = (_, row)
  exprs_of (Or' shape row) = (_, row)
  exprs_of (Implies' shape row) = (_, row)
  exprs_of _ = (_, end_of-Expr)

  abbrev parts_of : Expr → (n : Count) × Row_of-Part n
  parts_of (Signal' shape row at) = (_, row)
  parts_of _ = (_, end_of-Part)

  abbrev members_of : Expr → (n : Count) × Row_of-Member n
  members_of (List' shape row at) = (_, row)
  members_of _ = (_, end_of-Member)

  abbrev signed_of : Expr → (n : Count) × Row_of-Signed n
  signed_of (Sum' f first shape row) = (_, row)
  signed_of _ = (_, end_of-Signed)

  pub expr-And : (parts : List Expr) → in_expr vars (And parts) ≡ flat_map (in_expr vars) parts
  unfolding in_expr
  expr-And parts = exprs-row (exprs_of (And parts)).0 (exprs_of (And parts)).1 ∙ ap (λ l. flat_map (in_expr vars) l) (items_hidden-the_row-Expr-2 parts)

  pub expr-Or : (parts : List Expr) → in_expr vars (Or parts) ≡ flat_map (in_expr vars) parts
  unfolding in_expr
  expr-Or parts = exprs-row (exprs_of (Or parts)).0 (exprs_of (Or parts)).1 ∙ ap (λ l. flat_map (in_expr vars) l) (items_hidden-the_row-Expr-2 parts)

  pub expr-Implies : (parts : List Expr) → in_expr vars (Implies parts) ≡ flat_map (in_expr vars) parts
  unfolding in_expr
  expr-Implies parts = exprs-row (exprs_of (Implies parts)).0 (exprs_of (Implies parts)).1 ∙ ap (λ l. flat_map (in_expr vars) l) (items_hidden-the_row-Expr-2 parts)

  pub expr-List : (members : List Member) (at : ℕ) → in_expr vars (ListOf members at) ≡ flat_map (in_member vars) members
  unfolding in_expr
  expr-List members at = members-row (members_of (ListOf members at)).0 (members_of (ListOf members at)).1 ∙ ap (λ l. flat_map (in_member vars) l) (items_hidden-the_row-Member-4 members)

  pub expr-Not : (e : Expr) (at : ℕ) → in_expr vars (Not e at) ≡ in_expr vars e
  unfolding in_expr computing
  expr-Not e at = refl

  pub expr-Modulo : (e : Expr) (by at : ℕ) → in_expr vars (Modulo e by at) ≡ in_expr vars e
  unfolding in_expr computing
  expr-Modulo e by at = refl

  pub expr-Iff : (x y : Expr) → in_expr vars (Iff x y) ≡ in_expr vars x ++ in_expr vars y
  unfolding in_expr computing
  expr-Iff x y = refl

  pub expr-Compare : (op : Op) (x y : Expr) → in_expr vars (Compare op x y) ≡ in_expr vars x ++ in_expr vars y
  unfolding in_expr computing
  expr-Compare op x y = refl

  pub expr-Within : (x y : Expr) → in_expr vars (Within x y) ≡ in_expr vars x ++ in_expr vars y
  unfolding in_expr computing
  expr-Within x y = refl

  pub expr-Choose : (c x y : Expr) → in_expr vars (Choose c x y) ≡ in_expr vars c ++ in_expr vars x ++ in_expr vars y
  unfolding in_expr computing
  expr-Choose c x y = refl

  pub expr-All : (body : Expr) (var : Word) (over : TypeExpr) (at : ℕ) → in_expr vars (All body var over at) ≡ in_expr (vars ++ var ∷ []) body ++ binder_in vars var ∷ in_type over
  unfolding in_expr computing
  expr-All body var over at = refl

  pub expr-Any : (body : Expr) (var : Word) (over : TypeExpr) (at : ℕ) → in_expr vars (Any body var over at) ≡ in_expr (vars ++ var ∷ []) body ++ binder_in vars var ∷ in_type over
  unfolding in_expr computing
  expr-Any body var over at = refl

  pub expr-Each : (var : Word) (over : TypeExpr) (at : ℕ) → in_expr vars (Each var over None at) ≡ binder_in vars var ∷ in_type over ++ []
  unfolding in_expr computing
  expr-Each var over at = refl

  pub expr-Each_if : (var : Word) (over : TypeExpr) (cond : Expr) (at : ℕ) → in_expr vars (Each var over (Some cond) at) ≡ binder_in vars var ∷ in_type over ++ in_expr (vars ++ var ∷ []) cond
  unfolding in_expr computing
  expr-Each_if var over cond at = refl

  pub expr-Signal : (path : Path) → in_expr vars (Signal path) ≡ in_path vars path
  unfolding in_expr in_path
  expr-Signal path =
      let row : (n : Count) × Row_of-Part n = parts_of (Signal path) in
      let e : items-the_row-Part row.0 row.1 ≡ (out-Path path).parts = items_hidden-the_row-Part-0 (out-Path path).parts in
      ap (λ l. path_in vars (items-the_row-Part row.0 row.1) ∷ l) (parts-row row.0 row.1) ∙ ap (λ l. path_in vars l ∷ flat_map (in_part vars) l) e

  pub expr-Sum : (first : Expr) (more : List Signed) → in_expr vars (Sum first more) ≡ in_expr vars first ++ flat_map (in_signed vars) more
  unfolding in_expr Rattle.smv_core.specs.declared.tree.Expr.TheBlock.hidden-the_row-Expr-1 Rattle.smv_core.specs.declared.tree.Expr.TheBlock.shape-the_row-Expr-1 denote.Hole.Carrier.hidden
  expr-Sum first more =
      let row : (n : Count) × Row_of-Signed n = signed_of (Sum first more) in
      ap (λ l. in_expr vars first ++ l) (signed-row row.0 row.1 ∙ ap (λ l. flat_map (in_signed vars) l) (items_hidden-the_row-Signed-3 more))

pub ruleset equations = (expr-Number, expr-And, expr-Or, expr-Implies, expr-List, expr-Not, expr-Modulo, expr-Iff, expr-Compare, expr-Within, expr-Choose, expr-All, expr-Any, expr-Each, expr-Each_if, expr-Signal, expr-Sum)
