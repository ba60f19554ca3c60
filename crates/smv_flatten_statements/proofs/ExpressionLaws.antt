-- The flat form of expressions that are made of lists and values.
use Rattle.std.proofs.Common.{◌≡◌, ℕ, List, ◌∷◌, map, Some, None, refl, ap, ◌∙◌}
use Rattle.smv_core.specs.Outcome.{fields_of}
use Rattle.smv_core.specs.Walk.{indexes_of}
use Rattle.smv_core.specs.Assignments.{Around, any}
use Rattle.smv_core.specs.declared.tree.Word.{Word}
use Rattle.smv_core.specs.declared.tree.TypeExpr.{TypeExpr}
use Rattle.smv_core.specs.declared.tree.Op.{Op}
use Rattle.smv_core.specs.declared.tree.Path.{Path, out-Path}
use Rattle.smv_core.specs.declared.tree.Part.{Field, At}
use Rattle.smv_core.specs.declared.tree.Signed.{Signed}
use Rattle.smv_core.specs.declared.tree.Member.{Member, One, Span as SpanOf}
use Rattle.smv_core.specs.declared.tree.Expr.{Expr, Number, Signal, Signal', Not, And, And', Or, Or', Implies, Implies', Iff, Compare, Within, Sum, Sum', Modulo, Choose, All, Any, List as ListOf, List', Each}
use Rattle.smv_core.specs.declared.tree.Expr.{Row_of-Expr, end_of-Expr, more_of-Expr, Row_of-Part, end_of-Part, more_of-Part, Row_of-Member, end_of-Member, more_of-Member, Row_of-Signed, end_of-Signed, more_of-Signed}
use Rattle.smv_core.specs.declared.tree.Expr.{items-the_row-Part, items-the_row-Expr, items-the_row-Member, items-the_row-Signed, items_hidden-the_row-Part-0, items_hidden-the_row-Expr-2, items_hidden-the_row-Member-4, items_hidden-the_row-Signed-3}
use Rattle.smv_core.specs.declared.flat.FlatExpr as flat
use Rattle.smv_core.specs.declared.flat.FlatSigned.{roll-FlatSigned}
use Rattle.smv_core.specs.declared.flat.FlatMember as member
use mathlib.Core.Former.{Count}
use Rattle.smv_mentions.proofs.Computing.{computing}
use Rattle.law_designs.specs.Numbers.{Scope, bound_in, flat_over, flat_path}
use Rattle.law_designs.specs.Statements.{flat_row, flat_indexes, flat_signed, flat_members}
use Rattle.smv_flatten_statements.specs.Flattened.{expression_of, signed_of, member_of}

module _ (scope : Scope) (vars : Around) where
  exprs-row : (n : _) (row : Row_of-Expr n) → flat_row scope vars row ≡ map (expression_of scope vars) (items-the_row-Expr n row)
  unfolding expression_of
  exprs-row n end_of-Expr = refl
  exprs-row n (more_of-Expr e rest) = ap (λ l. expression_of scope vars e ∷ l) (exprs-row _ rest)

  parts-row : (n : _) (row : Row_of-Part n) → flat_indexes scope vars row ≡ map (expression_of scope vars) (indexes_of (items-the_row-Part n row))
  unfolding expression_of computing
  parts-row n end_of-Part = refl
  parts-row n (more_of-Part (Field word) rest) = parts-row _ rest
  parts-row n (more_of-Part (At index) rest) = ap (λ l. expression_of scope vars index ∷ l) (parts-row _ rest)

  signed-row : (n : _) (row : Row_of-Signed n) → flat_signed scope vars row ≡ map (signed_of scope vars) (items-the_row-Signed n row)
  unfolding expression_of computing
  signed-row n end_of-Signed = refl
  signed-row n (more_of-Signed minus e rest) = ap (λ l. roll-FlatSigned (record { minus = minus; of = expression_of scope vars e }) ∷ l) (signed-row _ rest)

  members-row : (n : _) (row : Row_of-Member n) → flat_members scope vars row ≡ map (member_of scope vars) (items-the_row-Member n row)
  unfolding expression_of computing
  members-row n end_of-Member = refl
  members-row n (more_of-Member (One e) rest) = ap (λ l. member.One (expression_of scope vars e) ∷ l) (members-row _ rest)
  members-row n (more_of-Member (SpanOf span at) rest) = ap (λ l. member.Span span at ∷ l) (members-row _ rest)

  abbrev exprs_of : Expr → (n : Count) × Row_of-Expr n
  exprs_of (And' shape row) = (_, row)
  exprs_of (Or' shape row) = (_, row)
  exprs_of (Implies' shape row) = (_, row)
  exprs_of _ = (_, end_of-Expr)

  abbrev parts_of : Expr → (n : Count) × Row_of-Part n
  parts_of (Signal' shape row at) = (_, row)
  parts_of _ = (_, end_of-Part)

  abbrev members_of : Expr → (n : Count) × Row_of-Member n
  members_of (List' shape row at) = (_, row)
  members_of _ = (_, end_of-Member)

  abbrev sums_of : Expr → (n : Count) × Row_of-Signed n
  sums_of (Sum' f first shape row) = (_, row)
  sums_of _ = (_, end_of-Signed)

  pub expr-Number : (value at : ℕ) → expression_of scope vars (Number value at) ≡ flat.Number value at
  unfolding expression_of
  expr-Number value at = refl

  pub expr-Signal : (path : Path) → expression_of scope vars (Signal path) ≡ flat_path scope vars (fields_of (out-Path path).parts) (map (expression_of scope vars) (indexes_of (out-Path path).parts)) (out-Path path).at
  unfolding expression_of
  expr-Signal path =
      let row : (n : Count) × Row_of-Part n = parts_of (Signal path) in
      let e : items-the_row-Part row.0 row.1 ≡ (out-Path path).parts = items_hidden-the_row-Part-0 (out-Path path).parts in
      ap (λ l. flat_path scope vars (fields_of (items-the_row-Part row.0 row.1)) l (out-Path path).at) (parts-row row.0 row.1)
      ∙ ap (λ l. flat_path scope vars (fields_of l) (map (expression_of scope vars) (indexes_of l)) (out-Path path).at) e

  pub expr-And : (parts : List Expr) → expression_of scope vars (And parts) ≡ flat.And (map (expression_of scope vars) parts)
  unfolding expression_of
  expr-And parts = ap flat.And (exprs-row (exprs_of (And parts)).0 (exprs_of (And parts)).1 ∙ ap (map (expression_of scope vars)) (items_hidden-the_row-Expr-2 parts))

  pub expr-Or : (parts : List Expr) → expression_of scope vars (Or parts) ≡ flat.Or (map (expression_of scope vars) parts)
  unfolding expression_of
  expr-Or parts = ap flat.Or (exprs-row (exprs_of (Or parts)).0 (exprs_of (Or parts)).1 ∙ ap (map (expression_of scope vars)) (items_hidden-the_row-Expr-2 parts))

  pub expr-Implies : (parts : List Expr) → expression_of scope vars (Implies parts) ≡ flat.Implies (map (expression_of scope vars) parts)
  unfolding expression_of
  expr-Implies parts = ap flat.Implies (exprs-row (exprs_of (Implies parts)).0 (exprs_of (Implies parts)).1 ∙ ap (map (expression_of scope vars)) (items_hidden-the_row-Expr-2 parts))

  pub expr-List : (members : List Member) (at : ℕ) → expression_of scope vars (ListOf members at) ≡ flat.List (map (member_of scope vars) members) at
  unfolding expression_of
  expr-List members at = ap (λ l. flat.List l at) (members-row (members_of (ListOf members at)).0 (members_of (ListOf members at)).1 ∙ ap (map (member_of scope vars)) (items_hidden-the_row-Member-4 members))

  pub expr-Sum : (first : Expr) (more : List Signed) → expression_of scope vars (Sum first more) ≡ flat.Sum (expression_of scope vars first) (map (signed_of scope vars) more)
  unfolding expression_of Rattle.smv_core.specs.declared.tree.Expr.TheBlock.hidden-the_row-Expr-1 Rattle.smv_core.specs.declared.tree.Expr.TheBlock.shape-the_row-Expr-1 denote.Hole.Carrier.hidden
  expr-Sum first more =
      let row : (n : Count) × Row_of-Signed n = sums_of (Sum first more) in
      ap (λ l. flat.Sum (expression_of scope vars first) l) (signed-row row.0 row.1 ∙ ap (map (signed_of scope vars)) (items_hidden-the_row-Signed-3 more))

  pub expr-Not : (e : Expr) (at : ℕ) → expression_of scope vars (Not e at) ≡ flat.Not (expression_of scope vars e) at
  unfolding expression_of computing
  expr-Not e at = refl

  pub expr-Modulo : (e : Expr) (by at : ℕ) → expression_of scope vars (Modulo e by at) ≡ flat.Modulo (expression_of scope vars e) by at
  unfolding expression_of computing
  expr-Modulo e by at = refl

  pub expr-Iff : (x y : Expr) → expression_of scope vars (Iff x y) ≡ flat.Iff (expression_of scope vars x) (expression_of scope vars y)
  unfolding expression_of computing
  expr-Iff x y = refl

  pub expr-Compare : (op : Op) (x y : Expr) → expression_of scope vars (Compare op x y) ≡ flat.Compare op (expression_of scope vars x) (expression_of scope vars y)
  unfolding expression_of computing
  expr-Compare op x y = refl

  pub expr-Within : (x y : Expr) → expression_of scope vars (Within x y) ≡ flat.Within (expression_of scope vars x) (expression_of scope vars y)
  unfolding expression_of computing
  expr-Within x y = refl

  pub expr-Choose : (c x y : Expr) → expression_of scope vars (Choose c x y) ≡ flat.Choose (expression_of scope vars c) (expression_of scope vars x) (expression_of scope vars y)
  unfolding expression_of computing
  expr-Choose c x y = refl

  pub expr-All : (body : Expr) (var : Word) (over : TypeExpr) (at : ℕ) → expression_of scope vars (All body var over at) ≡ flat.All (expression_of scope ((var.name, any) ∷ vars) body) (bound_in vars) (flat_over scope over) at
  unfolding expression_of computing
  expr-All body var over at = refl

  pub expr-Any : (body : Expr) (var : Word) (over : TypeExpr) (at : ℕ) → expression_of scope vars (Any body var over at) ≡ flat.Any (expression_of scope ((var.name, any) ∷ vars) body) (bound_in vars) (flat_over scope over) at
  unfolding expression_of computing
  expr-Any body var over at = refl

  pub expr-Each : (var : Word) (over : TypeExpr) (at : ℕ) → expression_of scope vars (Each var over None at) ≡ flat.Each (bound_in vars) (flat_over scope over) None at
  unfolding expression_of computing
  expr-Each var over at = refl

  pub expr-Each_if : (var : Word) (over : TypeExpr) (cond : Expr) (at : ℕ) → expression_of scope vars (Each var over (Some cond) at) ≡ flat.Each (bound_in vars) (flat_over scope over) (Some (expression_of scope ((var.name, any) ∷ vars) cond)) at
  unfolding expression_of computing
  expr-Each_if var over cond at = refl

pub ruleset equations = (expr-Number, expr-Signal, expr-And, expr-Or, expr-Implies, expr-List, expr-Sum, expr-Not, expr-Modulo, expr-Iff, expr-Compare, expr-Within, expr-Choose, expr-All, expr-Any, expr-Each, expr-Each_if)
