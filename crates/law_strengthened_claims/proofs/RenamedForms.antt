-- Expressions under a new name and without their places, constructor by constructor.
use Rattle.std.proofs.Common.{◌≡◌, ℕ, List, [], ◌∷◌, map, refl, ap, sym, ◌∙◌}
use Rattle.smv_core.specs.Values.{Name}
use Rattle.smv_core.specs.declared.tree.Path.{Path, roll-Path, out-Path}
use Rattle.smv_core.specs.declared.tree.Part.{Part, Field, At}
use Rattle.smv_core.specs.declared.tree.Member.{Member, One, Span as SpanOf}
use Rattle.smv_core.specs.declared.tree.Signed.{Signed, roll-Signed}
use Rattle.smv_core.specs.declared.tree.TypeExpr.{TypeExpr}
use Rattle.smv_core.specs.declared.tree.Expr.{Expr, Signal, And, Or, Implies, Sum, List as ListOf}
use Rattle.smv_core.specs.declared.tree.Expr.{Row_of-Expr, end_of-Expr, more_of-Expr, Row_of-Part, end_of-Part, more_of-Part, Row_of-Member, end_of-Member, more_of-Member, Row_of-Signed, end_of-Signed, more_of-Signed}
use Rattle.smv_core.specs.declared.tree.Expr.{items-the_row-Expr, items-the_row-Part, items-the_row-Member, items-the_row-Signed, items_hidden-the_row-Part-0, items_hidden-the_row-Expr-2, items_hidden-the_row-Signed-3, items_hidden-the_row-Member-4}
use Rattle.law_places.specs.Placeless.{placeless_type, placeless, placeless_row, placeless_parts, placeless_sum, placeless_members}
use Rattle.law_spelled_alike.proofs.PlacelessForms.{computing, and-list, or-list, implies-list, list-list, sum-list, signal-list, exprs_in, members_in, sums_in, parts_in, word_by, part_by, member_by, signed_by, Forms}
use Rattle.law_induction.specs.Renamed.{new_name, renamed_type, renamed, renamed_row, renamed_path, renamed_parts, renamed_sum, renamed_members}

module _ (var fresh : Name) where
  -- under the new name, and no places
  abbrev pub by : Expr → Expr
  by e = placeless (renamed var fresh e)

  abbrev pub by_type : TypeExpr → TypeExpr
  by_type t = placeless_type (renamed_type var fresh t)

  -- the first name of a path, and what stands in its indexes
  abbrev pub path_by : List Part → List Part
  path_by [] = []
  path_by (Field word ∷ parts) = Field (word_by (new_name var fresh) word) ∷ map (part_by by) parts
  path_by (At e ∷ parts) = At (by e) ∷ path_by parts

  abbrev pub by_path : Path → Path
  by_path path = roll-Path (record { parts = path_by (out-Path path).parts; at = 0 })

  exprs-row : (n : _) (row : Row_of-Expr n) → items-the_row-Expr n (placeless_row (renamed_row var fresh row)) ≡ map by (items-the_row-Expr n row)
  unfolding placeless renamed
  exprs-row n end_of-Expr = refl
  exprs-row n (more_of-Expr e rest) = ap (λ l. by e ∷ l) (exprs-row _ rest)

  members-row : (n : _) (row : Row_of-Member n) → items-the_row-Member n (placeless_members (renamed_members var fresh row)) ≡ map (member_by by) (items-the_row-Member n row)
  unfolding placeless renamed computing
  members-row n end_of-Member = refl
  members-row n (more_of-Member (One e) rest) = ap (λ l. One (by e) ∷ l) (members-row _ rest)
  members-row n (more_of-Member (SpanOf span at) rest) = ap (λ l. SpanOf span 0 ∷ l) (members-row _ rest)

  signed-row : (n : _) (row : Row_of-Signed n) → items-the_row-Signed n (placeless_sum (renamed_sum var fresh row)) ≡ map (signed_by by) (items-the_row-Signed n row)
  unfolding placeless renamed computing
  signed-row n end_of-Signed = refl
  signed-row n (more_of-Signed minus e rest) = ap (λ l. roll-Signed (record { minus = minus; of = by e }) ∷ l) (signed-row _ rest)

  parts-row : (n : _) (row : Row_of-Part n) → items-the_row-Part n (placeless_parts (renamed_parts var fresh row)) ≡ map (part_by by) (items-the_row-Part n row)
  unfolding placeless renamed computing
  parts-row n end_of-Part = refl
  parts-row n (more_of-Part (Field word) rest) = ap (λ l. Field (record { name = word.name; at = 0 }) ∷ l) (parts-row _ rest)
  parts-row n (more_of-Part (At e) rest) = ap (λ l. At (by e) ∷ l) (parts-row _ rest)

  path-row : (n : _) (row : Row_of-Part n) → items-the_row-Part n (placeless_parts (renamed_path var fresh row)) ≡ path_by (items-the_row-Part n row)
  unfolding placeless renamed computing
  path-row n end_of-Part = refl
  path-row n (more_of-Part (Field word) rest) = ap (λ l. Field (word_by (new_name var fresh) word) ∷ l) (parts-row _ rest)
  path-row n (more_of-Part (At e) rest) = ap (λ l. At (by e) ∷ l) (path-row _ rest)

  conjunctions : (parts : List Expr) → by (And parts) ≡ And (map by parts)
  unfolding placeless renamed
  conjunctions parts = sym (and-list _ (placeless_row (renamed_row var fresh (exprs_in (And parts)).1))) ∙ ap And (exprs-row _ (exprs_in (And parts)).1 ∙ ap (map by) (items_hidden-the_row-Expr-2 parts))

  disjunctions : (parts : List Expr) → by (Or parts) ≡ Or (map by parts)
  unfolding placeless renamed
  disjunctions parts = sym (or-list _ (placeless_row (renamed_row var fresh (exprs_in (Or parts)).1))) ∙ ap Or (exprs-row _ (exprs_in (Or parts)).1 ∙ ap (map by) (items_hidden-the_row-Expr-2 parts))

  implications : (parts : List Expr) → by (Implies parts) ≡ Implies (map by parts)
  unfolding placeless renamed
  implications parts = sym (implies-list _ (placeless_row (renamed_row var fresh (exprs_in (Implies parts)).1))) ∙ ap Implies (exprs-row _ (exprs_in (Implies parts)).1 ∙ ap (map by) (items_hidden-the_row-Expr-2 parts))

  lists : (members : List Member) (at : ℕ) → by (ListOf members at) ≡ ListOf (map (member_by by) members) 0
  unfolding placeless renamed
  lists members at =
      let row = members_in (ListOf members at) in
      sym (list-list _ (placeless_members (renamed_members var fresh row.1)) 0) ∙ ap (λ l. ListOf l 0) (members-row _ row.1 ∙ ap (map (member_by by)) (items_hidden-the_row-Member-4 members))

  sums : (first : Expr) (more : List Signed) → by (Sum first more) ≡ Sum (by first) (map (signed_by by) more)
  unfolding placeless renamed Rattle.smv_core.specs.declared.tree.Expr.TheBlock.hidden-the_row-Expr-1 Rattle.smv_core.specs.declared.tree.Expr.TheBlock.shape-the_row-Expr-1 denote.Hole.Carrier.hidden
  sums first more =
      let row = sums_in (Sum first more) in
      sym (sum-list _ (by first) _ (placeless_sum (renamed_sum var fresh row.1))) ∙ ap (Sum (by first)) (signed-row _ row.1 ∙ ap (map (signed_by by)) (items_hidden-the_row-Signed-3 more))

  signals : (path : Path) → by (Signal path) ≡ Signal (by_path path)
  unfolding placeless renamed
  signals path =
      let row = parts_in (Signal path) in
      sym (signal-list _ (placeless_parts (renamed_path var fresh row.1)) 0) ∙ ap (λ l. Signal (roll-Path (record { parts = l; at = 0 }))) (path-row _ row.1 ∙ ap path_by (items_hidden-the_row-Part-0 (out-Path path).parts))

  pub renamed_forms : Forms (new_name var fresh) by by_path by_type
  unfolding placeless placeless_type renamed computing
  renamed_forms = record {
    number = λ value at. refl;
    signal = signals;
    path = λ x parts. refl;
    negation = λ e at. refl;
    conjunction = conjunctions;
    disjunction = disjunctions;
    implication = implications;
    equivalence = λ x y. refl;
    comparison = λ op x y. refl;
    membership = λ x y. refl;
    sum = sums;
    modulo = λ e over at. refl;
    choice = λ c x y. refl;
    every = λ x v over at. refl;
    some = λ x v over at. refl;
    list = lists;
    each = λ v over at. refl;
    each_where = λ v over e at. refl;
    boolean = refl;
    range = λ span at. refl;
    named = λ word at. refl;
  }
