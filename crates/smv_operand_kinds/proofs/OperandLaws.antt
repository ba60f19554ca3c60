-- The kinds of expressions and the faults in them, on expressions that are made of lists and values.
use Rattle.std.proofs.Common.{◌≡◌, ℕ, List, [], ◌∷◌, ◌++◌, map, refl, ap, sym, ◌∙◌}
use Rattle.smv_core.specs.Walk.{indexes_of}
use Rattle.smv_core.specs.declared.tree.Word.{Word}
use Rattle.smv_core.specs.declared.tree.TypeExpr.{TypeExpr}
use Rattle.smv_core.specs.declared.tree.Op.{Op}
use Rattle.smv_core.specs.declared.tree.Op.TheVariants.{Equal, Differ, Less, AtMost, Greater, AtLeast}
use Rattle.smv_core.specs.declared.tree.Path.{Path, out-Path}
use Rattle.smv_core.specs.declared.tree.Part.{Field, At}
use Rattle.smv_core.specs.declared.tree.Signed.{Signed}
use Rattle.smv_core.specs.declared.tree.Member.{Member, One, Span as SpanOf}
use Rattle.smv_core.specs.declared.tree.Expr.{Expr, Number, Signal, Signal', Not, And, And', Or, Or', Implies, Implies', Iff, Compare, Within, Sum, Sum', Modulo, Choose, All, Any, List as ListOf, List', Each}
use Rattle.smv_core.specs.declared.tree.Expr.{Row_of-Expr, end_of-Expr, more_of-Expr, Row_of-Part, end_of-Part, more_of-Part, Row_of-Member, end_of-Member, more_of-Member, Row_of-Signed, end_of-Signed, more_of-Signed}
use Rattle.smv_core.specs.declared.tree.Expr.{items-the_row-Part, items-the_row-Expr, items-the_row-Member, items-the_row-Signed, items_hidden-the_row-Part-0, items_hidden-the_row-Expr-2, items_hidden-the_row-Member-4, items_hidden-the_row-Signed-3}
use Rattle.std.specs.Prelude.{Option, nat_eq}
use mathlib.Core.Former.{Count}
use Rattle.std.specs.List.{flat_map}
use Rattle.std.proofs.lemmas.List.{append-nil, append_assoc}
use Rattle.smv_mentions.specs.NameFaults.{place_if}
use Rattle.smv_mentions.specs.FirstFault.{faults_at}
use Rattle.law_designs.specs.Kinds.{number, no_kind, joined, has_order, Operand, number_at, of_numbers, of_alike, takes_number, unless, alike_with, ordered, chosen, stray_set}
use Rattle.law_designs.specs.References.{Scope, Vars, reference_at, reference}
use Rattle.law_designs.specs.Operands.{operand, operands, indexes, summands, members, looked_through, compared, remainder, reduced, bind}
use Rattle.smv_expression_kinds.specs.Forms.{misfit}
use Rattle.smv_operand_kinds.specs.Found.{member, addend, begins_at, order_faults}
use Rattle.smv_mentions.proofs.Computing.{computing}

module _ (scope : Scope) (vars : Vars) where
  exprs-row : (n : _) (row : Row_of-Expr n) → operands scope vars row ≡ map (operand scope vars) (items-the_row-Expr n row)
  unfolding operand
  exprs-row n end_of-Expr = refl
  exprs-row n (more_of-Expr e rest) = ap (λ l. operand scope vars e ∷ l) (exprs-row _ rest)

  parts-row : (n : _) (row : Row_of-Part n) → indexes scope vars row ≡ map (operand scope vars) (indexes_of (items-the_row-Part n row))
  unfolding operand computing
  parts-row n end_of-Part = refl
  parts-row n (more_of-Part (Field word) rest) = parts-row _ rest
  parts-row n (more_of-Part (At index) rest) = ap (λ l. operand scope vars index ∷ l) (parts-row _ rest)

  signed-row : (n : _) (row : Row_of-Signed n) → summands scope vars row ≡ map (addend scope vars) (items-the_row-Signed n row)
  unfolding operand addend computing
  signed-row n end_of-Signed = refl
  signed-row n (more_of-Signed minus e rest) = ap (λ l. operand scope vars e ∷ l) (signed-row _ rest)

  pub members-row : (n : _) (row : Row_of-Member n) → members scope vars row ≡ map (member scope vars) (items-the_row-Member n row)
  unfolding operand computing
  members-row n end_of-Member = refl
  members-row n (more_of-Member (One e) rest) = ap (λ l. operand scope vars e ∷ l) (members-row _ rest)
  members-row n (more_of-Member (SpanOf span at) rest) = ap (λ l. member scope vars (SpanOf span at) ∷ l) (members-row _ rest)

  abbrev exprs_of : Expr → (n : Count) × Row_of-Expr n
  exprs_of (And' shape row) = (_, row)
  exprs_of (Or' shape row) = (_, row)
  exprs_of (Implies' shape row) = (_, row)
  exprs_of _ = (_, end_of-Expr)

  abbrev parts_of : Expr → (n : Count) × Row_of-Part n
  parts_of (Signal' shape row at) = (_, row)
  parts_of _ = (_, end_of-Part)

  abbrev pub members_of : Expr → (n : Count) × Row_of-Member n
  members_of (List' shape row at) = (_, row)
  members_of _ = (_, end_of-Member)

  abbrev signed_of : Expr → (n : Count) × Row_of-Signed n
  signed_of (Sum' f first shape row) = (_, row)
  signed_of _ = (_, end_of-Signed)

  pub operand-Number : (value at : ℕ) → operand scope vars (Number value at) ≡ number_at at []
  unfolding operand
  operand-Number value at = refl

  pub operand-Signal : (path : Path) → operand scope vars (Signal path) ≡ reference (out-Path path).at (reference_at scope vars (out-Path path).parts) (map (operand scope vars) (indexes_of (out-Path path).parts))
  unfolding operand
  operand-Signal path =
      let row : (n : Count) × Row_of-Part n = parts_of (Signal path) in
      let e : items-the_row-Part row.0 row.1 ≡ (out-Path path).parts = items_hidden-the_row-Part-0 (out-Path path).parts in
      ap (λ l. reference (out-Path path).at (reference_at scope vars (items-the_row-Part row.0 row.1)) l) (parts-row row.0 row.1)
      ∙ ap (λ l. reference (out-Path path).at (reference_at scope vars l) (map (operand scope vars) (indexes_of l))) e

  pub operand-Not : (e : Expr) (at : ℕ) → operand scope vars (Not e at) ≡ number_at at (takes_number (operand scope vars e))
  unfolding operand computing
  operand-Not e at = refl

  pub operand-And : (parts : List Expr) → operand scope vars (And parts) ≡ of_numbers (map (operand scope vars) parts)
  unfolding operand
  operand-And parts = ap of_numbers (exprs-row (exprs_of (And parts)).0 (exprs_of (And parts)).1 ∙ ap (map (operand scope vars)) (items_hidden-the_row-Expr-2 parts))

  pub operand-Or : (parts : List Expr) → operand scope vars (Or parts) ≡ of_numbers (map (operand scope vars) parts)
  unfolding operand
  operand-Or parts = ap of_numbers (exprs-row (exprs_of (Or parts)).0 (exprs_of (Or parts)).1 ∙ ap (map (operand scope vars)) (items_hidden-the_row-Expr-2 parts))

  pub operand-Implies : (parts : List Expr) → operand scope vars (Implies parts) ≡ of_numbers (map (operand scope vars) parts)
  unfolding operand
  operand-Implies parts = ap of_numbers (exprs-row (exprs_of (Implies parts)).0 (exprs_of (Implies parts)).1 ∙ ap (map (operand scope vars)) (items_hidden-the_row-Expr-2 parts))

  pub operand-Iff : (x y : Expr) → operand scope vars (Iff x y) ≡ of_numbers (operand scope vars x ∷ operand scope vars y ∷ [])
  unfolding operand computing
  operand-Iff x y = refl

  pub operand-Compare : (op : Op) (x y : Expr) → operand scope vars (Compare op x y) ≡ compared op (operand scope vars x) (operand scope vars y)
  unfolding operand computing
  operand-Compare op x y = refl

  pub operand-Within : (x y : Expr) → operand scope vars (Within x y) ≡ of_alike (operand scope vars x ∷ looked_through scope vars y)
  unfolding operand computing
  operand-Within x y = refl

  pub operand-Sum : (first : Expr) (more : List Signed) → operand scope vars (Sum first more) ≡ of_numbers (operand scope vars first ∷ map (addend scope vars) more)
  unfolding operand Rattle.smv_core.specs.declared.tree.Expr.TheBlock.hidden-the_row-Expr-1 Rattle.smv_core.specs.declared.tree.Expr.TheBlock.shape-the_row-Expr-1 denote.Hole.Carrier.hidden
  operand-Sum first more =
      let row : (n : Count) × Row_of-Signed n = signed_of (Sum first more) in
      ap (λ l. of_numbers (operand scope vars first ∷ l)) (signed-row row.0 row.1 ∙ ap (map (addend scope vars)) (items_hidden-the_row-Signed-3 more))

  pub operand-Modulo : (e : Expr) (by at : ℕ) → operand scope vars (Modulo e by at) ≡ remainder (operand scope vars e) by at
  unfolding operand computing
  operand-Modulo e by at = refl

  pub operand-Choose : (c x y : Expr) → operand scope vars (Choose c x y) ≡ chosen (operand scope vars c) (operand scope vars x) (operand scope vars y)
  unfolding operand computing
  operand-Choose c x y = refl

  pub operand-All : (body : Expr) (var : Word) (over : TypeExpr) (at : ℕ) → operand scope vars (All body var over at) ≡ reduced scope at (operand scope (bind scope vars var over) body) over
  unfolding operand computing
  operand-All body var over at = refl

  pub operand-Any : (body : Expr) (var : Word) (over : TypeExpr) (at : ℕ) → operand scope vars (Any body var over at) ≡ reduced scope at (operand scope (bind scope vars var over) body) over
  unfolding operand computing
  operand-Any body var over at = refl

  pub operand-List : (parts : List Member) (at : ℕ) → operand scope vars (ListOf parts at) ≡ stray_set at
  unfolding operand
  operand-List parts at = refl

  pub operand-Each : (var : Word) (over : TypeExpr) (cond : Option Expr) (at : ℕ) → operand scope vars (Each var over cond at) ≡ stray_set at
  unfolding operand
  operand-Each var over cond at = refl

  pub through-List : (parts : List Member) (at : ℕ) → looked_through scope vars (ListOf parts at) ≡ map (member scope vars) parts
  unfolding operand
  through-List parts at = members-row (members_of (ListOf parts at)).0 (members_of (ListOf parts at)).1 ∙ ap (map (member scope vars)) (items_hidden-the_row-Member-4 parts)

  pub through-Each : (var : Word) (over : TypeExpr) (cond : Option Expr) (at : ℕ) → looked_through scope vars (Each var over cond at) ≡ stray_set at ∷ []
  unfolding operand
  through-Each var over cond at = refl

  pub through-Number : (value at : ℕ) → looked_through scope vars (Number value at) ≡ []
  unfolding operand
  through-Number value at = refl

  pub through-Signal : (path : Path) → looked_through scope vars (Signal path) ≡ []
  unfolding operand
  through-Signal path = refl

  pub through-Not : (e : Expr) (at : ℕ) → looked_through scope vars (Not e at) ≡ []
  unfolding operand
  through-Not e at = refl

  pub through-And : (parts : List Expr) → looked_through scope vars (And parts) ≡ []
  unfolding operand
  through-And parts = refl

  pub through-Or : (parts : List Expr) → looked_through scope vars (Or parts) ≡ []
  unfolding operand
  through-Or parts = refl

  pub through-Implies : (parts : List Expr) → looked_through scope vars (Implies parts) ≡ []
  unfolding operand
  through-Implies parts = refl

  pub through-Iff : (x y : Expr) → looked_through scope vars (Iff x y) ≡ []
  unfolding operand
  through-Iff x y = refl

  pub through-Compare : (op : Op) (x y : Expr) → looked_through scope vars (Compare op x y) ≡ []
  unfolding operand
  through-Compare op x y = refl

  pub through-Within : (x y : Expr) → looked_through scope vars (Within x y) ≡ []
  unfolding operand
  through-Within x y = refl

  pub through-Sum : (first : Expr) (more : List Signed) → looked_through scope vars (Sum first more) ≡ []
  unfolding operand
  through-Sum first more = refl

  pub through-Modulo : (e : Expr) (by at : ℕ) → looked_through scope vars (Modulo e by at) ≡ []
  unfolding operand
  through-Modulo e by at = refl

  pub through-Choose : (c x y : Expr) → looked_through scope vars (Choose c x y) ≡ []
  unfolding operand
  through-Choose c x y = refl

  pub through-All : (body : Expr) (var : Word) (over : TypeExpr) (at : ℕ) → looked_through scope vars (All body var over at) ≡ []
  unfolding operand
  through-All body var over at = refl

  pub through-Any : (body : Expr) (var : Word) (over : TypeExpr) (at : ℕ) → looked_through scope vars (Any body var over at) ≡ []
  unfolding operand
  through-Any body var over at = refl

  compared-kind : (op : Op) (e f : Operand) → (compared op e f).kind ≡ number
  compared-kind Equal e f = refl
  compared-kind Differ e f = refl
  compared-kind Less e f = refl
  compared-kind AtMost e f = refl
  compared-kind Greater e f = refl
  compared-kind AtLeast e f = refl

  compared-at : (op : Op) (e f : Operand) → (compared op e f).at ≡ e.at
  compared-at Equal e f = refl
  compared-at Differ e f = refl
  compared-at Less e f = refl
  compared-at AtMost e f = refl
  compared-at Greater e f = refl
  compared-at AtLeast e f = refl

  orders : (e f : Operand) → ordered e f ≡ alike_with no_kind (e ∷ f ∷ []) ++ (misfit (has_order e.kind) e.at ++ misfit (has_order f.kind) f.at)
  unfolding unless misfit
  orders e f = append_assoc (alike_with no_kind (e ∷ f ∷ [])) (misfit (has_order e.kind) e.at) (misfit (has_order f.kind) f.at)

  compared-faults : (op : Op) (e f : Operand) → (compared op e f).faults ≡ alike_with no_kind (e ∷ f ∷ []) ++ order_faults op e.kind e.at f.kind f.at
  compared-faults Equal e f = sym (append-nil (alike_with no_kind (e ∷ f ∷ [])))
  compared-faults Differ e f = sym (append-nil (alike_with no_kind (e ∷ f ∷ [])))
  compared-faults Less e f = orders e f
  compared-faults AtMost e f = orders e f
  compared-faults Greater e f = orders e f
  compared-faults AtLeast e f = orders e f

  pub kind-Number : (value at : ℕ) → (operand scope vars (Number value at)).kind ≡ number
  kind-Number value at = ap (λ (e : Operand). e.kind) (operand-Number value at)

  pub at-Number : (value at : ℕ) → (operand scope vars (Number value at)).at ≡ at
  at-Number value at = ap (λ (e : Operand). e.at) (operand-Number value at)

  pub faults-Number : (value at : ℕ) → (operand scope vars (Number value at)).faults ≡ []
  faults-Number value at = ap (λ (e : Operand). e.faults) (operand-Number value at)

  pub kind-Signal : (path : Path) → (operand scope vars (Signal path)).kind ≡ (reference (out-Path path).at (reference_at scope vars (out-Path path).parts) (map (operand scope vars) (indexes_of (out-Path path).parts))).kind
  kind-Signal path = ap (λ (e : Operand). e.kind) (operand-Signal path)

  pub at-Signal : (path : Path) → (operand scope vars (Signal path)).at ≡ (reference (out-Path path).at (reference_at scope vars (out-Path path).parts) (map (operand scope vars) (indexes_of (out-Path path).parts))).at
  at-Signal path = ap (λ (e : Operand). e.at) (operand-Signal path)

  pub faults-Signal : (path : Path) → (operand scope vars (Signal path)).faults ≡ (reference (out-Path path).at (reference_at scope vars (out-Path path).parts) (map (operand scope vars) (indexes_of (out-Path path).parts))).faults
  faults-Signal path = ap (λ (e : Operand). e.faults) (operand-Signal path)

  pub kind-Not : (e : Expr) (at : ℕ) → (operand scope vars (Not e at)).kind ≡ number
  kind-Not e at = ap (λ (e : Operand). e.kind) (operand-Not e at)

  pub at-Not : (e : Expr) (at : ℕ) → (operand scope vars (Not e at)).at ≡ at
  at-Not e at = ap (λ (e : Operand). e.at) (operand-Not e at)

  pub faults-Not : (e : Expr) (at : ℕ) → (operand scope vars (Not e at)).faults ≡ takes_number (operand scope vars e)
  faults-Not e at = ap (λ (e : Operand). e.faults) (operand-Not e at)

  pub kind-And : (parts : List Expr) → (operand scope vars (And parts)).kind ≡ number
  kind-And parts = ap (λ (e : Operand). e.kind) (operand-And parts)

  pub at-And : (parts : List Expr) → (operand scope vars (And parts)).at ≡ begins_at (map (operand scope vars) parts)
  unfolding begins_at
  at-And parts = ap (λ (e : Operand). e.at) (operand-And parts)

  pub faults-And : (parts : List Expr) → (operand scope vars (And parts)).faults ≡ flat_map takes_number (map (operand scope vars) parts)
  faults-And parts = ap (λ (e : Operand). e.faults) (operand-And parts)

  pub kind-Or : (parts : List Expr) → (operand scope vars (Or parts)).kind ≡ number
  kind-Or parts = ap (λ (e : Operand). e.kind) (operand-Or parts)

  pub at-Or : (parts : List Expr) → (operand scope vars (Or parts)).at ≡ begins_at (map (operand scope vars) parts)
  unfolding begins_at
  at-Or parts = ap (λ (e : Operand). e.at) (operand-Or parts)

  pub faults-Or : (parts : List Expr) → (operand scope vars (Or parts)).faults ≡ flat_map takes_number (map (operand scope vars) parts)
  faults-Or parts = ap (λ (e : Operand). e.faults) (operand-Or parts)

  pub kind-Implies : (parts : List Expr) → (operand scope vars (Implies parts)).kind ≡ number
  kind-Implies parts = ap (λ (e : Operand). e.kind) (operand-Implies parts)

  pub at-Implies : (parts : List Expr) → (operand scope vars (Implies parts)).at ≡ begins_at (map (operand scope vars) parts)
  unfolding begins_at
  at-Implies parts = ap (λ (e : Operand). e.at) (operand-Implies parts)

  pub faults-Implies : (parts : List Expr) → (operand scope vars (Implies parts)).faults ≡ flat_map takes_number (map (operand scope vars) parts)
  faults-Implies parts = ap (λ (e : Operand). e.faults) (operand-Implies parts)

  pub kind-Iff : (x y : Expr) → (operand scope vars (Iff x y)).kind ≡ number
  kind-Iff x y = ap (λ (e : Operand). e.kind) (operand-Iff x y)

  pub at-Iff : (x y : Expr) → (operand scope vars (Iff x y)).at ≡ (operand scope vars x).at
  at-Iff x y = ap (λ (e : Operand). e.at) (operand-Iff x y)

  pub faults-Iff : (x y : Expr) → (operand scope vars (Iff x y)).faults ≡ takes_number (operand scope vars x) ++ (takes_number (operand scope vars y) ++ [])
  faults-Iff x y = ap (λ (e : Operand). e.faults) (operand-Iff x y)

  pub kind-Sum : (first : Expr) (more : List Signed) → (operand scope vars (Sum first more)).kind ≡ number
  kind-Sum first more = ap (λ (e : Operand). e.kind) (operand-Sum first more)

  pub at-Sum : (first : Expr) (more : List Signed) → (operand scope vars (Sum first more)).at ≡ (operand scope vars first).at
  at-Sum first more = ap (λ (e : Operand). e.at) (operand-Sum first more)

  pub faults-Sum : (first : Expr) (more : List Signed) → (operand scope vars (Sum first more)).faults ≡ takes_number (operand scope vars first) ++ flat_map takes_number (map (addend scope vars) more)
  faults-Sum first more = ap (λ (e : Operand). e.faults) (operand-Sum first more)

  pub kind-Modulo : (e : Expr) (by at : ℕ) → (operand scope vars (Modulo e by at)).kind ≡ number
  kind-Modulo e by at = ap (λ (e : Operand). e.kind) (operand-Modulo e by at)

  pub at-Modulo : (e : Expr) (by at : ℕ) → (operand scope vars (Modulo e by at)).at ≡ (operand scope vars e).at
  at-Modulo e by at = ap (λ (e : Operand). e.at) (operand-Modulo e by at)

  pub faults-Modulo : (e : Expr) (by at : ℕ) → (operand scope vars (Modulo e by at)).faults ≡ takes_number (operand scope vars e) ++ faults_at (12, place_if (nat_eq by 0) at)
  faults-Modulo e by at = ap (λ (e : Operand). e.faults) (operand-Modulo e by at)

  pub kind-Choose : (c x y : Expr) → (operand scope vars (Choose c x y)).kind ≡ joined (operand scope vars x).kind (operand scope vars y).kind
  kind-Choose c x y = ap (λ (e : Operand). e.kind) (operand-Choose c x y)

  pub at-Choose : (c x y : Expr) → (operand scope vars (Choose c x y)).at ≡ (operand scope vars c).at
  at-Choose c x y = ap (λ (e : Operand). e.at) (operand-Choose c x y)

  pub faults-Choose : (c x y : Expr) → (operand scope vars (Choose c x y)).faults ≡ takes_number (operand scope vars c) ++ alike_with no_kind ((operand scope vars x) ∷ (operand scope vars y) ∷ [])
  faults-Choose c x y = ap (λ (e : Operand). e.faults) (operand-Choose c x y)

  pub kind-All : (body : Expr) (var : Word) (over : TypeExpr) (at : ℕ) → (operand scope vars (All body var over at)).kind ≡ number
  kind-All body var over at = ap (λ (e : Operand). e.kind) (operand-All body var over at)

  pub at-All : (body : Expr) (var : Word) (over : TypeExpr) (at : ℕ) → (operand scope vars (All body var over at)).at ≡ at
  at-All body var over at = ap (λ (e : Operand). e.at) (operand-All body var over at)

  pub faults-All : (body : Expr) (var : Word) (over : TypeExpr) (at : ℕ) → (operand scope vars (All body var over at)).faults ≡ (reduced scope at (operand scope (bind scope vars var over) body) over).faults
  faults-All body var over at = ap (λ (e : Operand). e.faults) (operand-All body var over at)

  pub kind-Any : (body : Expr) (var : Word) (over : TypeExpr) (at : ℕ) → (operand scope vars (Any body var over at)).kind ≡ number
  kind-Any body var over at = ap (λ (e : Operand). e.kind) (operand-Any body var over at)

  pub at-Any : (body : Expr) (var : Word) (over : TypeExpr) (at : ℕ) → (operand scope vars (Any body var over at)).at ≡ at
  at-Any body var over at = ap (λ (e : Operand). e.at) (operand-Any body var over at)

  pub faults-Any : (body : Expr) (var : Word) (over : TypeExpr) (at : ℕ) → (operand scope vars (Any body var over at)).faults ≡ (reduced scope at (operand scope (bind scope vars var over) body) over).faults
  faults-Any body var over at = ap (λ (e : Operand). e.faults) (operand-Any body var over at)

  pub kind-Within : (x y : Expr) → (operand scope vars (Within x y)).kind ≡ number
  kind-Within x y = ap (λ (e : Operand). e.kind) (operand-Within x y)

  pub at-Within : (x y : Expr) → (operand scope vars (Within x y)).at ≡ (operand scope vars x).at
  at-Within x y = ap (λ (e : Operand). e.at) (operand-Within x y)

  pub faults-Within : (x y : Expr) → (operand scope vars (Within x y)).faults ≡ alike_with no_kind ((operand scope vars x) ∷ looked_through scope vars y)
  faults-Within x y = ap (λ (e : Operand). e.faults) (operand-Within x y)

  pub kind-List : (parts : List Member) (at : ℕ) → (operand scope vars (ListOf parts at)).kind ≡ no_kind
  kind-List parts at = ap (λ (e : Operand). e.kind) (operand-List parts at)

  pub at-List : (parts : List Member) (at : ℕ) → (operand scope vars (ListOf parts at)).at ≡ at
  at-List parts at = ap (λ (e : Operand). e.at) (operand-List parts at)

  pub faults-List : (parts : List Member) (at : ℕ) → (operand scope vars (ListOf parts at)).faults ≡ (stray_set at).faults
  faults-List parts at = ap (λ (e : Operand). e.faults) (operand-List parts at)

  pub kind-Each : (var : Word) (over : TypeExpr) (cond : Option Expr) (at : ℕ) → (operand scope vars (Each var over cond at)).kind ≡ no_kind
  kind-Each var over cond at = ap (λ (e : Operand). e.kind) (operand-Each var over cond at)

  pub at-Each : (var : Word) (over : TypeExpr) (cond : Option Expr) (at : ℕ) → (operand scope vars (Each var over cond at)).at ≡ at
  at-Each var over cond at = ap (λ (e : Operand). e.at) (operand-Each var over cond at)

  pub faults-Each : (var : Word) (over : TypeExpr) (cond : Option Expr) (at : ℕ) → (operand scope vars (Each var over cond at)).faults ≡ (stray_set at).faults
  faults-Each var over cond at = ap (λ (e : Operand). e.faults) (operand-Each var over cond at)

  pub kind-Compare : (op : Op) (x y : Expr) → (operand scope vars (Compare op x y)).kind ≡ number
  kind-Compare op x y = ap (λ (e : Operand). e.kind) (operand-Compare op x y) ∙ compared-kind op (operand scope vars x) (operand scope vars y)

  pub at-Compare : (op : Op) (x y : Expr) → (operand scope vars (Compare op x y)).at ≡ (operand scope vars x).at
  at-Compare op x y = ap (λ (e : Operand). e.at) (operand-Compare op x y) ∙ compared-at op (operand scope vars x) (operand scope vars y)

  pub faults-Compare : (op : Op) (x y : Expr) → (operand scope vars (Compare op x y)).faults ≡ alike_with no_kind ((operand scope vars x) ∷ (operand scope vars y) ∷ []) ++ order_faults op (operand scope vars x).kind (operand scope vars x).at (operand scope vars y).kind (operand scope vars y).at
  faults-Compare op x y = ap (λ (e : Operand). e.faults) (operand-Compare op x y) ∙ compared-faults op (operand scope vars x) (operand scope vars y)

pub ruleset kinds = (kind-Number, kind-Signal, kind-Not, kind-And, kind-Or, kind-Implies, kind-Iff, kind-Compare, kind-Within, kind-Sum, kind-Modulo, kind-Choose, kind-All, kind-Any, kind-List, kind-Each)

pub ruleset ats = (at-Number, at-Signal, at-Not, at-And, at-Or, at-Implies, at-Iff, at-Compare, at-Within, at-Sum, at-Modulo, at-Choose, at-All, at-Any, at-List, at-Each)

pub ruleset faults = (faults-Number, faults-Signal, faults-Not, faults-And, faults-Or, faults-Implies, faults-Iff, faults-Compare, faults-Within, faults-Sum, faults-Modulo, faults-Choose, faults-All, faults-Any, faults-List, faults-Each)

pub ruleset through = (through-List, through-Each, through-Number, through-Signal, through-Not, through-And, through-Or, through-Implies, through-Iff, through-Compare, through-Within, through-Sum, through-Modulo, through-Choose, through-All, through-Any)
