-- The values of assignments, on expressions that are made of lists and values.
use Rattle.std.proofs.Common.{◌≡◌, ℕ, List, [], ◌∷◌, ◌++◌, map, refl, ap, ◌∙◌}
use Rattle.std.specs.Prelude.{Some, None}
use Rattle.std.proofs.lemmas.List.{append-nil}
use Rattle.smv_core.specs.declared.tree.Word.{Word}
use Rattle.smv_core.specs.declared.tree.TypeExpr.{TypeExpr}
use Rattle.smv_core.specs.declared.tree.Op.{Op}
use Rattle.smv_core.specs.declared.tree.Path.{Path}
use Rattle.smv_core.specs.declared.tree.Signed.{Signed}
use Rattle.smv_core.specs.declared.tree.Member.{Member}
use Rattle.smv_core.specs.declared.tree.Expr.{Expr, Number, Signal, Not, And, Or, Implies, Iff, Compare, Within, Sum, Modulo, Choose, All, Any, List as ListOf, Each}
use Rattle.smv_core.specs.declared.tree.Expr.{items_hidden-the_row-Member-4}
use Rattle.law_designs.specs.Kinds.{Operand, no_kind, joined, chosen, listed, takes_number, alike_with, kind_with}
use Rattle.law_designs.specs.Types.{index_kind, index_faults}
use Rattle.law_designs.specs.References.{Scope, Vars}
use Rattle.law_designs.specs.Operands.{operand, value, bind}
use Rattle.smv_operand_kinds.specs.Found.{member}
use Rattle.smv_operand_kinds.proofs.OperandLaws.{members_of, members-row}
use Rattle.smv_mentions.proofs.Computing.{computing}

module _ (scope : Scope) (vars : Vars) where
  pub value-List : (parts : List Member) (at : ℕ) → value scope vars (ListOf parts at) ≡ listed at (map (member scope vars) parts)
  unfolding value
  value-List parts at =
      ap (listed at) (members-row scope vars (members_of scope vars (ListOf parts at)).0 (members_of scope vars (ListOf parts at)).1 ∙ ap (map (member scope vars)) (items_hidden-the_row-Member-4 parts))

  pub value-Each : (var : Word) (over : TypeExpr) (at : ℕ)
      → value scope vars (Each var over None at) ≡ record { kind = index_kind scope.here.types over; at = at; faults = index_faults scope.here.types over ++ [] }
  unfolding value computing
  value-Each var over at = refl

  pub value-Each_if : (var : Word) (over : TypeExpr) (cond : Expr) (at : ℕ)
      → value scope vars (Each var over (Some cond) at)
      ≡ record { kind = index_kind scope.here.types over; at = at; faults = index_faults scope.here.types over ++ takes_number (operand scope (bind scope vars var over) cond) }
  unfolding value computing
  value-Each_if var over cond at = refl

  pub value-Choose : (c x y : Expr) → value scope vars (Choose c x y) ≡ chosen (operand scope vars c) (value scope vars x) (value scope vars y)
  unfolding value computing
  value-Choose c x y = refl

  pub value-Number : (n at : ℕ) → value scope vars (Number n at) ≡ operand scope vars (Number n at)
  unfolding value
  value-Number n at = refl

  pub value-Signal : (path : Path) → value scope vars (Signal path) ≡ operand scope vars (Signal path)
  unfolding value
  value-Signal path = refl

  pub value-Not : (e : Expr) (at : ℕ) → value scope vars (Not e at) ≡ operand scope vars (Not e at)
  unfolding value
  value-Not e at = refl

  pub value-And : (parts : List Expr) → value scope vars (And parts) ≡ operand scope vars (And parts)
  unfolding value
  value-And parts = refl

  pub value-Or : (parts : List Expr) → value scope vars (Or parts) ≡ operand scope vars (Or parts)
  unfolding value
  value-Or parts = refl

  pub value-Implies : (parts : List Expr) → value scope vars (Implies parts) ≡ operand scope vars (Implies parts)
  unfolding value
  value-Implies parts = refl

  pub value-Iff : (x y : Expr) → value scope vars (Iff x y) ≡ operand scope vars (Iff x y)
  unfolding value
  value-Iff x y = refl

  pub value-Compare : (op : Op) (x y : Expr) → value scope vars (Compare op x y) ≡ operand scope vars (Compare op x y)
  unfolding value
  value-Compare op x y = refl

  pub value-Within : (x y : Expr) → value scope vars (Within x y) ≡ operand scope vars (Within x y)
  unfolding value
  value-Within x y = refl

  pub value-Sum : (first : Expr) (more : List Signed) → value scope vars (Sum first more) ≡ operand scope vars (Sum first more)
  unfolding value
  value-Sum first more = refl

  pub value-Modulo : (e : Expr) (by at : ℕ) → value scope vars (Modulo e by at) ≡ operand scope vars (Modulo e by at)
  unfolding value
  value-Modulo e by at = refl

  pub value-All : (body : Expr) (var : Word) (over : TypeExpr) (at : ℕ) → value scope vars (All body var over at) ≡ operand scope vars (All body var over at)
  unfolding value
  value-All body var over at = refl

  pub value-Any : (body : Expr) (var : Word) (over : TypeExpr) (at : ℕ) → value scope vars (Any body var over at) ≡ operand scope vars (Any body var over at)
  unfolding value
  value-Any body var over at = refl

  pub kind-List : (parts : List Member) (at : ℕ) → (value scope vars (ListOf parts at)).kind ≡ kind_with no_kind (map (member scope vars) parts)
  kind-List parts at = ap (λ (e : Operand). e.kind) (value-List parts at)

  pub at-List : (parts : List Member) (at : ℕ) → (value scope vars (ListOf parts at)).at ≡ at
  at-List parts at = ap (λ (e : Operand). e.at) (value-List parts at)

  pub faults-List : (parts : List Member) (at : ℕ) → (value scope vars (ListOf parts at)).faults ≡ alike_with no_kind (map (member scope vars) parts)
  faults-List parts at = ap (λ (e : Operand). e.faults) (value-List parts at)

  pub kind-Each : (var : Word) (over : TypeExpr) (at : ℕ) → (value scope vars (Each var over None at)).kind ≡ index_kind scope.here.types over
  kind-Each var over at = ap (λ (e : Operand). e.kind) (value-Each var over at)

  pub at-Each : (var : Word) (over : TypeExpr) (at : ℕ) → (value scope vars (Each var over None at)).at ≡ at
  at-Each var over at = ap (λ (e : Operand). e.at) (value-Each var over at)

  pub faults-Each : (var : Word) (over : TypeExpr) (at : ℕ) → (value scope vars (Each var over None at)).faults ≡ index_faults scope.here.types over
  faults-Each var over at = ap (λ (e : Operand). e.faults) (value-Each var over at) ∙ append-nil (index_faults scope.here.types over)

  pub kind-Each_if : (var : Word) (over : TypeExpr) (cond : Expr) (at : ℕ) → (value scope vars (Each var over (Some cond) at)).kind ≡ index_kind scope.here.types over
  kind-Each_if var over cond at = ap (λ (e : Operand). e.kind) (value-Each_if var over cond at)

  pub at-Each_if : (var : Word) (over : TypeExpr) (cond : Expr) (at : ℕ) → (value scope vars (Each var over (Some cond) at)).at ≡ at
  at-Each_if var over cond at = ap (λ (e : Operand). e.at) (value-Each_if var over cond at)

  pub faults-Each_if : (var : Word) (over : TypeExpr) (cond : Expr) (at : ℕ) → (value scope vars (Each var over (Some cond) at)).faults ≡ index_faults scope.here.types over ++ takes_number (operand scope (bind scope vars var over) cond)
  faults-Each_if var over cond at = ap (λ (e : Operand). e.faults) (value-Each_if var over cond at)

  pub kind-Choose : (c x y : Expr) → (value scope vars (Choose c x y)).kind ≡ joined (value scope vars x).kind (value scope vars y).kind
  kind-Choose c x y = ap (λ (e : Operand). e.kind) (value-Choose c x y)

  pub at-Choose : (c x y : Expr) → (value scope vars (Choose c x y)).at ≡ (operand scope vars c).at
  at-Choose c x y = ap (λ (e : Operand). e.at) (value-Choose c x y)

  pub faults-Choose : (c x y : Expr) → (value scope vars (Choose c x y)).faults ≡ takes_number (operand scope vars c) ++ alike_with no_kind (value scope vars x ∷ value scope vars y ∷ [])
  faults-Choose c x y = ap (λ (e : Operand). e.faults) (value-Choose c x y)

pub ruleset same = (value-Number, value-Signal, value-Not, value-And, value-Or, value-Implies, value-Iff, value-Compare, value-Within, value-Sum, value-Modulo, value-All, value-Any)

pub ruleset kinds = (kind-List, kind-Each, kind-Each_if, kind-Choose)

pub ruleset ats = (at-List, at-Each, at-Each_if, at-Choose)

pub ruleset faults = (faults-List, faults-Each, faults-Each_if, faults-Choose)
