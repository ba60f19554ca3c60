-- Expressions within a number are operands within it.
use Rattle.std.proofs.Common.{◌≤◌, ℕ, List, [], ◌∷◌, map, refl}
use Rattle.std.specs.List.{AllByRecursion}
use Rattle.smv_core.specs.Walk.{indexes_of}
use Rattle.smv_core.specs.declared.tree.TypeExpr.{TypeExpr}
use Rattle.smv_core.specs.declared.tree.Path.{Path, out-Path}
use Rattle.smv_core.specs.declared.tree.Part.{Part, Field, At}
use Rattle.smv_core.specs.declared.tree.Member.{One, Span as SpanOf}
use Rattle.smv_core.specs.declared.tree.Expr.{Expr, Number, Signal', Not', And', Or', Implies', Iff', Compare', Within', Sum', Modulo', Choose', All', Any', List', Each', Held-Expr-Each-2, None', Some', Row_of-Expr, end_of-Expr, more_of-Expr, Row_of-Part, end_of-Part, more_of-Part, Row_of-Member, end_of-Member, more_of-Member, Row_of-Signed, end_of-Signed, more_of-Signed, items-the_row-Part}
use Rattle.law_designs.specs.Kinds.{takes_number, Operand}
use Rattle.law_designs.specs.Types.{index_faults, is_reversed}
use Rattle.law_designs.specs.References.{Scope, Vars, reference_at, signal_at, reference}
use Rattle.law_designs.specs.Operands.{bind, reduced, operand, operands, indexes, summands, members, looked_through, condition_faults, value, target}
use Rattle.law_fault_places.specs.TreePlaces.{TypeIsWithin, ExprIsWithin, RowIsWithin, PartsAreWithin, TermsAreWithin, MembersAreWithin, ConditionIsWithin, PartIsWithin, PathIsWithin}
use Rattle.law_fault_places.proofs.Operands.{AreWithin, both, placed, IsOperandWithin, AreOperandsWithin, takes_number-within, of_alike-within, numbers-within, chosen-within, listed-within, stray-within, compared-within, remainder-within, reference-within, index-within}

module _ (n : ℕ) (scope : Scope) where
  reduced-within : (at : ℕ) (body : Operand) (over : TypeExpr) → at ≤ n → IsOperandWithin n body → TypeIsWithin n over → IsOperandWithin n (reduced scope at body over)
  reduced-within at body over h g o = record { place = h; faults = both n (takes_number body) (index_faults scope.here.types over) (takes_number-within n body g) (index-within n scope.here.types over o) }

  mutual
    unfolding operand operands indexes summands members looked_through

    pub operand-within : (vars : Vars) (e : Expr) → ExprIsWithin n e → IsOperandWithin n (operand scope vars e)
    operand-within vars (Number value at) h = record { place = h; faults = tt }
    operand-within vars (Signal' shape parts at) h = reference-within n at (reference_at scope vars (items-the_row-Part _ parts)) (indexes scope vars parts) h.0 (indexes-within vars parts h.1)
    operand-within vars (Not' shape (more_of-Expr e end_of-Expr) at) h = record { place = h.0; faults = takes_number-within n (operand scope vars e) (operand-within vars e h.1) }
    operand-within vars (And' shape parts) h = numbers-within n (operands scope vars parts) (operands-within vars parts h)
    operand-within vars (Or' shape parts) h = numbers-within n (operands scope vars parts) (operands-within vars parts h)
    operand-within vars (Implies' shape parts) h = numbers-within n (operands scope vars parts) (operands-within vars parts h)
    operand-within vars (Iff' l (more_of-Expr left end_of-Expr) r (more_of-Expr right end_of-Expr)) h =
        numbers-within n (operand scope vars left ∷ operand scope vars right ∷ []) (operand-within vars left h.0, (operand-within vars right h.1, tt))
    operand-within vars (Compare' op l (more_of-Expr left end_of-Expr) r (more_of-Expr right end_of-Expr)) h =
        compared-within n op (operand scope vars left) (operand scope vars right) (operand-within vars left h.0) (operand-within vars right h.1)
    operand-within vars (Within' l (more_of-Expr left end_of-Expr) r (more_of-Expr set end_of-Expr)) h =
        of_alike-within n (operand scope vars left ∷ looked_through scope vars set) (operand-within vars left h.0, through-within vars set h.1)
    operand-within vars (Sum' f (more_of-Expr first end_of-Expr) shape more) h = numbers-within n (operand scope vars first ∷ summands scope vars more) (operand-within vars first h.0, summands-within vars more h.1)
    operand-within vars (Modulo' shape (more_of-Expr e end_of-Expr) by at) h = remainder-within n (operand scope vars e) by at (operand-within vars e h.1) h.0
    operand-within vars (Choose' c (more_of-Expr cond end_of-Expr) l (more_of-Expr left end_of-Expr) r (more_of-Expr right end_of-Expr)) h =
        chosen-within n (operand scope vars cond) (operand scope vars left) (operand scope vars right) (operand-within vars cond h.0) (operand-within vars left h.1) (operand-within vars right h.2)
    operand-within vars (All' shape (more_of-Expr body end_of-Expr) var over at) h = reduced-within at (operand scope (bind scope vars var over) body) over h.0 (operand-within (bind scope vars var over) body h.3) h.2
    operand-within vars (Any' shape (more_of-Expr body end_of-Expr) var over at) h = reduced-within at (operand scope (bind scope vars var over) body) over h.0 (operand-within (bind scope vars var over) body h.3) h.2
    operand-within vars (List' shape parts at) h = stray-within n at h.0
    operand-within vars (Each' var over cond at) h = stray-within n at h.0

    operands-within : {m : _} (vars : Vars) (row : Row_of-Expr m) → RowIsWithin n row → AreOperandsWithin n (operands scope vars row)
    operands-within vars end_of-Expr h = tt
    operands-within vars (more_of-Expr e rest) h = (operand-within vars e h.0, operands-within vars rest h.1)

    indexes-within : {m : _} (vars : Vars) (row : Row_of-Part m) → PartsAreWithin n row → AreOperandsWithin n (indexes scope vars row)
    indexes-within vars end_of-Part h = tt
    indexes-within vars (more_of-Part (Field word) rest) h = indexes-within vars rest h.1
    indexes-within vars (more_of-Part (At index) rest) h = (operand-within vars index h.0, indexes-within vars rest h.1)

    summands-within : {m : _} (vars : Vars) (row : Row_of-Signed m) → TermsAreWithin n row → AreOperandsWithin n (summands scope vars row)
    summands-within vars end_of-Signed h = tt
    summands-within vars (more_of-Signed minus e rest) h = (operand-within vars e h.0, summands-within vars rest h.1)

    members-within : {m : _} (vars : Vars) (row : Row_of-Member m) → MembersAreWithin n row → AreOperandsWithin n (members scope vars row)
    members-within vars end_of-Member h = tt
    members-within vars (more_of-Member (One e) rest) h = (operand-within vars e h.0, members-within vars rest h.1)
    members-within vars (more_of-Member (SpanOf span at) rest) h = (record { place = h.0; faults = placed n 13 refl (is_reversed span) at h.0 }, members-within vars rest h.1)

    through-within : (vars : Vars) (e : Expr) → ExprIsWithin n e → AreOperandsWithin n (looked_through scope vars e)
    through-within vars (List' shape parts at) h = members-within vars parts h.1
    through-within vars (Each' var over cond at) h = (stray-within n at h.0, tt)
    through-within vars _ h = tt

  condition-within : (vars : Vars) (cond : Held-Expr-Each-2) → ConditionIsWithin n cond → AreWithin n (condition_faults scope vars cond)
  condition-within vars None' h = tt
  condition-within vars (Some' shape (more_of-Expr cond end_of-Expr)) h = takes_number-within n (operand scope vars cond) (operand-within vars cond h)

  pub value-within : (vars : Vars) (e : Expr) → ExprIsWithin n e → IsOperandWithin n (value scope vars e)
  unfolding value
  value-within vars (List' shape parts at) h = listed-within n at (members scope vars parts) h.0 (members-within vars parts h.1)
  value-within vars (Each' var over cond at) h = record {
    place = h.0;
    faults = both n (index_faults scope.here.types over) (condition_faults scope (bind scope vars var over) cond) (index-within n scope.here.types over h.2) (condition-within (bind scope vars var over) cond h.3);
  }
  value-within vars (Choose' c (more_of-Expr cond end_of-Expr) l (more_of-Expr left end_of-Expr) r (more_of-Expr right end_of-Expr)) h =
      chosen-within n (operand scope vars cond) (value scope vars left) (value scope vars right) (operand-within vars cond h.0) (value-within vars left h.1) (value-within vars right h.2)
  value-within vars (Number k at) h = operand-within vars (Number k at) h
  value-within vars (Signal' shape parts at) h = operand-within vars (Signal' shape parts at) h
  value-within vars (Not' shape e at) h = operand-within vars (Not' shape e at) h
  value-within vars (And' shape parts) h = operand-within vars (And' shape parts) h
  value-within vars (Or' shape parts) h = operand-within vars (Or' shape parts) h
  value-within vars (Implies' shape parts) h = operand-within vars (Implies' shape parts) h
  value-within vars (Iff' l left r right) h = operand-within vars (Iff' l left r right) h
  value-within vars (Compare' op l left r right) h = operand-within vars (Compare' op l left r right) h
  value-within vars (Within' l left r set) h = operand-within vars (Within' l left r set) h
  value-within vars (Sum' f first shape more) h = operand-within vars (Sum' f first shape more) h
  value-within vars (Modulo' shape e by at) h = operand-within vars (Modulo' shape e by at) h
  value-within vars (All' shape body var over at) h = operand-within vars (All' shape body var over at) h
  value-within vars (Any' shape body var over at) h = operand-within vars (Any' shape body var over at) h

  -- the indexes of a path that is given by its parts
  parts-within : (vars : Vars) (parts : List Part) → AllByRecursion (PartIsWithin n) parts → AreOperandsWithin n (map (operand scope vars) (indexes_of parts))
  parts-within vars [] h = tt
  parts-within vars (Field word ∷ parts) h = parts-within vars parts h.1
  parts-within vars (At index ∷ parts) h = (operand-within vars index h.0, parts-within vars parts h.1)

  pub path-within : (vars : Vars) (parts : List Part) (at : ℕ) → at ≤ n → AllByRecursion (PartIsWithin n) parts → IsOperandWithin n (reference at (signal_at scope parts) (map (operand scope vars) (indexes_of parts)))
  path-within vars parts at h g = reference-within n at (signal_at scope parts) (map (operand scope vars) (indexes_of parts)) h (parts-within vars parts g)

  pub target-within : (vars : Vars) (path : Path) → PathIsWithin n path → IsOperandWithin n (target scope vars path)
  target-within vars path h = path-within vars (out-Path path).parts (out-Path path).at h.0 h.1
