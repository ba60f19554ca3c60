-- The first fault of set types in statements that are made of lists and values, and in items.
use Rattle.std.proofs.Common.{◌≡◌, ℕ, List, [], ◌++◌, map, refl, ap, ◌∙◌}
use Rattle.std.specs.Prelude.{Option, None, slice_get}
use Rattle.std.specs.List.{flat_map}
use Rattle.smv_core.specs.declared.tree.Kind.{Kind}
use Rattle.smv_core.specs.declared.flat.Simple.{Simple}
use Rattle.smv_core.specs.declared.flat.Claim.{Claim}
use Rattle.smv_core.specs.declared.flat.FlatPair.{FlatPair}
use Rattle.smv_core.specs.declared.flat.FlatSplit.{FlatSplit}
use Rattle.smv_core.specs.declared.flat.FlatUsing.{FlatUsing}
use Rattle.smv_core.specs.declared.flat.FlatText.{FlatText}
use Rattle.smv_core.specs.declared.flat.FlatExpr.{FlatExpr}
use Rattle.smv_core.specs.declared.flat.FlatStmt.{FlatStmt, Assign, If, Default, Forall, Block, Block', Row_of-FlatStmt, end_of-FlatStmt, more_of-FlatStmt, items-the_row-FlatStmt, items_hidden-the_row-FlatStmt-1}
use Rattle.smv_core.specs.declared.flat.FlatItem.TheVariants as item
use mathlib.Core.Former.{Count}
use Rattle.law_designs.proofs.FlatLists.{boxes}
use Rattle.smv_mentions.specs.FirstFault.{first_of}
use Rattle.smv_first_fault.specs.Firsts.{earlier_of}
use Rattle.smv_first_fault.proofs.FirstLaws.{earlier-assoc, first-both}
use Rattle.law_designs.specs.FlatKinds.{FlatVars, inside, bound_by}
use Rattle.law_designs.specs.SetOperands.{wanted_at, wanted_of}
use Rattle.law_designs.specs.SetFaults as spec
use Rattle.smv_symmetric.specs.Plain.{first_among, sort_in, operand, fault_in, assigned_fault, statement_fault, both_statement_faults, item_fault}
use Rattle.smv_symmetric.proofs.TurnLaws.{first-each}

module _ (flat_text : FlatText) where
  each-first : (vars : FlatVars) (es : List FlatExpr) → first_of (flat_map (spec.faults_in flat_text (sort_in flat_text) vars) es) ≡ first_among (map (fault_in flat_text vars) es)
  unfolding fault_in
  each-first vars es = first-each (spec.faults_in flat_text (sort_in flat_text) vars) es

  module _ (vars : FlatVars) where
    row-first : (k : _) (row : Row_of-FlatStmt k) → first_of (spec.faults_of_each flat_text (sort_in flat_text) vars row) ≡ first_among (map (statement_fault flat_text vars) (items-the_row-FlatStmt k row))
    unfolding statement_fault
    row-first k end_of-FlatStmt = refl
    row-first k (more_of-FlatStmt part rest) =
        first-both (spec.faults_of flat_text (sort_in flat_text) vars part) (spec.faults_of_each flat_text (sort_in flat_text) vars rest) ∙ ap (earlier_of (statement_fault flat_text vars part)) (row-first _ rest)

    abbrev stmts_of : FlatStmt → (k : Count) × Row_of-FlatStmt k
    stmts_of (Block' shape row) = (_, row)
    stmts_of _ = (_, end_of-FlatStmt)

    pub statement-Assign : (kind : Kind) (family : ℕ) (left : List FlatExpr) (value : FlatExpr) (at : ℕ) → statement_fault flat_text vars (Assign kind family left value at) ≡ assigned_fault flat_text vars family left value
    unfolding statement_fault fault_in
    statement-Assign kind family left value at =
        let a = flat_map (spec.faults_in flat_text (sort_in flat_text) vars) left in
        let b = wanted_at (slice_get flat_text.families family) (map (operand flat_text vars) left) in
        let c = spec.faults_in flat_text (sort_in flat_text) vars value in
        let e = wanted_of (slice_get flat_text.families family) (operand flat_text vars value) in
        first-both (a ++ b ++ c) e
        ∙ ap (λ f. earlier_of f (first_of e)) (first-both (a ++ b) c ∙ ap (λ f. earlier_of f (first_of c)) (first-both a b ∙ ap (λ f. earlier_of f (first_of b)) (each-first vars left)))

    pub statement-If : (cond : FlatExpr) (l r : FlatStmt) → statement_fault flat_text vars (If cond l r) ≡ earlier_of (fault_in flat_text vars cond) (both_statement_faults flat_text vars l r)
    unfolding statement_fault fault_in boxes
    statement-If cond l r =
        let a = spec.faults_in flat_text (sort_in flat_text) vars cond in
        let b = spec.faults_of flat_text (sort_in flat_text) vars l in
        let c = spec.faults_of flat_text (sort_in flat_text) vars r in
        first-both (a ++ b) c ∙ ap (λ f. earlier_of f (first_of c)) (first-both a b) ∙ earlier-assoc (first_of a) (first_of b) (first_of c)

    pub statement-Block : (parts : List FlatStmt) → statement_fault flat_text vars (Block parts) ≡ first_among (map (statement_fault flat_text vars) parts)
    unfolding statement_fault
    statement-Block parts =
        let row : (k : Count) × Row_of-FlatStmt k = stmts_of (Block parts) in
        row-first row.0 row.1 ∙ ap (λ l. first_among (map (statement_fault flat_text vars) l)) (items_hidden-the_row-FlatStmt-1 parts)

    pub statement-Default : (l r : FlatStmt) → statement_fault flat_text vars (Default l r) ≡ both_statement_faults flat_text vars l r
    unfolding statement_fault boxes
    statement-Default l r = first-both (spec.faults_of flat_text (sort_in flat_text) vars l) (spec.faults_of flat_text (sort_in flat_text) vars r)

    pub statement-Forall : (var : ℕ) (over : Simple) (body : FlatStmt) → statement_fault flat_text vars (Forall var over body) ≡ statement_fault flat_text (inside vars over) body
    unfolding statement_fault boxes
    statement-Forall var over body = refl

  -- ---- items

  pub item-Act : (layer : Option ℕ) (act : FlatStmt) → item_fault flat_text (item.Act layer act) ≡ statement_fault flat_text [] act
  unfolding item_fault statement_fault
  item-Act layer act = refl

  pub item-Claim : (claim : Claim) → item_fault flat_text (item.Claim claim) ≡ fault_in flat_text (bound_by flat_text claim.params) claim.body
  unfolding item_fault fault_in
  item-Claim claim = refl

  pub item-Split : (split : FlatSplit) → item_fault flat_text (item.Split split) ≡ first_among (map (λ (pair : FlatPair). fault_in flat_text (bound_by flat_text split.bound) pair.left) split.pairs)
  unfolding item_fault fault_in
  item-Split split = first-each (λ (pair : FlatPair). spec.faults_in flat_text (sort_in flat_text) (bound_by flat_text split.bound) pair.left) split.pairs

  pub item-Using : (using' : FlatUsing) → item_fault flat_text (item.Using using') ≡ None
  unfolding item_fault
  item-Using using' = refl

pub ruleset equations = (statement-Assign, statement-If, statement-Block, statement-Default, statement-Forall)

pub ruleset items = (item-Act, item-Claim, item-Split, item-Using)
