-- In a module a statement without faults of kinds is right.
use Rattle.law_designs.proofs.Opening.{opening}
use Rattle.std.proofs.Common.{◌≡◌, List, [], ◌∷◌, map, flat_map, length, refl, ◌∙◌, arith}
use Rattle.std.specs.List.{AllByRecursion}
use Rattle.smv_core.specs.Walk.{indexes_of}
use Rattle.smv_core.specs.Assignments.{Around, loop, any}
use Rattle.smv_core.specs.declared.tree.Path.{out-Path}
use Rattle.smv_core.specs.declared.tree.Stmt.{Stmt, Assign, Block', If', Switch', Default', For', Forall', Held-Stmt-If-2, Row_of-Stmt, end_of-Stmt, more_of-Stmt, Row_of-Arm, end_of-Arm, more_of-Arm}
use Rattle.smv_core.specs.declared.tree.Stmt as stmt
use Rattle.law_designs.specs.Kinds.{Operand, number, takes_number, takes, alike}
use Rattle.law_designs.specs.Types.{index_faults}
use Rattle.law_designs.specs.References as kinds
use Rattle.law_designs.specs.References.{Vars, signal_at}
use Rattle.law_designs.specs.Operands.{bind, operand, value, target}
use Rattle.law_designs.specs.KindFaults.{in_stmt, in_block, in_branch, in_arms, labels}
use Rattle.law_designs.specs.Numbers.{Scope}
use Rattle.law_designs.specs.Agreement.{StatementIsRight, StatementsAreRight, BranchIsRight, ArmsAreRight}
use Rattle.law_designs.specs.Written.{StatementIsWritten, StatementsAreWritten, BranchIsWritten, ArmsAreWritten}
use Rattle.law_designs.proofs.Faultless.{empty-both, empty-three, each-front, each-behind, AreFine, number-fine, taken-fine, alike-fine, reference-fine}
use Rattle.law_designs.proofs.Expressions.{AreSameNames, SignalsCount, OwnAreFamilies, ConstantsAreListed, expression-right, are-right, value-right}

pub mapped-length : {X Y : Type 0} (f : X → Y) (xs : List X) → length xs ≡ length (map f xs)
unfolding opening
mapped-length f [] = refl
mapped-length f (x ∷ xs) = step (mapped-length f xs)
  where
    step : length xs ≡ length (map f xs) → length (x ∷ xs) ≡ length (f x ∷ map f xs)
    step h = omega (arith, h)

module _ (scope : kinds.Scope) (flat : Scope) (counted : SignalsCount scope) (own : OwnAreFamilies scope flat) (listed : ConstantsAreListed scope flat) where
  mutual
    unfolding opening

    pub statement-right : (vars : Vars) (around : Around) → AreSameNames vars around → (act : Stmt) → StatementIsWritten act → in_stmt scope vars act ≡ [] → StatementIsRight flat around act
    statement-right vars around same (Assign kind left right at) written fine =
        let both = empty-both (target scope vars left).faults (takes (target scope vars left).kind (value scope vars right)) fine in
        let r = reference-fine (out-Path left).at (signal_at scope (out-Path left).parts) (map (operand scope vars) (indexes_of (out-Path left).parts)) both.0 in (
          are-right scope flat counted own listed vars around same (indexes_of (out-Path left).parts) written.0 (r.2 (counted (out-Path left).parts r.0 r.1 ∙ mapped-length (operand scope vars) (indexes_of (out-Path left).parts))),
          value-right scope flat counted own listed vars around same right written.1 (taken-fine (target scope vars left).kind (value scope vars right) both.1),
        )
    statement-right vars around same (Block' shape parts) written fine = statements-right vars around same parts written fine
    statement-right vars around same (If' cond l (more_of-Stmt left end_of-Stmt) right at) written fine =
        let all = empty-three (takes_number (operand scope vars cond)) (in_stmt scope vars left) (in_branch scope vars right) fine in (
          expression-right scope flat counted own listed vars around same cond written.0 (number-fine (operand scope vars cond) all.0),
          statement-right vars around same left written.1 all.1,
          branch-right vars around same right written.2 all.2,
        )
    statement-right vars around same (Switch' on shape arms other at) written fine =
        let all = empty-three (alike (operand scope vars on ∷ labels scope vars arms)) (in_arms scope vars arms) (in_branch scope vars other) fine in
        let each : AreFine (operand scope vars on ∷ labels scope vars arms) = alike-fine (operand scope vars on ∷ labels scope vars arms) all.0 in (
          expression-right scope flat counted own listed vars around same on written.0 each.0,
          arms-right vars around same arms written.1 each.1 all.1,
          branch-right vars around same other written.2 all.2,
        )
    statement-right vars around same (Default' l (more_of-Stmt left end_of-Stmt) r (more_of-Stmt right end_of-Stmt) at) written fine =
        let both = empty-both (in_stmt scope vars left) (in_stmt scope vars right) fine in
        (statement-right vars around same left written.0 both.0, statement-right vars around same right written.1 both.1)
    statement-right vars around same (For' var from to closed step shape (more_of-Stmt body end_of-Stmt) at) written fine =
        λ k. statement-right ((var.name, number) ∷ vars) ((var.name, loop k) ∷ around) (refl, same) body written fine
    statement-right vars around same (Forall' var over shape (more_of-Stmt body end_of-Stmt) at) written fine =
        let both = empty-both (index_faults scope.here.types over) (in_stmt scope (bind scope vars var over) body) fine in
        (statement-right (bind scope vars var over) ((var.name, any) ∷ around) (refl, same) body written.0 both.1, written.1)

    statements-right : {m : _} (vars : Vars) (around : Around) → AreSameNames vars around → (row : Row_of-Stmt m) → StatementsAreWritten row → in_block scope vars row ≡ [] → StatementsAreRight flat around row
    statements-right vars around same end_of-Stmt written fine = tt
    statements-right vars around same (more_of-Stmt part rest) written fine =
        let both = empty-both (in_stmt scope vars part) (in_block scope vars rest) fine in
        (statement-right vars around same part written.0 both.0, statements-right vars around same rest written.1 both.1)

    branch-right : (vars : Vars) (around : Around) → AreSameNames vars around → (held : Held-Stmt-If-2) → BranchIsWritten held → in_branch scope vars held ≡ [] → BranchIsRight flat around held
    branch-right vars around same stmt.None' written fine = tt
    branch-right vars around same (stmt.Some' shape (more_of-Stmt part end_of-Stmt)) written fine = statement-right vars around same part written fine

    arms-right : {m : _} (vars : Vars) (around : Around) → AreSameNames vars around → (arms : Row_of-Arm m) → ArmsAreWritten arms → AreFine (labels scope vars arms) → in_arms scope vars arms ≡ [] → ArmsAreRight flat around arms
    arms-right vars around same end_of-Arm written each fine = tt
    arms-right vars around same (more_of-Arm words body rest) written each fine =
        let both = empty-both (in_stmt scope vars body) (in_arms scope vars rest) fine in (
          are-right scope flat counted own listed vars around same words written.0 (each-front (λ (e : Operand). e.faults ≡ []) (map (operand scope vars) words) (labels scope vars rest) each),
          statement-right vars around same body written.1 both.0,
          arms-right vars around same rest written.2 (each-behind (λ (e : Operand). e.faults ≡ []) (map (operand scope vars) words) (labels scope vars rest) each) both.1,
        )

  pub body-right : (acts : List Stmt) → AllByRecursion StatementIsWritten acts → flat_map (in_stmt scope []) acts ≡ [] → AllByRecursion (StatementIsRight flat []) acts
  unfolding opening
  body-right [] written fine = tt
  body-right (act ∷ acts) written fine =
      let both = empty-both (in_stmt scope [] act) (flat_map (in_stmt scope []) acts) fine in
      (statement-right [] [] tt act written.0 both.0, body-right acts written.1 both.1)
