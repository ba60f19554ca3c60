-- The first fault of kinds stands at a place of the tree.
use Rattle.std.proofs.Common.{ℕ, Bool, true, false, cond, List, [], ◌∷◌, ◌++◌, map, zip, Option, Some, None, IfSome, is_none, refl}
use Rattle.std.specs.List.{AllByRecursion, flat_map}
use Rattle.law_lists.proofs.Each.{each_flat_map, each_append}
use Rattle.smv_core.specs.Values.{Name}
use Rattle.smv_core.specs.Types.{find_name}
use Rattle.smv_core.specs.Walk.{indexes_of}
use Rattle.smv_core.specs.declared.fault.Fault.{Fault}
use Rattle.smv_core.specs.declared.tree.Word.{Word}
use Rattle.smv_core.specs.declared.tree.Pair.{Pair}
use Rattle.smv_core.specs.declared.tree.Text.{Text}
use Rattle.smv_core.specs.declared.tree.Top.{Top}
use Rattle.smv_core.specs.declared.tree.Top.TheVariants.{SetType, Alias, Module as ModuleOf}
use Rattle.smv_core.specs.declared.tree.Role.{Role}
use Rattle.smv_core.specs.declared.tree.Role.TheVariants.{Plain, Abstract, Input, Output}
use Rattle.smv_core.specs.declared.tree.TypeExpr.{TypeExpr}
use Rattle.smv_core.specs.declared.tree.Part.{Part}
use Rattle.smv_core.specs.declared.tree.Expr.{Expr, Signal', items-the_row-Part}
use Rattle.smv_core.specs.declared.tree.Stmt.{Stmt, Assign, Block', If', Switch', Default', For', Forall', Held-Stmt-If-2, None', Some', Row_of-Stmt, end_of-Stmt, more_of-Stmt, Row_of-Arm, end_of-Arm, more_of-Arm}
use Rattle.smv_core.specs.declared.tree.Item.{Item, Declare, Instance, Layer, Claim, Split, Using, Act, Row_of-Item, end_of-Item, more_of-Item}
use Rattle.smv_core.specs.declared.tree.Item as item
use Rattle.smv_mentions.specs.Mentions.{What, signal, instance, goal}
use Rattle.smv_mentions.specs.Scopes.{Own, Constant, pieces, constants}
use Rattle.smv_mentions.specs.FirstFault.{faults_at}
use Rattle.law_designs.specs.Kinds.{Kind, number, Operand, takes, takes_number, alike}
use Rattle.law_designs.specs.Types.{Types, leads, value_kind, types_after, index_faults, type_faults}
use Rattle.law_designs.specs.References.{Module, module_of, modules_from, Scope, Vars, signal_at, reference}
use Rattle.law_designs.specs.Operands.{bind, operand, value, target}
use Rattle.law_designs.specs.KindFaults.{assigned, in_stmt, in_block, in_branch, in_arms, labels, formal_faults, are_constant, given, gives, connected, in_arguments, in_item, in_items, in_top, in_tops, faults_of_kinds, first_fault_of_kinds}
use Rattle.law_designs.proofs.Faultless.{each-map}
use Rattle.law_fault_places.specs.TreePlaces.{WordIsWithin, ExprIsWithin, ExprsAreWithin, StatementIsWithin, StatementsAreWithin, BranchIsWithin, ArmsAreWithin, PairIsWithin, ItemIsWithin, ItemsAreWithin, TopIsWithin, TextIsWithin}
use Rattle.law_fault_places.specs.FaultPlaces.{IsFaultOf}
use Rattle.law_fault_places.proofs.TreeLists.{zipped-all}
use Rattle.law_fault_places.proofs.Firsts.{first-one}
use Rattle.law_fault_places.proofs.TreeForms.{row-parts}
use Rattle.law_fault_places.specs.KindFaultPlaces.{numbers_of_kinds}
use Rattle.law_fault_places.proofs.Operands.{IsWithin, AreWithin, both, placed, one-placed, IsOperandWithin, AreOperandsWithin, takes_number-within, takes-within, alike-within, size-within, index-within, type-within}
use Rattle.law_fault_places.proofs.Expressions.{operand-within, value-within, path-within, target-within}

module _ (n : ℕ) where
  -- ---- statements

  assigned-within : (left right : Operand) → IsOperandWithin n left → IsOperandWithin n right → AreWithin n (assigned left right)
  assigned-within left right h g = both n left.faults (takes left.kind right) h.faults (takes-within n left.kind right g)

  module _ (scope : Scope) where
    labels-within : {m : _} (vars : Vars) (row : Row_of-Arm m) → ArmsAreWithin n row → AreOperandsWithin n (labels scope vars row)
    unfolding in_stmt in_block in_branch in_arms labels
    labels-within vars end_of-Arm h = tt
    labels-within vars (more_of-Arm words body rest) h =
        each_append (IsOperandWithin n) (map (operand scope vars) words) (labels scope vars rest)
        (each-map (ExprIsWithin n) (IsOperandWithin n) (operand scope vars) (operand-within n scope vars) words h.0) (labels-within vars rest h.2)

    mutual
      unfolding in_stmt in_block in_branch in_arms labels

      stmt-within : (vars : Vars) (act : Stmt) → StatementIsWithin n act → AreWithin n (in_stmt scope vars act)
      stmt-within vars (Assign kind left right at) h = assigned-within (target scope vars left) (value scope vars right) (target-within n scope vars left h.1) (value-within n scope vars right h.2)
      stmt-within vars (Block' shape parts) h = block-within vars parts h
      stmt-within vars (If' cond l (more_of-Stmt left end_of-Stmt) right at) h =
          both n ((takes_number (operand scope vars cond)) ++ (in_stmt scope vars left)) (in_branch scope vars right) (both n (takes_number (operand scope vars cond)) (in_stmt scope vars left) (takes_number-within n (operand scope vars cond) (operand-within n scope vars cond h.1)) (stmt-within vars left h.2)) (branch-within vars right h.3)
      stmt-within vars (Switch' on shape arms other at) h =
          both n ((alike (operand scope vars on ∷ labels scope vars arms)) ++ (in_arms scope vars arms)) (in_branch scope vars other)
          (both n (alike (operand scope vars on ∷ labels scope vars arms)) (in_arms scope vars arms) (alike-within n (operand scope vars on ∷ labels scope vars arms) (operand-within n scope vars on h.1, labels-within vars arms h.2)) (arms-within vars arms h.2)) (branch-within vars other h.3)
      stmt-within vars (Default' l (more_of-Stmt left end_of-Stmt) r (more_of-Stmt right end_of-Stmt) at) h =
          both n (in_stmt scope vars left) (in_stmt scope vars right) (stmt-within vars left h.1) (stmt-within vars right h.2)
      stmt-within vars (For' var from to closed step shape (more_of-Stmt body end_of-Stmt) at) h = stmt-within ((var.name, number) ∷ vars) body h.2
      stmt-within vars (Forall' var over shape (more_of-Stmt body end_of-Stmt) at) h =
          both n (index_faults scope.here.types over) (in_stmt scope (bind scope vars var over) body) (index-within n scope.here.types over h.2) (stmt-within (bind scope vars var over) body h.3)

      block-within : {m : _} (vars : Vars) (row : Row_of-Stmt m) → StatementsAreWithin n row → AreWithin n (in_block scope vars row)
      block-within vars end_of-Stmt h = tt
      block-within vars (more_of-Stmt part rest) h = both n (in_stmt scope vars part) (in_block scope vars rest) (stmt-within vars part h.0) (block-within vars rest h.1)

      branch-within : (vars : Vars) (o : Held-Stmt-If-2) → BranchIsWithin n o → AreWithin n (in_branch scope vars o)
      branch-within vars None' h = tt
      branch-within vars (Some' shape (more_of-Stmt part end_of-Stmt)) h = stmt-within vars part h

      arms-within : {m : _} (vars : Vars) (row : Row_of-Arm m) → ArmsAreWithin n row → AreWithin n (in_arms scope vars row)
      arms-within vars end_of-Arm h = tt
      arms-within vars (more_of-Arm words body rest) h = both n (in_stmt scope vars body) (in_arms scope vars rest) (stmt-within vars body h.1) (arms-within vars rest h.2)

  -- ---- formals and arguments

  formal-within : (types : Types) (role : Role) (of : TypeExpr) (word : Word) → WordIsWithin n word → AreWithin n (formal_faults types role of word)
  formal-within types Input of word h = placed n 12 refl (is_none (leads types of [])) word.at h
  formal-within types Output of word h = placed n 12 refl (is_none (leads types of [])) word.at h
  formal-within types Plain of word h = tt
  formal-within types Abstract of word h = tt

  module _ (scope : Scope) where
    given-within : (kind : Kind) (parts : List Part) (left : Operand) → IsOperandWithin n left → AreWithin n (given scope kind parts left)
    given-within kind parts left h = by (are_constant parts)
      where
        by : (b : Bool) → AreWithin n (cond b (assigned left (record { kind = kind; at = left.at; faults = [] })) (faults_at (12, left.at ∷ [])))
        by true = assigned-within left (record { kind = kind; at = left.at; faults = [] }) h (record { place = h.place; faults = tt })
        by false = one-placed n 12 refl left.at h.place

    gives-within : (kind : Kind) (e : Expr) → ExprIsWithin n e → AreWithin n (gives scope kind e)
    gives-within kind (Signal' shape parts at) h =
        given-within kind (items-the_row-Part _ parts) (reference at (signal_at scope (items-the_row-Part _ parts)) (map (operand scope []) (indexes_of (items-the_row-Part _ parts))))
        (path-within n scope [] (items-the_row-Part _ parts) at h.0 (row-parts n _ parts h.1))
    gives-within kind e h = one-placed n 12 refl (operand scope [] e).at (operand-within n scope [] e h).place

    abbrev by_role : Types → Expr → What → List Fault
    by_role types e (signal Input of) = takes (value_kind (leads types of [])) (value scope [] e)
    by_role types e (signal Output of) = gives scope (value_kind (leads types of [])) e
    by_role types e _ = []

    role-within : (types : Types) (e : Expr) → ExprIsWithin n e → (what : What) → AreWithin n (by_role types e what)
    role-within types e h (signal Input of) = takes-within n (value_kind (leads types of [])) (value scope [] e) (value-within n scope [] e h)
    role-within types e h (signal Output of) = gives-within (value_kind (leads types of [])) e h
    role-within types e h (signal Plain of) = tt
    role-within types e h (signal Abstract of) = tt
    role-within types e h (instance name) = tt
    role-within types e h goal = tt

    connected-within : (types : Types) (o : Option Own) (e : Expr) → ExprIsWithin n e → AreWithin n (connected scope types o e)
    connected-within types None e h = tt
    connected-within types (Some own) e h = role-within types e h own.what

    arguments-within : (o : Option Module) (args : List Expr) → ExprsAreWithin n args → AreWithin n (in_arguments scope o args)
    arguments-within None args h = tt
    arguments-within (Some m) args h =
        each_flat_map (λ (p : Word × Expr). ExprIsWithin n p.1) (IsWithin n) (λ (p : Word × Expr). connected scope m.types (find_name m.own p.0.name) p.1)
        (λ p own. connected-within m.types (find_name m.own p.0.name) p.1 own) (zip m.formals args) (zipped-all (ExprIsWithin n) m.formals args h)

    -- ---- items

    mutual
      unfolding in_item in_items

      item-within : (vars : Vars) (x : Item) → ItemIsWithin n x → AreWithin n (in_item scope vars x)
      item-within vars (Declare role words of at) h =
          both n (flat_map (formal_faults scope.here.types role of) words) (type_faults scope.here.types of)
          (each_flat_map (WordIsWithin n) (IsWithin n) (formal_faults scope.here.types role of) (formal-within scope.here.types role of) words h.0) (type-within n scope.here.types of h.1)
      item-within vars (Instance words name args at) h = arguments-within (find_name scope.modules name.name) args h.2
      item-within vars (Layer word body at) h = each_flat_map (StatementIsWithin n) (IsWithin n) (in_stmt scope vars) (stmt-within scope vars) body h.1
      item-within vars (item.Forall' var over shape (more_of-Item body end_of-Item) at) h =
          both n (index_faults scope.here.types over) (in_item scope (bind scope vars var over) body) (index-within n scope.here.types over h.2) (item-within (bind scope vars var over) body h.3)
      item-within vars (item.Block' shape items) h = items-within vars items h
      item-within vars (Claim word brackets body at) h = takes_number-within n (operand scope vars body) (operand-within n scope vars body h.2)
      item-within vars (Split word brackets of pairs at) h = each_flat_map (PairIsWithin n) (IsWithin n) (λ (pair : Pair). (operand scope vars pair.left).faults) (λ pair own. (operand-within n scope vars pair.left own.0).faults) pairs h.3
      item-within vars (Using uses proves at) h = tt
      item-within vars (Act act) h = stmt-within scope vars act h

      items-within : {m : _} (vars : Vars) (row : Row_of-Item m) → ItemsAreWithin n row → AreWithin n (in_items scope vars row)
      items-within vars end_of-Item h = tt
      items-within vars (more_of-Item part rest) h = both n (in_item scope vars part) (in_items scope vars rest) (item-within vars part h.0) (items-within vars rest h.1)

  -- ---- the text

  module _ (modules : List (Name × Module)) (known : List (Name × Constant)) where
    top-within : (types : Types) (top : Top) → TopIsWithin n top → AreWithin n (in_top modules known types top)
    top-within types (SetType word ordered span at) h = size-within n span at h.1
    top-within types (Alias word of at) h = type-within n types of h.1
    top-within types (ModuleOf word formals body at) h =
        let scope : Scope = record { modules = modules; constants = known; here = module_of types formals body } in
        each_flat_map (ItemIsWithin n) (IsWithin n) (in_item scope []) (item-within scope []) body h.2

    tops-within : (types : Types) (tops : List Top) → AllByRecursion (TopIsWithin n) tops → AreWithin n (in_tops modules known types tops)
    tops-within types [] h = tt
    tops-within types (top ∷ tops) h = both n (in_top modules known types top) (in_tops modules known (types_after types top) tops) (top-within types top h.0) (tops-within (types_after types top) tops h.1)

  pub first-within : (text : Text) → TextIsWithin n text → IfSome (first_fault_of_kinds text) (IsFaultOf numbers_of_kinds n)
  first-within text h = first-one (IsFaultOf numbers_of_kinds n) (faults_of_kinds text) (tops-within (modules_from [] text.tops) (constants (pieces text)) [] text.tops h)
