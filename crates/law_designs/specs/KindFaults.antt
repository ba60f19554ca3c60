-- The faults of kinds, ranges and sets in a text, and the first of them.
use Rattle.std.specs.Prelude.{List, [], ◌∷◌, ◌++◌, map, flat_map, zip, Option, Some, None, Bool, true, false, is_none, if◌then◌else◌}
use Rattle.std.specs.List.{list_all}
use Rattle.smv_core.specs.Values.{Name}
use Rattle.smv_core.specs.Types.{find_name}
use Rattle.smv_core.specs.Walk.{indexes_of}
use Rattle.smv_core.specs.Assignments.{Index, fixed, index_of}
use Rattle.smv_core.specs.declared.fault.Fault.{Fault}
use Rattle.smv_core.specs.declared.tree.Word.{Word}
use Rattle.smv_core.specs.declared.tree.Text.{Text}
use Rattle.smv_core.specs.declared.tree.Top.{Top}
use Rattle.smv_core.specs.declared.tree.Top.TheVariants.{SetType, Alias, Module as ModuleOf}
use Rattle.smv_core.specs.declared.tree.Role.{Role}
use Rattle.smv_core.specs.declared.tree.Role.TheVariants.{Input, Output}
use Rattle.smv_core.specs.declared.tree.TypeExpr.{TypeExpr}
use Rattle.smv_core.specs.declared.tree.Part.{Part}
use Rattle.smv_core.specs.declared.tree.Expr.{Expr, Signal', items-the_row-Part}
use Rattle.smv_core.specs.declared.tree.Stmt.{Stmt, Assign, Block', If', Switch', Default', For', Forall', None', Some', Row_of-Stmt, end_of-Stmt, more_of-Stmt, Row_of-Arm, end_of-Arm, more_of-Arm}
use Rattle.smv_core.specs.declared.tree.Item.{Item, Declare, Instance, Layer, Claim, Split, Using, Act, Row_of-Item, end_of-Item, more_of-Item}
use Rattle.smv_core.specs.declared.tree.Item as item
use Rattle.smv_mentions.specs.Mentions.{What, signal}
use Rattle.smv_mentions.specs.Scopes.{Own, Constant, pieces, constants}
use Rattle.smv_mentions.specs.NameFaults.{place_if}
use Rattle.smv_mentions.specs.FirstFault.{faults_at, first_of}
use Rattle.law_designs.specs.Kinds.{Kind, number, Operand, takes, takes_number, alike}
use Rattle.law_designs.specs.Types.{Types, leads, value_kind, types_after, index_faults, type_faults, size_faults}
use Rattle.law_designs.specs.References.{Module, module_of, modules_from, Scope, Vars, signal_at, reference}
use Rattle.law_designs.specs.Operands.{bind, operand, value, target}
use Rattle.smv_core.specs.Rows.{one_stmt, Otherwise}

-- ---- statements

-- an assignment's value has the target's kind
abbrev pub assigned : Operand → Operand → List Fault
assigned left right = left.faults ++ takes left.kind right

module _ (scope : Scope) where
  unfoldable mutual
    -- the faults in a statement
    pub in_stmt : Vars → Stmt → List Fault
    in_stmt vars (Assign kind left right at) = assigned (target scope vars left) (value scope vars right)
    in_stmt vars (Block' shape parts) = in_block vars parts
    in_stmt vars (If' cond l (one_stmt left) right at) = takes_number (operand scope vars cond) ++ in_stmt vars left ++ in_branch vars right
    in_stmt vars (Switch' on shape arms other at) = alike (operand scope vars on ∷ labels vars arms) ++ in_arms vars arms ++ in_branch vars other
    in_stmt vars (Default' l (one_stmt left) r (one_stmt right) at) = in_stmt vars left ++ in_stmt vars right
    in_stmt vars (For' var from to closed step shape (one_stmt body) at) = in_stmt ((var.name, number) ∷ vars) body
    in_stmt vars (Forall' var over shape (one_stmt body) at) = index_faults scope.here.types over ++ in_stmt (bind scope vars var over) body

    pub in_block : {m : _} → Vars → Row_of-Stmt m → List Fault
    in_block vars end_of-Stmt = []
    in_block vars (more_of-Stmt part rest) = in_stmt vars part ++ in_block vars rest

    -- an `else` or `default`, or none
    pub in_branch : Vars → Otherwise → List Fault
    in_branch vars None' = []
    in_branch vars (Some' shape (one_stmt part)) = in_stmt vars part

    pub in_arms : {m : _} → Vars → Row_of-Arm m → List Fault
    in_arms vars end_of-Arm = []
    in_arms vars (more_of-Arm words body rest) = in_stmt vars body ++ in_arms vars rest

    -- the labels of all arms, in their order
    pub labels : {m : _} → Vars → Row_of-Arm m → List Operand
    labels vars end_of-Arm = []
    labels vars (more_of-Arm words body rest) = map (operand scope vars) words ++ labels vars rest

-- ---- formals and arguments

-- a formal is simple
abbrev pub formal_faults : Types → Role → TypeExpr → Word → List Fault
formal_faults types Input of word = faults_at (12, place_if (is_none (leads types of [])) word.at)
formal_faults types Output of word = faults_at (12, place_if (is_none (leads types of [])) word.at)
formal_faults types _ of word = []

-- the index can be worked out from the text alone
abbrev pub is_fixed : Index → Bool
is_fixed (fixed u) = true
is_fixed _ = false

abbrev pub are_constant : List Part → Bool
are_constant parts = list_all (λ e. is_fixed (index_of [] e)) (indexes_of parts)

module _ (scope : Scope) where
  -- an output's argument is a path with constant indexes, which takes the output's value
  abbrev pub given : Kind → List Part → Operand → List Fault
  given kind parts left = if are_constant parts then assigned left (record { kind = kind; at = left.at; faults = [] }) else faults_at (12, left.at ∷ [])

  abbrev pub gives : Kind → Expr → List Fault
  gives kind (Signal' shape parts at) =
      let path = items-the_row-Part _ parts in
      given kind path (reference at (signal_at scope path) (map (operand scope []) (indexes_of path)))
  gives kind e = faults_at (12, (operand scope [] e).at ∷ [])

  -- an input takes its argument's value, which may be a set
  abbrev pub connected : Types → Option Own → Expr → List Fault
  connected types None e = []
  connected types (Some own) e = by_role own.what
    where
      by_role : What → List Fault
      by_role (signal Input of) = takes (value_kind (leads types of [])) (value scope [] e)
      by_role (signal Output of) = gives (value_kind (leads types of [])) e
      by_role _ = []

  -- the arguments of an instance, whose formals are looked up in its module
  abbrev pub in_arguments : Option Module → List Expr → List Fault
  in_arguments None args = []
  in_arguments (Some m) args = flat_map (λ (word, e). connected m.types (find_name m.own word.name) e) (zip m.formals args)

  -- ---- items

  unfoldable mutual
    -- The faults in an item. A claim is a number. The kinds of a split's expressions are compared with its parameters later.
    pub in_item : Vars → Item → List Fault
    in_item vars (Declare role words of at) = flat_map (formal_faults scope.here.types role of) words ++ type_faults scope.here.types of
    in_item vars (Instance words name args at) = in_arguments (find_name scope.modules name.name) args
    in_item vars (Layer word body at) = flat_map (in_stmt scope vars) body
    in_item vars (item.Forall' var over shape (more_of-Item body end_of-Item) at) = index_faults scope.here.types over ++ in_item (bind scope vars var over) body
    in_item vars (item.Block' shape items) = in_items vars items
    in_item vars (Claim word brackets body at) = takes_number (operand scope vars body)
    in_item vars (Split word brackets of pairs at) = flat_map (λ pair. (operand scope vars pair.left).faults) pairs
    in_item vars (Using uses proves at) = []
    in_item vars (Act act) = in_stmt scope vars act

    pub in_items : {m : _} → Vars → Row_of-Item m → List Fault
    in_items vars end_of-Item = []
    in_items vars (more_of-Item part rest) = in_item vars part ++ in_items vars rest

-- ---- the text

module _ (modules : List (Name × Module)) (constants : List (Name × Constant)) where
  -- a top, with the types before it
  abbrev pub in_top : Types → Top → List Fault
  in_top types (SetType word ordered span at) = size_faults span at
  in_top types (Alias word of at) = type_faults types of
  in_top types (ModuleOf word formals body at) = flat_map (in_item (record { modules = modules; constants = constants; here = module_of types formals body }) []) body

  abbrev pub in_tops : Types → List Top → List Fault
  in_tops types [] = []
  in_tops types (top ∷ tops) = in_top types top ++ in_tops (types_after types top) tops

-- all faults 12 to 14 of a text
abbrev pub faults_of_kinds : Text → List Fault
faults_of_kinds text = in_tops (modules_from [] text.tops) (constants (pieces text)) [] text.tops

-- The first fault of a text among 12 to 14, in every module. A text with a fault of names is not asked for.
abbrev pub first_fault_of_kinds : Text → Option Fault
first_fault_of_kinds text = first_of (faults_of_kinds text)
