-- A test that is passed only where the names in a text are known.
use Rattle.std.proofs.Common.{◌≡◌, List, [], ◌∷◌, ◌++◌, Option, Some, None, Bool, true, false, ◌&&◌, arith}
use Rattle.std.specs.Str.{bytes_eq}
use Rattle.std.specs.List.{list_any, list_all}
use Rattle.std.proofs.lemmas.Bool.{and_parts}
use Rattle.law_lists.proofs.Each.{all_passes}
use Rattle.smv_core.specs.Values.{Path}
use Rattle.smv_core.specs.Types.{Family}
use Rattle.smv_core.specs.Outcome.{fields_of, family_at}
use Rattle.smv_core.specs.Walk.{indexes_of}
use Rattle.smv_core.specs.Assignments.{Around, any}
use Rattle.smv_core.specs.declared.tree.Text.{Text}
use Rattle.smv_core.specs.declared.tree.TypeExpr.{TypeExpr, Boolean, Range, Enum, Named, Array', Struct'}
use Rattle.smv_core.specs.declared.tree.Part.{Field, At}
use Rattle.smv_core.specs.declared.tree.Path.{out-Path}
use Rattle.smv_core.specs.declared.tree.Member.{One, Span as SpanOf}
use Rattle.smv_core.specs.declared.tree.Expr.{Expr, Number, Signal', Not', And', Or', Implies', Iff', Compare', Within', Sum', Modulo', Choose', All', Any', List', Each', Held-Expr-Each-2, None', Some', Row_of-Expr, end_of-Expr, more_of-Expr, Row_of-Part, end_of-Part, more_of-Part, Row_of-Member, end_of-Member, more_of-Member, Row_of-Signed, end_of-Signed, more_of-Signed, items-the_row-Part}
use Rattle.smv_core.specs.declared.tree.Stmt.{Stmt, Assign, Block', If', Switch', Default', For', Forall', Held-Stmt-If-2, Row_of-Stmt, end_of-Stmt, more_of-Stmt, Row_of-Arm, end_of-Arm, more_of-Arm}
use Rattle.smv_core.specs.declared.tree.Stmt as stmt
use Rattle.smv_core.specs.declared.flat.FlatExpr.{FlatExpr}
use Rattle.law_designs.specs.Numbers.{Scope, variable_at}
use Rattle.law_designs.specs.Entries.{Binders, claim, split, using, Entry, layer, statement, goal, entries}
use Rattle.law_designs.specs.Flattening.{scope_in, within}
use Rattle.law_designs.specs.Agreement.{IsIndexType, IsKnown, IsRight, PartsAreRight, IndexesAreRight, TermsAreRight, MembersAreRight, ConditionIsRight, AreRight, StatementIsRight, StatementsAreRight, BranchIsRight, ArmsAreRight}
use Rattle.law_designs.specs.WholeText.{BindersAreRight, EntryIsRight, TextIsRight}

abbrev index_type : TypeExpr → Bool
index_type Boolean = true
index_type (Range span at) = true
index_type (Named word at) = true
index_type _ = false

index_type-is : (t : TypeExpr) → index_type t ≡ true → IsIndexType t
index_type-is Boolean e = tt
index_type-is (Range span at) e = tt
index_type-is (Named word at) e = tt
index_type-is (Enum names at) e = absurd (cc (e))
index_type-is (Array' i index o of) e = absurd (cc (e))
index_type-is (Struct' shape fields) e = absurd (cc (e))

module _ (scope : Scope) where
  abbrev known : Option FlatExpr → Option Family → Path → Bool
  known None None (name ∷ []) = list_any (list_any (bytes_eq name)) scope.enums
  known _ _ _ = true

  known-is : (o : Option FlatExpr) (f : Option Family) (path : Path) → known o f path ≡ true → IsKnown scope o f path
  known-is (Some x) f path e = tt
  known-is None (Some f) path e = tt
  known-is None None [] e = tt
  known-is None None (name ∷ []) e = e
  known-is None None (name ∷ other ∷ more) e = tt

  abbrev mutual
    right : Around → Expr → Bool
    right vars (Number value at) = true
    right vars (Signal' shape parts at) =
        let path = fields_of (items-the_row-Part _ parts) in
        known (variable_at vars path at) (family_at scope.families (scope.instance ++ path)) path && right_indexes vars parts
    right vars (Not' shape (more_of-Expr e end_of-Expr) at) = right vars e
    right vars (And' shape parts) = right_parts vars parts
    right vars (Or' shape parts) = right_parts vars parts
    right vars (Implies' shape parts) = right_parts vars parts
    right vars (Iff' l (more_of-Expr left end_of-Expr) r (more_of-Expr other end_of-Expr)) = right vars left && right vars other
    right vars (Compare' op l (more_of-Expr left end_of-Expr) r (more_of-Expr other end_of-Expr)) = right vars left && right vars other
    right vars (Within' l (more_of-Expr left end_of-Expr) r (more_of-Expr set end_of-Expr)) = right vars left && right vars set
    right vars (Sum' f (more_of-Expr first end_of-Expr) shape more) = right vars first && right_terms vars more
    right vars (Modulo' shape (more_of-Expr e end_of-Expr) by at) = right vars e
    right vars (Choose' c (more_of-Expr test end_of-Expr) l (more_of-Expr left end_of-Expr) r (more_of-Expr other end_of-Expr)) = right vars test && (right vars left && right vars other)
    right vars (All' shape (more_of-Expr body end_of-Expr) var over at) = right ((var.name, any) ∷ vars) body && index_type over
    right vars (Any' shape (more_of-Expr body end_of-Expr) var over at) = right ((var.name, any) ∷ vars) body && index_type over
    right vars (List' shape members at) = right_members vars members
    right vars (Each' var over test at) = right_condition ((var.name, any) ∷ vars) test && index_type over

    right_parts : {m : _} → Around → Row_of-Expr m → Bool
    right_parts vars end_of-Expr = true
    right_parts vars (more_of-Expr e rest) = right vars e && right_parts vars rest

    right_indexes : {m : _} → Around → Row_of-Part m → Bool
    right_indexes vars end_of-Part = true
    right_indexes vars (more_of-Part (Field word) rest) = right_indexes vars rest
    right_indexes vars (more_of-Part (At index) rest) = right vars index && right_indexes vars rest

    right_terms : {m : _} → Around → Row_of-Signed m → Bool
    right_terms vars end_of-Signed = true
    right_terms vars (more_of-Signed minus e rest) = right vars e && right_terms vars rest

    right_members : {m : _} → Around → Row_of-Member m → Bool
    right_members vars end_of-Member = true
    right_members vars (more_of-Member (One e) rest) = right vars e && right_members vars rest
    right_members vars (more_of-Member (SpanOf span at) rest) = right_members vars rest

    right_condition : Around → Held-Expr-Each-2 → Bool
    right_condition vars None' = true
    right_condition vars (Some' shape (more_of-Expr test end_of-Expr)) = right vars test

  mutual
    right-is : (vars : Around) (e : Expr) → right vars e ≡ true → IsRight scope vars e
    right-is vars (Number value at) h = tt
    right-is vars (Signal' shape parts at) h =
        let path = fields_of (items-the_row-Part _ parts) in
        let g : (known (variable_at vars path at) (family_at scope.families (scope.instance ++ path)) path ≡ true) × (right_indexes vars parts ≡ true) = and_parts _ _ h in
        (known-is (variable_at vars path at) (family_at scope.families (scope.instance ++ path)) path g.0, indexes-are vars parts g.1)
    right-is vars (Not' shape (more_of-Expr e end_of-Expr) at) h = right-is vars e h
    right-is vars (And' shape parts) h = parts-are vars parts h
    right-is vars (Or' shape parts) h = parts-are vars parts h
    right-is vars (Implies' shape parts) h = parts-are vars parts h
    right-is vars (Iff' l (more_of-Expr left end_of-Expr) r (more_of-Expr other end_of-Expr)) h = let g : (right vars left ≡ true) × (right vars other ≡ true) = and_parts _ _ h in (right-is vars left g.0, right-is vars other g.1)
    right-is vars (Compare' op l (more_of-Expr left end_of-Expr) r (more_of-Expr other end_of-Expr)) h = let g : (right vars left ≡ true) × (right vars other ≡ true) = and_parts _ _ h in (right-is vars left g.0, right-is vars other g.1)
    right-is vars (Within' l (more_of-Expr left end_of-Expr) r (more_of-Expr set end_of-Expr)) h = let g : (right vars left ≡ true) × (right vars set ≡ true) = and_parts _ _ h in (right-is vars left g.0, right-is vars set g.1)
    right-is vars (Sum' f (more_of-Expr first end_of-Expr) shape more) h = let g : (right vars first ≡ true) × (right_terms vars more ≡ true) = and_parts _ _ h in (right-is vars first g.0, terms-are vars more g.1)
    right-is vars (Modulo' shape (more_of-Expr e end_of-Expr) by at) h = right-is vars e h
    right-is vars (Choose' c (more_of-Expr test end_of-Expr) l (more_of-Expr left end_of-Expr) r (more_of-Expr other end_of-Expr)) h =
        let g : (right vars test ≡ true) × ((right vars left && right vars other) ≡ true) = and_parts _ _ h in
        let k : (right vars left ≡ true) × (right vars other ≡ true) = and_parts _ _ g.1 in
        (right-is vars test g.0, right-is vars left k.0, right-is vars other k.1)
    right-is vars (All' shape (more_of-Expr body end_of-Expr) var over at) h = let g : (right ((var.name, any) ∷ vars) body ≡ true) × (index_type over ≡ true) = and_parts _ _ h in (right-is ((var.name, any) ∷ vars) body g.0, index_type-is over g.1)
    right-is vars (Any' shape (more_of-Expr body end_of-Expr) var over at) h = let g : (right ((var.name, any) ∷ vars) body ≡ true) × (index_type over ≡ true) = and_parts _ _ h in (right-is ((var.name, any) ∷ vars) body g.0, index_type-is over g.1)
    right-is vars (List' shape members at) h = members-are vars members h
    right-is vars (Each' var over test at) h = let g : (right_condition ((var.name, any) ∷ vars) test ≡ true) × (index_type over ≡ true) = and_parts _ _ h in (condition-is ((var.name, any) ∷ vars) test g.0, index_type-is over g.1)

    parts-are : {m : _} (vars : Around) (parts : Row_of-Expr m) → right_parts vars parts ≡ true → PartsAreRight scope vars parts
    parts-are vars end_of-Expr h = tt
    parts-are vars (more_of-Expr e rest) h = let g : (right vars e ≡ true) × (right_parts vars rest ≡ true) = and_parts _ _ h in (right-is vars e g.0, parts-are vars rest g.1)

    indexes-are : {m : _} (vars : Around) (parts : Row_of-Part m) → right_indexes vars parts ≡ true → IndexesAreRight scope vars parts
    indexes-are vars end_of-Part h = tt
    indexes-are vars (more_of-Part (Field word) rest) h = indexes-are vars rest h
    indexes-are vars (more_of-Part (At index) rest) h = let g : (right vars index ≡ true) × (right_indexes vars rest ≡ true) = and_parts _ _ h in (right-is vars index g.0, indexes-are vars rest g.1)

    terms-are : {m : _} (vars : Around) (more : Row_of-Signed m) → right_terms vars more ≡ true → TermsAreRight scope vars more
    terms-are vars end_of-Signed h = tt
    terms-are vars (more_of-Signed minus e rest) h = let g : (right vars e ≡ true) × (right_terms vars rest ≡ true) = and_parts _ _ h in (right-is vars e g.0, terms-are vars rest g.1)

    members-are : {m : _} (vars : Around) (members : Row_of-Member m) → right_members vars members ≡ true → MembersAreRight scope vars members
    members-are vars end_of-Member h = tt
    members-are vars (more_of-Member (One e) rest) h = let g : (right vars e ≡ true) × (right_members vars rest ≡ true) = and_parts _ _ h in (right-is vars e g.0, members-are vars rest g.1)
    members-are vars (more_of-Member (SpanOf span at) rest) h = members-are vars rest h

    condition-is : (vars : Around) (test : Held-Expr-Each-2) → right_condition vars test ≡ true → ConditionIsRight scope vars test
    condition-is vars None' h = tt
    condition-is vars (Some' shape (more_of-Expr test end_of-Expr)) h = right-is vars test h

  each-is : (vars : Around) (es : List Expr) → list_all (right vars) es ≡ true → AreRight scope vars es
  each-is vars [] h = tt
  each-is vars (e ∷ es) h = let g : (right vars e ≡ true) × (list_all (right vars) es ≡ true) = and_parts _ _ h in (right-is vars e g.0, each-is vars es g.1)

  -- statements without loops
  abbrev mutual
    right_stmt : Around → Stmt → Bool
    right_stmt vars (Assign kind left value at) = list_all (right vars) (indexes_of (out-Path left).parts) && right vars value
    right_stmt vars (Block' shape parts) = right_block vars parts
    right_stmt vars (If' test l (more_of-Stmt left end_of-Stmt) other at) = right vars test && (right_stmt vars left && right_branch vars other)
    right_stmt vars (Switch' on shape arms other at) = right vars on && (right_arms vars arms && right_branch vars other)
    right_stmt vars (Default' l (more_of-Stmt left end_of-Stmt) r (more_of-Stmt other end_of-Stmt) at) = right_stmt vars left && right_stmt vars other
    right_stmt vars (For' var from to closed step shape body at) = false
    right_stmt vars (Forall' var over shape (more_of-Stmt body end_of-Stmt) at) = right_stmt ((var.name, any) ∷ vars) body && index_type over

    right_block : {m : _} → Around → Row_of-Stmt m → Bool
    right_block vars end_of-Stmt = true
    right_block vars (more_of-Stmt part rest) = right_stmt vars part && right_block vars rest

    right_branch : Around → Held-Stmt-If-2 → Bool
    right_branch vars stmt.None' = true
    right_branch vars (stmt.Some' shape (more_of-Stmt part end_of-Stmt)) = right_stmt vars part

    right_arms : {m : _} → Around → Row_of-Arm m → Bool
    right_arms vars end_of-Arm = true
    right_arms vars (more_of-Arm labels body rest) = list_all (right vars) labels && (right_stmt vars body && right_arms vars rest)

  mutual
    stmt-is : (vars : Around) (act : Stmt) → right_stmt vars act ≡ true → StatementIsRight scope vars act
    stmt-is vars (Assign kind left value at) h =
        let g : (list_all (right vars) (indexes_of (out-Path left).parts) ≡ true) × (right vars value ≡ true) = and_parts _ _ h in (each-is vars (indexes_of (out-Path left).parts) g.0, right-is vars value g.1)
    stmt-is vars (Block' shape parts) h = block-is vars parts h
    stmt-is vars (If' test l (more_of-Stmt left end_of-Stmt) other at) h =
        let g : (right vars test ≡ true) × ((right_stmt vars left && right_branch vars other) ≡ true) = and_parts _ _ h in
        let k : (right_stmt vars left ≡ true) × (right_branch vars other ≡ true) = and_parts _ _ g.1 in
        (right-is vars test g.0, stmt-is vars left k.0, branch-is vars other k.1)
    stmt-is vars (Switch' on shape arms other at) h =
        let g : (right vars on ≡ true) × ((right_arms vars arms && right_branch vars other) ≡ true) = and_parts _ _ h in
        let k : (right_arms vars arms ≡ true) × (right_branch vars other ≡ true) = and_parts _ _ g.1 in
        (right-is vars on g.0, arms-are vars arms k.0, branch-is vars other k.1)
    stmt-is vars (Default' l (more_of-Stmt left end_of-Stmt) r (more_of-Stmt other end_of-Stmt) at) h = let g : (right_stmt vars left ≡ true) × (right_stmt vars other ≡ true) = and_parts _ _ h in (stmt-is vars left g.0, stmt-is vars other g.1)
    stmt-is vars (For' var from to closed step shape (more_of-Stmt body end_of-Stmt) at) h = absurd (cc (h))
    stmt-is vars (Forall' var over shape (more_of-Stmt body end_of-Stmt) at) h =
        let g : (right_stmt ((var.name, any) ∷ vars) body ≡ true) × (index_type over ≡ true) = and_parts _ _ h in (stmt-is ((var.name, any) ∷ vars) body g.0, index_type-is over g.1)

    block-is : {m : _} (vars : Around) (parts : Row_of-Stmt m) → right_block vars parts ≡ true → StatementsAreRight scope vars parts
    block-is vars end_of-Stmt h = tt
    block-is vars (more_of-Stmt part rest) h = let g : (right_stmt vars part ≡ true) × (right_block vars rest ≡ true) = and_parts _ _ h in (stmt-is vars part g.0, block-is vars rest g.1)

    branch-is : (vars : Around) (branch : Held-Stmt-If-2) → right_branch vars branch ≡ true → BranchIsRight scope vars branch
    branch-is vars stmt.None' h = tt
    branch-is vars (stmt.Some' shape (more_of-Stmt part end_of-Stmt)) h = stmt-is vars part h

    arms-are : {m : _} (vars : Around) (arms : Row_of-Arm m) → right_arms vars arms ≡ true → ArmsAreRight scope vars arms
    arms-are vars end_of-Arm h = tt
    arms-are vars (more_of-Arm labels body rest) h =
        let g : (list_all (right vars) labels ≡ true) × ((right_stmt vars body && right_arms vars rest) ≡ true) = and_parts _ _ h in
        let k : (right_stmt vars body ≡ true) × (right_arms vars rest ≡ true) = and_parts _ _ g.1 in
        (each-is vars labels g.0, stmt-is vars body k.0, arms-are vars rest k.1)

abbrev right_binders : Binders → Bool
right_binders [] = true
right_binders ((word, over) ∷ binders) = index_type over && right_binders binders

binders-are : (binders : Binders) → right_binders binders ≡ true → BindersAreRight binders
binders-are [] h = tt
binders-are ((word, over) ∷ binders) h = let g : (index_type over ≡ true) × (right_binders binders ≡ true) = and_parts _ _ h in (index_type-is over g.0, binders-are binders g.1)

abbrev pub right_entry : Text → Entry → Bool
right_entry text (statement x) = right_stmt (scope_in text x.instance) [] x.act
right_entry text (goal instance binders (claim word vars body at)) = right (scope_in text instance) (within [] binders) body && right_binders binders
right_entry text _ = true

entry-is : (text : Text) (e : Entry) → right_entry text e ≡ true → EntryIsRight text e
entry-is text (layer name) h = tt
entry-is text (statement x) h = stmt-is (scope_in text x.instance) [] x.act h
entry-is text (goal instance binders (claim word vars body at)) h =
    let g : (right (scope_in text instance) (within [] binders) body ≡ true) × (right_binders binders ≡ true) = and_parts _ _ h in (right-is (scope_in text instance) (within [] binders) body g.0, binders-are binders g.1)
entry-is text (goal instance binders (split word vars of pairs at)) h = tt
entry-is text (goal instance binders (using uses proves at)) h = tt

pub text-is : (text : Text) → list_all (right_entry text) (entries text) ≡ true → TextIsRight text
text-is text h = all_passes (EntryIsRight text) (right_entry text) (entry-is text) (entries text) h
