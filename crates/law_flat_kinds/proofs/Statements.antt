-- In a module a statement without faults keeps the kinds of the flattened text.
use Rattle.std.proofs.lemmas.Bool.{and_from}
use Rattle.law_designs.proofs.Opening.{opening}
use Rattle.std.proofs.Common.{◌≡◌, ℕ, List, [], ◌∷◌, ◌++◌, map, flat_map, length, slice_get, Option, Some, is_some, Bool, true, refl, ap, ◌∙◌, subst}
use Rattle.std.specs.List.{list_all}
use Rattle.law_lists.proofs.Each.{each_append}
use Rattle.smv_core.specs.Walk.{indexes_of, steps_of}
use Rattle.smv_core.specs.Outcome.{fields_of}
use Rattle.smv_core.specs.Assignments.{Around, loop, any}
use Rattle.smv_core.specs.declared.tree.Word.{Word}
use Rattle.smv_core.specs.declared.tree.Part.{Part, Field, At}
use Rattle.smv_core.specs.declared.tree.Path.{out-Path}
use Rattle.smv_core.specs.declared.tree.Expr.{Expr}
use Rattle.smv_core.specs.declared.tree.Stmt.{Stmt, Assign, Block', If', Switch', Default', For', Forall', Held-Stmt-If-2, Row_of-Stmt, end_of-Stmt, more_of-Stmt, Row_of-Arm, end_of-Arm, more_of-Arm}
use Rattle.smv_core.specs.declared.tree.Stmt as stmt
use Rattle.smv_core.specs.declared.flat.FlatText.{FlatText}
use Rattle.smv_core.specs.declared.flat.FlatExpr.{FlatExpr, Within, List as ListOf}
use Rattle.smv_core.specs.declared.flat.FlatMember as member
use Rattle.smv_core.specs.declared.flat.FlatStmt.{FlatStmt}
use Rattle.smv_core.specs.declared.flat.FlatStmt as act
use Rattle.smv_mentions.specs.Mentions as said
use Rattle.law_designs.specs.Kinds.{number, no_kind, Operand, joins, unless, takes_number, takes, alike, alike_with}
use Rattle.law_designs.specs.Types.{Whole, index_faults}
use Rattle.law_designs.specs.References as kinds
use Rattle.law_designs.specs.References.{Vars, signal_at, reference}
use Rattle.law_designs.specs.Operands.{bind, operand, value, target}
use Rattle.law_designs.specs.KindFaults.{in_stmt, in_block, in_branch, in_arms, labels}
use Rattle.law_designs.specs.FlatKinds as typed
use Rattle.law_designs.specs.FlatKinds.{kind_in, keeps_kinds, number_if, assigns, element}
use Rattle.law_designs.specs.Numbers.{Scope, bound_in, flat_over, family_number}
use Rattle.law_designs.specs.Statements.{flat_expr, flat_stmt, flat_parts, flat_branch, flat_arms, first_label}
use Rattle.law_designs.specs.Written.{AreWritten, StatementIsWritten, StatementsAreWritten, BranchIsWritten, ArmsAreWritten}
use Rattle.law_designs.proofs.Faultless.{empty-both, empty-three, each-front, each-behind, IsFine, number-fine, taken-fine, alike_with-fine, reference-fine}
use Rattle.law_designs.proofs.Statements.{mapped-length}
use Rattle.law_designs.proofs.Modules.{IsApart}
use Rattle.law_flat_kinds.proofs.Relation.{HasKind, HaveKinds, takes-kept, number-kept, alike-some, alike_with-front, alike_with-behind}
use Rattle.law_flat_kinds.proofs.Boxes.{member_kind, all_keep, kind-Within, looked-List, keeps-Block, keeps-If, keeps-Default, keeps-Forall}
use Rattle.law_flat_kinds.proofs.Variables.{AreApart, SignalsAreKinded, ConstantsAreKinded, IndexesAreKinded, AreVars, kinds_bound, binder-kinded}
use Rattle.law_flat_kinds.proofs.Expressions.{HasItsKind, expression-kinded, read-kinded, bound-vars}
use Rattle.law_flat_kinds.proofs.Values.{value-kinded, are-kinded, labels-kinded}

all-true : {X : Type 0} (p : FlatStmt → Bool) (f : X → FlatStmt) → ((x : X) → p (f x) ≡ true) → (xs : List X) → list_all p (map f xs) ≡ true
all-true p f h [] = refl
all-true p f h (x ∷ xs) = and_from (p (f x)) (list_all p (map f xs)) (h x) (all-true p f h xs)

-- labels beside a value that fits them
labels-fit : (on : Operand) (es : List Operand) → IsFine on → alike_with on.kind es ≡ [] → alike (on ∷ es) ≡ []
unfolding opening
labels-fit on es fine h = rw (fine, h) refl

module _ (flat_text : FlatText) (scope : kinds.Scope) (flat : Scope) (signals : SignalsAreKinded flat_text scope flat) (named : ConstantsAreKinded flat_text scope flat) (over_kinded : IndexesAreKinded flat_text scope flat) where
  abbrev pub Keeps : Vars → Around → FlatStmt → Type 0
  Keeps vars around act = keeps_kinds flat_text (kinds_bound flat_text scope flat vars around) act ≡ true

  -- an assignment to a whole signal
  pub assign-keeps : (vars : Vars) (around : Around) (parts : List Part) (at : ℕ) (w : Whole) → signal_at scope parts ≡ Some w → (os : List Operand) → length (indexes_of parts) ≡ length os → (reference at (Some w) os).faults ≡ [] →
      (found : List (Option typed.FlatKind)) → HaveKinds flat found os → (right : Operand) (o : Option typed.FlatKind) → HasKind flat o right.kind → takes w.value right ≡ [] →
      assigns (element (slice_get flat_text.families (family_number flat (flat.instance ++ fields_of parts))) found) o ≡ true
  assign-keeps vars around parts at w h os count fine found given right o own fits =
      let t = read-kinded flat_text scope flat signals named over_kinded parts w h at os count fine found given in
      ap (λ t. assigns t o) t.0 ∙ takes-kept flat w.value t.1 right o own fits

  -- an arm of a `switch`
  arm-keeps : (words : List Word) (vars : Vars) (around : Around) → AreVars flat_text scope flat vars around → (on : Operand) (flat_on : FlatExpr) → HasKind flat (kind_in flat_text (kinds_bound flat_text scope flat vars around) flat_on) on.kind → IsFine on → (es : List Expr) → AreWritten es →
      AreApart flat_text scope flat (flat_map (said.in_expr words) es) → alike_with on.kind (map (operand scope vars) es) ≡ [] → (body other : FlatStmt) → Keeps vars around body → Keeps vars around other →
      Keeps vars around (act.If (Within flat_on (ListOf (map (λ label. member.One (flat_expr flat around label)) es) (first_label es))) body other)
  arm-keeps words vars around same on flat_on own fine es written apart fit body other h k =
      let fv : typed.FlatVars = kinds_bound flat_text scope flat vars around in
      let ms = map (λ label. member.One (flat_expr flat around label)) es in
      let given : HaveKinds flat (map (member_kind flat_text fv) ms) (map (operand scope vars) es) = labels-kinded flat_text scope flat signals named over_kinded words vars around same es written apart (alike_with-fine on.kind (map (operand scope vars) es) fit) in
      let some : is_some (typed.common (kind_in flat_text fv flat_on ∷ map (member_kind flat_text fv) ms)) ≡ true = alike-some flat on (map (operand scope vars) es) (kind_in flat_text fv flat_on) (map (member_kind flat_text fv) ms) (own, given) (labels-fit on (map (operand scope vars) es) fine fit) in
      let test : typed.takes typed.number (kind_in flat_text fv (Within flat_on (ListOf ms (first_label es)))) ≡ true =
      ap (typed.takes typed.number) (kind-Within flat_text fv flat_on (ListOf ms (first_label es)) ∙ ap (λ l. number_if (is_some (typed.common (kind_in flat_text fv flat_on ∷ l)))) (looked-List flat_text fv ms (first_label es)) ∙ ap number_if some) in
      keeps-If flat_text fv (Within flat_on (ListOf ms (first_label es))) body other ∙ and_from _ _ test (and_from _ _ h k)

  indexes-apart : (words : List Word) (parts : List Part) → AreApart flat_text scope flat (flat_map (said.in_part words) parts) → AreApart flat_text scope flat (flat_map (said.in_expr words) (indexes_of parts))
  indexes-apart words [] h = tt
  indexes-apart words (Field word ∷ parts) h = indexes-apart words parts h
  indexes-apart words (At index ∷ parts) h =
      each_append (IsApart scope.here.own scope.constants) (said.in_expr words index) (flat_map (said.in_expr words) (indexes_of parts)) (each-front _ (said.in_expr words index) (flat_map (said.in_part words) parts) h)
      (indexes-apart words parts (each-behind _ (said.in_expr words index) (flat_map (said.in_part words) parts) h))

  mutual
    unfolding opening said.in_stmt said.in_path

    pub statement-keeps : (words : List Word) (vars : Vars) (around : Around) → AreVars flat_text scope flat vars around → (act : Stmt) → StatementIsWritten act → AreApart flat_text scope flat (said.in_stmt words act) → in_stmt scope vars act ≡ [] → Keeps vars around (flat_stmt flat around act)
    statement-keeps words vars around same (Assign kind left right at) written apart fine =
        let path = (out-Path left).parts in
        let both = empty-both (target scope vars left).faults (takes (target scope vars left).kind (value scope vars right)) fine in
        let r = reference-fine (out-Path left).at (signal_at scope path) (map (operand scope vars) (indexes_of path)) both.0 in
        let count : length (indexes_of path) ≡ length (map (operand scope vars) (indexes_of path)) = mapped-length (operand scope vars) (indexes_of path) in
        let s = signals path r.0 r.1 in
        let left_apart = each-front _ (said.in_path words left) (said.in_expr words right) apart in
        let given = are-kinded flat_text scope flat signals named over_kinded words vars around same (indexes_of path) written.0 (indexes-apart words path left_apart.1) (r.2 (s.7 ∙ count)) in
        let own = value-kinded flat_text scope flat signals named over_kinded words vars around same right written.1 (each-behind _ (said.in_path words left) (said.in_expr words right) apart) (taken-fine (target scope vars left).kind (value scope vars right) both.1) in
        assign-keeps vars around path (out-Path left).at r.0 r.1 (map (operand scope vars) (indexes_of path)) count
        (subst (λ o. (reference (out-Path left).at o (map (operand scope vars) (indexes_of path))).faults ≡ []) r.1 both.0) _ given (value scope vars right) _ own
        (subst (λ o. takes (reference (out-Path left).at o (map (operand scope vars) (indexes_of path))).kind (value scope vars right) ≡ []) r.1 both.1)
    statement-keeps words vars around same (Block' shape parts) written apart fine =
        keeps-Block flat_text (kinds_bound flat_text scope flat vars around) (flat_parts flat around parts) ∙ statements-keep words vars around same parts written apart fine
    statement-keeps words vars around same (If' test l (more_of-Stmt left end_of-Stmt) right at) written apart fine =
        let all = empty-three (takes_number (operand scope vars test)) (in_stmt scope vars left) (in_branch scope vars right) fine in
        let front = each-front _ (said.in_expr words test ++ said.in_stmt words left) (said.in_branch words right) apart in
        let own = expression-kinded flat_text scope flat signals named over_kinded words vars around same test written.0 (each-front _ (said.in_expr words test) (said.in_stmt words left) front) (number-fine _ all.0) in
        keeps-If flat_text (kinds_bound flat_text scope flat vars around) (flat_expr flat around test) (flat_stmt flat around left) (flat_branch flat around right)
        ∙ and_from _ _ (number-kept flat (operand scope vars test) _ own all.0)
        (and_from _ _ (statement-keeps words vars around same left written.1 (each-behind _ (said.in_expr words test) (said.in_stmt words left) front) all.1)
        (branch-keeps words vars around same right written.2 (each-behind _ (said.in_expr words test ++ said.in_stmt words left) (said.in_branch words right) apart) all.2))
    statement-keeps words vars around same (Switch' on shape arms other at) written apart fine =
        let all = empty-three (alike (operand scope vars on ∷ labels scope vars arms)) (in_arms scope vars arms) (in_branch scope vars other) fine in
        let front = each-front _ (said.in_expr words on ++ said.in_arms words arms) (said.in_branch words other) apart in
        let parts = empty-three (operand scope vars on).faults (unless (joins no_kind (operand scope vars on).kind) (operand scope vars on)) (alike_with (operand scope vars on).kind (labels scope vars arms)) all.0 in
        let own : HasItsKind flat_text scope flat signals named over_kinded vars around on = expression-kinded flat_text scope flat signals named over_kinded words vars around same on written.0 (each-front _ (said.in_expr words on) (said.in_arms words arms) front) parts.0 in
        arms-keep words vars around same arms written.1 (each-behind _ (said.in_expr words on) (said.in_arms words arms) front) all.1 (operand scope vars on) (flat_expr flat around on) own parts.0 parts.2 (flat_branch flat around other)
        (branch-keeps words vars around same other written.2 (each-behind _ (said.in_expr words on ++ said.in_arms words arms) (said.in_branch words other) apart) all.2)
    statement-keeps words vars around same (Default' l (more_of-Stmt left end_of-Stmt) r (more_of-Stmt right end_of-Stmt) at) written apart fine =
        let both = empty-both (in_stmt scope vars left) (in_stmt scope vars right) fine in
        keeps-Default flat_text (kinds_bound flat_text scope flat vars around) (flat_stmt flat around left) (flat_stmt flat around right)
        ∙ and_from _ _ (statement-keeps words vars around same left written.0 (each-front _ (said.in_stmt words left) (said.in_stmt words right) apart) both.0)
        (statement-keeps words vars around same right written.1 (each-behind _ (said.in_stmt words left) (said.in_stmt words right) apart) both.1)
    statement-keeps words vars around same (For' var from to closed step shape (more_of-Stmt body end_of-Stmt) at) written apart fine =
        keeps-Block flat_text (kinds_bound flat_text scope flat vars around) (map (λ n. flat_stmt flat ((var.name, loop n) ∷ around) body) (steps_of from to closed step))
        ∙ all-true (keeps_kinds flat_text (kinds_bound flat_text scope flat vars around)) (λ n. flat_stmt flat ((var.name, loop n) ∷ around) body)
        (λ n. statement-keeps (words ++ var ∷ []) ((var.name, number) ∷ vars) ((var.name, loop n) ∷ around) (refl, refl, apart.0, same) body written apart.1 fine) (steps_of from to closed step)
    statement-keeps words vars around same (Forall' var over shape (more_of-Stmt body end_of-Stmt) at) written apart fine =
        let both = empty-both (index_faults scope.here.types over) (in_stmt scope (bind scope vars var over) body) fine in
        keeps-Forall flat_text (kinds_bound flat_text scope flat vars around) (bound_in around) (flat_over flat over) (flat_stmt flat ((var.name, any) ∷ around) body)
        ∙ binder-kinded flat_text scope flat over_kinded vars around same over written.1 both.0 (λ fv. keeps_kinds flat_text fv (flat_stmt flat ((var.name, any) ∷ around) body))
        (statement-keeps (words ++ var ∷ []) (bind scope vars var over) ((var.name, any) ∷ around) (bound-vars flat_text scope flat signals named over_kinded vars around same var over written.1 both.0 apart.0) body written.0
        (each-behind _ (said.in_type over) (said.in_stmt (words ++ var ∷ []) body) apart.1) both.1)

    statements-keep : {m : _} (words : List Word) (vars : Vars) (around : Around) → AreVars flat_text scope flat vars around → (row : Row_of-Stmt m) → StatementsAreWritten row → AreApart flat_text scope flat (said.in_block words row) → in_block scope vars row ≡ [] →
        all_keep flat_text (kinds_bound flat_text scope flat vars around) (flat_parts flat around row) ≡ true
    statements-keep words vars around same end_of-Stmt written apart fine = refl
    statements-keep words vars around same (more_of-Stmt part rest) written apart fine =
        let both = empty-both (in_stmt scope vars part) (in_block scope vars rest) fine in
        and_from _ _ (statement-keeps words vars around same part written.0 (each-front _ (said.in_stmt words part) (said.in_block words rest) apart) both.0)
        (statements-keep words vars around same rest written.1 (each-behind _ (said.in_stmt words part) (said.in_block words rest) apart) both.1)

    branch-keeps : (words : List Word) (vars : Vars) (around : Around) → AreVars flat_text scope flat vars around → (held : Held-Stmt-If-2) → BranchIsWritten held → AreApart flat_text scope flat (said.in_branch words held) → in_branch scope vars held ≡ [] → Keeps vars around (flat_branch flat around held)
    branch-keeps words vars around same stmt.None' written apart fine = keeps-Block flat_text (kinds_bound flat_text scope flat vars around) []
    branch-keeps words vars around same (stmt.Some' shape (more_of-Stmt part end_of-Stmt)) written apart fine = statement-keeps words vars around same part written apart fine

    arms-keep : {m : _} (words : List Word) (vars : Vars) (around : Around) → AreVars flat_text scope flat vars around → (arms : Row_of-Arm m) → ArmsAreWritten arms → AreApart flat_text scope flat (said.in_arms words arms) → in_arms scope vars arms ≡ [] →
        (on : Operand) (flat_on : FlatExpr) → HasKind flat (kind_in flat_text (kinds_bound flat_text scope flat vars around) flat_on) on.kind → IsFine on → alike_with on.kind (labels scope vars arms) ≡ [] → (other : FlatStmt) → Keeps vars around other → Keeps vars around (flat_arms flat around arms flat_on other)
    arms-keep words vars around same end_of-Arm written apart fine on flat_on own ok fit other k = k
    arms-keep words vars around same (more_of-Arm es body rest) written apart fine on flat_on own ok fit other k =
        let both = empty-both (in_stmt scope vars body) (in_arms scope vars rest) fine in
        let front = each-front _ (flat_map (said.in_expr words) es ++ said.in_stmt words body) (said.in_arms words rest) apart in
        arm-keeps words vars around same on flat_on own ok es written.0 (each-front _ (flat_map (said.in_expr words) es) (said.in_stmt words body) front) (alike_with-front on.kind (map (operand scope vars) es) (labels scope vars rest) fit)
        (flat_stmt flat around body) (flat_arms flat around rest flat_on other)
        (statement-keeps words vars around same body written.1 (each-behind _ (flat_map (said.in_expr words) es) (said.in_stmt words body) front) both.0)
        (arms-keep words vars around same rest written.2 (each-behind _ (flat_map (said.in_expr words) es ++ said.in_stmt words body) (said.in_arms words rest) apart) both.1 on flat_on own ok
        (alike_with-behind on.kind own.1 (map (operand scope vars) es) (labels scope vars rest) fit) other k)
