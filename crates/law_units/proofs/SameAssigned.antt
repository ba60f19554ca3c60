-- The assignments of a flattened statement are those of the statement, one for one, each with its family's number.
use Rattle.std.proofs.Common.{◌≡◌, ℕ, List, [], ◌∷◌, ◌++◌, map, flat_map, refl, sym, ap, subst, ◌∙◌}
use Rattle.std.specs.List.{AllZip}
use Rattle.smv_core.specs.Values.{Path}
use Rattle.smv_core.specs.Walk.{steps_of}
use Rattle.smv_core.specs.Assignments.{Around, loop, any, Assigned, assignments, assignments_of, assignments_held, assignments_arms}
use Rattle.smv_core.specs.declared.tree.Stmt.{Stmt, Assign, Block', If', Switch', Default', For', Forall', Held-Stmt-If-2, None', Some', Row_of-Stmt, end_of-Stmt, more_of-Stmt, Row_of-Arm, end_of-Arm, more_of-Arm}
use Rattle.smv_core.specs.declared.flat.Simple.{Simple}
use Rattle.smv_core.specs.declared.flat.FlatExpr.{FlatExpr, Within, List as ListOf}
use Rattle.smv_core.specs.declared.flat.FlatMember.{One}
use Rattle.smv_core.specs.declared.flat.FlatStmt.{FlatStmt, If, Default, Forall, Block, Block', Row_of-FlatStmt, end_of-FlatStmt, more_of-FlatStmt, items-the_row-FlatStmt, items_hidden-the_row-FlatStmt-1}
use mathlib.Core.Former.{Count}
use Rattle.law_designs.specs.Numbers.{Scope, bound_in, flat_over, family_number}
use Rattle.law_designs.specs.Statements.{flat_expr, flat_stmt, flat_parts, flat_branch, flat_arms, first_label}
use Rattle.law_designs.specs.Flattening.{FlatAssigned, flat_assignments, flat_assignments_in}
use Rattle.law_designs.proofs.FlatLists.{boxes}
use Rattle.law_sound_texts.proofs.FirstFound.{zip-append}

-- ---- the assignments of a flattened statement by its parts

made-row : (k : _) (row : Row_of-FlatStmt k) → flat_assignments_in row ≡ flat_map flat_assignments (items-the_row-FlatStmt k row)
made-row k end_of-FlatStmt = refl
made-row k (more_of-FlatStmt part rest) = ap (λ l. flat_assignments part ++ l) (made-row _ rest)

abbrev row_of : FlatStmt → (k : Count) × Row_of-FlatStmt k
row_of (Block' shape row) = (_, row)
row_of _ = (_, end_of-FlatStmt)

made-Block : (acts : List FlatStmt) → flat_assignments (Block acts) ≡ flat_map flat_assignments acts
made-Block acts = let row : (k : Count) × Row_of-FlatStmt k = row_of (Block acts) in made-row row.0 row.1 ∙ ap (flat_map flat_assignments) (items_hidden-the_row-FlatStmt-1 acts)

made-If : (cond : FlatExpr) (l r : FlatStmt) → flat_assignments (If cond l r) ≡ flat_assignments l ++ flat_assignments r
unfolding boxes
made-If cond l r = refl

made-Default : (l r : FlatStmt) → flat_assignments (Default l r) ≡ flat_assignments l ++ flat_assignments r
unfolding boxes
made-Default l r = refl

made-Forall : (var : ℕ) (over : Simple) (body : FlatStmt) → flat_assignments (Forall var over body) ≡ flat_assignments body
unfolding boxes
made-Forall var over body = refl

-- ---- one for one

module _ (scope : Scope) where
  -- an assignment of the family with that number
  abbrev pub IsSameAssigned : Assigned → FlatAssigned → Type 0
  IsSameAssigned a b = b.family ≡ family_number scope a.path

  abbrev instance : Path
  instance = scope.instance

  abbrev Same : List Assigned → List FlatAssigned → Type 0
  Same as' bs = AllZip IsSameAssigned as' bs

  both : (as' cs : List Assigned) (bs ds : List FlatAssigned) → Same as' bs → Same cs ds → Same (as' ++ cs) (bs ++ ds)
  both as' cs bs ds h k = zip-append IsSameAssigned as' bs cs ds h k

  same-turns : (act : ℕ → FlatStmt) (as' : ℕ → List Assigned) → ((k : ℕ) → Same (as' k) (flat_assignments (act k))) → (ks : List ℕ) → Same (flat_map as' ks) (flat_map flat_assignments (map act ks))
  same-turns act as' h [] = tt
  same-turns act as' h (k ∷ ks) = both (as' k) (flat_map as' ks) (flat_assignments (act k)) (flat_map flat_assignments (map act ks)) (h k) (same-turns act as' h ks)

  regroup : (as' bs cs : List Assigned) → as' ++ (bs ++ cs) ≡ (as' ++ bs) ++ cs
  regroup [] bs cs = refl
  regroup (a ∷ as') bs cs = ap (λ l. a ∷ l) (regroup as' bs cs)

  mutual
    pub same-assigned : (vars : Around) (act : Stmt) → Same (assignments instance act vars) (flat_assignments (flat_stmt scope vars act))
    same-assigned vars (Assign which left value at) = (refl, tt)
    same-assigned vars (Block' shape parts) = subst (Same (assignments_of instance parts vars)) (sym (made-Block (flat_parts scope vars parts))) (same-parts vars parts)
    same-assigned vars (If' test l (more_of-Stmt left end_of-Stmt) right at) =
        subst (Same (assignments instance left vars ++ assignments_held instance right vars)) (sym (made-If (flat_expr scope vars test) (flat_stmt scope vars left) (flat_branch scope vars right)))
        (both (assignments instance left vars) (assignments_held instance right vars) (flat_assignments (flat_stmt scope vars left)) (flat_assignments (flat_branch scope vars right)) (same-assigned vars left) (same-held vars right))
    same-assigned vars (Switch' on shape arms other at) =
        same-arms vars arms (flat_expr scope vars on) (flat_branch scope vars other) (assignments_held instance other vars) (same-held vars other)
    same-assigned vars (Default' l (more_of-Stmt left end_of-Stmt) r (more_of-Stmt right end_of-Stmt) at) =
        subst (Same (assignments instance left vars ++ assignments instance right vars)) (sym (made-Default (flat_stmt scope vars left) (flat_stmt scope vars right)))
        (both (assignments instance left vars) (assignments instance right vars) (flat_assignments (flat_stmt scope vars left)) (flat_assignments (flat_stmt scope vars right)) (same-assigned vars left) (same-assigned vars right))
    same-assigned vars (For' var from to closed step shape (more_of-Stmt body end_of-Stmt) at) =
        subst (Same (flat_map (λ k. assignments instance body ((var.name, loop k) ∷ vars)) (steps_of from to closed step))) (sym (made-Block (map (λ k. flat_stmt scope ((var.name, loop k) ∷ vars) body) (steps_of from to closed step))))
        (same-turns (λ k. flat_stmt scope ((var.name, loop k) ∷ vars) body) (λ k. assignments instance body ((var.name, loop k) ∷ vars)) (λ k. same-assigned ((var.name, loop k) ∷ vars) body) (steps_of from to closed step))
    same-assigned vars (Forall' var over shape (more_of-Stmt body end_of-Stmt) at) =
        subst (Same (assignments instance body ((var.name, any) ∷ vars))) (sym (made-Forall (bound_in vars) (flat_over scope over) (flat_stmt scope ((var.name, any) ∷ vars) body)))
        (same-assigned ((var.name, any) ∷ vars) body)

    same-parts : {m : _} (vars : Around) (parts : Row_of-Stmt m) → Same (assignments_of instance parts vars) (flat_map flat_assignments (flat_parts scope vars parts))
    same-parts vars end_of-Stmt = tt
    same-parts vars (more_of-Stmt part rest) =
        both (assignments instance part vars) (assignments_of instance rest vars) (flat_assignments (flat_stmt scope vars part)) (flat_map flat_assignments (flat_parts scope vars rest)) (same-assigned vars part) (same-parts vars rest)

    same-held : (vars : Around) (branch : Held-Stmt-If-2) → Same (assignments_held instance branch vars) (flat_assignments (flat_branch scope vars branch))
    same-held vars None' = subst (Same []) (sym (made-Block [])) tt
    same-held vars (Some' shape (more_of-Stmt part end_of-Stmt)) = same-assigned vars part

    same-arms : {m : _} (vars : Around) (arms : Row_of-Arm m) (on : FlatExpr) (other : FlatStmt) (last : List Assigned) → Same last (flat_assignments other) → Same (assignments_arms instance arms vars ++ last) (flat_assignments (flat_arms scope vars arms on other))
    same-arms vars end_of-Arm on other last h = h
    same-arms vars (more_of-Arm labels body rest) on other last h =
        subst (λ l. Same l (flat_assignments (flat_arms scope vars (more_of-Arm labels body rest) on other))) (regroup (assignments instance body vars) (assignments_arms instance rest vars) last)
        (subst (Same (assignments instance body vars ++ (assignments_arms instance rest vars ++ last)))
        (sym (made-If (Within on (ListOf (map (λ label. One (flat_expr scope vars label)) labels) (first_label labels))) (flat_stmt scope vars body) (flat_arms scope vars rest on other)))
        (both (assignments instance body vars) (assignments_arms instance rest vars ++ last) (flat_assignments (flat_stmt scope vars body)) (flat_assignments (flat_arms scope vars rest on other)) (same-assigned vars body) (same-arms vars rest on other last h)))
