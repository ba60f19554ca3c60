-- Places in statements say nothing.
use Rattle.std.proofs.Common.{◌≡◌, List, [], ◌∷◌, map, flat_map, refl, sym, ap, ◌∙◌}
use Rattle.smv_core.specs.Values.{Path, Value, number, Outcome, disjunction, equal}
use Rattle.smv_core.specs.Types.{values_over}
use Rattle.smv_core.specs.Outcome.{State, Scene, Bindings, outcome}
use Rattle.smv_core.specs.Walk.{Element, Walk, walk, walk_parts, walk_held, walk_arms, first, assigned, is_label, indexes_of, steps_of}
use Rattle.smv_core.specs.Assignments.{Around, any, loop, index_of, assignments, assignments_of, assignments_held, assignments_arms}
use Rattle.smv_core.specs.declared.tree.Kind.{Kind}
use Rattle.smv_core.specs.declared.tree.Path.{Path as TreePath, out-Path}
use Rattle.smv_core.specs.declared.tree.Part.{Part, Field, At}
use Rattle.smv_core.specs.declared.tree.Expr.{Expr}
use Rattle.smv_core.specs.declared.tree.Stmt.{Stmt, Assign, Block', If', Switch', Default', For', Forall', Held-Stmt-If-2, None', Some', Row_of-Stmt, end_of-Stmt, more_of-Stmt, Row_of-Arm, end_of-Arm, more_of-Arm}
use Rattle.law_places.specs.Placeless.{placeless, placeless_part, placeless_path, placeless_stmt, placeless_stmts, placeless_branch, placeless_arms}
use Rattle.law_places.specs.Likeness.{IsLikeAct}
use Rattle.law_places.proofs.Expressions.{map-same, placeless-fields, placeless-outcome, placeless-allowed, placeless-index, placeless-values}

map-map : {X Y Z : Type 0} (g : Y → Z) (f : X → Y) (xs : List X) → map g (map f xs) ≡ map (λ x. g (f x)) xs
map-map g f [] = refl
map-map g f (x ∷ xs) = ap (λ l. g (f x) ∷ l) (map-map g f xs)

flat_map-same : {X Y : Type 0} (f g : X → List Y) → ((x : X) → f x ≡ g x) → (xs : List X) → flat_map f xs ≡ flat_map g xs
flat_map-same f g h [] = refl
flat_map-same f g h (x ∷ xs) = rw (h x, flat_map-same f g h xs) refl

indexes-placeless : (parts : List Part) → indexes_of (map placeless_part parts) ≡ map placeless (indexes_of parts)
indexes-placeless [] = refl
indexes-placeless (Field word ∷ parts) = indexes-placeless parts
indexes-placeless (At index ∷ parts) = ap (λ l. placeless index ∷ l) (indexes-placeless parts)

pub path-parts : (path : TreePath) → (out-Path (placeless_path path)).parts ≡ map placeless_part (out-Path path).parts
path-parts path = refl

module _ (scene : Scene) (s : State) (kind : Kind) (x : Element) (every : List Value) where
  placeless-left : (parts : List Part) (b : Bindings) → map (λ e. outcome scene s e b) (indexes_of (map placeless_part parts)) ≡ map (λ e. outcome scene s e b) (indexes_of parts)
  placeless-left parts b = ap (map (λ e. outcome scene s e b)) (indexes-placeless parts) ∙ map-map (λ e. outcome scene s e b) placeless (indexes_of parts) ∙ map-same _ _ (indexes_of parts) (λ e. placeless-outcome scene s e b)

  placeless-assigned : (us : List Outcome) (value : Expr) (b : Bindings) → assigned scene s kind x every us (placeless value) b ≡ assigned scene s kind x every us value b
  placeless-assigned us value b = rw (placeless-allowed scene s every value b) refl

  placeless-label : (on : Outcome) (labels : List Expr) (b : Bindings) → is_label scene s kind x every on (map placeless labels) b ≡ is_label scene s kind x every on labels b
  placeless-label on labels b = ap disjunction (map-map (λ label. equal on (outcome scene s label b)) placeless labels ∙ map-same _ _ labels (λ label. ap (equal on) (placeless-outcome scene s label b)))

  mutual
    unfolding placeless_stmt

    pub placeless-walk : (act : Stmt) (b : Bindings) → walk scene s kind x every (placeless_stmt act) b ≡ walk scene s kind x every act b
    placeless-walk (Assign which left value at) b =
        rw (path-parts left, placeless-fields (out-Path left).parts, placeless-left (out-Path left).parts b, placeless-assigned (map (λ e. outcome scene s e b) (indexes_of (out-Path left).parts)) value b) refl
    placeless-walk (Block' shape parts) b = placeless-walks parts b
    placeless-walk (If' cond l (more_of-Stmt left end_of-Stmt) right at) b = rw (placeless-outcome scene s cond b, placeless-walk left b, placeless-held right b) refl
    placeless-walk (Switch' on shape arms other at) b = rw (placeless-outcome scene s on b, placeless-held other b) (placeless-walk_arms arms (outcome scene s on b) (walk_held scene s kind x every other b) b)
    placeless-walk (Default' l (more_of-Stmt left end_of-Stmt) r (more_of-Stmt right end_of-Stmt) at) b = rw (placeless-walk left b, placeless-walk right b) refl
    placeless-walk (For' word from to closed step shape (more_of-Stmt body end_of-Stmt) at) b = ap first (map-same _ _ (steps_of from to closed step) (λ n. placeless-walk body ((word.name, number n) ∷ b)))
    placeless-walk (Forall' word over shape (more_of-Stmt body end_of-Stmt) at) b = rw (placeless-values scene.types scene.sizes over) (ap first (map-same _ _ (values_over scene.types scene.sizes over) (λ v. placeless-walk body ((word.name, v) ∷ b))))

    placeless-walks : {m : _} (parts : Row_of-Stmt m) (b : Bindings) → walk_parts scene s kind x every (placeless_stmts parts) b ≡ walk_parts scene s kind x every parts b
    placeless-walks end_of-Stmt b = refl
    placeless-walks (more_of-Stmt part rest) b = rw (placeless-walk part b, placeless-walks rest b) refl

    placeless-held : (part : Held-Stmt-If-2) (b : Bindings) → walk_held scene s kind x every (placeless_branch part) b ≡ walk_held scene s kind x every part b
    placeless-held None' b = refl
    placeless-held (Some' shape (more_of-Stmt part end_of-Stmt)) b = placeless-walk part b

    placeless-walk_arms : {m : _} (arms : Row_of-Arm m) (on : Outcome) (other : Walk) (b : Bindings) → walk_arms scene s kind x every (placeless_arms arms) on other b ≡ walk_arms scene s kind x every arms on other b
    placeless-walk_arms end_of-Arm on other b = refl
    placeless-walk_arms (more_of-Arm labels body rest) on other b = rw (placeless-label on labels b, placeless-walk body b, placeless-walk_arms rest on other b) refl

module _ (instance : Path) where
  mutual
    unfolding placeless_stmt

    pub placeless-assignments : (act : Stmt) (around : Around) → assignments instance (placeless_stmt act) around ≡ assignments instance act around
    placeless-assignments (Assign which left value at) around = rw (path-parts left, placeless-fields (out-Path left).parts, indexes-placeless (out-Path left).parts, map-map (index_of around) placeless (indexes_of (out-Path left).parts), map-same (λ e. index_of around (placeless e)) (index_of around) (indexes_of (out-Path left).parts) (placeless-index around)) refl
    placeless-assignments (Block' shape parts) around = placeless-assignments_of parts around
    placeless-assignments (If' cond l (more_of-Stmt left end_of-Stmt) right at) around = rw (placeless-assignments left around, placeless-assignments_held right around) refl
    placeless-assignments (Switch' on shape arms other at) around = rw (placeless-assignments_arms arms around, placeless-assignments_held other around) refl
    placeless-assignments (Default' l (more_of-Stmt left end_of-Stmt) r (more_of-Stmt right end_of-Stmt) at) around = rw (placeless-assignments left around, placeless-assignments right around) refl
    placeless-assignments (For' word from to closed step shape (more_of-Stmt body end_of-Stmt) at) around = flat_map-same _ _ (λ n. placeless-assignments body ((word.name, loop n) ∷ around)) (steps_of from to closed step)
    placeless-assignments (Forall' word over shape (more_of-Stmt body end_of-Stmt) at) around = placeless-assignments body ((word.name, any) ∷ around)

    placeless-assignments_of : {m : _} (parts : Row_of-Stmt m) (around : Around) → assignments_of instance (placeless_stmts parts) around ≡ assignments_of instance parts around
    placeless-assignments_of end_of-Stmt around = refl
    placeless-assignments_of (more_of-Stmt part rest) around = rw (placeless-assignments part around, placeless-assignments_of rest around) refl

    placeless-assignments_held : (part : Held-Stmt-If-2) (around : Around) → assignments_held instance (placeless_branch part) around ≡ assignments_held instance part around
    placeless-assignments_held None' around = refl
    placeless-assignments_held (Some' shape (more_of-Stmt part end_of-Stmt)) around = placeless-assignments part around

    placeless-assignments_arms : {m : _} (arms : Row_of-Arm m) (around : Around) → assignments_arms instance (placeless_arms arms) around ≡ assignments_arms instance arms around
    placeless-assignments_arms end_of-Arm around = refl
    placeless-assignments_arms (more_of-Arm labels body rest) around = rw (placeless-assignments body around, placeless-assignments_arms rest around) refl

pub like-placeless : (act : Stmt) → IsLikeAct act (placeless_stmt act)
like-placeless act = record {
  walks = λ scene s kind x every b. sym (placeless-walk scene s kind x every act b);
  assigns = λ instance around. sym (placeless-assignments instance act around);
}
