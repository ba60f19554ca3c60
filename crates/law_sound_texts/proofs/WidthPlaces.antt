-- No claim has a place of 65,536 or more: as many assignments, connections and claims are no more than statements are counted.
use Rattle.std.proofs.Common.{◌≡◌, ◌≤◌, ◌+◌, ◌*◌, ℕ, zero, suc, List, [], ◌∷◌, ◌++◌, map, zip, length, Option, Some, None, refl, ap, ◌∙◌, arith, length-append}
use Rattle.std.specs.List.{AllByRecursion, flat_map, sum}
use Rattle.std.proofs.Math.Nat.{suc-mul, mul-le-mul_left}
use Rattle.smv_core.specs.Values.{Name, Path}
use Rattle.smv_core.specs.Types.{Types, types_from}
use Rattle.smv_core.specs.Walk.{steps_of}
use Rattle.smv_core.specs.Assignments.{Around, loop, any}
use Rattle.smv_core.specs.FlatOrder.{Body, modules, main, role_of, body_of}
use Rattle.smv_core.specs.declared.tree.Word.{Word}
use Rattle.smv_core.specs.declared.tree.Role.{Role}
use Rattle.smv_core.specs.declared.tree.Role.TheVariants.{Plain, Abstract, Input, Output}
use Rattle.smv_core.specs.declared.tree.TypeExpr.{TypeExpr}
use Rattle.smv_core.specs.declared.tree.Expr.{Expr, Signal'}
use Rattle.smv_core.specs.declared.tree.Stmt.{Stmt, Assign, Block', If', Switch', Default', For', Forall', Held-Stmt-If-2, None', Some', Row_of-Stmt, end_of-Stmt, more_of-Stmt, Row_of-Arm, end_of-Arm, more_of-Arm}
use Rattle.smv_core.specs.declared.tree.Item.{Item, Declare, Instance, Layer, Claim, Split, Using, Act, Row_of-Item, end_of-Item, more_of-Item}
use Rattle.smv_core.specs.declared.tree.Item as item
use Rattle.smv_core.specs.declared.tree.Text.{Text}
use Rattle.smv_core.specs.declared.flat.Simple.{Simple}
use Rattle.smv_core.specs.declared.flat.FlatExpr.{FlatExpr, Within, List as ListOf}
use Rattle.smv_core.specs.declared.flat.FlatMember.{One}
use Rattle.smv_core.specs.declared.flat.FlatStmt as act
use Rattle.smv_core.specs.declared.flat.FlatItem.{FlatItem}
use Rattle.smv_core.specs.declared.flat.FlatItem.TheVariants as flat
use Rattle.smv_core.specs.declared.flat.FlatStmt.{FlatStmt, Row_of-FlatStmt, end_of-FlatStmt, more_of-FlatStmt, items-the_row-FlatStmt, items_hidden-the_row-FlatStmt-1}
use Rattle.smv_mentions.specs.Sizes.{Sized, sized_from, statements, statements_in_row, statements_in_branch, statements_in_arms, statements_of_item, statements_of_items, statements_in}
use Rattle.smv_mentions.proofs.Computing.{computing}
use Rattle.law_designs.specs.Numbers.{Scope, bound_in, flat_over}
use Rattle.law_designs.specs.Statements.{flat_expr, flat_stmt, flat_parts, flat_branch, flat_arms, first_label}
use Rattle.law_designs.specs.Entries.{claim, split, using, Entry, layer, statement, goal, inside_binder, given_to, connection, connections, instance_entries, item_entries, items_entries, entries_in, entries}
use Rattle.law_designs.specs.Flattening.{layers_of, flat_assignments, flat_assignments_in, scope_in, with_places, flat_entry, flatten}
use Rattle.law_designs.proofs.FlatLists.{boxes}
use Rattle.law_sound_texts.specs.NumbersFit.{PlaceFits}
use Rattle.law_sound_texts.proofs.FewEntries.{sum-cons}
use mathlib.Core.Former.{Count}

-- ---- lengths and sums

sum-joined : {X : Type 0} (f : X → ℕ) (xs ys : List X) → sum (map f (xs ++ ys)) ≡ sum (map f xs) + sum (map f ys)
sum-joined f [] ys = omega arith
sum-joined f (x ∷ xs) ys =
    let a = sum-joined f xs ys in
    let b = sum-cons f x (xs ++ ys) in
    let c = sum-cons f x xs in
    omega (arith, a, b, c)

flat-sum : {X Y : Type 0} (v : Y → ℕ) (f : X → List Y) (g : X → ℕ) → ((x : X) → sum (map v (f x)) ≤ g x) → (xs : List X) → sum (map v (flat_map f xs)) ≤ sum (map g xs)
flat-sum v f g h [] = omega arith
flat-sum v f g h (x ∷ xs) =
    let a = h x in
    let b = flat-sum v f g h xs in
    let c = sum-joined v (f x) (flat_map f xs) in
    let d = sum-cons g x xs in
    omega (arith, a, b, c, d)

flat-times : {X Y : Type 0} (v : Y → ℕ) (f : X → List Y) (n : ℕ) → ((x : X) → sum (map v (f x)) ≤ n) → (xs : List X) → sum (map v (flat_map f xs)) ≤ length xs * n
flat-times v f n h [] = omega arith
flat-times v f n h (x ∷ xs) =
    let a = h x in
    let b = flat-times v f n h xs in
    let c = sum-joined v (f x) (flat_map f xs) in
    let d = suc-mul (length xs) n in
    omega (arith, a, b, c, d)

-- ---- assignments of a statement

abbrev mutual
  -- how many assignments stand in a statement, in the body of a `for` once for each of its turns
  assigned : Stmt → ℕ
  assigned (Assign kind left value at) = 1
  assigned (Block' shape parts) = assigned_row parts
  assigned (If' cond l (more_of-Stmt left end_of-Stmt) right at) = assigned left + assigned_branch right
  assigned (Switch' on shape arms other at) = assigned_arms arms + assigned_branch other
  assigned (Default' l (more_of-Stmt left end_of-Stmt) r (more_of-Stmt right end_of-Stmt) at) = assigned left + assigned right
  assigned (For' var from to closed step shape (more_of-Stmt body end_of-Stmt) at) = length (steps_of from to closed step) * assigned body
  assigned (Forall' var over shape (more_of-Stmt body end_of-Stmt) at) = assigned body

  assigned_row : {m : _} → Row_of-Stmt m → ℕ
  assigned_row end_of-Stmt = 0
  assigned_row (more_of-Stmt part rest) = assigned part + assigned_row rest

  assigned_branch : Held-Stmt-If-2 → ℕ
  assigned_branch None' = 0
  assigned_branch (Some' shape (more_of-Stmt part end_of-Stmt)) = assigned part

  assigned_arms : {m : _} → Row_of-Arm m → ℕ
  assigned_arms end_of-Arm = 0
  assigned_arms (more_of-Arm labels body rest) = assigned body + assigned_arms rest

mutual
  assigned-few : (act : Stmt) → assigned act ≤ statements act
  assigned-few (Assign kind left value at) = omega arith
  assigned-few (Block' shape parts) = let a = row-few parts in omega (arith, a)
  assigned-few (If' cond l (more_of-Stmt left end_of-Stmt) right at) = let a = assigned-few left in let b = branch-few right in omega (arith, a, b)
  assigned-few (Switch' on shape arms other at) = let a = arms-few arms in let b = branch-few other in omega (arith, a, b)
  assigned-few (Default' l (more_of-Stmt left end_of-Stmt) r (more_of-Stmt right end_of-Stmt) at) = let a = assigned-few left in let b = assigned-few right in omega (arith, a, b)
  assigned-few (For' var from to closed step shape (more_of-Stmt body end_of-Stmt) at) = let a = mul-le-mul_left (length (steps_of from to closed step)) (assigned-few body) in omega (arith, a)
  assigned-few (Forall' var over shape (more_of-Stmt body end_of-Stmt) at) = let a = assigned-few body in omega (arith, a)

  row-few : {m : _} (row : Row_of-Stmt m) → assigned_row row ≤ statements_in_row row
  row-few end_of-Stmt = omega arith
  row-few (more_of-Stmt part rest) = let a = assigned-few part in let b = row-few rest in omega (arith, a, b)

  branch-few : (o : Held-Stmt-If-2) → assigned_branch o ≤ statements_in_branch o
  branch-few None' = omega arith
  branch-few (Some' shape (more_of-Stmt part end_of-Stmt)) = assigned-few part

  arms-few : {m : _} (row : Row_of-Arm m) → assigned_arms row ≤ statements_in_arms row
  arms-few end_of-Arm = omega arith
  arms-few (more_of-Arm labels body rest) = let a = assigned-few body in let b = arms-few rest in omega (arith, a, b)

-- ---- the same where it is flattened

abbrev count : FlatStmt → ℕ
count s = length (flat_assignments s)

count-row : (k : _) (row : Row_of-FlatStmt k) → length (flat_assignments_in row) ≡ sum (map count (items-the_row-FlatStmt k row))
count-row k end_of-FlatStmt = refl
count-row k (more_of-FlatStmt part rest) =
    let a = count-row _ rest in
    let b = length-append (flat_assignments part) (flat_assignments_in rest) in
    let c = sum-cons count part (items-the_row-FlatStmt _ rest) in
    omega (arith, a, b, c)

abbrev rows_of : FlatStmt → (k : Count) × Row_of-FlatStmt k
rows_of (act.Block' shape row) = (_, row)
rows_of _ = (_, end_of-FlatStmt)

count-Block : (acts : List FlatStmt) → count (act.Block acts) ≡ sum (map count acts)
count-Block acts =
    let row : (k : Count) × Row_of-FlatStmt k = rows_of (act.Block acts) in
    count-row row.0 row.1 ∙ ap (λ l. sum (map count l)) (items_hidden-the_row-FlatStmt-1 acts)

count-If : (c : FlatExpr) (l r : FlatStmt) → count (act.If c l r) ≡ count l + count r
unfolding boxes
count-If c l r = length-append (flat_assignments l) (flat_assignments r)

count-Default : (l r : FlatStmt) → count (act.Default l r) ≡ count l + count r
unfolding boxes
count-Default l r = length-append (flat_assignments l) (flat_assignments r)

count-Forall : (var : ℕ) (over : Simple) (body : FlatStmt) → count (act.Forall var over body) ≡ count body
unfolding boxes
count-Forall var over body = refl

turns-few : (f : ℕ → FlatStmt) (n : ℕ) → ((k : ℕ) → count (f k) ≤ n) → (ks : List ℕ) → sum (map count (map f ks)) ≤ length ks * n
turns-few f n h [] = omega arith
turns-few f n h (k ∷ ks) =
    let a = h k in
    let b = turns-few f n h ks in
    let c = sum-cons count (f k) (map f ks) in
    let d = suc-mul (length ks) n in
    omega (arith, a, b, c, d)

module _ (scope : Scope) where
  mutual
    flat-few : (vars : Around) (s : Stmt) → count (flat_stmt scope vars s) ≤ assigned s
    flat-few vars (Assign kind left value at) = omega arith
    flat-few vars (Block' shape parts) = let a = count-Block (flat_parts scope vars parts) in let b = parts-few vars parts in omega (arith, a, b)
    flat-few vars (If' cond l (more_of-Stmt left end_of-Stmt) right at) =
        let a = count-If (flat_expr scope vars cond) (flat_stmt scope vars left) (flat_branch scope vars right) in
        let b = flat-few vars left in
        let c = flat-branch vars right in
        omega (arith, a, b, c)
    flat-few vars (Switch' on shape arms other at) = flat-arms vars arms (flat_expr scope vars on) (flat_branch scope vars other) (assigned_branch other) (flat-branch vars other)
    flat-few vars (Default' l (more_of-Stmt left end_of-Stmt) r (more_of-Stmt right end_of-Stmt) at) =
        let a = count-Default (flat_stmt scope vars left) (flat_stmt scope vars right) in
        let b = flat-few vars left in
        let c = flat-few vars right in
        omega (arith, a, b, c)
    flat-few vars (For' var from to closed step shape (more_of-Stmt body end_of-Stmt) at) =
        let f : ℕ → FlatStmt = λ n. flat_stmt scope ((var.name, loop n) ∷ vars) body in
        let a = count-Block (map f (steps_of from to closed step)) in
        let b = turns-few f (assigned body) (λ n. flat-few ((var.name, loop n) ∷ vars) body) (steps_of from to closed step) in
        omega (arith, a, b)
    flat-few vars (Forall' var over shape (more_of-Stmt body end_of-Stmt) at) =
        let a = count-Forall (bound_in vars) (flat_over scope over) (flat_stmt scope ((var.name, any) ∷ vars) body) in
        let b = flat-few ((var.name, any) ∷ vars) body in
        omega (arith, a, b)

    parts-few : {m : _} (vars : Around) (row : Row_of-Stmt m) → sum (map count (flat_parts scope vars row)) ≤ assigned_row row
    parts-few vars end_of-Stmt = omega arith
    parts-few vars (more_of-Stmt part rest) =
        let a = flat-few vars part in
        let b = parts-few vars rest in
        let c = sum-cons count (flat_stmt scope vars part) (flat_parts scope vars rest) in
        omega (arith, a, b, c)

    flat-branch : (vars : Around) (o : Held-Stmt-If-2) → count (flat_branch scope vars o) ≤ assigned_branch o
    flat-branch vars None' = let a = count-Block [] in omega (arith, a)
    flat-branch vars (Some' shape (more_of-Stmt part end_of-Stmt)) = flat-few vars part

    flat-arms : {m : _} (vars : Around) (row : Row_of-Arm m) (on : FlatExpr) (other : FlatStmt) (n : ℕ) → count other ≤ n → count (flat_arms scope vars row on other) ≤ assigned_arms row + n
    flat-arms vars end_of-Arm on other n h = omega (arith, h)
    flat-arms vars (more_of-Arm labels body rest) on other n h =
        let a = count-If (Within on (ListOf (map (λ label. One (flat_expr scope vars label)) labels) (first_label labels))) (flat_stmt scope vars body) (flat_arms scope vars rest on other) in
        let b = flat-few vars body in
        let c = flat-arms vars rest on other n h in
        omega (arith, a, b, c)

-- ---- entries

-- how many assignments and claims an entry has at most
abbrev load : Entry → ℕ
load (layer name) = 0
load (statement x) = assigned x.act
load (goal instance binders g) = 1

abbrev loads : List Entry → ℕ
loads es = sum (map load es)

load-inside : (word : Word) (over : TypeExpr) (e : Entry) → load (inside_binder word over e) ≡ load e
unfolding computing
load-inside word over (layer name) = refl
load-inside word over (statement x) = refl
load-inside word over (goal instance binders g) = refl

loads-inside : (word : Word) (over : TypeExpr) (es : List Entry) → loads (map (inside_binder word over) es) ≡ loads es
loads-inside word over [] = refl
loads-inside word over (e ∷ es) =
    let a = load-inside word over e in
    let b = loads-inside word over es in
    let c = sum-cons load (inside_binder word over e) (map (inside_binder word over) es) in
    let d = sum-cons load e es in
    omega (arith, a, b, c, d)

said-few : (number : Option Name) (here : Path) (acts : List Stmt) → loads (map (λ act. statement (record { layer = number; instance = here; act = act })) acts) ≤ sum (map statements acts)
said-few number here [] = omega arith
said-few number here (s ∷ acts) =
    let a = assigned-few s in
    let b = said-few number here acts in
    let c = sum-cons load (statement (record { layer = number; instance = here; act = s })) (map (λ act. statement (record { layer = number; instance = here; act = act })) acts) in
    let d = sum-cons statements s acts in
    omega (arith, a, b, c, d)

given-one : (n a : Name) (e : Expr) → sum (map assigned (given_to n a e)) ≤ 1
given-one n a (Signal' shape parts at) = omega arith
given-one n a _ = omega arith

connection-one : (role : Role) (n a : Name) (e : Expr) → sum (map assigned (connection role n a e)) ≤ 1
connection-one Input n a e = omega arith
connection-one Output n a e = given-one n a e
connection-one Plain n a e = omega arith
connection-one Abstract n a e = omega arith

zipped-few : (items : List Item) (n : Name) (words : List Word) (args : List Expr) → sum (map assigned (flat_map (λ (p : Word × Expr). connection (role_of items p.0.name) n p.0.name p.1) (zip words args))) ≤ length words
zipped-few items n [] args = omega arith
zipped-few items n (word ∷ words) [] = omega arith
zipped-few items n (word ∷ words) (e ∷ args) =
    let a = connection-one (role_of items word.name) n word.name e in
    let b = zipped-few items n words args in
    let c = sum-joined assigned (connection (role_of items word.name) n word.name e) (flat_map (λ (p : Word × Expr). connection (role_of items p.0.name) n p.0.name p.1) (zip words args)) in
    omega (arith, a, b, c)

said-same : (here : Path) (acts : List Stmt) → loads (map (λ act. statement (record { layer = None; instance = here; act = act })) acts) ≡ sum (map assigned acts)
said-same here [] = refl
said-same here (s ∷ acts) =
    let a = said-same here acts in
    let b = sum-cons load (statement (record { layer = None; instance = here; act = s })) (map (λ act. statement (record { layer = None; instance = here; act = act })) acts) in
    let c = sum-cons assigned s acts in
    omega (arith, a, b, c)

module _ (types : Types) (known : List (Name × Sized)) (bodies : List (Name × Body)) where
  module _ (inside : Path → Name → List Entry) (counts : Name → ℕ) (few : (here : Path) (name : Name) → loads (inside here name) ≤ counts name) (here : Path) where
    instance-few : (name : Name) (args : List Expr) (n : Name) → loads (instance_entries types bodies inside here name args n) ≤ length (body_of types bodies name).formals + counts name
    instance-few name args n =
        let acts = connections (body_of types bodies name) n args in
        let a = zipped-few (body_of types bodies name).items n (body_of types bodies name).formals args in
        let b = few (here ++ n ∷ []) name in
        let c = said-same here acts in
        let d = sum-joined load (map (λ act. statement (record { layer = None; instance = here; act = act })) acts) (inside (here ++ n ∷ []) name) in
        omega (arith, a, b, c, d)

    mutual
      item-few : (x : Item) → loads (item_entries types bodies inside here x) ≤ statements_of_item known bodies counts x
      item-few (Declare role words of at) = omega arith
      item-few (Instance words name args at) =
          flat-times load (λ (word : Word). instance_entries types bodies inside here name.name args word.name) (length (body_of types bodies name.name).formals + counts name.name) (λ word. instance-few name.name args word.name) words
      item-few (Layer name body at) =
          let a = said-few (Some name.name) here body in
          let b = sum-cons load (layer name.name) (map (λ act. statement (record { layer = Some name.name; instance = here; act = act })) body) in
          omega (arith, a, b)
      item-few (item.Forall' var over shape (more_of-Item body end_of-Item) at) =
          let a = item-few body in
          let b = loads-inside var over (item_entries types bodies inside here body) in
          omega (arith, a, b)
      item-few (item.Block' shape items) = let a = items-few items in omega (arith, a)
      item-few (Claim name vars body at) = omega arith
      item-few (Split name vars of pairs at) = omega arith
      item-few (Using uses proves at) = omega arith
      item-few (Act s) = let a = assigned-few s in omega (arith, a)

      items-few : {m : _} (row : Row_of-Item m) → loads (items_entries types bodies inside here row) ≤ statements_of_items known bodies counts row
      items-few end_of-Item = omega arith
      items-few (more_of-Item x rest) =
          let a = item-few x in
          let b = items-few rest in
          let c = sum-joined load (item_entries types bodies inside here x) (items_entries types bodies inside here rest) in
          omega (arith, a, b, c)

  entries-few : (n : ℕ) (here : Path) (name : Name) → loads (entries_in types bodies n here name) ≤ statements_in known bodies n name
  entries-few zero here name = omega arith
  entries-few (suc n) here name =
      flat-sum load (item_entries types bodies (entries_in types bodies n) here) (statements_of_item known bodies (statements_in known bodies n)) (item-few (entries_in types bodies n) (statements_in known bodies n) (entries-few n) here)
      (body_of types bodies name).items

-- ---- items of the flattened text

abbrev weight : FlatItem → ℕ
weight (flat.Act number s) = count s
weight (flat.Claim c) = 1
weight (flat.Split s) = 0
weight (flat.Using u) = 0

entry-few : (text : Text) (layers : List Name) (e : Entry) → sum (map weight (flat_entry text layers e)) ≤ load e
entry-few text layers (layer name) = omega arith
entry-few text layers (statement x) = let a = flat-few (scope_in text x.instance) [] x.act in omega (arith, a)
entry-few text layers (goal instance binders (claim word vars body at)) = omega arith
entry-few text layers (goal instance binders (split word vars of pairs at)) = omega arith
entry-few text layers (goal instance binders (using uses proves at)) = omega arith

places-fit : (k : ℕ) (items : List FlatItem) → k + sum (map weight items) ≤ 65536 → AllByRecursion PlaceFits (with_places k items)
places-fit k [] h = tt
places-fit k (flat.Act number s ∷ items) h = let a = sum-cons weight (flat.Act number s) items in (tt, places-fit (k + length (flat_assignments s)) items (omega (arith, a, h)))
places-fit k (flat.Claim c ∷ items) h = let a = sum-cons weight (flat.Claim c) items in (omega (arith, a, h), places-fit (k + 1) items (omega (arith, a, h)))
places-fit k (flat.Split s ∷ items) h = let a = sum-cons weight (flat.Split s) items in (tt, places-fit k items (omega (arith, a, h)))
places-fit k (flat.Using u ∷ items) h = let a = sum-cons weight (flat.Using u) items in (tt, places-fit k items (omega (arith, a, h)))

pub text-places : (text : Text) → statements_in (sized_from [] text.tops) (modules text.tops) (length (modules text.tops)) main ≤ 65536 → AllByRecursion PlaceFits (flatten text).items
text-places text le =
    let layers = layers_of (entries text) in
    let a = flat-sum weight (flat_entry text layers) load (entry-few text layers) (entries text) in
    let b = entries-few (types_from [] text.tops) (sized_from [] text.tops) (modules text.tops) (length (modules text.tops)) [] main in
    places-fit 0 (flat_map (flat_entry text layers) (entries text)) (omega (arith, a, b, le))
