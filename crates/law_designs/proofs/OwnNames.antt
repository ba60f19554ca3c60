-- Which names a module declares, and by which item.
use Rattle.std.proofs.Common.{◌≡◌, List, [], ◌∷◌, ◌++◌, flat_map, Some, Bool, true, false, cond, ◌||◌, ◌⊎◌, inl, inr, refl, sym, ap, ◌∙◌, subst}
use Rattle.std.specs.Str.{bytes_eq}
use Rattle.std.specs.List.{AllByRecursion, list_any}
use Rattle.std.proofs.lemmas.Option.{same_Some}
use Rattle.law_lists.proofs.Each.{each_append}
use Rattle.smv_core.specs.Values.{Name}
use Rattle.smv_core.specs.Types.{find_name}
use Rattle.smv_core.specs.declared.tree.Word.{Word}
use Rattle.smv_core.specs.declared.tree.TypeExpr.{TypeExpr, Boolean, Range, Enum, Named, Array', Struct', end_of-TypeExpr, more_of-TypeExpr, Row_of-Field, end_of-Field, more_of-Field}
use Rattle.smv_core.specs.declared.tree.Part.{Part, Field, At}
use Rattle.smv_core.specs.declared.tree.Path.{Path, out-Path}
use Rattle.smv_core.specs.declared.tree.Member.{One, Span as SpanOf}
use Rattle.smv_core.specs.declared.tree.Expr.{Expr, Number, Signal', Not', And', Or', Implies', Iff', Compare', Within', Sum', Modulo', Choose', All', Any', List', Each', Held-Expr-Each-2, None', Some', Row_of-Expr, end_of-Expr, more_of-Expr, Row_of-Part, end_of-Part, more_of-Part, Row_of-Member, end_of-Member, more_of-Member, Row_of-Signed, end_of-Signed, more_of-Signed, items-the_row-Part}
use Rattle.smv_core.specs.declared.tree.Stmt.{Stmt, Assign, Block', If', Switch', Default', For', Forall', Held-Stmt-If-2, Row_of-Stmt, end_of-Stmt, more_of-Stmt, Row_of-Arm, end_of-Arm, more_of-Arm}
use Rattle.smv_core.specs.declared.tree.Stmt as stmt
use Rattle.smv_core.specs.declared.tree.Item.{Item, Declare, Instance, Layer, Claim, Split, Using, Act, Row_of-Item, end_of-Item, more_of-Item}
use Rattle.smv_core.specs.declared.tree.Item as item
use Rattle.smv_core.specs.declared.tree.Pair.{Pair}
use Rattle.smv_mentions.specs.Mentions.{What, goal, Mention, declares, binds, follows, names_type, lists_constants, has_fields, instantiates, path_in, in_type, in_fields, in_expr, in_row, in_parts, in_sum, in_members, in_held, in_part, in_path, in_stmt, in_block, in_branch, in_arms, declared_as, in_item, in_items}
use Rattle.smv_mentions.specs.Scopes.{Own, own_names}
use Rattle.law_designs.specs.Written.{InnerIsWritten, InnersAreWritten}

pub own-append : (xs ys : List Mention) → own_names (xs ++ ys) ≡ own_names xs ++ own_names ys
own-append [] ys = refl
own-append (declares word what ∷ xs) ys = ap (λ l. (word.name, record { at = word.at; what = what }) ∷ l) (own-append xs ys)
own-append (binds o word ∷ xs) ys = own-append xs ys
own-append (follows o parts ∷ xs) ys = own-append xs ys
own-append (names_type word ∷ xs) ys = own-append xs ys
own-append (lists_constants words ∷ xs) ys = own-append xs ys
own-append (has_fields words ∷ xs) ys = own-append xs ys
own-append (instantiates word args ∷ xs) ys = own-append xs ys

-- ---- what declares nothing

abbrev pub IsQuiet : List Mention → Type 0
IsQuiet ms = own_names ms ≡ []

pub quiet-append : (xs ys : List Mention) → IsQuiet xs → IsQuiet ys → IsQuiet (xs ++ ys)
quiet-append xs ys h k = own-append xs ys ∙ rw (h, k) refl

pub quiet-flat_map : {X : Type 0} (f : X → List Mention) → ((x : X) → IsQuiet (f x)) → (xs : List X) → IsQuiet (flat_map f xs)
quiet-flat_map f h [] = refl
quiet-flat_map f h (x ∷ xs) = quiet-append (f x) (flat_map f xs) (h x) (quiet-flat_map f h xs)

quiet-path : (vars : List Word) (parts : List Part) (ms : List Mention) → IsQuiet ms → IsQuiet (path_in vars parts ∷ ms)
quiet-path vars [] ms h = h
quiet-path vars (At index ∷ parts) ms h = h
quiet-path vars (Field word ∷ parts) ms h = h

mutual
  unfolding in_type

  pub quiet-type : (of : TypeExpr) → IsQuiet (in_type of)
  quiet-type Boolean = refl
  quiet-type (Range span at) = refl
  quiet-type (Enum names at) = refl
  quiet-type (Named word at) = refl
  quiet-type (Array' i (more_of-TypeExpr index end_of-TypeExpr) o (more_of-TypeExpr of end_of-TypeExpr)) = quiet-append (in_type index) (in_type of) (quiet-type index) (quiet-type of)
  quiet-type (Struct' shape fields) = quiet-fields fields

  quiet-fields : {m : _} (fields : Row_of-Field m) → IsQuiet (in_fields fields)
  quiet-fields end_of-Field = refl
  quiet-fields (more_of-Field names of at rest) = quiet-append (in_type of) (in_fields rest) (quiet-type of) (quiet-fields rest)

mutual
  unfolding in_expr

  pub quiet-expr : (vars : List Word) (e : Expr) → IsQuiet (in_expr vars e)
  quiet-expr vars (Number value at) = refl
  quiet-expr vars (Signal' shape parts at) = quiet-path vars (items-the_row-Part _ parts) (in_parts vars parts) (quiet-parts vars parts)
  quiet-expr vars (Not' shape (more_of-Expr e end_of-Expr) at) = quiet-expr vars e
  quiet-expr vars (And' shape parts) = quiet-row vars parts
  quiet-expr vars (Or' shape parts) = quiet-row vars parts
  quiet-expr vars (Implies' shape parts) = quiet-row vars parts
  quiet-expr vars (Iff' l (more_of-Expr left end_of-Expr) r (more_of-Expr right end_of-Expr)) = quiet-append (in_expr vars left) (in_expr vars right) (quiet-expr vars left) (quiet-expr vars right)
  quiet-expr vars (Compare' op l (more_of-Expr left end_of-Expr) r (more_of-Expr right end_of-Expr)) = quiet-append (in_expr vars left) (in_expr vars right) (quiet-expr vars left) (quiet-expr vars right)
  quiet-expr vars (Within' l (more_of-Expr left end_of-Expr) r (more_of-Expr set end_of-Expr)) = quiet-append (in_expr vars left) (in_expr vars set) (quiet-expr vars left) (quiet-expr vars set)
  quiet-expr vars (Sum' f (more_of-Expr first end_of-Expr) shape more) = quiet-append (in_expr vars first) (in_sum vars more) (quiet-expr vars first) (quiet-sum vars more)
  quiet-expr vars (Modulo' shape (more_of-Expr e end_of-Expr) by at) = quiet-expr vars e
  quiet-expr vars (Choose' c (more_of-Expr cond end_of-Expr) l (more_of-Expr left end_of-Expr) r (more_of-Expr right end_of-Expr)) =
      quiet-append (in_expr vars cond ++ in_expr vars left) (in_expr vars right) (quiet-append (in_expr vars cond) (in_expr vars left) (quiet-expr vars cond) (quiet-expr vars left)) (quiet-expr vars right)
  quiet-expr vars (All' shape (more_of-Expr body end_of-Expr) var over at) = quiet-append (in_expr (vars ++ var ∷ []) body) _ (quiet-expr (vars ++ var ∷ []) body) (quiet-type over)
  quiet-expr vars (Any' shape (more_of-Expr body end_of-Expr) var over at) = quiet-append (in_expr (vars ++ var ∷ []) body) _ (quiet-expr (vars ++ var ∷ []) body) (quiet-type over)
  quiet-expr vars (List' shape members at) = quiet-members vars members
  quiet-expr vars (Each' var over cond at) = quiet-append (in_type over) (in_held (vars ++ var ∷ []) cond) (quiet-type over) (quiet-held (vars ++ var ∷ []) cond)

  quiet-row : {m : _} (vars : List Word) (row : Row_of-Expr m) → IsQuiet (in_row vars row)
  quiet-row vars end_of-Expr = refl
  quiet-row vars (more_of-Expr e rest) = quiet-append (in_expr vars e) (in_row vars rest) (quiet-expr vars e) (quiet-row vars rest)

  quiet-parts : {m : _} (vars : List Word) (row : Row_of-Part m) → IsQuiet (in_parts vars row)
  quiet-parts vars end_of-Part = refl
  quiet-parts vars (more_of-Part (Field word) rest) = quiet-parts vars rest
  quiet-parts vars (more_of-Part (At index) rest) = quiet-append (in_expr vars index) (in_parts vars rest) (quiet-expr vars index) (quiet-parts vars rest)

  quiet-sum : {m : _} (vars : List Word) (row : Row_of-Signed m) → IsQuiet (in_sum vars row)
  quiet-sum vars end_of-Signed = refl
  quiet-sum vars (more_of-Signed minus e rest) = quiet-append (in_expr vars e) (in_sum vars rest) (quiet-expr vars e) (quiet-sum vars rest)

  quiet-members : {m : _} (vars : List Word) (row : Row_of-Member m) → IsQuiet (in_members vars row)
  quiet-members vars end_of-Member = refl
  quiet-members vars (more_of-Member (One e) rest) = quiet-append (in_expr vars e) (in_members vars rest) (quiet-expr vars e) (quiet-members vars rest)
  quiet-members vars (more_of-Member (SpanOf span at) rest) = quiet-members vars rest

  quiet-held : (vars : List Word) (cond : Held-Expr-Each-2) → IsQuiet (in_held vars cond)
  quiet-held vars None' = refl
  quiet-held vars (Some' shape (more_of-Expr cond end_of-Expr)) = quiet-expr vars cond

quiet-part : (vars : List Word) (part : Part) → IsQuiet (in_part vars part)
quiet-part vars (Field word) = refl
quiet-part vars (At index) = quiet-expr vars index

quiet-in_path : (vars : List Word) (path : Path) → IsQuiet (in_path vars path)
unfolding in_path
quiet-in_path vars path = quiet-path vars (out-Path path).parts (flat_map (in_part vars) (out-Path path).parts) (quiet-flat_map (in_part vars) (quiet-part vars) (out-Path path).parts)

mutual
  unfolding in_stmt

  pub quiet-stmt : (vars : List Word) (act : Stmt) → IsQuiet (in_stmt vars act)
  quiet-stmt vars (Assign kind left value at) = quiet-append (in_path vars left) (in_expr vars value) (quiet-in_path vars left) (quiet-expr vars value)
  quiet-stmt vars (Block' shape parts) = quiet-block vars parts
  quiet-stmt vars (If' cond l (more_of-Stmt left end_of-Stmt) right at) =
      quiet-append (in_expr vars cond ++ in_stmt vars left) (in_branch vars right) (quiet-append (in_expr vars cond) (in_stmt vars left) (quiet-expr vars cond) (quiet-stmt vars left)) (quiet-branch vars right)
  quiet-stmt vars (Switch' on shape arms other at) =
      quiet-append (in_expr vars on ++ in_arms vars arms) (in_branch vars other) (quiet-append (in_expr vars on) (in_arms vars arms) (quiet-expr vars on) (quiet-arms vars arms)) (quiet-branch vars other)
  quiet-stmt vars (Default' l (more_of-Stmt left end_of-Stmt) r (more_of-Stmt right end_of-Stmt) at) = quiet-append (in_stmt vars left) (in_stmt vars right) (quiet-stmt vars left) (quiet-stmt vars right)
  quiet-stmt vars (For' var from to closed step shape (more_of-Stmt body end_of-Stmt) at) = quiet-stmt (vars ++ var ∷ []) body
  quiet-stmt vars (Forall' var over shape (more_of-Stmt body end_of-Stmt) at) = quiet-append (in_type over) (in_stmt (vars ++ var ∷ []) body) (quiet-type over) (quiet-stmt (vars ++ var ∷ []) body)

  quiet-block : {m : _} (vars : List Word) (row : Row_of-Stmt m) → IsQuiet (in_block vars row)
  quiet-block vars end_of-Stmt = refl
  quiet-block vars (more_of-Stmt part rest) = quiet-append (in_stmt vars part) (in_block vars rest) (quiet-stmt vars part) (quiet-block vars rest)

  quiet-branch : (vars : List Word) (held : Held-Stmt-If-2) → IsQuiet (in_branch vars held)
  quiet-branch vars stmt.None' = refl
  quiet-branch vars (stmt.Some' shape (more_of-Stmt part end_of-Stmt)) = quiet-stmt vars part

  quiet-arms : {m : _} (vars : List Word) (row : Row_of-Arm m) → IsQuiet (in_arms vars row)
  quiet-arms vars end_of-Arm = refl
  quiet-arms vars (more_of-Arm labels body rest) =
      quiet-append (flat_map (in_expr vars) labels ++ in_stmt vars body) (in_arms vars rest)
      (quiet-append (flat_map (in_expr vars) labels) (in_stmt vars body) (quiet-flat_map (in_expr vars) (quiet-expr vars) labels) (quiet-stmt vars body)) (quiet-arms vars rest)

-- ---- what declares goals alone

abbrev pub AreGoals : List Mention → Type 0
AreGoals ms = AllByRecursion (λ (name, own). own.what ≡ goal) (own_names ms)

goals-append : (xs ys : List Mention) → AreGoals xs → AreGoals ys → AreGoals (xs ++ ys)
goals-append xs ys h k = subst (AllByRecursion (λ (name, own). own.what ≡ goal)) (sym (own-append xs ys)) (each_append (λ (name, own). own.what ≡ goal) (own_names xs) (own_names ys) h k)

quiet-goals : (ms : List Mention) → IsQuiet ms → AreGoals ms
quiet-goals ms h = subst (AllByRecursion (λ (name, own). own.what ≡ goal)) (sym h) tt

mutual
  unfolding in_item

  pub inner-goals : (vars : List Word) (part : Item) → InnerIsWritten part → AreGoals (in_item vars part)
  inner-goals vars (Declare role words of at) written = absurd written
  inner-goals vars (Instance words name args at) written = absurd written
  inner-goals vars (Layer name body at) written = absurd written
  inner-goals vars (item.Forall' var over shape (more_of-Item body end_of-Item) at) written =
      goals-append (in_type over) (in_item (vars ++ var ∷ []) body) (quiet-goals (in_type over) (quiet-type over)) (inner-goals (vars ++ var ∷ []) body written.0)
  inner-goals vars (item.Block' shape items) written = inners-goals vars items written
  inner-goals vars (Claim name brackets body at) written = (refl, quiet-goals (in_expr vars body) (quiet-expr vars body))
  inner-goals vars (Split name brackets of pairs at) written = (refl, quiet-goals (flat_map (λ pair. in_expr vars pair.left) pairs) (quiet-flat_map (λ (pair : Pair). in_expr vars pair.left) (λ pair. quiet-expr vars pair.left) pairs))
  inner-goals vars (Using uses proves at) written = tt
  inner-goals vars (Act act) written = quiet-goals (in_stmt vars act) (quiet-stmt vars act)

  inners-goals : {m : _} (vars : List Word) (items : Row_of-Item m) → InnersAreWritten items → AreGoals (in_items vars items)
  inners-goals vars end_of-Item written = tt
  inners-goals vars (more_of-Item part rest) written = goals-append (in_item vars part) (in_items vars rest) (inner-goals vars part written.0) (inners-goals vars rest written.1)

-- ---- where a name is declared

pub declared-own : (what : What) (words : List Word) (ms : List Mention) → IsQuiet ms → own_names (declared_as what words ++ ms) ≡ own_names (declared_as what words)
declared-own what [] ms h = h
declared-own what (word ∷ words) ms h = ap (λ l. (word.name, record { at = word.at; what = what }) ∷ l) (declared-own what words ms h)

module _ (name : Name) where
  abbrev pub is_word : Word → Bool
  is_word word = bytes_eq word.name name

  pub found-split : (xs ys : List (Name × Own)) (own : Own) → find_name (xs ++ ys) name ≡ Some own → (find_name xs name ≡ Some own) ⊎ (find_name ys name ≡ Some own)
  found-split [] ys own h = inr h
  found-split ((other, x) ∷ xs) ys own h = by_test (bytes_eq other name) h (found-split xs ys own)
    where
      by_test : (b : Bool) → cond b (Some x) (find_name (xs ++ ys) name) ≡ Some own → (find_name (xs ++ ys) name ≡ Some own → (find_name xs name ≡ Some own) ⊎ (find_name ys name ≡ Some own)) →
          (cond b (Some x) (find_name xs name) ≡ Some own) ⊎ (find_name ys name ≡ Some own)
      by_test true e rest = inl e
      by_test false e rest = rest e

  -- among the words of a declaration, or behind them
  pub words-found : (what : What) (words : List Word) (rest : List (Name × Own)) (own : Own) → find_name (own_names (declared_as what words) ++ rest) name ≡ Some own →
      ((list_any is_word words ≡ true) × (own.what ≡ what)) ⊎ ((list_any is_word words ≡ false) × (find_name rest name ≡ Some own))
  words-found what [] rest own h = inr (refl, h)
  words-found what (word ∷ words) rest own h = by_test (bytes_eq word.name name) h (words-found what words rest own)
    where
      by_test : (b : Bool) → cond b (Some (record { at = word.at; what = what })) (find_name (own_names (declared_as what words) ++ rest) name) ≡ Some own →
          (find_name (own_names (declared_as what words) ++ rest) name ≡ Some own → ((list_any is_word words ≡ true) × (own.what ≡ what)) ⊎ ((list_any is_word words ≡ false) × (find_name rest name ≡ Some own))) →
          (((b || list_any is_word words) ≡ true) × (own.what ≡ what)) ⊎ (((b || list_any is_word words) ≡ false) × (find_name rest name ≡ Some own))
      by_test true e more = inl (refl, ap (λ (o : Own). o.what) (sym (same_Some {A = Own} (record { at = word.at; what = what }) own e)))
      by_test false e more = more e
