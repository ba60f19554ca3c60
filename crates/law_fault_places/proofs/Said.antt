-- What a text says about names stands at the places of its tree.
use Rattle.std.proofs.Common.{◌≤◌, ℕ, Bool, true, false, cond, List, [], ◌∷◌, ◌++◌, length, Option, Some, None, IfSome, arith}
use Rattle.std.specs.Str.{bytes_eq}
use Rattle.std.specs.List.{AllByRecursion, flat_map}
use Rattle.law_lists.proofs.Each.{each_flat_map, each_append}
use Rattle.smv_core.specs.Values.{Name}
use Rattle.smv_core.specs.declared.tree.Word.{Word}
use Rattle.smv_core.specs.declared.tree.Pair.{Pair}
use Rattle.smv_core.specs.declared.tree.TypeExpr.{TypeExpr, Boolean, Range, Enum, Named, Array', Struct', end_of-TypeExpr, more_of-TypeExpr, Row_of-Field, end_of-Field, more_of-Field}
use Rattle.smv_core.specs.declared.tree.Path.{Path, out-Path}
use Rattle.smv_core.specs.declared.tree.Part.{Part, Field, At}
use Rattle.smv_core.specs.declared.tree.Member.{One, Span as SpanOf}
use Rattle.smv_core.specs.declared.tree.Expr.{Expr, Number, Signal', Not', And', Or', Implies', Iff', Compare', Within', Sum', Modulo', Choose', All', Any', List', Each', Held-Expr-Each-2, None', Some', Row_of-Expr, end_of-Expr, more_of-Expr, Row_of-Part, end_of-Part, more_of-Part, Row_of-Member, end_of-Member, more_of-Member, Row_of-Signed, end_of-Signed, more_of-Signed, items-the_row-Part}
use Rattle.smv_core.specs.declared.tree.Stmt.{Stmt, Assign, Block', If', Switch', Default', For', Forall', Held-Stmt-If-2, Row_of-Stmt, end_of-Stmt, more_of-Stmt, Row_of-Arm, end_of-Arm, more_of-Arm}
use Rattle.smv_core.specs.declared.tree.Stmt as stmt
use Rattle.smv_core.specs.declared.tree.Item.{Item, Declare, Instance, Layer, Claim, Split, Using, Act, Row_of-Item, end_of-Item, more_of-Item}
use Rattle.smv_core.specs.declared.tree.Item as item
use Rattle.smv_mentions.specs.Mentions.{What, signal, instance, Mention, declares, binds, follows, names_type, lists_constants, has_fields, instantiates, first_place, bound_at, path_in, binder_in, fields_in, in_type, in_fields, in_expr, in_row, in_parts, in_sum, in_members, in_held, in_part, in_path, in_stmt, in_block, in_branch, in_arms, declared_as, in_item, in_items}
use Rattle.smv_mentions.specs.Scopes.{words_of}
use Rattle.law_designs.proofs.Faultless.{each-map}
use Rattle.law_fault_places.specs.TreePlaces.{WordIsWithin, WordsAreWithin, TypeIsWithin, FieldsAreWithin, ExprIsWithin, RowIsWithin, PartsAreWithin, TermsAreWithin, MembersAreWithin, ConditionIsWithin, ExprsAreWithin, PartIsWithin, PathIsWithin, StatementIsWithin, StatementsAreWithin, BranchIsWithin, ArmsAreWithin, PairIsWithin, ItemIsWithin, ItemsAreWithin}
use Rattle.law_fault_places.proofs.TreeForms.{row-parts}

module _ (n : ℕ) where
  -- what is said stands at such places
  abbrev pub MentionIsWithin : Mention → Type 0
  MentionIsWithin (declares word what) = WordIsWithin n word
  MentionIsWithin (binds bound var) = IfSome bound (λ at. at ≤ n) × WordIsWithin n var
  MentionIsWithin (follows bound parts) = IfSome bound (λ at. at ≤ n) × WordsAreWithin n (words_of parts)
  MentionIsWithin (names_type word) = WordIsWithin n word
  MentionIsWithin (lists_constants words) = WordsAreWithin n words
  MentionIsWithin (has_fields words) = WordsAreWithin n words
  MentionIsWithin (instantiates word args) = WordIsWithin n word

  abbrev pub AreSaidWithin : List Mention → Type 0
  AreSaidWithin said = AllByRecursion MentionIsWithin said

  both : (xs ys : List Mention) → AreSaidWithin xs → AreSaidWithin ys → AreSaidWithin (xs ++ ys)
  both xs ys h g = each_append MentionIsWithin xs ys h g

  -- ---- variables and paths

  first-within : (at : ℕ) (o : Option ℕ) → at ≤ n → IfSome o (λ at. at ≤ n) → first_place at o ≤ n
  first-within at None h g = h
  first-within at (Some other) h g = omega (arith, h, g)

  bound-within : (vars : List Word) (name : Name) → WordsAreWithin n vars → IfSome (bound_at vars name) (λ at. at ≤ n)
  bound-within [] name h = tt
  bound-within (var ∷ vars) name h = by (bytes_eq var.name name) (bound_at vars name) (bound-within vars name h.1)
    where
      by : (b : Bool) (o : Option ℕ) → IfSome o (λ at. at ≤ n) → IfSome (cond b (Some (first_place var.at o)) o) (λ at. at ≤ n)
      by true o g = first-within var.at o h.0 g
      by false o g = g

  words-within : (parts : List Part) → AllByRecursion (PartIsWithin n) parts → WordsAreWithin n (words_of parts)
  words-within [] h = tt
  words-within (Field word ∷ parts) h = (h.0, words-within parts h.1)
  words-within (At index ∷ parts) h = words-within parts h.1

  path-said : (vars : List Word) (parts : List Part) → WordsAreWithin n vars → AllByRecursion (PartIsWithin n) parts → MentionIsWithin (path_in vars parts)
  path-said vars [] v h = (tt, tt)
  path-said vars (At index ∷ parts) v h = (tt, words-within (At index ∷ parts) h)
  path-said vars (Field word ∷ parts) v h = (bound-within vars word.name v, words-within (Field word ∷ parts) h)

  binder-said : (vars : List Word) (var : Word) → WordsAreWithin n vars → WordIsWithin n var → MentionIsWithin (binder_in vars var)
  binder-said vars var v h = (bound-within vars var.name v, h)

  inside : (vars : List Word) (var : Word) → WordsAreWithin n vars → WordIsWithin n var → WordsAreWithin n (vars ++ var ∷ [])
  inside vars var v h = each_append (WordIsWithin n) vars (var ∷ []) v (h, tt)

  -- ---- types

  fields-words : {m : _} (row : Row_of-Field m) → FieldsAreWithin n row → WordsAreWithin n (fields_in row)
  fields-words end_of-Field h = tt
  fields-words (more_of-Field names of at rest) h = each_append (WordIsWithin n) names (fields_in rest) h.0 (fields-words rest h.3)

  mutual
    unfolding in_type in_fields

    pub type-said : (t : TypeExpr) → TypeIsWithin n t → AreSaidWithin (in_type t)
    type-said Boolean h = tt
    type-said (Range span at) h = tt
    type-said (Enum names at) h = (h.0, tt)
    type-said (Named word at) h = (h.0, tt)
    type-said (Array' i (more_of-TypeExpr index end_of-TypeExpr) o (more_of-TypeExpr of end_of-TypeExpr)) h = both (in_type index) (in_type of) (type-said index h.0) (type-said of h.1)
    type-said (Struct' shape fields) h = (fields-words fields h, fields-said fields h)

    fields-said : {m : _} (row : Row_of-Field m) → FieldsAreWithin n row → AreSaidWithin (in_fields row)
    fields-said end_of-Field h = tt
    fields-said (more_of-Field names of at rest) h = both (in_type of) (in_fields rest) (type-said of h.1) (fields-said rest h.3)

  -- ---- expressions

  mutual
    unfolding in_expr in_row in_parts in_sum in_members in_held

    expr-said : (vars : List Word) (e : Expr) → WordsAreWithin n vars → ExprIsWithin n e → AreSaidWithin (in_expr vars e)
    expr-said vars (Number value at) v h = tt
    expr-said vars (Signal' shape parts at) v h = (path-said vars (items-the_row-Part _ parts) v (row-parts n _ parts h.1), parts-said vars parts v h.1)
    expr-said vars (Not' shape (more_of-Expr e end_of-Expr) at) v h = expr-said vars e v h.1
    expr-said vars (And' shape parts) v h = row-said vars parts v h
    expr-said vars (Or' shape parts) v h = row-said vars parts v h
    expr-said vars (Implies' shape parts) v h = row-said vars parts v h
    expr-said vars (Iff' l (more_of-Expr left end_of-Expr) r (more_of-Expr right end_of-Expr)) v h = both (in_expr vars left) (in_expr vars right) (expr-said vars left v h.0) (expr-said vars right v h.1)
    expr-said vars (Compare' op l (more_of-Expr left end_of-Expr) r (more_of-Expr right end_of-Expr)) v h = both (in_expr vars left) (in_expr vars right) (expr-said vars left v h.0) (expr-said vars right v h.1)
    expr-said vars (Within' l (more_of-Expr left end_of-Expr) r (more_of-Expr set end_of-Expr)) v h = both (in_expr vars left) (in_expr vars set) (expr-said vars left v h.0) (expr-said vars set v h.1)
    expr-said vars (Sum' f (more_of-Expr first end_of-Expr) shape more) v h = both (in_expr vars first) (in_sum vars more) (expr-said vars first v h.0) (sum-said vars more v h.1)
    expr-said vars (Modulo' shape (more_of-Expr e end_of-Expr) by at) v h = expr-said vars e v h.1
    expr-said vars (Choose' c (more_of-Expr cond end_of-Expr) l (more_of-Expr left end_of-Expr) r (more_of-Expr right end_of-Expr)) v h =
        both ((in_expr vars cond) ++ (in_expr vars left)) (in_expr vars right) (both (in_expr vars cond) (in_expr vars left) (expr-said vars cond v h.0) (expr-said vars left v h.1)) (expr-said vars right v h.2)
    expr-said vars (All' shape (more_of-Expr body end_of-Expr) var over at) v h =
        both (in_expr (vars ++ var ∷ []) body) (binder_in vars var ∷ in_type over) (expr-said (vars ++ var ∷ []) body (inside vars var v h.1) h.3) (binder-said vars var v h.1, type-said over h.2)
    expr-said vars (Any' shape (more_of-Expr body end_of-Expr) var over at) v h =
        both (in_expr (vars ++ var ∷ []) body) (binder_in vars var ∷ in_type over) (expr-said (vars ++ var ∷ []) body (inside vars var v h.1) h.3) (binder-said vars var v h.1, type-said over h.2)
    expr-said vars (List' shape members at) v h = members-said vars members v h.1
    expr-said vars (Each' var over cond at) v h =
        (binder-said vars var v h.1, both (in_type over) (in_held (vars ++ var ∷ []) cond) (type-said over h.2) (held-said (vars ++ var ∷ []) cond (inside vars var v h.1) h.3))

    row-said : {m : _} (vars : List Word) (row : Row_of-Expr m) → WordsAreWithin n vars → RowIsWithin n row → AreSaidWithin (in_row vars row)
    row-said vars end_of-Expr v h = tt
    row-said vars (more_of-Expr e rest) v h = both (in_expr vars e) (in_row vars rest) (expr-said vars e v h.0) (row-said vars rest v h.1)

    parts-said : {m : _} (vars : List Word) (row : Row_of-Part m) → WordsAreWithin n vars → PartsAreWithin n row → AreSaidWithin (in_parts vars row)
    parts-said vars end_of-Part v h = tt
    parts-said vars (more_of-Part (Field word) rest) v h = parts-said vars rest v h.1
    parts-said vars (more_of-Part (At index) rest) v h = both (in_expr vars index) (in_parts vars rest) (expr-said vars index v h.0) (parts-said vars rest v h.1)

    sum-said : {m : _} (vars : List Word) (row : Row_of-Signed m) → WordsAreWithin n vars → TermsAreWithin n row → AreSaidWithin (in_sum vars row)
    sum-said vars end_of-Signed v h = tt
    sum-said vars (more_of-Signed minus e rest) v h = both (in_expr vars e) (in_sum vars rest) (expr-said vars e v h.0) (sum-said vars rest v h.1)

    members-said : {m : _} (vars : List Word) (row : Row_of-Member m) → WordsAreWithin n vars → MembersAreWithin n row → AreSaidWithin (in_members vars row)
    members-said vars end_of-Member v h = tt
    members-said vars (more_of-Member (One e) rest) v h = both (in_expr vars e) (in_members vars rest) (expr-said vars e v h.0) (members-said vars rest v h.1)
    members-said vars (more_of-Member (SpanOf span at) rest) v h = members-said vars rest v h.1

    held-said : (vars : List Word) (cond : Held-Expr-Each-2) → WordsAreWithin n vars → ConditionIsWithin n cond → AreSaidWithin (in_held vars cond)
    held-said vars None' v h = tt
    held-said vars (Some' shape (more_of-Expr cond end_of-Expr)) v h = expr-said vars cond v h

  part-said : (vars : List Word) → WordsAreWithin n vars → (part : Part) → PartIsWithin n part → AreSaidWithin (in_part vars part)
  part-said vars v (Field word) h = tt
  part-said vars v (At index) h = expr-said vars index v h

  in_path-said : (vars : List Word) (path : Path) → WordsAreWithin n vars → PathIsWithin n path → AreSaidWithin (in_path vars path)
  unfolding in_path
  in_path-said vars path v h = (path-said vars (out-Path path).parts v h.1, each_flat_map (PartIsWithin n) MentionIsWithin (in_part vars) (part-said vars v) (out-Path path).parts h.1)

  exprs-said : (vars : List Word) (es : List Expr) → WordsAreWithin n vars → ExprsAreWithin n es → AreSaidWithin (flat_map (in_expr vars) es)
  exprs-said vars es v h = each_flat_map (ExprIsWithin n) MentionIsWithin (in_expr vars) (λ e own. expr-said vars e v own) es h

  -- ---- statements

  mutual
    unfolding in_stmt in_block in_branch in_arms

    stmt-said : (vars : List Word) (act : Stmt) → WordsAreWithin n vars → StatementIsWithin n act → AreSaidWithin (in_stmt vars act)
    stmt-said vars (Assign kind left value at) v h = both (in_path vars left) (in_expr vars value) (in_path-said vars left v h.1) (expr-said vars value v h.2)
    stmt-said vars (Block' shape parts) v h = block-said vars parts v h
    stmt-said vars (If' cond l (more_of-Stmt left end_of-Stmt) right at) v h =
        both ((in_expr vars cond) ++ (in_stmt vars left)) (in_branch vars right) (both (in_expr vars cond) (in_stmt vars left) (expr-said vars cond v h.1) (stmt-said vars left v h.2)) (branch-said vars right v h.3)
    stmt-said vars (Switch' on shape arms other at) v h =
        both ((in_expr vars on) ++ (in_arms vars arms)) (in_branch vars other) (both (in_expr vars on) (in_arms vars arms) (expr-said vars on v h.1) (arms-said vars arms v h.2)) (branch-said vars other v h.3)
    stmt-said vars (Default' l (more_of-Stmt left end_of-Stmt) r (more_of-Stmt right end_of-Stmt) at) v h = both (in_stmt vars left) (in_stmt vars right) (stmt-said vars left v h.1) (stmt-said vars right v h.2)
    stmt-said vars (For' var from to closed step shape (more_of-Stmt body end_of-Stmt) at) v h = (binder-said vars var v h.1, stmt-said (vars ++ var ∷ []) body (inside vars var v h.1) h.2)
    stmt-said vars (Forall' var over shape (more_of-Stmt body end_of-Stmt) at) v h =
        (binder-said vars var v h.1, both (in_type over) (in_stmt (vars ++ var ∷ []) body) (type-said over h.2) (stmt-said (vars ++ var ∷ []) body (inside vars var v h.1) h.3))

    block-said : {m : _} (vars : List Word) (row : Row_of-Stmt m) → WordsAreWithin n vars → StatementsAreWithin n row → AreSaidWithin (in_block vars row)
    block-said vars end_of-Stmt v h = tt
    block-said vars (more_of-Stmt part rest) v h = both (in_stmt vars part) (in_block vars rest) (stmt-said vars part v h.0) (block-said vars rest v h.1)

    branch-said : (vars : List Word) (o : Held-Stmt-If-2) → WordsAreWithin n vars → BranchIsWithin n o → AreSaidWithin (in_branch vars o)
    branch-said vars stmt.None' v h = tt
    branch-said vars (stmt.Some' shape (more_of-Stmt part end_of-Stmt)) v h = stmt-said vars part v h

    arms-said : {m : _} (vars : List Word) (row : Row_of-Arm m) → WordsAreWithin n vars → ArmsAreWithin n row → AreSaidWithin (in_arms vars row)
    arms-said vars end_of-Arm v h = tt
    arms-said vars (more_of-Arm labels body rest) v h =
        both ((flat_map (in_expr vars) labels) ++ (in_stmt vars body)) (in_arms vars rest) (both (flat_map (in_expr vars) labels) (in_stmt vars body) (exprs-said vars labels v h.0) (stmt-said vars body v h.1)) (arms-said vars rest v h.2)

  -- ---- items

  declared-said : (what : What) (words : List Word) → WordsAreWithin n words → AreSaidWithin (declared_as what words)
  declared-said what words h = each-map (WordIsWithin n) MentionIsWithin (λ (word : Word). declares word what) (λ word own. own) words h

  mutual
    unfolding in_item in_items

    pub item-said : (vars : List Word) (x : Item) → WordsAreWithin n vars → ItemIsWithin n x → AreSaidWithin (in_item vars x)
    item-said vars (Declare role words of at) v h = both (declared_as (signal role of) words) (in_type of) (declared-said (signal role of) words h.0) (type-said of h.1)
    item-said vars (Instance words name args at) v h =
        both (declared_as (instance name) words) (instantiates name (length args) ∷ flat_map (in_expr vars) args) (declared-said (instance name) words h.0) (h.1, exprs-said vars args v h.2)
    item-said vars (Layer word body at) v h = each_flat_map (StatementIsWithin n) MentionIsWithin (in_stmt vars) (λ act own. stmt-said vars act v own) body h.1
    item-said vars (item.Forall' var over shape (more_of-Item body end_of-Item) at) v h =
        (binder-said vars var v h.1, both (in_type over) (in_item (vars ++ var ∷ []) body) (type-said over h.2) (item-said (vars ++ var ∷ []) body (inside vars var v h.1) h.3))
    item-said vars (item.Block' shape items) v h = items-said vars items v h
    item-said vars (Claim word brackets body at) v h = (h.0, expr-said vars body v h.2)
    item-said vars (Split word brackets of pairs at) v h = (h.0, each_flat_map (PairIsWithin n) MentionIsWithin (λ (pair : Pair). in_expr vars pair.left) (λ pair own. expr-said vars pair.left v own.0) pairs h.3)
    item-said vars (Using uses proves at) v h = tt
    item-said vars (Act act) v h = stmt-said vars act v h

    items-said : {m : _} (vars : List Word) (row : Row_of-Item m) → WordsAreWithin n vars → ItemsAreWithin n row → AreSaidWithin (in_items vars row)
    items-said vars end_of-Item v h = tt
    items-said vars (more_of-Item part rest) v h = both (in_item vars part) (in_items vars rest) (item-said vars part v h.0) (items-said vars rest v h.1)
