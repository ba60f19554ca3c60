-- Each enumeration of a text has a constant.
use Rattle.std.proofs.Common.{◌≡◌, ◌<◌, List, [], ◌∷◌, ◌++◌, flat_map, length, Bool, true, not, nat_lt, refl, sym, subst, arith}
use Rattle.std.specs.List.{AllByRecursion, list_all}
use Rattle.std.proofs.lemmas.Bool.{lt-ltb}
use Rattle.std.proofs.lemmas.Grind.{flat_map-append}
use Rattle.law_lists.proofs.Each.{each_filter, each_append}
use Rattle.smv_core.specs.Values.{Name}
use Rattle.smv_core.specs.Types.{names_of}
use Rattle.smv_core.specs.Outcome.{same_path}
use Rattle.smv_core.specs.Walk.{indexes_of}
use Rattle.smv_core.specs.declared.tree.Word.{Word}
use Rattle.smv_core.specs.declared.tree.Text.{Text}
use Rattle.smv_core.specs.declared.tree.Pair.{Pair}
use Rattle.smv_core.specs.declared.tree.Top.{Top}
use Rattle.smv_core.specs.declared.tree.Top.TheVariants.{SetType, Alias, Module}
use Rattle.smv_core.specs.declared.tree.TypeExpr.{TypeExpr, Boolean, Range, Enum, Named, Array', Struct', end_of-TypeExpr, more_of-TypeExpr, Row_of-Field, end_of-Field, more_of-Field}
use Rattle.smv_core.specs.declared.tree.Part.{Part, Field, At}
use Rattle.smv_core.specs.declared.tree.Path.{Path, out-Path}
use Rattle.smv_core.specs.declared.tree.Member.{One, Span as SpanOf}
use Rattle.smv_core.specs.declared.tree.Expr.{Expr, Number, Signal', Not', And', Or', Implies', Iff', Compare', Within', Sum', Modulo', Choose', All', Any', List', Each', Held-Expr-Each-2, None', Some', Row_of-Expr, end_of-Expr, more_of-Expr, Row_of-Part, end_of-Part, more_of-Part, Row_of-Member, end_of-Member, more_of-Member, Row_of-Signed, end_of-Signed, more_of-Signed, items-the_row-Part}
use Rattle.smv_core.specs.declared.tree.Stmt.{Stmt, Assign, Block', If', Switch', Default', For', Forall', Held-Stmt-If-2, Row_of-Stmt, end_of-Stmt, more_of-Stmt, Row_of-Arm, end_of-Arm, more_of-Arm}
use Rattle.smv_core.specs.declared.tree.Stmt as stmt
use Rattle.smv_core.specs.declared.tree.Item.{Item, Declare, Instance, Layer, Claim, Split, Using, Act, Row_of-Item, end_of-Item, more_of-Item}
use Rattle.smv_core.specs.declared.tree.Item as item
use Rattle.smv_mentions.specs.Mentions.{What, Mention, instantiates, path_in, in_type, in_fields, in_expr, in_row, in_parts, in_sum, in_members, in_held, in_part, in_path, in_stmt, in_block, in_branch, in_arms, declared_as, in_item, in_items}
use Rattle.smv_mentions.specs.Mentions as mentions
use Rattle.smv_mentions.specs.Scopes.{Known, pieces, pieces_from, known_after}
use Rattle.law_designs.specs.Flattening.{different, enum_of, enums_of}
use Rattle.law_designs.specs.Agreement.{IsIndexType}
use Rattle.law_designs.specs.Written.{HasOne, TypeIsWritten, FieldsAreWritten, IsWritten, AreWritten, PartsAreWritten, IndexesAreWritten, TermsAreWritten, MembersAreWritten, ConditionIsWritten, StatementIsWritten, StatementsAreWritten, BranchIsWritten, ArmsAreWritten, InnerIsWritten, InnersAreWritten, ItemIsWritten, TopIsWritten}

-- each enumeration that is said has a constant
abbrev AreFull : List Mention → Type 0
AreFull ms = AllByRecursion HasOne (flat_map enum_of ms)

full-append : (xs ys : List Mention) → AreFull xs → AreFull ys → AreFull (xs ++ ys)
full-append xs ys h k = subst (AllByRecursion HasOne) (sym (flat_map-append enum_of xs ys)) (each_append HasOne (flat_map enum_of xs) (flat_map enum_of ys) h k)

full-each : {X : Type 0} (P : X → Type 0) (f : X → List Mention) → ((x : X) → P x → AreFull (f x)) → (xs : List X) → AllByRecursion P xs → AreFull (flat_map f xs)
full-each P f h [] k = tt
full-each P f h (x ∷ xs) k = full-append (f x) (flat_map f xs) (h x k.0) (full-each P f h xs k.1)

full-path : (vars : List Word) (parts : List Part) (ms : List Mention) → AreFull ms → AreFull (path_in vars parts ∷ ms)
full-path vars [] ms h = h
full-path vars (At index ∷ parts) ms h = h
full-path vars (Field word ∷ parts) ms h = h

pub names-one : (words : List Word) → HasOne words → HasOne (names_of words)
names-one [] h = h
names-one (word ∷ words) h = tt

full-index : (over : TypeExpr) → IsIndexType over → AreFull (in_type over)
unfolding in_type
full-index Boolean i = tt
full-index (Range span at) i = tt
full-index (Named word at) i = tt
full-index (Enum names at) i = absurd i
full-index (Array' i' index o of) i = absurd i
full-index (Struct' shape fields) i = absurd i

mutual
  unfolding in_type

  full-type : (of : TypeExpr) → TypeIsWritten of → AreFull (in_type of)
  full-type Boolean h = tt
  full-type (Range span at) h = tt
  full-type (Enum names at) h = (names-one names h, tt)
  full-type (Named word at) h = tt
  full-type (Array' i (more_of-TypeExpr index end_of-TypeExpr) o (more_of-TypeExpr of end_of-TypeExpr)) h = full-append (in_type index) (in_type of) (full-index index h.0) (full-type of h.1)
  full-type (Struct' shape fields) h = full-fields fields h

  full-fields : {m : _} (fields : Row_of-Field m) → FieldsAreWritten fields → AreFull (in_fields fields)
  full-fields end_of-Field h = tt
  full-fields (more_of-Field names of at rest) h = full-append (in_type of) (in_fields rest) (full-type of h.0) (full-fields rest h.1)

mutual
  unfolding in_expr

  full-expr : (vars : List Word) (e : Expr) → IsWritten e → AreFull (in_expr vars e)
  full-expr vars (Number value at) h = tt
  full-expr vars (Signal' shape parts at) h = full-path vars (items-the_row-Part _ parts) (in_parts vars parts) (full-parts vars parts h)
  full-expr vars (Not' shape (more_of-Expr e end_of-Expr) at) h = full-expr vars e h
  full-expr vars (And' shape parts) h = full-row vars parts h
  full-expr vars (Or' shape parts) h = full-row vars parts h
  full-expr vars (Implies' shape parts) h = full-row vars parts h
  full-expr vars (Iff' l (more_of-Expr left end_of-Expr) r (more_of-Expr right end_of-Expr)) h = full-append (in_expr vars left) (in_expr vars right) (full-expr vars left h.0) (full-expr vars right h.1)
  full-expr vars (Compare' op l (more_of-Expr left end_of-Expr) r (more_of-Expr right end_of-Expr)) h = full-append (in_expr vars left) (in_expr vars right) (full-expr vars left h.0) (full-expr vars right h.1)
  full-expr vars (Within' l (more_of-Expr left end_of-Expr) r (more_of-Expr set end_of-Expr)) h = full-append (in_expr vars left) (in_expr vars set) (full-expr vars left h.0) (full-expr vars set h.1)
  full-expr vars (Sum' f (more_of-Expr first end_of-Expr) shape more) h = full-append (in_expr vars first) (in_sum vars more) (full-expr vars first h.0) (full-sum vars more h.1)
  full-expr vars (Modulo' shape (more_of-Expr e end_of-Expr) by at) h = full-expr vars e h
  full-expr vars (Choose' c (more_of-Expr test end_of-Expr) l (more_of-Expr left end_of-Expr) r (more_of-Expr right end_of-Expr)) h =
      full-append (in_expr vars test ++ in_expr vars left) (in_expr vars right) (full-append (in_expr vars test) (in_expr vars left) (full-expr vars test h.0) (full-expr vars left h.1)) (full-expr vars right h.2)
  full-expr vars (All' shape (more_of-Expr body end_of-Expr) var over at) h = full-append (in_expr (vars ++ var ∷ []) body) (mentions.binder_in vars var ∷ in_type over) (full-expr (vars ++ var ∷ []) body h.0) (full-index over h.1)
  full-expr vars (Any' shape (more_of-Expr body end_of-Expr) var over at) h = full-append (in_expr (vars ++ var ∷ []) body) (mentions.binder_in vars var ∷ in_type over) (full-expr (vars ++ var ∷ []) body h.0) (full-index over h.1)
  full-expr vars (List' shape members at) h = full-members vars members h.1
  full-expr vars (Each' var over held at) h = full-append (in_type over) (in_held (vars ++ var ∷ []) held) (full-index over h.1) (full-held (vars ++ var ∷ []) held h.0)

  full-row : {m : _} (vars : List Word) (row : Row_of-Expr m) → PartsAreWritten row → AreFull (in_row vars row)
  full-row vars end_of-Expr h = tt
  full-row vars (more_of-Expr e rest) h = full-append (in_expr vars e) (in_row vars rest) (full-expr vars e h.0) (full-row vars rest h.1)

  full-parts : {m : _} (vars : List Word) (row : Row_of-Part m) → IndexesAreWritten row → AreFull (in_parts vars row)
  full-parts vars end_of-Part h = tt
  full-parts vars (more_of-Part (Field word) rest) h = full-parts vars rest h
  full-parts vars (more_of-Part (At index) rest) h = full-append (in_expr vars index) (in_parts vars rest) (full-expr vars index h.0) (full-parts vars rest h.1)

  full-sum : {m : _} (vars : List Word) (row : Row_of-Signed m) → TermsAreWritten row → AreFull (in_sum vars row)
  full-sum vars end_of-Signed h = tt
  full-sum vars (more_of-Signed minus e rest) h = full-append (in_expr vars e) (in_sum vars rest) (full-expr vars e h.0) (full-sum vars rest h.1)

  full-members : {m : _} (vars : List Word) (row : Row_of-Member m) → MembersAreWritten row → AreFull (in_members vars row)
  full-members vars end_of-Member h = tt
  full-members vars (more_of-Member (One e) rest) h = full-append (in_expr vars e) (in_members vars rest) (full-expr vars e h.0) (full-members vars rest h.1)
  full-members vars (more_of-Member (SpanOf span at) rest) h = full-members vars rest h

  full-held : (vars : List Word) (held : Held-Expr-Each-2) → ConditionIsWritten held → AreFull (in_held vars held)
  full-held vars None' h = tt
  full-held vars (Some' shape (more_of-Expr test end_of-Expr)) h = full-expr vars test h

full-exprs : (vars : List Word) (es : List Expr) → AreWritten es → AreFull (flat_map (in_expr vars) es)
full-exprs vars es h = full-each IsWritten (in_expr vars) (full-expr vars) es h

full-left : (vars : List Word) (parts : List Part) → AreWritten (indexes_of parts) → AreFull (flat_map (in_part vars) parts)
full-left vars [] h = tt
full-left vars (Field word ∷ parts) h = full-left vars parts h
full-left vars (At index ∷ parts) h = full-append (in_expr vars index) (flat_map (in_part vars) parts) (full-expr vars index h.0) (full-left vars parts h.1)

full-in_path : (vars : List Word) (path : Path) → AreWritten (indexes_of (out-Path path).parts) → AreFull (in_path vars path)
unfolding in_path
full-in_path vars path h = full-path vars (out-Path path).parts (flat_map (in_part vars) (out-Path path).parts) (full-left vars (out-Path path).parts h)

mutual
  unfolding in_stmt

  full-stmt : (vars : List Word) (act : Stmt) → StatementIsWritten act → AreFull (in_stmt vars act)
  full-stmt vars (Assign kind left value at) h = full-append (in_path vars left) (in_expr vars value) (full-in_path vars left h.0) (full-expr vars value h.1)
  full-stmt vars (Block' shape parts) h = full-block vars parts h
  full-stmt vars (If' test l (more_of-Stmt left end_of-Stmt) right at) h =
      full-append (in_expr vars test ++ in_stmt vars left) (in_branch vars right) (full-append (in_expr vars test) (in_stmt vars left) (full-expr vars test h.0) (full-stmt vars left h.1)) (full-branch vars right h.2)
  full-stmt vars (Switch' on shape arms other at) h =
      full-append (in_expr vars on ++ in_arms vars arms) (in_branch vars other) (full-append (in_expr vars on) (in_arms vars arms) (full-expr vars on h.0) (full-arms vars arms h.1)) (full-branch vars other h.2)
  full-stmt vars (Default' l (more_of-Stmt left end_of-Stmt) r (more_of-Stmt right end_of-Stmt) at) h = full-append (in_stmt vars left) (in_stmt vars right) (full-stmt vars left h.0) (full-stmt vars right h.1)
  full-stmt vars (For' var from to closed step shape (more_of-Stmt body end_of-Stmt) at) h = full-stmt (vars ++ var ∷ []) body h
  full-stmt vars (Forall' var over shape (more_of-Stmt body end_of-Stmt) at) h = full-append (in_type over) (in_stmt (vars ++ var ∷ []) body) (full-index over h.1) (full-stmt (vars ++ var ∷ []) body h.0)

  full-block : {m : _} (vars : List Word) (row : Row_of-Stmt m) → StatementsAreWritten row → AreFull (in_block vars row)
  full-block vars end_of-Stmt h = tt
  full-block vars (more_of-Stmt part rest) h = full-append (in_stmt vars part) (in_block vars rest) (full-stmt vars part h.0) (full-block vars rest h.1)

  full-branch : (vars : List Word) (held : Held-Stmt-If-2) → BranchIsWritten held → AreFull (in_branch vars held)
  full-branch vars stmt.None' h = tt
  full-branch vars (stmt.Some' shape (more_of-Stmt part end_of-Stmt)) h = full-stmt vars part h

  full-arms : {m : _} (vars : List Word) (row : Row_of-Arm m) → ArmsAreWritten row → AreFull (in_arms vars row)
  full-arms vars end_of-Arm h = tt
  full-arms vars (more_of-Arm labels body rest) h =
      full-append (flat_map (in_expr vars) labels ++ in_stmt vars body) (in_arms vars rest)
      (full-append (flat_map (in_expr vars) labels) (in_stmt vars body) (full-exprs vars labels h.0) (full-stmt vars body h.1)) (full-arms vars rest h.2)

full-declared : (what : What) (words : List Word) → AreFull (declared_as what words)
full-declared what [] = tt
full-declared what (word ∷ words) = full-declared what words

mutual
  unfolding in_item

  full-inner : (vars : List Word) (part : Item) → InnerIsWritten part → AreFull (in_item vars part)
  full-inner vars (Declare role words of at) h = absurd h
  full-inner vars (Instance words name args at) h = absurd h
  full-inner vars (Layer name body at) h = absurd h
  full-inner vars (item.Forall' var over shape (more_of-Item body end_of-Item) at) h = full-append (in_type over) (in_item (vars ++ var ∷ []) body) (full-index over h.1) (full-inner (vars ++ var ∷ []) body h.0)
  full-inner vars (item.Block' shape items) h = full-inners vars items h
  full-inner vars (Claim name brackets body at) h = full-expr vars body h
  full-inner vars (Split name brackets of pairs at) h = full-each (λ (pair : Pair). IsWritten pair.left) (λ pair. in_expr vars pair.left) (λ pair. full-expr vars pair.left) pairs h
  full-inner vars (Using uses proves at) h = tt
  full-inner vars (Act act) h = full-stmt vars act h

  full-inners : {m : _} (vars : List Word) (items : Row_of-Item m) → InnersAreWritten items → AreFull (in_items vars items)
  full-inners vars end_of-Item h = tt
  full-inners vars (more_of-Item part rest) h = full-append (in_item vars part) (in_items vars rest) (full-inner vars part h.0) (full-inners vars rest h.1)

full-item : (part : Item) → ItemIsWritten part → AreFull (in_item [] part)
unfolding in_item
full-item (Declare role words of at) h = full-append (declared_as (mentions.signal role of) words) (in_type of) (full-declared (mentions.signal role of) words) (full-type of h)
full-item (Instance words name args at) h = full-append (declared_as (mentions.instance name) words) (instantiates name (length args) ∷ flat_map (in_expr []) args) (full-declared (mentions.instance name) words) (full-exprs [] args h)
full-item (Layer name body at) h = full-each StatementIsWritten (in_stmt []) (full-stmt []) body h
full-item (item.Forall' var over shape body at) h = full-inner [] (item.Forall' var over shape body at) h
full-item (item.Block' shape items) h = full-inner [] (item.Block' shape items) h
full-item (Claim name brackets body at) h = full-inner [] (Claim name brackets body at) h
full-item (Split name brackets of pairs at) h = full-inner [] (Split name brackets of pairs at) h
full-item (Using uses proves at) h = tt
full-item (Act act) h = full-inner [] (Act act) h

full-pieces : (known : Known) (tops : List Top) → AllByRecursion TopIsWritten tops → AllByRecursion HasOne (flat_map (λ piece. flat_map enum_of piece.mentions) (pieces_from known tops))
full-pieces known [] h = tt
full-pieces known (SetType word ordered span at ∷ tops) h = full-pieces (known_after known (SetType word ordered span at)) tops h.1
full-pieces known (Alias word of at ∷ tops) h =
    each_append HasOne (flat_map enum_of (in_type of)) (flat_map (λ piece. flat_map enum_of piece.mentions) (pieces_from (known_after known (Alias word of at)) tops)) (full-type of h.0) (full-pieces (known_after known (Alias word of at)) tops h.1)
full-pieces known (Module word formals body at ∷ tops) h =
    each_append HasOne (flat_map enum_of (flat_map (in_item []) body)) (flat_map (λ piece. flat_map enum_of piece.mentions) (pieces_from (known_after known (Module word formals body at)) tops))
    (full-each ItemIsWritten (in_item []) full-item body h.0) (full-pieces (known_after known (Module word formals body at)) tops h.1)

-- ---- each list once

different-each : {X : Type 0} (P : X → Type 0) (same : X → X → Bool) (xs : List X) → AllByRecursion P xs → AllByRecursion P (different same xs)
different-each P same [] h = tt
different-each P same (x ∷ xs) h = (h.0, each_filter P (λ y. not (same x y)) (different same xs) (different-each P same xs h.1))

pub one-length : {X : Type 0} (xs : List X) → HasOne xs → nat_lt 0 (length xs) ≡ true
one-length [] h = absurd h
one-length (x ∷ xs) h = let some : 0 < length (x ∷ xs) = omega arith in lt-ltb 0 (length (x ∷ xs)) some

all-full : (lists : List (List Name)) → AllByRecursion HasOne lists → list_all (λ names. nat_lt 0 (length names)) lists ≡ true
all-full [] h = refl
all-full (names ∷ lists) h = let own : nat_lt 0 (length names) ≡ true = one-length names h.0 in rw (own, all-full lists h.1) refl

pub enumerations-kept : (text : Text) → AllByRecursion TopIsWritten text.tops → list_all (λ names. nat_lt 0 (length names)) (enums_of text) ≡ true
enumerations-kept text h =
    let lists : List (List Name) = flat_map (λ piece. flat_map enum_of piece.mentions) (pieces text) in
    all-full (different same_path lists) (different-each HasOne same_path lists (full-pieces [] text.tops h))
