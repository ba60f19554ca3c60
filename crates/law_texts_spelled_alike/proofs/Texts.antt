-- Whole texts are spelled by the kinds of tokens alone, places aside.
use Rattle.std.proofs.Common.{◌≡◌, ◌≤◌, arith, ◌<◌, inl, inr, ℕ, zero, suc, List, [], ◌∷◌, ◌++◌, map, Option, Some, None, Bool, true, false, refl, sym, ap, ◌∙◌, subst}
use Rattle.std.specs.List.{AllZip}
use Rattle.smv_core.specs.declared.token.TokenKind.{TokenKind}
use Rattle.smv_core.specs.declared.tree.Word.{Word}
use Rattle.smv_core.specs.declared.tree.Span.{Span}
use Rattle.smv_core.specs.declared.tree.Kind.{Kind}
use Rattle.smv_core.specs.declared.tree.Kind.TheVariants as kind
use Rattle.smv_core.specs.declared.tree.Role.{Role}
use Rattle.smv_core.specs.declared.tree.Role.TheVariants as role
use Rattle.smv_core.specs.declared.tree.Expr.{Expr}
use Rattle.smv_core.specs.declared.tree.Expr.TheVariants as expr
use Rattle.smv_core.specs.declared.tree.Path.{Path, out-Path}
use Rattle.smv_core.specs.declared.tree.TypeExpr.{TypeExpr}
use Rattle.smv_core.specs.declared.tree.TypeExpr.TheVariants as type
use Rattle.smv_core.specs.declared.tree.Field.{Field, roll-Field}
use Rattle.smv_core.specs.declared.tree.Stmt.{Stmt}
use Rattle.smv_core.specs.declared.tree.Stmt.TheVariants as stmt
use Rattle.smv_core.specs.declared.tree.Arm.{Arm, roll-Arm}
use Rattle.smv_core.specs.declared.tree.Item.{Item}
use Rattle.smv_core.specs.declared.tree.Item.TheVariants as item
use Rattle.smv_core.specs.declared.tree.Use.TheVariants as uses
use Rattle.smv_core.specs.declared.tree.Top.{Top}
use Rattle.smv_core.specs.declared.tree.Top.TheVariants as top
use Rattle.smv_core.specs.Signs.{open_paren, close_paren, open_bracket, close_bracket, open_brace, close_brace, colon, semicolon, comma, dot, becomes, equal, less, at_most, plus, arrow, slashes}
use Rattle.smv_core.specs.Signs as w
use Rattle.smv_core.specs.Notation.{Tokens, Rule, nothing, placed, name, number, same_name, positive, same_kind, separated_or_none, found}
use Rattle.smv_core.specs.Grammar as g
use Rattle.smv_core.specs.Grammar.{Rules, Turns, RefPart, named, place_of}
use Rattle.smv_core.specs.OpenIf.{ends_in_open_if}
use Rattle.law_places.specs.Placeless.{placeless_word, placeless_type, placeless, placeless_path, placeless_stmt, placeless_item, placeless_top}
use Rattle.law_spelled_alike.specs.Local.{kinds_of, AllKinds, AreOfKinds, Fronts, Taken, IsLocal, Any, SameName, SameValue, Maybe}
use Rattle.law_spelled_alike.proofs.Combining.{same_kinds, local-nothing, local-then, local-or, local-token, local-one_of, local-name, local-number, local-many, local-optional, local-after, local-separated, local-opener, local-same_name, local-open}
use Rattle.law_spelled_alike.proofs.PlacelessForms.{placeless_forms, placeless-Number, placeless-Signal}
use Rattle.law_texts_spelled_alike.proofs.PlacelessStatements.{placeless_field, placeless-Struct, placeless-Enum, placeless-Array, placeless_arm, placeless-Block, placeless-Switch_none, placeless-Switch_some, placeless-Assign, placeless-If_alone, placeless-If_else, placeless-Default, placeless-For, placeless-Forall, if-alone, if-else, default-open, for-open, forall-open, assign-closed, block-closed, switch-closed, placeless-item_Block, placeless-item_Forall, placeless-Declare, placeless-Instance, placeless-Layer, placeless-Claim, placeless-Split, placeless-Using, placeless-Act}
use Rattle.law_spelled_alike.proofs.Expressions as e
use Rattle.law_spelled_alike.proofs.Expressions.{is_mark, PartBy, dotted, SameSpan, InnerExprs, each-map}
use Rattle.law_spelled_alike.proofs.Plain.{SameExpr, SameType, SamePath, field}

-- every token will do
abbrev pub T : TokenKind → Type 0
T k = Unit {0}

-- related by their kinds
abbrev pub all : Fronts T (AllKinds T) AreOfKinds (λ bytes. bytes)
all = same_kinds T

pub unmarked : (k : TokenKind) → is_mark k ≡ false → T k
unmarked k h = tt

pub free : (k j : TokenKind) → same_kind j k ≡ true → T j
free k j h = tt

pub plain : (k : TokenKind) → same_kind k semicolon ≡ false → T k
plain k h = tt

pub behind_dot : IsLocal T (PartBy placeless) dotted dotted
behind_dot = field T plain

found-any : {A : Type 0} (list : List (TokenKind × A)) (k : TokenKind) (a : A) → found list k ≡ Some a → T k × Unit {0}
found-any list k a h = (tt, tt)

abbrev IsAny : {A : Type 0} → A → Type 0
IsAny a = Unit {0}

pub names : IsLocal T SameName name name
names = local-name all (λ bytes. tt)

numbers : IsLocal T SameValue number number
numbers = local-number all (λ n. tt)

-- ---- the same, places aside

abbrev pub SameField : Field → Field → Type 0
SameField x y = placeless_field x ≡ placeless_field y

abbrev pub SameStmt : Stmt → Stmt → Type 0
SameStmt x y = (placeless_stmt x ≡ placeless_stmt y) × (ends_in_open_if x ≡ ends_in_open_if y)

abbrev pub SameArm : Arm → Arm → Type 0
SameArm x y = placeless_arm x ≡ placeless_arm y

abbrev pub SameArms : List Arm × Option Stmt → List Arm × Option Stmt → Type 0
SameArms x y = AllZip SameArm x.0 y.0 × Maybe SameStmt x.1 y.1

abbrev pub SameBinder : Word × TypeExpr → Word × TypeExpr → Type 0
SameBinder x y = (x.0.name ≡ y.0.name) × SameType x.1 y.1

abbrev pub SameTurns : Turns → Turns → Type 0
SameTurns x y = (x.var.name ≡ y.var.name) × (x.from ≡ y.from) × (x.to ≡ y.to) × (x.closed ≡ y.closed) × (x.step ≡ y.step)

abbrev pub SameItem : Item → Item → Type 0
SameItem x y = placeless_item x ≡ placeless_item y

abbrev pub SameTop : Top → Top → Type 0
SameTop x y = placeless_top x ≡ placeless_top y

same-word : (x y : Word) → x.name ≡ y.name → placeless_word x ≡ placeless_word y
same-word x y h = ap (λ n. record { name = n; at = 0 }) h

pub same-words : (xs ys : List Word) → AllZip SameName xs ys → map placeless_word xs ≡ map placeless_word ys
same-words [] [] p = refl
same-words (x ∷ xs) (y ∷ ys) p = ap (λ v. v ∷ map placeless_word xs) (same-word x y p.0) ∙ ap (λ l. placeless_word y ∷ l) (same-words xs ys p.1)
same-words [] (y ∷ ys) p = absurd p
same-words (x ∷ xs) [] p = absurd p

same-stmts : (xs ys : List Stmt) → AllZip SameStmt xs ys → map placeless_stmt xs ≡ map placeless_stmt ys
same-stmts [] [] p = refl
same-stmts (x ∷ xs) (y ∷ ys) p = ap (λ v. v ∷ map placeless_stmt xs) p.0.0 ∙ ap (λ l. placeless_stmt y ∷ l) (same-stmts xs ys p.1)
same-stmts [] (y ∷ ys) p = absurd p
same-stmts (x ∷ xs) [] p = absurd p

-- a rule whose value does not count
pub local-any : {A B : Type 0} (R : A → B → Type 0) (r : Rule A) (r' : Rule B) → IsLocal T R r r' → IsLocal T Any r r'
local-any R r r' f ts a rest h = let u = f ts a rest h in record { front = u.front; split = u.split; each = u.each; again = λ us more k. let x = u.again us more k in (x.0, x.1, tt) }

-- the rules of the next level
pub record InnerRules (inner other : Rules) : Type 0 where
  pub exprs : InnerExprs all unmarked placeless_forms behind_dot inner other
  pub type : IsLocal T SameType inner.type other.type
  pub field : IsLocal T SameField inner.field other.field
  pub condition : IsLocal T SameExpr inner.condition other.condition
  pub binder : IsLocal T SameBinder inner.binder other.binder
  pub stmt : IsLocal T SameStmt inner.stmt other.stmt
  pub arms : IsLocal T SameArms inner.arms other.arms
  pub turns : IsLocal T SameTurns inner.turns other.turns
  pub ref : IsLocal T Any inner.ref other.ref
  pub item : IsLocal T SameItem inner.item other.item
  pub body : IsLocal T SameItem inner.body other.body

local-label : IsLocal T SameExpr g.label g.label
local-label = local-or all SameExpr _ _ _ _
    (local-then all SameValue SameExpr number number _ _ numbers (λ k j p. local-nothing all SameExpr (expr.Number k.0 k.1) (expr.Number j.0 j.1) (placeless-Number k.0 k.1 ∙ ap (λ v. expr.Number v 0) p ∙ sym (placeless-Number j.0 j.1))))
    (local-then all SameName SameExpr name name _ _ names (λ x y p. local-nothing all SameExpr (expr.Signal (named x [])) (expr.Signal (named y [])) (placeless-Signal (named x []) ∙ ap expr.Signal (e.named-same all unmarked placeless_forms behind_dot x y [] [] p tt) ∙ sym (placeless-Signal (named y [])))))

local-positive : IsLocal T (λ (x y : ℕ). x ≡ y) positive positive
local-positive = local-then all SameValue (λ (x y : ℕ). x ≡ y) number number _ _ numbers at'
  where
    at' : (k j : ℕ × ℕ) → k.0 ≡ j.0 → IsLocal T (λ (x y : ℕ). x ≡ y) (λ ts m rest. (0 < k.0) × nothing k.0 ts m rest) (λ ts m rest. (0 < j.0) × nothing j.0 ts m rest)
    at' k j p ts m rest h = record { front = []; split = h.1.1; each = tt; again = again }
      where
        again : (us more : Tokens) → kinds_of us ≡ [] → (d : ℕ) × ((0 < j.0) × nothing j.0 (us ++ more) d more) × (m ≡ d)
        again [] more q = (j.0, (subst (λ v. 0 < v) p h.0, (refl, refl)), sym h.1.0 ∙ p)
        again (u ∷ us) more q = absurd (cc)

local-extent : IsLocal T (λ (x y : Option Span × ℕ). x.0 ≡ y.0) g.extent g.extent
local-extent = local-or all _ _ _ _ _ (local-then all Any (λ (x y : Option Span × ℕ). x.0 ≡ y.0) _ _ _ _ (local-token all w.word_undefined (free w.word_undefined)) (λ a b p. local-nothing all (λ (x y : Option Span × ℕ). x.0 ≡ y.0) (None, a) (None, b) refl))
    (local-then all SameSpan (λ (x y : Option Span × ℕ). x.0 ≡ y.0) g.span g.span _ _ (e.local-span all unmarked placeless_forms behind_dot) (λ s t p. local-nothing all (λ (x y : Option Span × ℕ). x.0 ≡ y.0) (Some s.0, s.1) (Some t.0, t.1) (ap Some p)))

module _ (n m : ℕ) (le : n ≤ m) (inner other : Rules) (l : InnerRules inner other) where
  abbrev z : ℕ → ℕ
  z at = 0

  local-index : IsLocal T SameType g.index g.index
  local-index = e.local-index all unmarked placeless_forms behind_dot

  pub local-expr : IsLocal T SameExpr (g.expr_rule z n inner) (g.expr_rule z m other)
  local-expr = e.local-expr all unmarked placeless_forms behind_dot n m le inner other l.exprs

  local-path : IsLocal T SamePath (g.path_rule z n inner) (g.path_rule z m other)
  local-path = e.local-path all unmarked placeless_forms behind_dot n m le inner other l.exprs

  local-sum : IsLocal T SameExpr (g.sum z n inner) (g.sum z m other)
  local-sum = e.local-sum all unmarked placeless_forms behind_dot n m le inner other l.exprs

  -- ---- types

  local-enumeration : IsLocal T SameType (g.enumeration z n inner) (g.enumeration z m other)
  local-enumeration = local-then all Any SameType _ _ _ _ (local-opener all n m le open_brace (free open_brace)) (λ a b q. local-then all (AllZip SameName) SameType _ _ _ _ (local-separated all SameName (free comma) name name names) (λ xs ys p.
      local-after all SameType close_brace (free close_brace) _ _ (local-nothing all SameType (type.Enum xs a) (type.Enum ys b) (placeless-Enum xs a ∙ ap (λ v. type.Enum v 0) (same-words xs ys p) ∙ sym (placeless-Enum ys b)))))

  local-array : IsLocal T SameType (g.array z n inner) (g.array z m other)
  local-array = local-after all SameType w.word_array (free w.word_array) _ _ (local-then all SameType SameType _ _ _ _ local-index (λ s t p. local-open all SameType n m le w.word_of (free w.word_of) _ _ (local-then all SameType SameType _ _ _ _ l.type (λ x y q.
      local-nothing all SameType (type.Array s x) (type.Array t y) (placeless-Array s x ∙ ap (λ v. type.Array v (placeless_type x)) p ∙ ap (λ v. type.Array (placeless_type t) v) q ∙ sym (placeless-Array t y))))))

  local-structure : IsLocal T SameType (g.structure z n inner) (g.structure z m other)
  local-structure = local-after all SameType w.word_struct (free w.word_struct) _ _ (local-open all SameType n m le open_brace (free open_brace) _ _ (local-then all (AllZip SameField) SameType _ _ _ _ (local-many all SameField _ _ l.field) (λ xs ys p.
      local-after all SameType close_brace (free close_brace) _ _ (local-nothing all SameType (type.Struct xs) (type.Struct ys) (placeless-Struct xs ∙ ap (λ v. type.Struct v) (each-map placeless_field placeless_field xs ys p) ∙ sym (placeless-Struct ys))))))

  pub local-type : IsLocal T SameType (g.type_rule z n inner) (g.type_rule z m other)
  local-type = local-or all SameType _ _ _ _ local-index (local-or all SameType _ _ _ _ local-enumeration (local-or all SameType _ _ _ _ local-array local-structure))

  pub local-field : IsLocal T SameField (g.field_rule z n inner) (g.field_rule z m other)
  local-field = local-then all (AllZip SameName) SameField _ _ _ _ (local-separated all SameName (free comma) name name names) (λ xs ys p. local-after all SameField colon (free colon) _ _ (local-then all SameType SameField _ _ _ _ local-type (λ s t q.
      local-after all SameField semicolon (free semicolon) _ _ (local-nothing all SameField (roll-Field (record { names = xs; of = s; at = place_of xs })) (roll-Field (record { names = ys; of = t; at = place_of ys }))
      (ap (λ v. roll-Field (record { names = v; of = placeless_type s; at = 0 })) (same-words xs ys p) ∙ ap (λ v. roll-Field (record { names = map placeless_word ys; of = v; at = 0 })) q)))))

  pub local-binder : IsLocal T SameBinder (g.binder_rule z n inner) (g.binder_rule z m other)
  local-binder = local-open all SameBinder n m le open_paren (free open_paren) _ _ (local-then all SameName SameBinder name name _ _ names (λ x y p. local-after all SameBinder w.word_in (free w.word_in) _ _ (local-then all SameType SameBinder _ _ _ _ local-index (λ s t q.
      local-after all SameBinder close_paren (free close_paren) _ _ (local-nothing all SameBinder (x, s) (y, t) (p, q))))))

  -- ---- statements

  assign-same : (k j : Kind) (p q : Path) (x y : Expr) (a b : ℕ) → k ≡ j → SamePath p q → SameExpr x y → SameStmt (stmt.Assign k p x a) (stmt.Assign j q y b)
  assign-same k j p q x y a b h i m = (
    placeless-Assign k p x a ∙ ap (λ v. stmt.Assign v (placeless_path p) (placeless x) 0) h ∙ ap (λ v. stmt.Assign j v (placeless x) 0) i ∙ ap (λ v. stmt.Assign j (placeless_path q) v 0) m ∙ sym (placeless-Assign j q y b),
    assign-closed k p x a ∙ sym (assign-closed j q y b),
  )

  local-value : IsLocal T SameExpr (g.value z n inner) (g.value z m other)
  local-value = local-after all SameExpr becomes (free becomes) _ _ (local-then all SameExpr SameExpr _ _ _ _ local-expr (λ x y p. local-after all SameExpr semicolon (free semicolon) _ _ (local-nothing all SameExpr x y p)))

  local-assignment : IsLocal T SameStmt (g.assignment z n inner) (g.assignment z m other)
  local-assignment = local-then all SamePath SameStmt _ _ _ _ local-path (λ p q i. local-then all SameExpr SameStmt _ _ _ _ local-value (λ x y v.
      local-nothing all SameStmt (stmt.Assign kind.Comb p x (out-Path p).at) (stmt.Assign kind.Comb q y (out-Path q).at) (assign-same kind.Comb kind.Comb p q x y (out-Path p).at (out-Path q).at refl i v)))

  local-timed : IsLocal T SameStmt (g.timed z n inner) (g.timed z m other)
  local-timed = local-then all _ SameStmt _ _ _ _ (local-one_of all IsAny ((w.word_init, kind.Init) ∷ (w.word_next, kind.Next) ∷ []) (found-any ((w.word_init, kind.Init) ∷ (w.word_next, kind.Next) ∷ []))) (λ k j h. local-open all SameStmt n m le open_paren (free open_paren) _ _ (local-then all SamePath SameStmt _ _ _ _ l.exprs.path (λ p q i.
      local-after all SameStmt close_paren (free close_paren) _ _ (local-then all SameExpr SameStmt _ _ _ _ local-value (λ x y v. local-nothing all SameStmt (stmt.Assign k.0 p x k.1) (stmt.Assign j.0 q y j.1) (assign-same k.0 j.0 p q x y k.1 j.1 h.0 i v))))))

  local-otherwise : (x y : Stmt) → SameStmt x y → IsLocal T SameStmt (g.otherwise z n inner x) (g.otherwise z m other y)
  local-otherwise x y p ts a rest h =
      let u = local-after all SameStmt w.word_else (free w.word_else) inner.stmt other.stmt l.stmt ts a rest h.1 in
      record { front = u.front; split = u.split; each = u.each; again = λ us more k. let v = u.again us more k in (v.0, (sym p.1 ∙ h.0, v.1), v.2) }

  if-same : (c d : Expr) (x y : Stmt) (o r : Option Stmt) (a b : ℕ) → SameExpr c d → SameStmt x y → Maybe SameStmt o r → SameStmt (stmt.If c x o a) (stmt.If d y r b)
  if-same c d x y None None a b p q m = (
    placeless-If_alone c x a ∙ ap (λ v. stmt.If v (placeless_stmt x) None 0) p ∙ ap (λ v. stmt.If (placeless d) v None 0) q.0 ∙ sym (placeless-If_alone d y b),
    if-alone c x a ∙ sym (if-alone d y b),
  )
  if-same c d x y (Some v) (Some u) a b p q m = (
    placeless-If_else c x v a ∙ ap (λ k. stmt.If k (placeless_stmt x) (Some (placeless_stmt v)) 0) p ∙ ap (λ k. stmt.If (placeless d) k (Some (placeless_stmt v)) 0) q.0 ∙ ap (λ k. stmt.If (placeless d) (placeless_stmt y) (Some k) 0) m.0 ∙ sym (placeless-If_else d y u b),
    if-else c x v a ∙ m.1 ∙ sym (if-else d y u b),
  )
  if-same c d x y None (Some u) a b p q m = absurd m
  if-same c d x y (Some v) None a b p q m = absurd m

  local-if : IsLocal T SameStmt (g.if_rule z n inner) (g.if_rule z m other)
  local-if = local-then all Any SameStmt _ _ _ _ (local-opener all n m le w.word_if (free w.word_if)) (λ a b h. local-then all SameExpr SameStmt _ _ _ _ l.condition (λ c d p. local-then all SameStmt SameStmt _ _ _ _ l.stmt (λ x y q.
      local-then all (Maybe SameStmt) SameStmt _ _ _ _ (local-optional all SameStmt _ _ (local-otherwise x y q)) (λ o r m. local-nothing all SameStmt (stmt.If c x o a) (stmt.If d y r b) (if-same c d x y o r a b p q m)))))

  local-arm : IsLocal T SameArm (g.arm z n inner) (g.arm z m other)
  local-arm = local-then all (AllZip SameExpr) SameArm _ _ _ _ (local-separated all SameExpr (free comma) g.label g.label local-label) (λ xs ys p. local-after all SameArm colon (free colon) _ _ (local-then all SameStmt SameArm _ _ _ _ l.stmt (λ x y q.
      local-nothing all SameArm (roll-Arm (record { labels = xs; body = x })) (roll-Arm (record { labels = ys; body = y }))
      (ap (λ v. roll-Arm (record { labels = v; body = placeless_stmt x })) (each-map placeless placeless xs ys p) ∙ ap (λ v. roll-Arm (record { labels = map placeless ys; body = v })) q.0))))

  pub local-arms : IsLocal T SameArms (g.arms_rule z n inner) (g.arms_rule z m other)
  local-arms = local-open all SameArms n m le open_brace (free open_brace) _ _ (local-then all (AllZip SameArm) SameArms _ _ _ _ (local-many all SameArm _ _ local-arm) (λ xs ys p.
      local-then all (Maybe SameStmt) SameArms _ _ _ _ (local-optional all SameStmt _ _ (local-after all SameStmt w.word_default (free w.word_default) _ _ (local-after all SameStmt colon (free colon) _ _ l.stmt))) (λ o r m.
      local-after all SameArms close_brace (free close_brace) _ _ (local-nothing all SameArms (xs, o) (ys, r) (p, m)))))

  switch-same : (c d : Expr) (xs ys : List Arm) (o r : Option Stmt) (a b : ℕ) → SameExpr c d → AllZip SameArm xs ys → Maybe SameStmt o r → SameStmt (stmt.Switch c xs o a) (stmt.Switch d ys r b)
  switch-same c d xs ys None None a b p q m = (
    placeless-Switch_none c xs a ∙ ap (λ v. stmt.Switch v (map placeless_arm xs) None 0) p ∙ ap (λ v. stmt.Switch (placeless d) v None 0) (each-map placeless_arm placeless_arm xs ys q) ∙ sym (placeless-Switch_none d ys b),
    switch-closed c xs None a ∙ sym (switch-closed d ys None b),
  )
  switch-same c d xs ys (Some x) (Some y) a b p q m = (
    placeless-Switch_some c xs x a ∙ ap (λ v. stmt.Switch v (map placeless_arm xs) (Some (placeless_stmt x)) 0) p ∙ ap (λ v. stmt.Switch (placeless d) v (Some (placeless_stmt x)) 0) (each-map placeless_arm placeless_arm xs ys q) ∙ ap (λ v. stmt.Switch (placeless d) (map placeless_arm ys) (Some v) 0) m.0 ∙ sym (placeless-Switch_some d ys y b),
    switch-closed c xs (Some x) a ∙ sym (switch-closed d ys (Some y) b),
  )
  switch-same c d xs ys None (Some y) a b p q m = absurd m
  switch-same c d xs ys (Some x) None a b p q m = absurd m

  local-switch : IsLocal T SameStmt (g.switch z n inner) (g.switch z m other)
  local-switch = local-then all Any SameStmt _ _ _ _ (local-opener all n m le w.word_switch (free w.word_switch)) (λ a b h. local-then all SameExpr SameStmt _ _ _ _ l.condition (λ c d p. local-then all SameArms SameStmt _ _ _ _ l.arms (λ x y q.
      local-nothing all SameStmt (stmt.Switch c x.0 x.1 a) (stmt.Switch d y.0 y.1 b) (switch-same c d x.0 y.0 x.1 y.1 a b p q.0 q.1))))

  local-default : IsLocal T SameStmt (g.default z n inner) (g.default z m other)
  local-default = local-then all Any SameStmt _ _ _ _ (local-opener all n m le w.word_default (free w.word_default)) (λ a b h. local-then all SameStmt SameStmt _ _ _ _ l.stmt (λ x y p. local-after all SameStmt w.word_in (free w.word_in) _ _ (local-then all SameStmt SameStmt _ _ _ _ l.stmt (λ u v q.
      local-nothing all SameStmt (stmt.Default x u a) (stmt.Default y v b) (
        placeless-Default x u a ∙ ap (λ k. stmt.Default k (placeless_stmt u) 0) p.0 ∙ ap (λ k. stmt.Default (placeless_stmt y) k 0) q.0 ∙ sym (placeless-Default y v b),
        default-open x u a ∙ q.1 ∙ sym (default-open y v b),
      )))))

  pub local-turns : IsLocal T SameTurns (g.turns_rule z n inner) (g.turns_rule z m other)
  local-turns = local-open all SameTurns n m le open_paren (free open_paren) _ _ (local-then all SameName SameTurns name name _ _ names (λ x y p. local-after all SameTurns equal (free equal) _ _ (local-then all SameValue SameTurns number number _ _ numbers (λ from from' q.
      local-after all SameTurns semicolon (free semicolon) _ _ (local-then all Any SameTurns (same_name x) (same_name y) _ _ (local-same_name all (λ b. tt) x y p) (λ _ _ _.
      local-then all _ SameTurns _ _ _ _ (local-one_of all IsAny ((less, false) ∷ (at_most, true) ∷ []) (found-any ((less, false) ∷ (at_most, true) ∷ []))) (λ closed closed' r. local-then all SameValue SameTurns number number _ _ numbers (λ to to' s.
      local-after all SameTurns semicolon (free semicolon) _ _ (local-then all Any SameTurns (same_name x) (same_name y) _ _ (local-same_name all (λ b. tt) x y p) (λ _ _ _. local-after all SameTurns equal (free equal) _ _
      (local-then all Any SameTurns (same_name x) (same_name y) _ _ (local-same_name all (λ b. tt) x y p) (λ _ _ _. local-after all SameTurns plus (free plus) _ _ (local-then all _ SameTurns positive positive _ _ local-positive (λ step step' t.
      local-after all SameTurns close_paren (free close_paren) _ _ (local-nothing all SameTurns (record { var = x; from = from.0; to = to.0; closed = closed.0; step = step }) (record { var = y; from = from'.0; to = to'.0; closed = closed'.0; step = step' }) (p, q, s, r.0, t))))))))))))))))

  for-same : (x y : Turns) (u v : Stmt) (a b : ℕ) → SameTurns x y → SameStmt u v → SameStmt (stmt.For x.var x.from x.to x.closed x.step u a) (stmt.For y.var y.from y.to y.closed y.step v b)
  for-same x y u v a b p q = (
    placeless-For x.var x.from x.to x.closed x.step u a
        ∙ ap (λ k. stmt.For k x.from x.to x.closed x.step (placeless_stmt u) 0) (same-word x.var y.var p.0)
        ∙ ap (λ k. stmt.For (placeless_word y.var) k x.to x.closed x.step (placeless_stmt u) 0) p.1
        ∙ ap (λ k. stmt.For (placeless_word y.var) y.from k x.closed x.step (placeless_stmt u) 0) p.2
        ∙ ap (λ k. stmt.For (placeless_word y.var) y.from y.to k x.step (placeless_stmt u) 0) p.3
        ∙ ap (λ k. stmt.For (placeless_word y.var) y.from y.to y.closed k (placeless_stmt u) 0) p.4
        ∙ ap (λ k. stmt.For (placeless_word y.var) y.from y.to y.closed y.step k 0) q.0
        ∙ sym (placeless-For y.var y.from y.to y.closed y.step v b),
    for-open x.var x.from x.to x.closed x.step u a ∙ q.1 ∙ sym (for-open y.var y.from y.to y.closed y.step v b),
  )

  local-for : IsLocal T SameStmt (g.for z n inner) (g.for z m other)
  local-for = local-then all Any SameStmt _ _ _ _ (local-opener all n m le w.word_for (free w.word_for)) (λ a b h. local-then all SameTurns SameStmt _ _ _ _ l.turns (λ x y p. local-then all SameStmt SameStmt _ _ _ _ l.stmt (λ u v q.
      local-nothing all SameStmt (stmt.For x.var x.from x.to x.closed x.step u a) (stmt.For y.var y.from y.to y.closed y.step v b) (for-same x y u v a b p q))))

  pub local-simple : IsLocal T SameStmt (g.simple z n inner) (g.simple z m other)
  local-simple = local-or all SameStmt _ _ _ _ local-assignment (local-or all SameStmt _ _ _ _ local-timed (local-or all SameStmt _ _ _ _ local-if (local-or all SameStmt _ _ _ _ local-switch (local-or all SameStmt _ _ _ _ local-default local-for))))

  forall-same : (x y : Word × TypeExpr) (u v : Stmt) (a b : ℕ) → SameBinder x y → SameStmt u v → SameStmt (stmt.Forall x.0 x.1 u a) (stmt.Forall y.0 y.1 v b)
  forall-same x y u v a b p q = (
    placeless-Forall x.0 x.1 u a ∙ ap (λ k. stmt.Forall k (placeless_type x.1) (placeless_stmt u) 0) (same-word x.0 y.0 p.0) ∙ ap (λ k. stmt.Forall (placeless_word y.0) k (placeless_stmt u) 0) p.1 ∙ ap (λ k. stmt.Forall (placeless_word y.0) (placeless_type y.1) k 0) q.0 ∙ sym (placeless-Forall y.0 y.1 v b),
    forall-open x.0 x.1 u a ∙ q.1 ∙ sym (forall-open y.0 y.1 v b),
  )

  pub local-stmt : IsLocal T SameStmt (g.stmt_rule z n inner) (g.stmt_rule z m other)
  local-stmt = local-or all SameStmt _ _ _ _
      (local-then all Any SameStmt _ _ _ _ (local-opener all n m le w.word_forall (free w.word_forall)) (λ a b h. local-then all SameBinder SameStmt _ _ _ _ l.binder (λ x y p. local-then all SameStmt SameStmt _ _ _ _ l.stmt (λ u v q.
      local-nothing all SameStmt (stmt.Forall x.0 x.1 u a) (stmt.Forall y.0 y.1 v b) (forall-same x y u v a b p q)))))
      (local-or all SameStmt _ _ _ _
      (local-open all SameStmt n m le open_brace (free open_brace) _ _ (local-then all (AllZip SameStmt) SameStmt _ _ _ _ (local-many all SameStmt _ _ l.stmt) (λ xs ys p. local-after all SameStmt close_brace (free close_brace) _ _
      (local-nothing all SameStmt (stmt.Block xs) (stmt.Block ys) (placeless-Block xs ∙ ap (λ v. stmt.Block v) (same-stmts xs ys p) ∙ sym (placeless-Block ys), block-closed xs ∙ sym (block-closed ys))))))
      local-simple)

  -- ---- references, which count for nothing

  pub local-in_brackets : IsLocal T SameName (g.in_brackets z n inner) (g.in_brackets z m other)
  local-in_brackets = local-open all SameName n m le open_bracket (free open_bracket) _ _ (local-then all SameName SameName name name _ _ names (λ x y p. local-after all SameName close_bracket (free close_bracket) _ _ (local-nothing all SameName x y p)))

  local-ref_part : IsLocal T Any (g.ref_part z n inner) (g.ref_part z m other)
  local-ref_part = local-or all Any _ _ _ _ (local-after all Any dot (free dot) _ _ (local-then all SameName Any name name _ _ names (λ x y p. local-nothing all Any (g.Dotted x) (g.Dotted y) tt)))
      (local-then all SameName Any _ _ _ _ local-in_brackets (λ x y p. local-nothing all Any (g.Bracketed x) (g.Bracketed y) tt))

  local-ref_by : (layer : Rule (Option Word × Bool)) → IsLocal T Any layer layer → IsLocal T Any (g.ref_by z n inner layer) (g.ref_by z m other layer)
  local-ref_by layer f = local-then all SameName Any name name _ _ names (λ x y p. local-then all (AllZip Any) Any _ _ _ _ (local-many all Any _ _ local-ref_part) (λ xs ys q. local-then all Any Any layer layer _ _ f (λ a b h.
      local-nothing all Any (record { path = x ∷ g.dotted xs; names = g.bracketed xs; layer = a.0; free = a.1; at = x.at }) (record { path = y ∷ g.dotted ys; names = g.bracketed ys; layer = b.0; free = b.1; at = y.at }) tt)))

  local-layer_name : IsLocal T Any g.layer_name g.layer_name
  local-layer_name = local-then all SameName Any name name _ _ names (λ x y p. local-nothing all Any (Some x, false) (Some y, false) tt)

  abbrev unnamed : Option Word × Bool
  unnamed = (None, false)

  no_layer : IsLocal T Any (nothing unnamed) (nothing unnamed)
  no_layer = local-nothing all Any unnamed unnamed tt

  local-ref : IsLocal T Any (g.ref z n inner) (g.ref z m other)
  local-ref = local-ref_by _ (local-or all Any _ _ _ _ (local-after all Any slashes (free slashes) _ _ local-layer_name) no_layer)

  pub local-used : IsLocal T Any (g.ref_rule z n inner) (g.ref_rule z m other)
  local-used = local-ref_by _ (local-or all Any _ _ _ _ (local-after all Any slashes (free slashes) _ _ (local-or all Any _ _ _ _ local-layer_name (local-after all Any w.word_free (free w.word_free) _ _ (local-nothing all Any (None, true) (None, true) tt)))) no_layer)

  local-names_or_none : IsLocal T Any (separated_or_none name) (separated_or_none name)
  local-names_or_none = local-or all Any _ _ _ _ (local-any (AllZip SameName) _ _ (local-separated all SameName (free comma) name name names)) (local-nothing all Any [] [] tt)

  local-use : IsLocal T Any (g.use_rule z n inner) (g.use_rule z m other)
  local-use = local-or all Any _ _ _ _ (local-then all Any Any _ _ _ _ local-used (λ x y p. local-nothing all Any (uses.Plain x) (uses.Plain y) tt))
      (local-or all Any _ _ _ _ (local-open all Any n m le open_paren (free open_paren) _ _ (local-then all Any Any _ _ _ _ l.ref (λ x y p. local-after all Any close_paren (free close_paren) _ _ (local-nothing all Any (uses.Early x) (uses.Early y) tt))))
      (local-then all SameName Any name name _ _ names (λ x y p. local-after all Any arrow (free arrow) _ _ (local-open all Any n m le open_brace (free open_brace) _ _ (local-then all Any Any _ _ _ _ local-names_or_none (λ xs ys q.
      local-after all Any close_brace (free close_brace) _ _ (local-nothing all Any (uses.Keep x xs x.at) (uses.Keep y ys y.at) tt)))))))

  -- ---- items

  pub claim-same : (x y : Word) (xs ys : List Word) (e d : Expr) → x.name ≡ y.name → AllZip SameName xs ys → SameExpr e d → SameItem (item.Claim x xs e x.at) (item.Claim y ys d y.at)
  claim-same x y xs ys e d p q r = placeless-Claim x xs e x.at ∙ ap (λ v. item.Claim v (map placeless_word xs) (placeless e) 0) (same-word x y p) ∙ ap (λ v. item.Claim (placeless_word y) v (placeless e) 0) (same-words xs ys q) ∙ ap (λ v. item.Claim (placeless_word y) (map placeless_word ys) v 0) r ∙ sym (placeless-Claim y ys d y.at)

  local-claim : IsLocal T SameItem (g.claim z n inner) (g.claim z m other)
  local-claim = local-then all SameName SameItem name name _ _ names (λ x y p. local-then all (AllZip SameName) SameItem _ _ _ _ (local-many all SameName _ _ local-in_brackets) (λ xs ys q. local-after all SameItem colon (free colon) _ _ (local-after all SameItem w.word_assert (free w.word_assert) _ _
      (local-after all SameItem w.word_G (free w.word_G) _ _ (local-then all SameExpr SameItem _ _ _ _ local-expr (λ e d r. local-after all SameItem semicolon (free semicolon) _ _ (local-nothing all SameItem (item.Claim x xs e x.at) (item.Claim y ys d y.at) (claim-same x y xs ys e d p q r))))))))

  -- no primary begins at the end
  prim-end : (x : Expr) (rest : Tokens) → g.prim z m other [] x rest → ⊥
  prim-end x rest (inl h) = h.2
  prim-end x rest (inr (inl h)) = h.2.2
  prim-end x rest (inr (inr (inl h))) = h.2.2
  prim-end x rest (inr (inr (inr (inl (inl h))))) = h.2.2
  prim-end x rest (inr (inr (inr (inl (inr h))))) = h.2.2
  prim-end x rest (inr (inr (inr (inr h)))) = h.2

  local-placed : IsLocal T Any (placed (g.sum z n inner)) (placed (g.sum z m other))
  local-placed [] a rest h = absurd h
  local-placed (t ∷ ts) a rest h = by_front u.front u.split u.again
    where
      u : Taken T SameExpr (g.sum z m other) (t ∷ ts) a.0 rest
      u = local-sum (t ∷ ts) a.0 rest h.0

      by_front : (front : Tokens) → t ∷ ts ≡ front ++ rest → ((us more : Tokens) → kinds_of us ≡ kinds_of front → (b : Expr) × g.sum z m other (us ++ more) b more × SameExpr a.0 b) → Taken T Any (placed (g.sum z m other)) (t ∷ ts) a rest
      by_front [] split again = let x = again [] [] refl in absurd (prim-end x.1.0 x.1.1 x.1.2)
      by_front (v ∷ front) split again = record { front = v ∷ front; split = split; each = all-free (v ∷ front); again = others }
        where
          all-free : (xs : Tokens) → AllKinds T xs
          all-free [] = tt
          all-free (x ∷ xs) = (tt, all-free xs)

          others : (us more : Tokens) → kinds_of us ≡ kinds_of (v ∷ front) → (b : Expr × ℕ) × placed (g.sum z m other) (us ++ more) b more × Unit {0}
          others [] more k = absurd (cc)
          others (s ∷ us) more k = let x = again (s ∷ us) more k in ((x.0, s.at), (x.1, refl), tt)

  local-pair : IsLocal T Any (g.pair z n inner) (g.pair z m other)
  local-pair = local-then all Any Any _ _ _ _ local-placed (λ x y p. local-after all Any equal (free equal) _ _ (local-then all SameName Any name name _ _ names (λ v u q. local-nothing all Any (record { left = x.0; right = v; at = x.1 }) (record { left = y.0; right = u; at = y.1 }) tt)))

  local-split : IsLocal T SameItem (g.split z n inner) (g.split z m other)
  local-split = local-then all Any SameItem _ _ _ _ (local-token all w.word_subcase (free w.word_subcase)) (λ a b h. local-then all SameName SameItem name name _ _ names (λ x y p. local-then all (AllZip SameName) SameItem _ _ _ _ (local-many all SameName _ _ local-in_brackets) (λ xs ys q.
      local-after all SameItem w.word_of (free w.word_of) _ _ (local-then all Any SameItem _ _ _ _ local-ref (λ s t r. local-after all SameItem w.word_for (free w.word_for) _ _ (local-then all (AllZip Any) SameItem _ _ _ _ (local-separated all Any (free comma) _ _ local-pair) (λ ps qs m.
      local-after all SameItem semicolon (free semicolon) _ _ (local-nothing all SameItem (item.Split x xs s ps a) (item.Split y ys t qs b) (placeless-Split x xs s ps a ∙ sym (placeless-Split y ys t qs b))))))))))

  local-using : IsLocal T SameItem (g.using z n inner) (g.using z m other)
  local-using = local-then all Any SameItem _ _ _ _ (local-token all w.word_using (free w.word_using)) (λ a b h. local-then all (AllZip Any) SameItem _ _ _ _ (local-separated all Any (free comma) _ _ local-use) (λ us vs p. local-after all SameItem w.word_prove (free w.word_prove) _ _
      (local-then all (AllZip Any) SameItem _ _ _ _ (local-separated all Any (free comma) _ _ local-ref) (λ rs ss q. local-after all SameItem semicolon (free semicolon) _ _ (local-nothing all SameItem (item.Using us rs a) (item.Using vs ss b) (placeless-Using us rs a ∙ sym (placeless-Using vs ss b)))))))

  pub item_forall-same : (x y : Word × TypeExpr) (u v : Item) (a b : ℕ) → SameBinder x y → SameItem u v → SameItem (item.Forall x.0 x.1 u a) (item.Forall y.0 y.1 v b)
  item_forall-same x y u v a b p q = placeless-item_Forall x.0 x.1 u a ∙ ap (λ k. item.Forall k (placeless_type x.1) (placeless_item u) 0) (same-word x.0 y.0 p.0) ∙ ap (λ k. item.Forall (placeless_word y.0) k (placeless_item u) 0) p.1 ∙ ap (λ k. item.Forall (placeless_word y.0) (placeless_type y.1) k 0) q ∙ sym (placeless-item_Forall y.0 y.1 v b)

  pub local-item : IsLocal T SameItem (g.item_rule z n inner) (g.item_rule z m other)
  local-item = local-or all SameItem _ _ _ _
      (local-then all Any SameItem _ _ _ _ (local-opener all n m le w.word_forall (free w.word_forall)) (λ a b h. local-then all SameBinder SameItem _ _ _ _ l.binder (λ x y p. local-then all SameItem SameItem _ _ _ _ l.item (λ u v q.
      local-nothing all SameItem (item.Forall x.0 x.1 u a) (item.Forall y.0 y.1 v b) (item_forall-same x y u v a b p q)))))
      (local-or all SameItem _ _ _ _
      (local-open all SameItem n m le open_brace (free open_brace) _ _ (local-then all (AllZip SameItem) SameItem _ _ _ _ (local-many all SameItem _ _ l.item) (λ xs ys p. local-after all SameItem close_brace (free close_brace) _ _
      (local-nothing all SameItem (item.Block xs) (item.Block ys) (placeless-item_Block xs ∙ ap (λ v. item.Block v) (each-map placeless_item placeless_item xs ys p) ∙ sym (placeless-item_Block ys))))))
      (local-or all SameItem _ _ _ _ local-claim (local-or all SameItem _ _ _ _ local-split (local-or all SameItem _ _ _ _ local-using
      (local-then all SameStmt SameItem _ _ _ _ local-simple (λ x y p. local-nothing all SameItem (item.Act x) (item.Act y) (placeless-Act x ∙ ap (λ v. item.Act v) p.0 ∙ sym (placeless-Act y))))))))

  local-declared : (k j : Role) (at at' : List Word → ℕ) → k ≡ j → IsLocal T SameItem (g.declared z n inner k at) (g.declared z m other j at')
  local-declared k j at at' h = local-then all (AllZip SameName) SameItem _ _ _ _ (local-separated all SameName (free comma) name name names) (λ xs ys p. local-after all SameItem colon (free colon) _ _ (local-then all SameType SameItem _ _ _ _ local-type (λ s t q.
      local-after all SameItem semicolon (free semicolon) _ _ (local-nothing all SameItem (item.Declare k xs s (at xs)) (item.Declare j ys t (at' ys))
      (placeless-Declare k xs s (at xs) ∙ ap (λ v. item.Declare v (map placeless_word xs) (placeless_type s) 0) h ∙ ap (λ v. item.Declare j v (placeless_type s) 0) (same-words xs ys p) ∙ ap (λ v. item.Declare j (map placeless_word ys) v 0) q ∙ sym (placeless-Declare j ys t (at' ys)))))))

  abbrev role_words : List (TokenKind × Role)
  role_words = (w.word_abstract, role.Abstract) ∷ (w.word_input, role.Input) ∷ (w.word_output, role.Output) ∷ []

  local-declaration : IsLocal T SameItem (g.declaration z n inner) (g.declaration z m other)
  local-declaration = local-or all SameItem _ _ _ _ (local-then all _ SameItem _ _ _ _ (local-one_of all IsAny role_words (found-any role_words)) (λ r s h. local-declared r.0 s.0 (λ words. r.1) (λ words. s.1) h.0)) (local-declared role.Plain role.Plain place_of place_of refl)

  local-arguments : IsLocal T (AllZip SameExpr) (separated_or_none inner.expr) (separated_or_none other.expr)
  local-arguments = local-or all (AllZip SameExpr) _ _ _ _ (local-separated all SameExpr (free comma) _ _ l.exprs.expr) (local-nothing all (AllZip SameExpr) [] [] tt)

  local-instance : IsLocal T SameItem (g.instance z n inner) (g.instance z m other)
  local-instance = local-then all (AllZip SameName) SameItem _ _ _ _ (local-separated all SameName (free comma) name name names) (λ xs ys p. local-after all SameItem colon (free colon) _ _ (local-then all SameName SameItem name name _ _ names (λ x y q.
      local-open all SameItem n m le open_paren (free open_paren) _ _ (local-then all (AllZip SameExpr) SameItem _ _ _ _ local-arguments (λ es ds r. local-after all SameItem close_paren (free close_paren) _ _ (local-after all SameItem semicolon (free semicolon) _ _
      (local-nothing all SameItem (item.Instance xs x es (place_of xs)) (item.Instance ys y ds (place_of ys))
      (placeless-Instance xs x es (place_of xs) ∙ ap (λ v. item.Instance v (placeless_word x) (map placeless es) 0) (same-words xs ys p) ∙ ap (λ v. item.Instance (map placeless_word ys) v (map placeless es) 0) (same-word x y q) ∙ ap (λ v. item.Instance (map placeless_word ys) (placeless_word y) v 0) (each-map placeless placeless es ds r) ∙ sym (placeless-Instance ys y ds (place_of ys))))))))))

  local-layer : IsLocal T SameItem (g.layer z n inner) (g.layer z m other)
  local-layer = local-then all Any SameItem _ _ _ _ (local-token all w.word_layer (free w.word_layer)) (λ a b h. local-then all SameName SameItem name name _ _ names (λ x y p. local-after all SameItem colon (free colon) _ _ (local-open all SameItem n m le open_brace (free open_brace) _ _
      (local-then all (AllZip SameStmt) SameItem _ _ _ _ (local-many all SameStmt _ _ l.stmt) (λ xs ys q. local-after all SameItem close_brace (free close_brace) _ _ (local-nothing all SameItem (item.Layer x xs a) (item.Layer y ys b)
      (placeless-Layer x xs a ∙ ap (λ v. item.Layer v (map placeless_stmt xs) 0) (same-word x y p) ∙ ap (λ v. item.Layer (placeless_word y) v 0) (same-stmts xs ys q) ∙ sym (placeless-Layer y ys b))))))))

  pub local-body : IsLocal T SameItem (g.body_rule z n inner) (g.body_rule z m other)
  local-body = local-or all SameItem _ _ _ _ local-declaration (local-or all SameItem _ _ _ _ local-instance (local-or all SameItem _ _ _ _ local-layer local-item))

  -- ---- tops

  pub local-formals : IsLocal T (AllZip SameName) (separated_or_none name) (separated_or_none name)
  local-formals = local-or all (AllZip SameName) _ _ _ _ (local-separated all SameName (free comma) name name names) (local-nothing all (AllZip SameName) [] [] tt)

  pub module-same : (x y : Word) (xs ys : List Word) (is js : List Item) (a b : ℕ) → x.name ≡ y.name → AllZip SameName xs ys → AllZip SameItem is js → SameTop (top.Module x xs is a) (top.Module y ys js b)
  module-same x y xs ys is js a b p q r = ap (λ v. top.Module v (map placeless_word xs) (map placeless_item is) 0) (same-word x y p) ∙ ap (λ v. top.Module (placeless_word y) v (map placeless_item is) 0) (same-words xs ys q) ∙ ap (λ v. top.Module (placeless_word y) (map placeless_word ys) v 0) (each-map placeless_item placeless_item is js r)

  pub local-top : IsLocal T SameTop (g.top_rule z n inner) (g.top_rule z m other)
  local-top = local-or all SameTop _ _ _ _
      (local-after all SameTop w.word_scalarset (free w.word_scalarset) _ _ (local-then all SameName SameTop name name _ _ names (λ x y p. local-then all (λ (s t : Option Span × ℕ). s.0 ≡ t.0) SameTop g.extent g.extent _ _ local-extent (λ s t q. local-after all SameTop semicolon (free semicolon) _ _
      (local-nothing all SameTop (top.SetType x false s.0 s.1) (top.SetType y false t.0 t.1) (ap (λ v. top.SetType v false s.0 0) (same-word x y p) ∙ ap (λ v. top.SetType (placeless_word y) false v 0) q))))))
      (local-or all SameTop _ _ _ _
      (local-after all SameTop w.word_ordset (free w.word_ordset) _ _ (local-then all SameName SameTop name name _ _ names (λ x y p. local-then all Any SameTop _ _ _ _ (local-token all w.word_undefined (free w.word_undefined)) (λ a b h. local-after all SameTop semicolon (free semicolon) _ _
      (local-nothing all SameTop (top.SetType x true None a) (top.SetType y true None b) (ap (λ v. top.SetType v true None 0) (same-word x y p)))))))
      (local-or all SameTop _ _ _ _
      (local-then all Any SameTop _ _ _ _ (local-token all w.word_typedef (free w.word_typedef)) (λ a b h. local-then all SameName SameTop name name _ _ names (λ x y p. local-then all SameType SameTop _ _ _ _ local-type (λ s t q. local-after all SameTop semicolon (free semicolon) _ _
      (local-nothing all SameTop (top.Alias x s a) (top.Alias y t b) (ap (λ v. top.Alias v (placeless_type s) 0) (same-word x y p) ∙ ap (λ v. top.Alias (placeless_word y) v 0) q))))))
      (local-then all Any SameTop _ _ _ _ (local-token all w.word_module (free w.word_module)) (λ a b h. local-then all SameName SameTop name name _ _ names (λ x y p. local-open all SameTop n m le open_paren (free open_paren) _ _ (local-then all (AllZip SameName) SameTop _ _ _ _ local-formals (λ xs ys q.
      local-after all SameTop close_paren (free close_paren) _ _ (local-open all SameTop n m le open_brace (free open_brace) _ _ (local-then all (AllZip SameItem) SameTop _ _ _ _ (local-many all SameItem _ _ l.body) (λ is js r. local-after all SameTop close_brace (free close_brace) _ _
      (local-nothing all SameTop (top.Module x xs is a) (top.Module y ys js b) (module-same x y xs ys is js a b p q r))))))))))))

pub inner-rules : (n m : ℕ) → n ≤ m → InnerRules (g.below (λ at. 0) n) (g.below (λ at. 0) m)
inner-rules zero m le = record {
  exprs = e.inner-exprs all unmarked placeless_forms behind_dot zero m le;
  type = λ ts a rest h. absurd h;
  field = λ ts a rest h. absurd h;
  condition = λ ts a rest h. absurd h;
  binder = λ ts a rest h. absurd h;
  stmt = λ ts a rest h. absurd h;
  arms = λ ts a rest h. absurd h;
  turns = λ ts a rest h. absurd h;
  ref = λ ts a rest h. absurd h;
  item = λ ts a rest h. absurd h;
  body = λ ts a rest h. absurd h;
}
inner-rules (suc n) zero le = absurd (omega (arith, le))
inner-rules (suc n) (suc m) le = let low : n ≤ m = omega (arith, le) in let l = inner-rules n m low in let inner = g.below (λ at. 0) n in let other = g.below (λ at. 0) m in record {
  exprs = e.inner-exprs all unmarked placeless_forms behind_dot (suc n) (suc m) le;
  type = local-type n m low inner other l;
  field = local-field n m low inner other l;
  condition = e.local-condition all unmarked placeless_forms behind_dot n m low inner other l.exprs;
  binder = local-binder n m low inner other l;
  stmt = local-stmt n m low inner other l;
  arms = local-arms n m low inner other l;
  turns = local-turns n m low inner other l;
  ref = local-used n m low inner other l;
  item = local-item n m low inner other l;
  body = local-body n m low inner other l;
}

pub local-text : (n m : ℕ) → n ≤ m → IsLocal T (AllZip SameTop) (g.text_rule (λ at. 0) n) (g.text_rule (λ at. 0) m)
local-text n m le = local-many all SameTop _ _ (local-top n m le (g.below (λ at. 0) n) (g.below (λ at. 0) m) (inner-rules n m le))
