-- What the rules of the grammar spell is written as the grammar has it.
use Rattle.std.proofs.Common.{◌≡◌, ℕ, zero, suc, Bool, true, false, cond, List, [], ◌∷◌, inl, inr, Option, Some, None, ap, subst}
use Rattle.std.specs.List.{AllByRecursion}
use Rattle.std.proofs.lemmas.Option.{same_Some}
use Rattle.smv_core.specs.declared.token.TokenKind.{TokenKind}
use Rattle.smv_core.specs.declared.tree.Word.{Word}
use Rattle.smv_core.specs.declared.tree.Expr.{Expr}
use Rattle.smv_core.specs.declared.tree.Expr.TheVariants as expr
use Rattle.smv_core.specs.declared.tree.Signed.{Signed}
use Rattle.smv_core.specs.declared.tree.Part.{Part}
use Rattle.smv_core.specs.declared.tree.Path.{out-Path}
use Rattle.smv_core.specs.declared.tree.TypeExpr.{TypeExpr}
use Rattle.smv_core.specs.declared.tree.TypeExpr.TheVariants as type
use Rattle.smv_core.specs.declared.tree.Stmt.{Stmt}
use Rattle.smv_core.specs.declared.tree.Arm.{Arm}
use Rattle.smv_core.specs.declared.tree.Kind.TheVariants as kind
use Rattle.smv_core.specs.declared.tree.Item.{Item, Declare, Instance, Layer, Claim, Split, Using, Act}
use Rattle.smv_core.specs.declared.tree.Item as item
use Rattle.smv_core.specs.declared.tree.Role.{Role}
use Rattle.smv_core.specs.declared.tree.Role.TheVariants as role
use Rattle.smv_core.specs.declared.tree.Pair.{Pair}
use Rattle.smv_core.specs.declared.tree.Text.{Text}
use Rattle.smv_core.specs.Signs.{comma, ampersand, bar, arrow}
use Rattle.smv_core.specs.Signs as w
use Rattle.smv_core.specs.Notation.{Tokens, Rule, found, same_kind, with_place, ◌>>◌, many, optional, token, name, separated, separated_or_none}
use Rattle.smv_core.specs.Grammar as g
use Rattle.smv_core.specs.Grammar.{Rules, no_rules, rules, below, chain, sum_of, named}
use Rattle.smv_core.specs.Spelling.{Spells}
use Rattle.smv_mentions.proofs.Computing.{computing}
use Rattle.law_designs.specs.Agreement.{IsIndexType}
use Rattle.law_designs.specs.Written.{HasOne, TypeIsWritten, IsSet, IsWritten, AreWritten, StatementIsWritten, InnerIsWritten, ItemIsWritten, TopIsWritten, TextIsWritten}
use Rattle.law_designs.proofs.WrittenForms.{FieldIsWritten, written-Struct, written-Array, written-field, PartIsWritten, PathIsWritten, MemberIsWritten, TermIsWritten, written-And, written-Or, written-Implies, written-List, written-Signal, written-Sum, written-Not, written-Modulo, written-Iff, written-Compare, written-Within, written-Choose, written-All, written-Any, IsWrittenOrNone, written-Each, set-List, set-Each, written-term, ArmIsWritten, OtherIsWritten, written-Assign, written-Block, written-If, written-Switch, written-Default, written-For, written-Forall, written-arm, inner-Block, inner-Forall}

-- what a rule spells has this property
abbrev pub Gives : {A : Type 0} → (A → Type 0) → Rule A → Type 0
Gives {A} P r = (ts : Tokens) (a : A) (rest : Tokens) → r ts a rest → P a

pub many-gives : {A : Type 0} (P : A → Type 0) (r : Rule A) → Gives P r → (ts : Tokens) (xs : List A) (rest : Tokens) → many r ts xs rest → AllByRecursion P xs
many-gives P r h ts [] rest x = tt
many-gives P r h ts (a ∷ more) rest x = (h ts a x.0 x.1, many-gives P r h x.0 more rest x.2)

pub separated-gives : {A : Type 0} (P : A → Type 0) (r : Rule A) → Gives P r → Gives (AllByRecursion P) (separated r)
separated-gives {A} P r h ts xs rest x =
    subst (AllByRecursion P) x.3.3.0 (h ts x.0 x.1 x.2, many-gives P (token comma >> r) (λ ts a rest y. h y.1 a rest y.3) x.1 x.3.0 x.3.1 x.3.2)

separated-one : {A : Type 0} (r : Rule A) → Gives HasOne (separated r)
separated-one r ts xs rest x = subst HasOne x.3.3.0 tt

pub or_none-gives : {A : Type 0} (P : A → Type 0) (r : Rule A) → Gives P r → Gives (AllByRecursion P) (separated_or_none r)
or_none-gives P r h ts xs rest (inl x) = separated-gives P r h ts xs rest x
or_none-gives P r h ts xs rest (inr x) = subst (AllByRecursion P) x.0 tt

-- ---- what opens no level

index-gives : Gives IsIndexType g.index
index-gives ts x rest (inl h) = subst IsIndexType h.3.0 tt
index-gives ts x rest (inr (inl h)) = subst IsIndexType h.3.0 tt
index-gives ts x rest (inr (inr h)) = subst IsIndexType h.3.0 tt

named-path : (word : Word) (parts : List Part) → AllByRecursion PartIsWritten parts → PathIsWritten (named word parts)
unfolding computing
named-path word parts h = (tt, h)

label-gives : Gives IsWritten g.label
label-gives ts x rest (inl h) = subst IsWritten h.3.0 tt
label-gives ts x rest (inr h) = subst IsWritten h.3.0 (written-Signal (named h.0 []) (named-path h.0 [] tt))

index-type : (over : TypeExpr) → IsIndexType over → TypeIsWritten over
index-type type.Boolean i = tt
index-type (type.Range span at) i = tt
index-type (type.Named word at) i = tt
index-type _ i = absurd i

index-shape : (ts : Tokens) (x : TypeExpr) (rest : Tokens) → g.index ts x rest → TypeIsWritten x
index-shape ts x rest (inl h) = subst TypeIsWritten h.3.0 tt
index-shape ts x rest (inr (inl h)) = subst TypeIsWritten h.3.0 tt
index-shape ts x rest (inr (inr h)) = subst TypeIsWritten h.3.0 tt

chain-written : (make : List Expr → Expr) → ((es : List Expr) → AreWritten es → IsWritten (make es)) → (x : Expr) (more : List Expr) → IsWritten x → AreWritten more → IsWritten (chain make x more)
chain-written make m x [] h k = h
chain-written make m x (y ∷ more) h k = m (x ∷ y ∷ more) (h, k)

sum-written : (x : Expr) (more : List Signed) → IsWritten x → AllByRecursion TermIsWritten more → IsWritten (sum_of x more)
sum-written x [] h k = h
sum-written x (y ∷ more) h k = written-Sum x (y ∷ more) h k

inner-item : (x : Item) → InnerIsWritten x → ItemIsWritten x
inner-item (Declare role words of at) h = absurd h
inner-item (Instance words name args at) h = absurd h
inner-item (Layer name body at) h = absurd h
inner-item (item.Forall' var over shape body at) h = h
inner-item (item.Block' shape items) h = h
inner-item (Claim name vars body at) h = h
inner-item (Split name vars of pairs at) h = h
inner-item (Using uses proves at) h = h
inner-item (Act act) h = h

pub with_place-first : {A : Type 0} (at : ℕ) (o : Option A) (a : A × ℕ) → with_place at o ≡ Some a → o ≡ Some a.0
with_place-first at None a e = absurd (cc (e))
with_place-first {A} at (Some x) a e = ap (λ (p : A × ℕ). Some p.0) (same_Some (x, at) a e)

-- ---- the levels

-- what stands inside a level is written
pub record AreGood (r : Rules) : Type 0 where
  pub expr_good : Gives IsWritten r.expr
  pub negation_good : Gives IsWritten r.negation
  pub member_good : Gives MemberIsWritten r.member
  pub path_good : Gives PathIsWritten r.path
  pub type_good : Gives TypeIsWritten r.type
  pub field_good : Gives FieldIsWritten r.field
  pub condition_good : Gives IsWritten r.condition
  pub binder_good : Gives (λ (b : Word × TypeExpr). IsIndexType b.1) r.binder
  pub stmt_good : Gives StatementIsWritten r.stmt
  pub arms_good : Gives (λ (a : List Arm × Option Stmt). AllByRecursion ArmIsWritten a.0 × OtherIsWritten a.1) r.arms
  pub item_good : Gives InnerIsWritten r.item
  pub body_good : Gives ItemIsWritten r.body

module _ (floor : ℕ → ℕ) (n : ℕ) (inner : Rules) (good : AreGood inner) where
  -- ---- types

  type-gives : Gives TypeIsWritten (g.type_rule floor n inner)
  type-gives ts x rest (inl h) = index-shape ts x rest h
  type-gives ts x rest (inr (inl h)) = subst TypeIsWritten h.3.3.3.0 (separated-one name h.1 h.3.0 h.3.1 h.3.2)
  type-gives ts x rest (inr (inr (inl h))) =
      let of = h.3.3.3 in
      subst TypeIsWritten of.3.0 (written-Array h.3.0 of.0 (index-gives h.1 h.3.0 h.3.1 h.3.2) (good.type_good h.3.3.1 of.0 of.1 of.2))
  type-gives ts x rest (inr (inr (inr h))) =
      let fields = h.3.3 in
      subst TypeIsWritten fields.3.3.0 (written-Struct fields.0 (many-gives FieldIsWritten inner.field good.field_good h.3.1 fields.0 fields.1 fields.2))

  field-gives : Gives FieldIsWritten (g.field_rule floor n inner)
  field-gives ts x rest h =
      let of = h.3.3 in
      subst FieldIsWritten of.3.3.0 (written-field h.0 of.0 (g.place_of h.0) (type-gives h.3.1 of.0 of.1 of.2))

  -- ---- paths

  part-gives : Gives PartIsWritten (g.part_rule floor n inner)
  part-gives ts x rest (inl h) = subst PartIsWritten h.3.3.0 tt
  part-gives ts x rest (inr h) = subst PartIsWritten h.3.3.3.0 (good.expr_good h.1 h.3.0 h.3.1 h.3.2)

  path-gives : Gives PathIsWritten (g.path_rule floor n inner)
  path-gives ts x rest h = subst PathIsWritten h.3.3.0 (named-path h.0 h.3.0 (many-gives PartIsWritten (g.part_rule floor n inner) part-gives h.1 h.3.0 h.3.1 h.3.2))

  -- ---- expressions

  condition-gives : Gives IsWritten (g.condition_rule floor n inner)
  condition-gives ts x rest h = subst IsWritten h.3.3.3.0 (good.expr_good h.1 h.3.0 h.3.1 h.3.2)

  condition-held : (ts : Tokens) (o : Option Expr) (rest : Tokens) → optional (token comma >> inner.expr) ts o rest → IsWrittenOrNone o
  condition-held ts o rest (inl h) = subst IsWrittenOrNone h.3.0 (good.expr_good h.2.1 h.0 h.1 h.2.3)
  condition-held ts o rest (inr h) = subst IsWrittenOrNone h.0 tt

  set-gives : Gives (λ x. IsWritten x × IsSet x) (g.set floor n inner)
  set-gives ts x rest (inl h) =
      subst (λ x. IsWritten x × IsSet x) h.3.3.3.0 (written-List h.3.0 h.0 (separated-one inner.member h.1 h.3.0 h.3.1 h.3.2) (separated-gives MemberIsWritten inner.member good.member_good h.1 h.3.0 h.3.1 h.3.2), set-List h.3.0 h.0)
  set-gives ts x rest (inr h) =
      let var = h.3 in
      let over = var.3.3.3.3 in
      let cond = over.3 in
      subst (λ x. IsWritten x × IsSet x) cond.3.3.0
      (written-Each var.0 over.0 cond.0 h.0 (index-gives var.3.3.3.1 over.0 over.1 over.2) (condition-held over.1 cond.0 cond.1 cond.2), set-Each var.0 over.0 cond.0 h.0)

  reduction-make : (k : TokenKind) (make : Expr → Word → TypeExpr → ℕ → Expr) → found ((ampersand, expr.All) ∷ (bar, expr.Any) ∷ []) k ≡ Some make →
      (body : Expr) (var : Word) (over : TypeExpr) (at : ℕ) → IsWritten body → IsIndexType over → IsWritten (make body var over at)
  reduction-make k make e body var over at h i = by_tests (same_kind k ampersand) (same_kind k bar) e
    where
      by_tests : (b c : Bool) → cond b (Some expr.All) (cond c (Some expr.Any) None) ≡ Some make → IsWritten (make body var over at)
      by_tests true c e = let same : expr.All ≡ make = cc in subst (λ (m : Expr → Word → TypeExpr → ℕ → Expr). IsWritten (m body var over at)) same (written-All body var over at h i)
      by_tests false true e = let same : expr.Any ≡ make = cc in subst (λ (m : Expr → Word → TypeExpr → ℕ → Expr). IsWritten (m body var over at)) same (written-Any body var over at h i)
      by_tests false false e = absurd (cc (e))

  reduction-gives : Gives IsWritten (g.reduction floor n inner)
  reduction-gives [] x rest h = absurd h.2
  reduction-gives (t ∷ ts) x rest h =
      let body = h.3.3 in
      let var = body.3.3 in
      let over = var.3.3 in
      subst IsWritten over.3.3.0
      (reduction-make t.kind h.0.0 (with_place-first t.at (found ((ampersand, expr.All) ∷ (bar, expr.Any) ∷ []) t.kind) h.0 h.2.0) body.0 var.0 over.0 h.0.1 (good.expr_good h.3.1 body.0 body.1 body.2) (index-gives var.3.1 over.0 over.1 over.2))

  prim-gives : Gives IsWritten (g.prim floor n inner)
  prim-gives ts x rest (inl h) = subst IsWritten h.3.0 tt
  prim-gives ts x rest (inr (inl h)) = subst IsWritten h.3.0 (written-Signal h.0 (path-gives ts h.0 h.1 h.2))
  prim-gives ts x rest (inr (inr (inl h))) = condition-gives ts x rest h
  prim-gives ts x rest (inr (inr (inr (inl h)))) = (set-gives ts x rest h).0
  prim-gives ts x rest (inr (inr (inr (inr h)))) = reduction-gives ts x rest h

  signed-gives : Gives TermIsWritten (g.signed floor n inner)
  signed-gives ts x rest h = subst TermIsWritten h.3.3.0 (written-term h.0.0 h.3.0 (prim-gives h.1 h.3.0 h.3.1 h.3.2))

  sum-gives : Gives IsWritten (g.sum floor n inner)
  sum-gives ts x rest h = subst IsWritten h.3.3.0 (sum-written h.0 h.3.0 (prim-gives ts h.0 h.1 h.2) (many-gives TermIsWritten (g.signed floor n inner) signed-gives h.1 h.3.0 h.3.1 h.3.2))

  modulo-gives : Gives IsWritten (g.modulo floor n inner)
  modulo-gives ts x rest (y, middle, own, inl k) = subst IsWritten k.3.3.0 (written-Modulo y k.3.0.0 k.3.0.1 (sum-gives ts y middle own))
  modulo-gives ts x rest (y, middle, own, inr k) = subst IsWritten k.0 (sum-gives ts y middle own)

  comparison-gives : Gives IsWritten (g.comparison floor n inner)
  comparison-gives ts x rest (y, middle, own, inl k) = subst IsWritten k.3.3.0 (written-Compare k.0.0 y k.3.0 (modulo-gives ts y middle own) (modulo-gives k.1 k.3.0 k.3.1 k.3.2))
  comparison-gives ts x rest (y, middle, own, inr (inl k)) =
      let s = set-gives k.1 k.3.0 k.3.1 k.3.2 in
      subst IsWritten k.3.3.0 (written-Within y k.3.0 (modulo-gives ts y middle own) s.0 s.1)
  comparison-gives ts x rest (y, middle, own, inr (inr k)) = subst IsWritten k.0 (modulo-gives ts y middle own)

  negation-gives : Gives IsWritten (g.negation_rule floor n inner)
  negation-gives ts x rest (inl h) = subst IsWritten h.3.3.0 (written-Not h.3.0 h.0 (good.negation_good h.1 h.3.0 h.3.1 h.3.2))
  negation-gives ts x rest (inr h) = comparison-gives ts x rest h

  chained-gives : (k : TokenKind) (make : List Expr → Expr) → ((es : List Expr) → AreWritten es → IsWritten (make es)) → (r : Rule Expr) → Gives IsWritten r → Gives IsWritten (g.chained floor n inner k make r)
  chained-gives k make m r own ts x rest h =
      subst IsWritten h.3.3.0 (chain-written make m h.0 h.3.0 (own ts h.0 h.1 h.2) (many-gives IsWritten (token k >> r) (λ ts a rest y. own y.1 a rest y.3) h.1 h.3.0 h.3.1 h.3.2))

  conjunction-gives : Gives IsWritten (g.conjunction floor n inner)
  conjunction-gives = chained-gives ampersand expr.And written-And (g.negation_rule floor n inner) negation-gives

  disjunction-gives : Gives IsWritten (g.disjunction floor n inner)
  disjunction-gives = chained-gives bar expr.Or written-Or (g.conjunction floor n inner) conjunction-gives

  implication-gives : Gives IsWritten (g.implication floor n inner)
  implication-gives = chained-gives arrow expr.Implies written-Implies (g.disjunction floor n inner) disjunction-gives

  equivalence-gives : Gives IsWritten (g.equivalence floor n inner)
  equivalence-gives ts x rest (y, middle, own, inl k) = subst IsWritten k.3.3.0 (written-Iff y k.3.0 (implication-gives ts y middle own) (implication-gives k.1 k.3.0 k.3.1 k.3.2))
  equivalence-gives ts x rest (y, middle, own, inr k) = subst IsWritten k.0 (implication-gives ts y middle own)

  expr-gives : Gives IsWritten (g.expr_rule floor n inner)
  expr-gives ts x rest (y, middle, own, inl k) =
      let left = k.3 in
      let right = left.3.3 in
      subst IsWritten right.3.0 (written-Choose y left.0 right.0 (equivalence-gives ts y middle own) (good.expr_good k.1 left.0 left.1 left.2) (good.expr_good left.3.1 right.0 right.1 right.2))
  expr-gives ts x rest (y, middle, own, inr k) = subst IsWritten k.0 (equivalence-gives ts y middle own)

  member-gives : Gives MemberIsWritten (g.member_rule floor n inner)
  member-gives ts x rest (inl h) = subst MemberIsWritten h.3.0 (expr-gives ts h.0 h.1 h.2)
  member-gives ts x rest (inr h) = subst MemberIsWritten h.3.0 tt

  -- ---- statements

  binder-gives : Gives (λ (b : Word × TypeExpr). IsIndexType b.1) (g.binder_rule floor n inner)
  binder-gives ts x rest h =
      let over = h.3.3.3 in
      subst (λ (b : Word × TypeExpr). IsIndexType b.1) over.3.3.0 (index-gives h.3.3.1 over.0 over.1 over.2)

  value-gives : Gives IsWritten (g.value floor n inner)
  value-gives ts x rest h = subst IsWritten h.3.3.3.0 (expr-gives h.1 h.3.0 h.3.1 h.3.2)

  assignment-gives : Gives StatementIsWritten (g.assignment floor n inner)
  assignment-gives ts x rest h = subst StatementIsWritten h.3.3.0 (written-Assign kind.Comb h.0 h.3.0 (out-Path h.0).at (path-gives ts h.0 h.1 h.2) (value-gives h.1 h.3.0 h.3.1 h.3.2))

  timed-gives : Gives StatementIsWritten (g.timed floor n inner)
  timed-gives ts x rest h =
      let path = h.3.3 in
      let right = path.3.3 in
      subst StatementIsWritten right.3.0 (written-Assign h.0.0 path.0 right.0 h.0.1 (good.path_good h.3.1 path.0 path.1 path.2) (value-gives path.3.1 right.0 right.1 right.2))

  otherwise-held : (first : Stmt) (ts : Tokens) (o : Option Stmt) (rest : Tokens) → optional (g.otherwise floor n inner first) ts o rest → OtherIsWritten o
  otherwise-held first ts o rest (inl h) = subst OtherIsWritten h.3.0 (good.stmt_good h.2.1.1 h.0 h.1 h.2.1.3)
  otherwise-held first ts o rest (inr h) = subst OtherIsWritten h.0 tt

  if-gives : Gives StatementIsWritten (g.if_rule floor n inner)
  if-gives ts x rest h =
      let cond = h.3 in
      let yes = cond.3 in
      let no = yes.3 in
      subst StatementIsWritten no.3.0
      (written-If cond.0 yes.0 no.0 h.0 (good.condition_good h.1 cond.0 cond.1 cond.2) (good.stmt_good cond.1 yes.0 yes.1 yes.2) (otherwise-held yes.0 yes.1 no.0 no.1 no.2))

  arm-gives : Gives ArmIsWritten (g.arm floor n inner)
  arm-gives ts x rest h =
      let body = h.3.3 in
      subst ArmIsWritten body.3.0 (written-arm h.0 body.0 (separated-gives IsWritten g.label label-gives ts h.0 h.1 h.2) (good.stmt_good h.3.1 body.0 body.1 body.2))

  default-held : (ts : Tokens) (o : Option Stmt) (rest : Tokens) → optional (token w.word_default >> token w.colon >> inner.stmt) ts o rest → OtherIsWritten o
  default-held ts o rest (inl h) = subst OtherIsWritten h.3.0 (good.stmt_good h.2.3.1 h.0 h.1 h.2.3.3)
  default-held ts o rest (inr h) = subst OtherIsWritten h.0 tt

  arms-gives : Gives (λ (a : List Arm × Option Stmt). AllByRecursion ArmIsWritten a.0 × OtherIsWritten a.1) (g.arms_rule floor n inner)
  arms-gives ts x rest h =
      let arms = h.3 in
      let other = arms.3 in
      subst (λ (a : List Arm × Option Stmt). AllByRecursion ArmIsWritten a.0 × OtherIsWritten a.1) other.3.3.0
      (many-gives ArmIsWritten (g.arm floor n inner) arm-gives h.1 arms.0 arms.1 arms.2, default-held arms.1 other.0 other.1 other.2)

  switch-gives : Gives StatementIsWritten (g.switch floor n inner)
  switch-gives ts x rest h =
      let on = h.3 in
      let arms = on.3 in
      let inside = good.arms_good on.1 arms.0 arms.1 arms.2 in
      subst StatementIsWritten arms.3.0 (written-Switch on.0 arms.0.0 arms.0.1 h.0 (good.condition_good h.1 on.0 on.1 on.2) inside.0 inside.1)

  default-gives : Gives StatementIsWritten (g.default floor n inner)
  default-gives ts x rest h =
      let left = h.3 in
      let right = left.3.3 in
      subst StatementIsWritten right.3.0 (written-Default left.0 right.0 h.0 (good.stmt_good h.1 left.0 left.1 left.2) (good.stmt_good left.3.1 right.0 right.1 right.2))

  for-gives : Gives StatementIsWritten (g.for floor n inner)
  for-gives ts x rest h =
      let turns = h.3 in
      let body = turns.3 in
      subst StatementIsWritten body.3.0 (written-For turns.0.var turns.0.from turns.0.to turns.0.closed turns.0.step body.0 h.0 (good.stmt_good turns.1 body.0 body.1 body.2))

  simple-gives : Gives StatementIsWritten (g.simple floor n inner)
  simple-gives ts x rest (inl h) = assignment-gives ts x rest h
  simple-gives ts x rest (inr (inl h)) = timed-gives ts x rest h
  simple-gives ts x rest (inr (inr (inl h))) = if-gives ts x rest h
  simple-gives ts x rest (inr (inr (inr (inl h)))) = switch-gives ts x rest h
  simple-gives ts x rest (inr (inr (inr (inr (inl h))))) = default-gives ts x rest h
  simple-gives ts x rest (inr (inr (inr (inr (inr h))))) = for-gives ts x rest h

  stmt-gives : Gives StatementIsWritten (g.stmt_rule floor n inner)
  stmt-gives ts x rest (inl h) =
      let binder = h.3 in
      let body = binder.3 in
      subst StatementIsWritten body.3.0 (written-Forall binder.0.0 binder.0.1 body.0 h.0 (good.binder_good h.1 binder.0 binder.1 binder.2) (good.stmt_good binder.1 body.0 body.1 body.2))
  stmt-gives ts x rest (inr (inl h)) = subst StatementIsWritten h.3.3.3.0 (written-Block h.3.0 (many-gives StatementIsWritten inner.stmt good.stmt_good h.1 h.3.0 h.3.1 h.3.2))
  stmt-gives ts x rest (inr (inr h)) = simple-gives ts x rest h

  -- ---- items

  pair-gives : Gives (λ (pair : Pair). IsWritten pair.left) (g.pair floor n inner)
  pair-gives [] pair rest h = absurd h.2
  pair-gives (t ∷ ts) pair rest h = subst (λ (pair : Pair). IsWritten pair.left) h.3.3.3.0 (sum-gives (t ∷ ts) h.0.0 h.1 h.2.0)

  item-gives : Gives InnerIsWritten (g.item_rule floor n inner)
  item-gives ts x rest (inl h) =
      let binder = h.3 in
      let body = binder.3 in
      subst InnerIsWritten body.3.0 (inner-Forall binder.0.0 binder.0.1 body.0 h.0 (good.binder_good h.1 binder.0 binder.1 binder.2) (good.item_good binder.1 body.0 body.1 body.2))
  item-gives ts x rest (inr (inl h)) = subst InnerIsWritten h.3.3.3.0 (inner-Block h.3.0 (many-gives InnerIsWritten inner.item good.item_good h.1 h.3.0 h.3.1 h.3.2))
  item-gives ts x rest (inr (inr (inl h))) =
      let body = h.3.3.3.3.3 in
      subst InnerIsWritten body.3.3.0 (expr-gives h.3.3.3.3.1 body.0 body.1 body.2)
  item-gives ts x rest (inr (inr (inr (inl h)))) =
      let pairs = h.3.3.3.3.3.3 in
      subst InnerIsWritten pairs.3.3.0 (separated-gives (λ (pair : Pair). IsWritten pair.left) (g.pair floor n inner) pair-gives h.3.3.3.3.3.1 pairs.0 pairs.1 pairs.2)
  item-gives ts x rest (inr (inr (inr (inr (inl h))))) = subst InnerIsWritten h.3.3.3.3.3.0 tt
  item-gives ts x rest (inr (inr (inr (inr (inr h))))) = subst InnerIsWritten h.3.0 (simple-gives ts h.0 h.1 h.2)

  declared-gives : (how : Role) (at : List Word → ℕ) → Gives ItemIsWritten (g.declared floor n inner how at)
  declared-gives how at ts x rest h =
      let of = h.3.3 in
      subst ItemIsWritten of.3.3.0 (type-gives h.3.1 of.0 of.1 of.2)

  declaration-gives : Gives ItemIsWritten (g.declaration floor n inner)
  declaration-gives ts x rest (inl h) = declared-gives h.0.0 (λ names. h.0.1) h.1 x rest h.3
  declaration-gives ts x rest (inr h) = declared-gives role.Plain g.place_of ts x rest h

  instance-gives : Gives ItemIsWritten (g.instance floor n inner)
  instance-gives ts x rest h =
      let args = h.3.3.3.3 in
      subst ItemIsWritten args.3.3.3.0 (or_none-gives IsWritten inner.expr good.expr_good h.3.3.3.1 args.0 args.1 args.2)

  layer-gives : Gives ItemIsWritten (g.layer floor n inner)
  layer-gives ts x rest h =
      let body = h.3.3.3.3 in
      subst ItemIsWritten body.3.3.0 (many-gives StatementIsWritten inner.stmt good.stmt_good h.3.3.3.1 body.0 body.1 body.2)

  body-gives : Gives ItemIsWritten (g.body_rule floor n inner)
  body-gives ts x rest (inl h) = declaration-gives ts x rest h
  body-gives ts x rest (inr (inl h)) = instance-gives ts x rest h
  body-gives ts x rest (inr (inr (inl h))) = layer-gives ts x rest h
  body-gives ts x rest (inr (inr (inr h))) = inner-item x (item-gives ts x rest h)

  -- ---- the text

  pub top-gives : Gives TopIsWritten (g.top_rule floor n inner)
  top-gives ts x rest (inl h) = subst TopIsWritten h.3.3.3.3.0 tt
  top-gives ts x rest (inr (inl h)) = subst TopIsWritten h.3.3.3.3.0 tt
  top-gives ts x rest (inr (inr (inl h))) =
      let of = h.3.3 in
      subst TopIsWritten of.3.3.0 (type-gives h.3.1 of.0 of.1 of.2)
  top-gives ts x rest (inr (inr (inr h))) =
      let items = h.3.3.3.3.3.3 in
      subst TopIsWritten items.3.3.0 (many-gives ItemIsWritten inner.body good.body_good h.3.3.3.3.3.1 items.0 items.1 items.2)

  pub rules-good : AreGood (rules floor n inner)
  rules-good = record {
    expr_good = expr-gives;
    negation_good = negation-gives;
    member_good = member-gives;
    path_good = path-gives;
    type_good = type-gives;
    field_good = field-gives;
    condition_good = condition-gives;
    binder_good = binder-gives;
    stmt_good = stmt-gives;
    arms_good = arms-gives;
    item_good = item-gives;
    body_good = body-gives;
  }

none-good : AreGood no_rules
none-good = record {
  expr_good = λ ts x rest h. absurd h;
  negation_good = λ ts x rest h. absurd h;
  member_good = λ ts x rest h. absurd h;
  path_good = λ ts x rest h. absurd h;
  type_good = λ ts x rest h. absurd h;
  field_good = λ ts x rest h. absurd h;
  condition_good = λ ts x rest h. absurd h;
  binder_good = λ ts x rest h. absurd h;
  stmt_good = λ ts x rest h. absurd h;
  arms_good = λ ts x rest h. absurd h;
  item_good = λ ts x rest h. absurd h;
  body_good = λ ts x rest h. absurd h;
}

below-good : (floor : ℕ → ℕ) (n : ℕ) → AreGood (below floor n)
below-good floor zero = none-good
below-good floor (suc n) = rules-good floor n (below floor n) (below-good floor n)

-- a text that is spelled is written as the grammar has it
pub spelled-written : (n : ℕ) (ts : Tokens) (text : Text) → Spells n ts text → TextIsWritten text
unfolding Spells
spelled-written n ts text h = many-gives TopIsWritten (g.top_rule (λ at. 0) n (below (λ at. 0) n)) (top-gives (λ at. 0) n (below (λ at. 0) n) (below-good (λ at. 0) n)) ts text.tops [] h
