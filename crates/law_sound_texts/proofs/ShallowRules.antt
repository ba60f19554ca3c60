-- What the rules of the grammar spell within at most 65,536 levels is shallow: each binder opens a level.
use Rattle.std.proofs.Common.{◌≡◌, ◌<◌, ◌≤◌, ℕ, zero, suc, ◌+◌, Bool, true, false, cond, List, [], ◌∷◌, inl, inr, Option, Some, None, subst, arith}
use Rattle.std.specs.List.{AllByRecursion}
use Rattle.smv_core.specs.declared.token.TokenKind.{TokenKind}
use Rattle.smv_core.specs.declared.tree.Word.{Word}
use Rattle.smv_core.specs.declared.tree.Expr.{Expr}
use Rattle.smv_core.specs.declared.tree.Expr.TheVariants as expr
use Rattle.smv_core.specs.declared.tree.Signed.{Signed}
use Rattle.smv_core.specs.declared.tree.Part.{Part}
use Rattle.smv_core.specs.declared.tree.Path.{out-Path}
use Rattle.smv_core.specs.declared.tree.Pair.{Pair}
use Rattle.smv_core.specs.declared.tree.TypeExpr.{TypeExpr}
use Rattle.smv_core.specs.declared.tree.Stmt.{Stmt}
use Rattle.smv_core.specs.declared.tree.Arm.{Arm}
use Rattle.smv_core.specs.declared.tree.Kind.TheVariants as kind
use Rattle.smv_core.specs.declared.tree.Item.{Item, Declare, Instance, Layer, Claim, Split, Using, Act}
use Rattle.smv_core.specs.declared.tree.Item as item
use Rattle.smv_core.specs.declared.tree.Role.{Role}
use Rattle.smv_core.specs.declared.tree.Role.TheVariants as role
use Rattle.smv_core.specs.declared.tree.Text.{Text}
use Rattle.smv_core.specs.Signs.{comma, ampersand, bar, arrow}
use Rattle.smv_core.specs.Signs as w
use Rattle.smv_core.specs.Notation.{Tokens, Rule, found, same_kind, ◌>>◌, many, optional, token}
use Rattle.smv_core.specs.Grammar as g
use Rattle.smv_core.specs.Grammar.{Rules, no_rules, rules, below, chain, sum_of, named}
use Rattle.smv_core.specs.Spelling.{Spells}
use Rattle.smv_mentions.proofs.Computing.{computing}
use Rattle.law_designs.proofs.WrittenRules.{Gives, many-gives, separated-gives, or_none-gives, with_place-first}
use Rattle.law_sound_texts.proofs.Shallow.{most, IsShallow, AreShallow, StatementIsShallow, InnerIsShallow, ItemIsShallow, TopIsShallow, TextIsShallow}
use Rattle.law_sound_texts.proofs.ShallowForms.{PartIsShallow, PathIsShallow, MemberIsShallow, TermIsShallow, shallow-And, shallow-Or, shallow-Implies, shallow-List, shallow-Signal, shallow-Sum, shallow-Not, shallow-Modulo, shallow-Iff, shallow-Compare, shallow-Within, shallow-Choose, shallow-All, shallow-Any, IsShallowOrNone, shallow-Each, shallow-term, ArmIsShallow, OtherIsShallow, shallow-Assign, shallow-Block, shallow-If, shallow-Switch, shallow-Default, shallow-For, shallow-Forall, shallow-arm, shallow_inner-Block, shallow_inner-Forall}

module _ (around : ℕ) where
  named-path : (word : Word) (parts : List Part) → AllByRecursion (PartIsShallow around) parts → (PathIsShallow around) (named word parts)
  unfolding computing
  named-path word parts h = (tt, h)

  label-gives : Gives (IsShallow around) g.label
  label-gives ts x rest (inl h) = subst (IsShallow around) h.3.0 tt
  label-gives ts x rest (inr h) = subst (IsShallow around) h.3.0 (shallow-Signal around (named h.0 []) (named-path h.0 [] tt))

  chain-written : (make : List Expr → Expr) → ((es : List Expr) → (AreShallow around) es → (IsShallow around) (make es)) → (x : Expr) (more : List Expr) → (IsShallow around) x → (AreShallow around) more → (IsShallow around) (chain make x more)
  chain-written make m x [] h g = h
  chain-written make m x (y ∷ more) h g = m (x ∷ y ∷ more) (h, g)

  sum-written : (x : Expr) (more : List Signed) → (IsShallow around) x → AllByRecursion (TermIsShallow around) more → (IsShallow around) (sum_of x more)
  sum-written x [] h g = h
  sum-written x (y ∷ more) h g = shallow-Sum around x (y ∷ more) h g

inner-item : (x : Item) → InnerIsShallow 0 x → ItemIsShallow x
inner-item (Declare role words of at) h = absurd h
inner-item (Instance words name args at) h = absurd h
inner-item (Layer name body at) h = absurd h
inner-item (item.Forall' var over shape body at) h = h
inner-item (item.Block' shape items) h = h
inner-item (Claim name vars body at) h = h
inner-item (Split name vars of pairs at) h = h
inner-item (Using uses proves at) h = h
inner-item (Act act) h = h

-- ---- the levels

-- what stands inside a level is shallow, with so many variables around that they and the levels that are left are at most 65,536
pub record AreGood (n : ℕ) (r : Rules) : Type 0 where
  pub expr_good : (k : ℕ) → k + n ≤ suc most → Gives (IsShallow k) r.expr
  pub negation_good : (k : ℕ) → k + n ≤ suc most → Gives (IsShallow k) r.negation
  pub member_good : (k : ℕ) → k + n ≤ suc most → Gives (MemberIsShallow k) r.member
  pub path_good : (k : ℕ) → k + n ≤ suc most → Gives (PathIsShallow k) r.path
  pub condition_good : (k : ℕ) → k + n ≤ suc most → Gives (IsShallow k) r.condition
  pub stmt_good : (k : ℕ) → k + n ≤ suc most → Gives (StatementIsShallow k) r.stmt
  pub arms_good : (k : ℕ) → k + n ≤ suc most → Gives (λ (a : List Arm × Option Stmt). AllByRecursion (ArmIsShallow k) a.0 × OtherIsShallow k a.1) r.arms
  pub item_good : (k : ℕ) → k + n ≤ suc most → Gives (InnerIsShallow k) r.item
  pub body_good : n ≤ suc most → Gives ItemIsShallow r.body

lower : (around n : ℕ) → around + n ≤ most → around + n ≤ suc most
lower around n le = omega (arith, le)

deeper : (around n : ℕ) → around + n ≤ most → suc around + n ≤ suc most
deeper around n le = omega (arith, le)

-- what opens a level may bind a variable
room : (around n kept : ℕ) → around + n ≤ most → kept < n → around < most
room around n kept le lt = omega (arith, le, lt)

module _ (floor : ℕ → ℕ) (n : ℕ) (inner : Rules) (good : AreGood n inner) (around : ℕ) (le : around + n ≤ most) where
  -- ---- paths

  part-gives : Gives (PartIsShallow around) (g.part_rule floor n inner)
  part-gives ts x rest (inl h) = subst (PartIsShallow around) h.3.3.0 tt
  part-gives ts x rest (inr h) = subst (PartIsShallow around) h.3.3.3.0 ((good.expr_good around (lower around n le)) h.1 h.3.0 h.3.1 h.3.2)

  path-gives : Gives (PathIsShallow around) (g.path_rule floor n inner)
  path-gives ts x rest h = subst (PathIsShallow around) h.3.3.0 (named-path around h.0 h.3.0 (many-gives (PartIsShallow around) (g.part_rule floor n inner) part-gives h.1 h.3.0 h.3.1 h.3.2))

  -- ---- expressions

  condition-gives : Gives (IsShallow around) (g.condition_rule floor n inner)
  condition-gives ts x rest h = subst (IsShallow around) h.3.3.3.0 ((good.expr_good around (lower around n le)) h.1 h.3.0 h.3.1 h.3.2)

  condition-held : (ts : Tokens) (o : Option Expr) (rest : Tokens) → optional (token comma >> inner.expr) ts o rest → (IsShallowOrNone around) o
  condition-held ts o rest (inl h) = subst (IsShallowOrNone around) h.3.0 (good.expr_good (suc around) (deeper around n le) h.2.1 h.0 h.1 h.2.3)
  condition-held ts o rest (inr h) = subst (IsShallowOrNone around) h.0 tt

  set-gives : Gives (IsShallow around) (g.set floor n inner)
  set-gives ts x rest (inl h) =
      subst (IsShallow around) h.3.3.3.0 (shallow-List around h.3.0 h.0 (separated-gives (MemberIsShallow around) inner.member (good.member_good around (lower around n le)) h.1 h.3.0 h.3.1 h.3.2))
  set-gives ts x rest (inr h) =
      let var = h.3 in
      let over = var.3.3.3.3 in
      let cond = over.3 in
      subst (IsShallow around) cond.3.3.0
      (shallow-Each around var.0 over.0 cond.0 h.0 (room around n (floor h.2.0) le h.2.3.2.0) (condition-held over.1 cond.0 cond.1 cond.2))

  reduction-make : (k : TokenKind) (make : Expr → Word → TypeExpr → ℕ → Expr) → found ((ampersand, expr.All) ∷ (bar, expr.Any) ∷ []) k ≡ Some make →
      (body : Expr) (var : Word) (over : TypeExpr) (at : ℕ) → around < most → IsShallow (suc around) body → IsShallow around (make body var over at)
  reduction-make k make e body var over at i h = by_tests (same_kind k ampersand) (same_kind k bar) e
    where
      by_tests : (b c : Bool) → cond b (Some expr.All) (cond c (Some expr.Any) None) ≡ Some make → IsShallow around (make body var over at)
      by_tests true c e = let same : expr.All ≡ make = cc in subst (λ (m : Expr → Word → TypeExpr → ℕ → Expr). IsShallow around (m body var over at)) same (shallow-All around body var over at i h)
      by_tests false true e = let same : expr.Any ≡ make = cc in subst (λ (m : Expr → Word → TypeExpr → ℕ → Expr). IsShallow around (m body var over at)) same (shallow-Any around body var over at i h)
      by_tests false false e = absurd (cc (e))

  reduction-gives : Gives (IsShallow around) (g.reduction floor n inner)
  reduction-gives [] x rest h = absurd h.2
  reduction-gives (t ∷ ts) x rest h =
      let body = h.3.3 in
      let var = body.3.3 in
      let over = var.3.3 in
      subst (IsShallow around) over.3.3.0
      (reduction-make t.kind h.0.0 (with_place-first t.at (found ((ampersand, expr.All) ∷ (bar, expr.Any) ∷ []) t.kind) h.0 h.2.0) body.0 var.0 over.0 h.0.1 (room around n (floor h.3.2.0) le h.3.2.3.2.0) (good.expr_good (suc around) (deeper around n le) h.3.1 body.0 body.1 body.2))

  prim-gives : Gives (IsShallow around) (g.prim floor n inner)
  prim-gives ts x rest (inl h) = subst (IsShallow around) h.3.0 tt
  prim-gives ts x rest (inr (inl h)) = subst (IsShallow around) h.3.0 (shallow-Signal around h.0 (path-gives ts h.0 h.1 h.2))
  prim-gives ts x rest (inr (inr (inl h))) = condition-gives ts x rest h
  prim-gives ts x rest (inr (inr (inr (inl h)))) = set-gives ts x rest h
  prim-gives ts x rest (inr (inr (inr (inr h)))) = reduction-gives ts x rest h

  signed-gives : Gives (TermIsShallow around) (g.signed floor n inner)
  signed-gives ts x rest h = subst (TermIsShallow around) h.3.3.0 (shallow-term around h.0.0 h.3.0 (prim-gives h.1 h.3.0 h.3.1 h.3.2))

  sum-gives : Gives (IsShallow around) (g.sum floor n inner)
  sum-gives ts x rest h = subst (IsShallow around) h.3.3.0 (sum-written around h.0 h.3.0 (prim-gives ts h.0 h.1 h.2) (many-gives (TermIsShallow around) (g.signed floor n inner) signed-gives h.1 h.3.0 h.3.1 h.3.2))

  modulo-gives : Gives (IsShallow around) (g.modulo floor n inner)
  modulo-gives ts x rest (y, middle, own, inl k) = subst (IsShallow around) k.3.3.0 (shallow-Modulo around y k.3.0.0 k.3.0.1 (sum-gives ts y middle own))
  modulo-gives ts x rest (y, middle, own, inr k) = subst (IsShallow around) k.0 (sum-gives ts y middle own)

  comparison-gives : Gives (IsShallow around) (g.comparison floor n inner)
  comparison-gives ts x rest (y, middle, own, inl k) = subst (IsShallow around) k.3.3.0 (shallow-Compare around k.0.0 y k.3.0 (modulo-gives ts y middle own) (modulo-gives k.1 k.3.0 k.3.1 k.3.2))
  comparison-gives ts x rest (y, middle, own, inr (inl k)) =
      let s = set-gives k.1 k.3.0 k.3.1 k.3.2 in
      subst (IsShallow around) k.3.3.0 (shallow-Within around y k.3.0 (modulo-gives ts y middle own) s)
  comparison-gives ts x rest (y, middle, own, inr (inr k)) = subst (IsShallow around) k.0 (modulo-gives ts y middle own)

  negation-gives : Gives (IsShallow around) (g.negation_rule floor n inner)
  negation-gives ts x rest (inl h) = subst (IsShallow around) h.3.3.0 (shallow-Not around h.3.0 h.0 ((good.negation_good around (lower around n le)) h.1 h.3.0 h.3.1 h.3.2))
  negation-gives ts x rest (inr h) = comparison-gives ts x rest h

  chained-gives : (k : TokenKind) (make : List Expr → Expr) → ((es : List Expr) → (AreShallow around) es → (IsShallow around) (make es)) → (r : Rule Expr) → Gives (IsShallow around) r → Gives (IsShallow around) (g.chained floor n inner k make r)
  chained-gives k make m r own ts x rest h =
      subst (IsShallow around) h.3.3.0 (chain-written around make m h.0 h.3.0 (own ts h.0 h.1 h.2) (many-gives (IsShallow around) (token k >> r) (λ ts a rest y. own y.1 a rest y.3) h.1 h.3.0 h.3.1 h.3.2))

  conjunction-gives : Gives (IsShallow around) (g.conjunction floor n inner)
  conjunction-gives = chained-gives ampersand expr.And (shallow-And around) (g.negation_rule floor n inner) negation-gives

  disjunction-gives : Gives (IsShallow around) (g.disjunction floor n inner)
  disjunction-gives = chained-gives bar expr.Or (shallow-Or around) (g.conjunction floor n inner) conjunction-gives

  implication-gives : Gives (IsShallow around) (g.implication floor n inner)
  implication-gives = chained-gives arrow expr.Implies (shallow-Implies around) (g.disjunction floor n inner) disjunction-gives

  equivalence-gives : Gives (IsShallow around) (g.equivalence floor n inner)
  equivalence-gives ts x rest (y, middle, own, inl k) = subst (IsShallow around) k.3.3.0 (shallow-Iff around y k.3.0 (implication-gives ts y middle own) (implication-gives k.1 k.3.0 k.3.1 k.3.2))
  equivalence-gives ts x rest (y, middle, own, inr k) = subst (IsShallow around) k.0 (implication-gives ts y middle own)

  expr-gives : Gives (IsShallow around) (g.expr_rule floor n inner)
  expr-gives ts x rest (y, middle, own, inl k) =
      let left = k.3 in
      let right = left.3.3 in
      subst (IsShallow around) right.3.0 (shallow-Choose around y left.0 right.0 (equivalence-gives ts y middle own) ((good.expr_good around (lower around n le)) k.1 left.0 left.1 left.2) ((good.expr_good around (lower around n le)) left.3.1 right.0 right.1 right.2))
  expr-gives ts x rest (y, middle, own, inr k) = subst (IsShallow around) k.0 (equivalence-gives ts y middle own)

  member-gives : Gives (MemberIsShallow around) (g.member_rule floor n inner)
  member-gives ts x rest (inl h) = subst (MemberIsShallow around) h.3.0 (expr-gives ts h.0 h.1 h.2)
  member-gives ts x rest (inr h) = subst (MemberIsShallow around) h.3.0 tt

  -- ---- statements

  value-gives : Gives (IsShallow around) (g.value floor n inner)
  value-gives ts x rest h = subst (IsShallow around) h.3.3.3.0 (expr-gives h.1 h.3.0 h.3.1 h.3.2)

  assignment-gives : Gives (StatementIsShallow around) (g.assignment floor n inner)
  assignment-gives ts x rest h = subst (StatementIsShallow around) h.3.3.0 (shallow-Assign around kind.Comb h.0 h.3.0 (out-Path h.0).at (path-gives ts h.0 h.1 h.2) (value-gives h.1 h.3.0 h.3.1 h.3.2))

  timed-gives : Gives (StatementIsShallow around) (g.timed floor n inner)
  timed-gives ts x rest h =
      let path = h.3.3 in
      let right = path.3.3 in
      subst (StatementIsShallow around) right.3.0 (shallow-Assign around h.0.0 path.0 right.0 h.0.1 ((good.path_good around (lower around n le)) h.3.1 path.0 path.1 path.2) (value-gives path.3.1 right.0 right.1 right.2))

  otherwise-held : (first : Stmt) (ts : Tokens) (o : Option Stmt) (rest : Tokens) → optional (g.otherwise floor n inner first) ts o rest → (OtherIsShallow around) o
  otherwise-held first ts o rest (inl h) = subst (OtherIsShallow around) h.3.0 ((good.stmt_good around (lower around n le)) h.2.1.1 h.0 h.1 h.2.1.3)
  otherwise-held first ts o rest (inr h) = subst (OtherIsShallow around) h.0 tt

  if-gives : Gives (StatementIsShallow around) (g.if_rule floor n inner)
  if-gives ts x rest h =
      let cond = h.3 in
      let yes = cond.3 in
      let no = yes.3 in
      subst (StatementIsShallow around) no.3.0
      (shallow-If around cond.0 yes.0 no.0 h.0 ((good.condition_good around (lower around n le)) h.1 cond.0 cond.1 cond.2) ((good.stmt_good around (lower around n le)) cond.1 yes.0 yes.1 yes.2) (otherwise-held yes.0 yes.1 no.0 no.1 no.2))

  arm-gives : Gives (ArmIsShallow around) (g.arm floor n inner)
  arm-gives ts x rest h =
      let body = h.3.3 in
      subst (ArmIsShallow around) body.3.0 (shallow-arm around h.0 body.0 (separated-gives (IsShallow around) g.label (label-gives around) ts h.0 h.1 h.2) ((good.stmt_good around (lower around n le)) h.3.1 body.0 body.1 body.2))

  default-held : (ts : Tokens) (o : Option Stmt) (rest : Tokens) → optional (token w.word_default >> token w.colon >> inner.stmt) ts o rest → (OtherIsShallow around) o
  default-held ts o rest (inl h) = subst (OtherIsShallow around) h.3.0 ((good.stmt_good around (lower around n le)) h.2.3.1 h.0 h.1 h.2.3.3)
  default-held ts o rest (inr h) = subst (OtherIsShallow around) h.0 tt

  arms-gives : Gives (λ (a : List Arm × Option Stmt). AllByRecursion (ArmIsShallow around) a.0 × (OtherIsShallow around) a.1) (g.arms_rule floor n inner)
  arms-gives ts x rest h =
      let arms = h.3 in
      let other = arms.3 in
      subst (λ (a : List Arm × Option Stmt). AllByRecursion (ArmIsShallow around) a.0 × (OtherIsShallow around) a.1) other.3.3.0
      (many-gives (ArmIsShallow around) (g.arm floor n inner) arm-gives h.1 arms.0 arms.1 arms.2, default-held arms.1 other.0 other.1 other.2)

  switch-gives : Gives (StatementIsShallow around) (g.switch floor n inner)
  switch-gives ts x rest h =
      let on = h.3 in
      let arms = on.3 in
      let inside = (good.arms_good around (lower around n le)) on.1 arms.0 arms.1 arms.2 in
      subst (StatementIsShallow around) arms.3.0 (shallow-Switch around on.0 arms.0.0 arms.0.1 h.0 ((good.condition_good around (lower around n le)) h.1 on.0 on.1 on.2) inside.0 inside.1)

  default-gives : Gives (StatementIsShallow around) (g.default floor n inner)
  default-gives ts x rest h =
      let left = h.3 in
      let right = left.3.3 in
      subst (StatementIsShallow around) right.3.0 (shallow-Default around left.0 right.0 h.0 ((good.stmt_good around (lower around n le)) h.1 left.0 left.1 left.2) ((good.stmt_good around (lower around n le)) left.3.1 right.0 right.1 right.2))

  for-gives : Gives (StatementIsShallow around) (g.for floor n inner)
  for-gives ts x rest h =
      let turns = h.3 in
      let body = turns.3 in
      subst (StatementIsShallow around) body.3.0 (shallow-For around turns.0.var turns.0.from turns.0.to turns.0.closed turns.0.step body.0 h.0 ((good.stmt_good around (lower around n le)) turns.1 body.0 body.1 body.2))

  simple-gives : Gives (StatementIsShallow around) (g.simple floor n inner)
  simple-gives ts x rest (inl h) = assignment-gives ts x rest h
  simple-gives ts x rest (inr (inl h)) = timed-gives ts x rest h
  simple-gives ts x rest (inr (inr (inl h))) = if-gives ts x rest h
  simple-gives ts x rest (inr (inr (inr (inl h)))) = switch-gives ts x rest h
  simple-gives ts x rest (inr (inr (inr (inr (inl h))))) = default-gives ts x rest h
  simple-gives ts x rest (inr (inr (inr (inr (inr h))))) = for-gives ts x rest h

  stmt-gives : Gives (StatementIsShallow around) (g.stmt_rule floor n inner)
  stmt-gives ts x rest (inl h) =
      let binder = h.3 in
      let body = binder.3 in
      subst (StatementIsShallow around) body.3.0 (shallow-Forall around binder.0.0 binder.0.1 body.0 h.0 (room around n (floor h.2.0) le h.2.3.2.0) (good.stmt_good (suc around) (deeper around n le) binder.1 body.0 body.1 body.2))
  stmt-gives ts x rest (inr (inl h)) = subst (StatementIsShallow around) h.3.3.3.0 (shallow-Block around h.3.0 (many-gives (StatementIsShallow around) inner.stmt (good.stmt_good around (lower around n le)) h.1 h.3.0 h.3.1 h.3.2))
  stmt-gives ts x rest (inr (inr h)) = simple-gives ts x rest h

  -- ---- items

  abbrev PairIsShallow : Pair → Type 0
  PairIsShallow pair = IsShallow around pair.left

  pair-gives : Gives PairIsShallow (g.pair floor n inner)
  pair-gives [] x rest h = absurd h.2
  pair-gives (t ∷ ts) x rest h = subst PairIsShallow h.3.3.3.0 (sum-gives (t ∷ ts) h.0.0 h.1 h.2.0)

  item-gives : Gives (InnerIsShallow around) (g.item_rule floor n inner)
  item-gives ts x rest (inl h) =
      let binder = h.3 in
      let body = binder.3 in
      subst (InnerIsShallow around) body.3.0 (shallow_inner-Forall around binder.0.0 binder.0.1 body.0 h.0 (room around n (floor h.2.0) le h.2.3.2.0) (good.item_good (suc around) (deeper around n le) binder.1 body.0 body.1 body.2))
  item-gives ts x rest (inr (inl h)) = subst (InnerIsShallow around) h.3.3.3.0 (shallow_inner-Block around h.3.0 (many-gives (InnerIsShallow around) inner.item (good.item_good around (lower around n le)) h.1 h.3.0 h.3.1 h.3.2))
  item-gives ts x rest (inr (inr (inl h))) =
      let body = h.3.3.3.3.3 in
      subst (InnerIsShallow around) body.3.3.0 (expr-gives h.3.3.3.3.1 body.0 body.1 body.2)
  item-gives ts x rest (inr (inr (inr (inl h)))) =
      let pairs = h.3.3.3.3.3.3 in
      subst (InnerIsShallow around) pairs.3.3.0 (separated-gives PairIsShallow (g.pair floor n inner) pair-gives h.3.3.3.3.3.1 pairs.0 pairs.1 pairs.2)
  item-gives ts x rest (inr (inr (inr (inr (inl h))))) = subst (InnerIsShallow around) h.3.3.3.3.3.0 tt
  item-gives ts x rest (inr (inr (inr (inr (inr h))))) = subst (InnerIsShallow around) h.3.0 (simple-gives ts h.0 h.1 h.2)

-- ---- modules

module _ (floor : ℕ → ℕ) (n : ℕ) (inner : Rules) (good : AreGood n inner) (le : n ≤ most) where
  start : 0 + n ≤ most
  start = omega (arith, le)

  declared-gives : (how : Role) (at : List Word → ℕ) → Gives ItemIsShallow (g.declared floor n inner how at)
  declared-gives how at ts x rest h = subst ItemIsShallow h.3.3.3.3.0 tt

  declaration-gives : Gives ItemIsShallow (g.declaration floor n inner)
  declaration-gives ts x rest (inl h) = declared-gives h.0.0 (λ names. h.0.1) h.1 x rest h.3
  declaration-gives ts x rest (inr h) = declared-gives role.Plain g.place_of ts x rest h

  instance-gives : Gives ItemIsShallow (g.instance floor n inner)
  instance-gives ts x rest h =
      let args = h.3.3.3.3 in
      subst ItemIsShallow args.3.3.3.0 (or_none-gives (IsShallow 0) inner.expr (good.expr_good 0 (lower 0 n start)) h.3.3.3.1 args.0 args.1 args.2)

  layer-gives : Gives ItemIsShallow (g.layer floor n inner)
  layer-gives ts x rest h =
      let body = h.3.3.3.3 in
      subst ItemIsShallow body.3.3.0 (many-gives (StatementIsShallow 0) inner.stmt (good.stmt_good 0 (lower 0 n start)) h.3.3.3.1 body.0 body.1 body.2)

  body-gives : Gives ItemIsShallow (g.body_rule floor n inner)
  body-gives ts x rest (inl h) = declaration-gives ts x rest h
  body-gives ts x rest (inr (inl h)) = instance-gives ts x rest h
  body-gives ts x rest (inr (inr (inl h))) = layer-gives ts x rest h
  body-gives ts x rest (inr (inr (inr h))) = inner-item x (item-gives floor n inner good 0 start ts x rest h)

  -- ---- the text

  upper : n ≤ suc most
  upper = omega (arith, le)

  pub top-gives : Gives TopIsShallow (g.top_rule floor n inner)
  top-gives ts x rest (inl h) = subst TopIsShallow h.3.3.3.3.0 tt
  top-gives ts x rest (inr (inl h)) = subst TopIsShallow h.3.3.3.3.0 tt
  top-gives ts x rest (inr (inr (inl h))) = subst TopIsShallow h.3.3.3.3.0 tt
  top-gives ts x rest (inr (inr (inr h))) =
      let items = h.3.3.3.3.3.3 in
      subst TopIsShallow items.3.3.0 (many-gives ItemIsShallow inner.body (good.body_good upper) h.3.3.3.3.3.1 items.0 items.1 items.2)

-- one level more
less : (k n : ℕ) → k + suc n ≤ suc most → k + n ≤ most
less k n h = omega (arith, h)

none : (n : ℕ) → suc n ≤ suc most → n ≤ most
none n h = omega (arith, h)

rules-good : (floor : ℕ → ℕ) (n : ℕ) (inner : Rules) → AreGood n inner → AreGood (suc n) (rules floor n inner)
rules-good floor n inner good = record {
  expr_good = λ k h. expr-gives floor n inner good k (less k n h);
  negation_good = λ k h. negation-gives floor n inner good k (less k n h);
  member_good = λ k h. member-gives floor n inner good k (less k n h);
  path_good = λ k h. path-gives floor n inner good k (less k n h);
  condition_good = λ k h. condition-gives floor n inner good k (less k n h);
  stmt_good = λ k h. stmt-gives floor n inner good k (less k n h);
  arms_good = λ k h. arms-gives floor n inner good k (less k n h);
  item_good = λ k h. item-gives floor n inner good k (less k n h);
  body_good = λ h. body-gives floor n inner good (none n h);
}

none-good : AreGood 0 no_rules
none-good = record {
  expr_good = λ k h ts x rest a. absurd a;
  negation_good = λ k h ts x rest a. absurd a;
  member_good = λ k h ts x rest a. absurd a;
  path_good = λ k h ts x rest a. absurd a;
  condition_good = λ k h ts x rest a. absurd a;
  stmt_good = λ k h ts x rest a. absurd a;
  arms_good = λ k h ts x rest a. absurd a;
  item_good = λ k h ts x rest a. absurd a;
  body_good = λ h ts x rest a. absurd a;
}

below-good : (floor : ℕ → ℕ) (n : ℕ) → AreGood n (below floor n)
below-good floor zero = none-good
below-good floor (suc n) = rules-good floor n (below floor n) (below-good floor n)

-- a text that is spelled within so many levels is shallow
pub spelled-shallow : (n : ℕ) (ts : Tokens) (text : Text) → Spells n ts text → n ≤ most → TextIsShallow text
unfolding Spells
spelled-shallow n ts text h le = many-gives TopIsShallow (g.top_rule (λ at. 0) n (below (λ at. 0) n)) (top-gives (λ at. 0) n (below (λ at. 0) n) (below-good (λ at. 0) n) le) ts text.tops [] h
