-- What the productions of the grammar spell has no name that no token has.
use Rattle.std.proofs.Common.{◌≡◌, ℕ, Bool, true, false, cond, List, [], ◌∷◌, Option, Some, None, subst}
use Rattle.std.specs.List.{AllByRecursion}
use Rattle.smv_core.specs.Values.{Name}
use Rattle.smv_core.specs.declared.token.Token.{Token}
use Rattle.smv_core.specs.declared.token.TokenKind.{TokenKind}
use Rattle.smv_core.specs.declared.tree.Word.{Word}
use Rattle.smv_core.specs.declared.tree.Expr.{Expr}
use Rattle.smv_core.specs.declared.tree.Expr.TheVariants as expr
use Rattle.smv_core.specs.declared.tree.Signed.{Signed}
use Rattle.smv_core.specs.declared.tree.Path.{out-Path}
use Rattle.smv_core.specs.declared.tree.TypeExpr.{TypeExpr}
use Rattle.smv_core.specs.declared.tree.TypeExpr.TheVariants as type
use Rattle.smv_core.specs.declared.tree.Stmt.{Stmt}
use Rattle.smv_core.specs.declared.tree.Arm.{Arm}
use Rattle.smv_core.specs.declared.tree.Kind.TheVariants as kind
use Rattle.smv_core.specs.declared.tree.Op.{Op}
use Rattle.smv_core.specs.declared.tree.Op.TheVariants as op
use Rattle.smv_core.specs.Signs.{open_paren, close_paren, open_bracket, close_bracket, open_brace, close_brace, colon, semicolon, comma, dot, dots, becomes, equal, less, at_most, plus, minus, tilde, ampersand, bar, arrow, double_arrow, question, slashes}
use Rattle.smv_core.specs.Signs as w
use Rattle.smv_core.specs.Notation.{Tokens, Rule, nothing, found, same_kind, ◌>>=◌, ◌>>◌, ◌<|>◌, token, name, opener}
use Rattle.smv_core.specs.Grammar as g
use Rattle.smv_core.specs.Grammar.{Rules, Turns, chain, sum_of, named}
use Rattle.law_designs.proofs.WrittenRules.{with_place-first}
use Rattle.law_fresh_monitors.specs.Names.{IsOldName, IsOldType, IsOldAct}
use Rattle.law_formula_texts.proofs.Rules.{KindOk, Gives, Any, NameHas, OrNone, done, then, either, many-gives, optional-gives, placed-gives, token-gives, one_of-gives, number-gives, name-gives, same_name-gives, positive-gives, opener-gives, separated-gives, or_none-gives}
use Rattle.law_formula_texts.proofs.Forms.{Reads, FieldOld, old-Struct, old-Array, old-field, PartOld, PathOld, old-named, MemberOld, TermOld, old-And, old-Or, old-Implies, old-List, old-Signal, old-Sum, old-Not, old-Modulo, old-Iff, old-Compare, old-Within, old-Choose, old-All, old-Any, ReadsOrNone, old-Each, old-term, ArmOld, OtherOld, old-Assign, old-Block, old-If, old-Switch, old-Default, old-For, old-Forall, old-arm}

abbrev comparisons : List (TokenKind × Op)
comparisons = (equal, op.Equal) ∷ (w.differ, op.Differ) ∷ (less, op.Less) ∷ (at_most, op.AtMost) ∷ (w.greater, op.Greater) ∷ (w.at_least, op.AtLeast) ∷ []

module _ (fresh : List Name) (S : Tokens → Type 0) (rests : (t : Token) (ts : Tokens) → S (t ∷ ts) → S ts) (kinds : (t : Token) (ts : Tokens) → S (t ∷ ts) → KindOk (IsOldName fresh) t.kind) where
  abbrev N : Name → Type 0
  N = IsOldName fresh

  abbrev pub Given : {A : Type 0} → (A → Type 0) → Rule A → Type 0
  Given P r = Gives N S rests kinds P r

  -- one rule and then another, of which the second may depend on what the first spelled
  seq : {A B : Type 0} {P : A → Type 0} {Q : B → Type 0} {r : Rule A} {s : A → Rule B} → Given P r → ((a : A) → P a → Given Q (s a)) → Given Q (r >>= s)
  seq {A} {B} {P} {Q} {r} {s} h k = then N S rests kinds P Q r s h k

  tok : (k : TokenKind) → Given Any (token k)
  tok k = token-gives N S rests kinds k

  -- ---- what opens no level

  pub span-given : Given Any g.span
  span-given = seq (number-gives N S rests kinds) (λ low _. seq (tok dots) (λ _ _. seq (number-gives N S rests kinds) (λ high _. done N S rests kinds Any _ tt)))

  index-gives : Given (IsOldType fresh) g.index
  index-gives =
      either N S rests kinds (IsOldType fresh) _ _ (seq (tok w.word_boolean) (λ _ _. done N S rests kinds (IsOldType fresh) type.Boolean tt))
      (either N S rests kinds (IsOldType fresh) _ _ (seq span-given (λ s _. done N S rests kinds (IsOldType fresh) (type.Range s.0 s.1) tt))
      (seq (name-gives N S rests kinds) (λ x _. done N S rests kinds (IsOldType fresh) (type.Named x x.at) tt)))

  label-gives : Given (Reads fresh) g.label
  label-gives =
      either N S rests kinds (Reads fresh) _ _ (seq (number-gives N S rests kinds) (λ k _. done N S rests kinds (Reads fresh) (expr.Number k.0 k.1) tt))
      (seq (name-gives N S rests kinds) (λ x h. done N S rests kinds (Reads fresh) (expr.Signal (named x [])) (old-Signal fresh (named x []) (old-named fresh x [] h tt))))

  chain-old : (make : List Expr → Expr) → ((es : List Expr) → AllByRecursion (Reads fresh) es → Reads fresh (make es)) → (x : Expr) (more : List Expr) → Reads fresh x → AllByRecursion (Reads fresh) more → Reads fresh (chain make x more)
  chain-old make m x [] h k = h
  chain-old make m x (y ∷ more) h k = m (x ∷ y ∷ more) (h, k)

  sum-old : (x : Expr) (more : List Signed) → Reads fresh x → AllByRecursion (TermOld fresh) more → Reads fresh (sum_of x more)
  sum-old x [] h k = h
  sum-old x (y ∷ more) h k = old-Sum fresh x (y ∷ more) h k

  abbrev pub ArmsOld : List Arm × Option Stmt → Type 0
  ArmsOld a = AllByRecursion (ArmOld fresh) a.0 × OtherOld fresh a.1

  abbrev pub BinderOld : Word × TypeExpr → Type 0
  BinderOld b = N b.0.name

  -- what stands inside a level, but for items
  pub record AreGood (r : Rules) : Type 0 where
    pub expr_good : Given (Reads fresh) r.expr
    pub negation_good : Given (Reads fresh) r.negation
    pub member_good : Given (MemberOld fresh) r.member
    pub path_good : Given (PathOld fresh) r.path
    pub type_good : Given (IsOldType fresh) r.type
    pub field_good : Given (FieldOld fresh) r.field
    pub condition_good : Given (Reads fresh) r.condition
    pub binder_good : Given BinderOld r.binder
    pub stmt_good : Given (IsOldAct fresh) r.stmt
    pub arms_good : Given ArmsOld r.arms
    pub turns_good : Given Any r.turns
    pub ref_good : Given Any r.ref

  module _ (floor : ℕ → ℕ) (n : ℕ) (inner : Rules) (good : AreGood inner) where
    open-gives : (k : TokenKind) → Given Any (opener floor n k)
    open-gives k = opener-gives N S rests kinds floor n k

    -- ---- types

    type-gives : Given (IsOldType fresh) (g.type_rule floor n inner)
    type-gives =
        either N S rests kinds (IsOldType fresh) _ _ index-gives
        (either N S rests kinds (IsOldType fresh) _ _ (seq (open-gives open_brace) (λ at _. seq (separated-gives N S rests kinds (NameHas N) name (name-gives N S rests kinds)) (λ names _. seq (tok close_brace) (λ _ _. done N S rests kinds (IsOldType fresh) (type.Enum names at) tt))))
        (either N S rests kinds (IsOldType fresh) _ _ (seq (tok w.word_array) (λ _ _. seq index-gives (λ over _. seq (open-gives w.word_of) (λ _ _. seq good.type_good (λ of h. done N S rests kinds (IsOldType fresh) (type.Array over of) (old-Array fresh over of h))))))
        (seq (tok w.word_struct) (λ _ _. seq (open-gives open_brace) (λ _ _. seq (many-gives N S rests kinds (FieldOld fresh) inner.field good.field_good) (λ fields h. seq (tok close_brace) (λ _ _. done N S rests kinds (IsOldType fresh) (type.Struct fields) (old-Struct fresh fields h))))))))

    field-gives : Given (FieldOld fresh) (g.field_rule floor n inner)
    field-gives = seq (separated-gives N S rests kinds (NameHas N) name (name-gives N S rests kinds)) (λ names h. seq (tok colon) (λ _ _. seq type-gives (λ of k. seq (tok semicolon) (λ _ _. done N S rests kinds (FieldOld fresh) _ (old-field fresh names of (g.place_of names) h k)))))

    -- ---- paths

    part-gives : Given (PartOld fresh) (g.part_rule floor n inner)
    part-gives =
        either N S rests kinds (PartOld fresh) _ _ (seq (tok dot) (λ _ _. seq (name-gives N S rests kinds) (λ x h. done N S rests kinds (PartOld fresh) _ h)))
        (seq (open-gives open_bracket) (λ _ _. seq good.expr_good (λ x h. seq (tok close_bracket) (λ _ _. done N S rests kinds (PartOld fresh) _ h))))

    path-gives : Given (PathOld fresh) (g.path_rule floor n inner)
    path-gives = seq (name-gives N S rests kinds) (λ x h. seq (many-gives N S rests kinds (PartOld fresh) (g.part_rule floor n inner) part-gives) (λ more k. done N S rests kinds (PathOld fresh) (named x more) (old-named fresh x more h k)))

    -- ---- expressions

    condition-gives : Given (Reads fresh) (g.condition_rule floor n inner)
    condition-gives = seq (open-gives open_paren) (λ _ _. seq good.expr_good (λ x h. seq (tok close_paren) (λ _ _. done N S rests kinds (Reads fresh) x h)))

    set-gives : Given (Reads fresh) (g.set floor n inner)
    set-gives =
        either N S rests kinds (Reads fresh) _ _ (seq (open-gives open_brace) (λ at _. seq (separated-gives N S rests kinds (MemberOld fresh) inner.member good.member_good) (λ members h. seq (tok close_brace) (λ _ _. done N S rests kinds (Reads fresh) (expr.List members at) (old-List fresh members at h)))))
        (seq (open-gives open_brace) (λ at _. seq (name-gives N S rests kinds) (λ x _. seq (tok colon) (λ _ _. seq (same_name-gives N S rests kinds x) (λ _ _. seq (tok w.word_in) (λ _ _. seq index-gives (λ over _.
        seq (optional-gives N S rests kinds (Reads fresh) (token comma >> inner.expr) (seq (tok comma) (λ _ _. good.expr_good))) (λ cond h. seq (tok close_brace) (λ _ _. done N S rests kinds (Reads fresh) (expr.Each x over cond at) (old-Each fresh x over cond at (or-none cond h)))))))))))
      where
        or-none : (o : Option Expr) → OrNone (Reads fresh) o → ReadsOrNone fresh o
        or-none None h = tt
        or-none (Some e) h = h

    reduction-make : (k : TokenKind) (make : Expr → Word → TypeExpr → ℕ → Expr) → found ((ampersand, expr.All) ∷ (bar, expr.Any) ∷ []) k ≡ Some make →
        (body : Expr) (var : Word) (over : TypeExpr) (at : ℕ) → Reads fresh body → Reads fresh (make body var over at)
    reduction-make k make e body var over at h = by_tests (same_kind k ampersand) (same_kind k bar) e
      where
        by_tests : (b c : Bool) → cond b (Some expr.All) (cond c (Some expr.Any) None) ≡ Some make → Reads fresh (make body var over at)
        by_tests true c e = let same : expr.All ≡ make = cc in subst (λ (m : Expr → Word → TypeExpr → ℕ → Expr). Reads fresh (m body var over at)) same (old-All fresh body var over at h)
        by_tests false true e = let same : expr.Any ≡ make = cc in subst (λ (m : Expr → Word → TypeExpr → ℕ → Expr). Reads fresh (m body var over at)) same (old-Any fresh body var over at h)
        by_tests false false e = absurd (cc (e))

    reduction-gives : Given (Reads fresh) (g.reduction floor n inner)
    reduction-gives [] x rest h ok = absurd h.2
    reduction-gives (t ∷ ts) x rest (make, middle, p, more) ok = behind middle x rest more (one_of-gives N S rests kinds ((ampersand, expr.All) ∷ (bar, expr.Any) ∷ []) (t ∷ ts) make middle p ok).1
      where
        makes : (body : Expr) (var : Word) (over : TypeExpr) (at : ℕ) → Reads fresh body → Reads fresh (make.0 body var over at)
        makes = reduction-make t.kind make.0 (with_place-first t.at (found ((ampersand, expr.All) ∷ (bar, expr.Any) ∷ []) t.kind) make p.0)

        behind : Given (Reads fresh) (opener floor n open_bracket >> inner.expr >>= λ y. token colon >> name >>= λ v. token w.word_in >> g.index >>= λ over. token close_bracket >> nothing (make.0 y v over make.1))
        behind = seq (open-gives open_bracket) (λ _ _. seq good.expr_good (λ y h. seq (tok colon) (λ _ _. seq (name-gives N S rests kinds) (λ v _. seq (tok w.word_in) (λ _ _. seq index-gives (λ over _. seq (tok close_bracket) (λ _ _. done N S rests kinds (Reads fresh) _ (makes y v over make.1 h))))))))

    prim-gives : Given (Reads fresh) (g.prim floor n inner)
    prim-gives =
        either N S rests kinds (Reads fresh) _ _ (seq (number-gives N S rests kinds) (λ k _. done N S rests kinds (Reads fresh) (expr.Number k.0 k.1) tt))
        (either N S rests kinds (Reads fresh) _ _ (seq path-gives (λ p h. done N S rests kinds (Reads fresh) (expr.Signal p) (old-Signal fresh p h)))
        (either N S rests kinds (Reads fresh) _ _ condition-gives (either N S rests kinds (Reads fresh) _ _ set-gives reduction-gives)))

    signed-gives : Given (TermOld fresh) (g.signed floor n inner)
    signed-gives = seq (one_of-gives N S rests kinds ((plus, false) ∷ (minus, true) ∷ [])) (λ sign _. seq prim-gives (λ x h. done N S rests kinds (TermOld fresh) _ (old-term fresh sign.0 x h)))

    sum-gives : Given (Reads fresh) (g.sum floor n inner)
    sum-gives = seq prim-gives (λ x h. seq (many-gives N S rests kinds (TermOld fresh) (g.signed floor n inner) signed-gives) (λ more k. done N S rests kinds (Reads fresh) (sum_of x more) (sum-old x more h k)))

    modulo-gives : Given (Reads fresh) (g.modulo floor n inner)
    modulo-gives = seq sum-gives (λ x h. either N S rests kinds (Reads fresh) _ _ (seq (tok w.word_mod) (λ _ _. seq (number-gives N S rests kinds) (λ k _. done N S rests kinds (Reads fresh) (expr.Modulo x k.0 k.1) (old-Modulo fresh x k.0 k.1 h)))) (done N S rests kinds (Reads fresh) x h))

    comparison-gives : Given (Reads fresh) (g.comparison floor n inner)
    comparison-gives = seq modulo-gives (λ x h. either N S rests kinds (Reads fresh) _ _ (seq (one_of-gives N S rests kinds comparisons) (λ o _. seq modulo-gives (λ y k. done N S rests kinds (Reads fresh) (expr.Compare o.0 x y) (old-Compare fresh o.0 x y h k))))
        (either N S rests kinds (Reads fresh) _ _ (seq (tok w.word_in) (λ _ _. seq set-gives (λ s k. done N S rests kinds (Reads fresh) (expr.Within x s) (old-Within fresh x s h k)))) (done N S rests kinds (Reads fresh) x h)))

    negation-gives : Given (Reads fresh) (g.negation_rule floor n inner)
    negation-gives = either N S rests kinds (Reads fresh) _ _ (seq (open-gives tilde) (λ at _. seq good.negation_good (λ x h. done N S rests kinds (Reads fresh) (expr.Not x at) (old-Not fresh x at h)))) comparison-gives

    chained-gives : (k : TokenKind) (make : List Expr → Expr) → ((es : List Expr) → AllByRecursion (Reads fresh) es → Reads fresh (make es)) → (r : Rule Expr) → Given (Reads fresh) r → Given (Reads fresh) (g.chained floor n inner k make r)
    chained-gives k make m r own = seq own (λ x h. seq (many-gives N S rests kinds (Reads fresh) (token k >> r) (seq (tok k) (λ _ _. own))) (λ more q. done N S rests kinds (Reads fresh) (chain make x more) (chain-old make m x more h q)))

    conjunction-gives : Given (Reads fresh) (g.conjunction floor n inner)
    conjunction-gives = chained-gives ampersand expr.And (old-And fresh) (g.negation_rule floor n inner) negation-gives

    disjunction-gives : Given (Reads fresh) (g.disjunction floor n inner)
    disjunction-gives = chained-gives bar expr.Or (old-Or fresh) (g.conjunction floor n inner) conjunction-gives

    implication-gives : Given (Reads fresh) (g.implication floor n inner)
    implication-gives = chained-gives arrow expr.Implies (old-Implies fresh) (g.disjunction floor n inner) disjunction-gives

    equivalence-gives : Given (Reads fresh) (g.equivalence floor n inner)
    equivalence-gives = seq implication-gives (λ x h. either N S rests kinds (Reads fresh) _ _ (seq (tok double_arrow) (λ _ _. seq implication-gives (λ y k. done N S rests kinds (Reads fresh) (expr.Iff x y) (old-Iff fresh x y h k)))) (done N S rests kinds (Reads fresh) x h))

    pub expr-gives : Given (Reads fresh) (g.expr_rule floor n inner)
    expr-gives = seq equivalence-gives (λ c h. either N S rests kinds (Reads fresh) _ _ (seq (open-gives question) (λ _ _. seq good.expr_good (λ x k. seq (tok colon) (λ _ _. seq good.expr_good (λ y q. done N S rests kinds (Reads fresh) (expr.Choose c x y) (old-Choose fresh c x y h k q)))))) (done N S rests kinds (Reads fresh) c h))

    member-gives : Given (MemberOld fresh) (g.member_rule floor n inner)
    member-gives = either N S rests kinds (MemberOld fresh) _ _ (seq expr-gives (λ x h. done N S rests kinds (MemberOld fresh) _ h)) (seq span-given (λ s _. done N S rests kinds (MemberOld fresh) _ tt))

    -- ---- statements

    binder-gives : Given BinderOld (g.binder_rule floor n inner)
    binder-gives = seq (open-gives open_paren) (λ _ _. seq (name-gives N S rests kinds) (λ x h. seq (tok w.word_in) (λ _ _. seq index-gives (λ over _. seq (tok close_paren) (λ _ _. done N S rests kinds BinderOld (x, over) h)))))

    value-gives : Given (Reads fresh) (g.value floor n inner)
    value-gives = seq (tok becomes) (λ _ _. seq expr-gives (λ x h. seq (tok semicolon) (λ _ _. done N S rests kinds (Reads fresh) x h)))

    assignment-gives : Given (IsOldAct fresh) (g.assignment floor n inner)
    assignment-gives = seq path-gives (λ p h. seq value-gives (λ x k. done N S rests kinds (IsOldAct fresh) _ (old-Assign fresh kind.Comb p x (out-Path p).at h k)))

    timed-gives : Given (IsOldAct fresh) (g.timed floor n inner)
    timed-gives = seq (one_of-gives N S rests kinds ((w.word_init, kind.Init) ∷ (w.word_next, kind.Next) ∷ [])) (λ k _. seq (open-gives open_paren) (λ _ _. seq good.path_good (λ p h. seq (tok close_paren) (λ _ _. seq value-gives (λ x q. done N S rests kinds (IsOldAct fresh) _ (old-Assign fresh k.0 p x k.1 h q))))))

    otherwise-gives : (first : Stmt) → Given (IsOldAct fresh) (g.otherwise floor n inner first)
    otherwise-gives first ts second rest (closed, p) ok = (seq (tok w.word_else) (λ _ _. good.stmt_good)) ts second rest p ok

    other-old : (o : Option Stmt) → OrNone (IsOldAct fresh) o → OtherOld fresh o
    other-old None h = tt
    other-old (Some act) h = h

    if-gives : Given (IsOldAct fresh) (g.if_rule floor n inner)
    if-gives = seq (open-gives w.word_if) (λ at _. seq good.condition_good (λ c h. seq good.stmt_good (λ x k.
        seq (optional-gives N S rests kinds (IsOldAct fresh) (g.otherwise floor n inner x) (otherwise-gives x)) (λ y q. done N S rests kinds (IsOldAct fresh) _ (old-If fresh c x y at h k (other-old y q))))))

    arm-gives : Given (ArmOld fresh) (g.arm floor n inner)
    arm-gives = seq (separated-gives N S rests kinds (Reads fresh) g.label label-gives) (λ labels h. seq (tok colon) (λ _ _. seq good.stmt_good (λ body k. done N S rests kinds (ArmOld fresh) _ (old-arm fresh labels body h k))))

    arms-gives : Given ArmsOld (g.arms_rule floor n inner)
    arms-gives = seq (open-gives open_brace) (λ _ _. seq (many-gives N S rests kinds (ArmOld fresh) (g.arm floor n inner) arm-gives) (λ arms h.
        seq (optional-gives N S rests kinds (IsOldAct fresh) (token w.word_default >> token colon >> inner.stmt) (seq (tok w.word_default) (λ _ _. seq (tok colon) (λ _ _. good.stmt_good)))) (λ other k. seq (tok close_brace) (λ _ _. done N S rests kinds ArmsOld (arms, other) (h, other-old other k)))))

    switch-gives : Given (IsOldAct fresh) (g.switch floor n inner)
    switch-gives = seq (open-gives w.word_switch) (λ at _. seq good.condition_good (λ x h. seq good.arms_good (λ a k. done N S rests kinds (IsOldAct fresh) _ (old-Switch fresh x a.0 a.1 at h k.0 k.1))))

    default-gives : Given (IsOldAct fresh) (g.default floor n inner)
    default-gives = seq (open-gives w.word_default) (λ at _. seq good.stmt_good (λ x h. seq (tok w.word_in) (λ _ _. seq good.stmt_good (λ y k. done N S rests kinds (IsOldAct fresh) _ (old-Default fresh x y at h k)))))

    turns-gives : Given Any (g.turns_rule floor n inner)
    turns-gives = seq (open-gives open_paren) (λ _ _. seq (name-gives N S rests kinds) (λ x _. seq (tok equal) (λ _ _. seq (number-gives N S rests kinds) (λ from _. seq (tok semicolon) (λ _ _. seq (same_name-gives N S rests kinds x) (λ _ _. seq (one_of-gives N S rests kinds ((less, false) ∷ (at_most, true) ∷ [])) (λ closed _. seq (number-gives N S rests kinds) (λ to _. seq (tok semicolon) (λ _ _.
        seq (same_name-gives N S rests kinds x) (λ _ _. seq (tok equal) (λ _ _. seq (same_name-gives N S rests kinds x) (λ _ _. seq (tok plus) (λ _ _. seq (positive-gives N S rests kinds) (λ step _. seq (tok close_paren) (λ _ _. done N S rests kinds Any _ tt)))))))))))))))

    for-gives : Given (IsOldAct fresh) (g.for floor n inner)
    for-gives = seq (open-gives w.word_for) (λ at _. seq good.turns_good (λ t _. seq good.stmt_good (λ body h. done N S rests kinds (IsOldAct fresh) _ (old-For fresh t.var t.from t.to t.closed t.step body at h))))

    pub simple-gives : Given (IsOldAct fresh) (g.simple floor n inner)
    simple-gives = either N S rests kinds (IsOldAct fresh) _ _ assignment-gives (either N S rests kinds (IsOldAct fresh) _ _ timed-gives (either N S rests kinds (IsOldAct fresh) _ _ if-gives (either N S rests kinds (IsOldAct fresh) _ _ switch-gives (either N S rests kinds (IsOldAct fresh) _ _ default-gives for-gives))))

    stmt-gives : Given (IsOldAct fresh) (g.stmt_rule floor n inner)
    stmt-gives =
        either N S rests kinds (IsOldAct fresh) _ _ (seq (open-gives w.word_forall) (λ at _. seq good.binder_good (λ b _. seq good.stmt_good (λ body h. done N S rests kinds (IsOldAct fresh) _ (old-Forall fresh b.0 b.1 body at h)))))
        (either N S rests kinds (IsOldAct fresh) _ _ (seq (open-gives open_brace) (λ _ _. seq (many-gives N S rests kinds (IsOldAct fresh) inner.stmt good.stmt_good) (λ parts h. seq (tok close_brace) (λ _ _. done N S rests kinds (IsOldAct fresh) _ (old-Block fresh parts h))))) simple-gives)

    -- ---- references

    pub brackets-gives : Given (NameHas N) (g.in_brackets floor n inner)
    brackets-gives = seq (open-gives open_bracket) (λ _ _. seq (name-gives N S rests kinds) (λ x h. seq (tok close_bracket) (λ _ _. done N S rests kinds (NameHas N) x h)))

    ref_part-gives : Given Any (g.ref_part floor n inner)
    ref_part-gives = either N S rests kinds Any _ _ (seq (tok dot) (λ _ _. seq (name-gives N S rests kinds) (λ x _. done N S rests kinds Any _ tt))) (seq brackets-gives (λ x _. done N S rests kinds Any _ tt))

    layer_name-gives : Given Any g.layer_name
    layer_name-gives = seq (name-gives N S rests kinds) (λ l _. done N S rests kinds Any _ tt)

    free-gives : Given Any g.free
    free-gives = seq (tok w.word_free) (λ _ _. done N S rests kinds Any _ tt)

    ref_by-gives : (layer : Rule (Option Word × Bool)) → Given Any layer → Given Any (g.ref_by floor n inner layer)
    ref_by-gives layer h = seq (name-gives N S rests kinds) (λ x _. seq (many-gives N S rests kinds Any (g.ref_part floor n inner) ref_part-gives) (λ parts _. seq h (λ l _. done N S rests kinds Any _ tt)))

    pub plain_ref-gives : Given Any (g.ref floor n inner)
    plain_ref-gives = ref_by-gives ((token slashes >> g.layer_name) <|> nothing (None, false)) (either N S rests kinds Any _ _ (seq (tok slashes) (λ _ _. layer_name-gives)) (done N S rests kinds Any _ tt))

    ref-gives : Given Any (g.ref_rule floor n inner)
    ref-gives = ref_by-gives ((token slashes >> (g.layer_name <|> g.free)) <|> nothing (None, false)) (either N S rests kinds Any _ _ (seq (tok slashes) (λ _ _. either N S rests kinds Any _ _ layer_name-gives free-gives)) (done N S rests kinds Any _ tt))

    pub use-gives : Given Any (g.use_rule floor n inner)
    use-gives =
        either N S rests kinds Any _ _ (seq ref-gives (λ r _. done N S rests kinds Any _ tt))
        (either N S rests kinds Any _ _ (seq (open-gives open_paren) (λ _ _. seq good.ref_good (λ r _. seq (tok close_paren) (λ _ _. done N S rests kinds Any _ tt))))
        (seq (name-gives N S rests kinds) (λ x _. seq (tok arrow) (λ _ _. seq (open-gives open_brace) (λ _ _. seq (or_none-gives N S rests kinds (NameHas N) name (name-gives N S rests kinds)) (λ names _. seq (tok close_brace) (λ _ _. done N S rests kinds Any _ tt)))))))

    pub pair-gives : Given Any (g.pair floor n inner)
    pair-gives = seq (placed-gives N S rests kinds (Reads fresh) (g.sum floor n inner) sum-gives) (λ x _. seq (tok equal) (λ _ _. seq (name-gives N S rests kinds) (λ y _. done N S rests kinds Any _ tt)))

    -- ---- one level more

    pub all-good : (item body : _) → AreGood (record (g.rules floor n inner) { item = item; body = body })
    all-good item body = record {
      expr_good = expr-gives;
      negation_good = negation-gives;
      member_good = member-gives;
      path_good = path-gives;
      type_good = type-gives;
      field_good = field-gives;
      condition_good = condition-gives;
      binder_good = binder-gives;
      stmt_good = stmt-gives;
      arms_good = arms-gives;
      turns_good = turns-gives;
      ref_good = ref-gives;
    }

    pub type-given : Given (IsOldType fresh) (g.type_rule floor n inner)
    type-given = type-gives

  pub none-good : AreGood g.no_rules
  none-good = record {
    expr_good = λ ts a rest h ok. absurd h;
    negation_good = λ ts a rest h ok. absurd h;
    member_good = λ ts a rest h ok. absurd h;
    path_good = λ ts a rest h ok. absurd h;
    type_good = λ ts a rest h ok. absurd h;
    field_good = λ ts a rest h ok. absurd h;
    condition_good = λ ts a rest h ok. absurd h;
    binder_good = λ ts a rest h ok. absurd h;
    stmt_good = λ ts a rest h ok. absurd h;
    arms_good = λ ts a rest h ok. absurd h;
    turns_good = λ ts a rest h ok. absurd h;
    ref_good = λ ts a rest h ok. absurd h;
  }
