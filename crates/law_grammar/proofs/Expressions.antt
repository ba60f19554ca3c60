-- The laws of expressions.
use Rattle.std.proofs.Common.{◌≡◌, ◌-◌, ◌<◌, ℕ, zero, suc, Bool, true, false, cond, List, [], ◌∷◌, Option, Some, None, inl, inr, refl, ◌∙◌, ap, subst, arith}
use Rattle.std.specs.Str.{bytes_eq}
use Rattle.smv_core.specs.declared.token.Token.{Token}
use Rattle.smv_core.specs.declared.token.TokenKind.{TokenKind}
use Rattle.smv_core.specs.declared.token.TokenKind.TheVariants.{Ident, Number, Sign, Reserved}
use Rattle.smv_core.specs.declared.tree.Word.{Word}
use Rattle.smv_core.specs.declared.tree.Span.{Span}
use Rattle.smv_core.specs.declared.tree.Expr.{Expr}
use Rattle.smv_core.specs.declared.tree.Expr.TheVariants as expr
use Rattle.smv_core.specs.declared.tree.Member.TheVariants as member
use Rattle.smv_core.specs.declared.tree.Part.TheVariants as part
use Rattle.smv_core.specs.declared.tree.Op.TheVariants as op
use Rattle.smv_core.specs.Signs.{open_paren, close_paren, open_bracket, close_bracket, open_brace, close_brace, colon, comma, dot, dots}
use Rattle.smv_core.specs.Signs.{equal, differ, less, at_most, greater, at_least, plus, minus, tilde, ampersand, bar, arrow, double_arrow, question}
use Rattle.smv_core.specs.Signs as w
use Rattle.smv_core.specs.Notation.{Tokens, Rule, nothing, ◌>>=◌, ◌>>◌, ◌<|>◌, many, one, token, name, number, optional, separated, same_name, same_kind, name_of, number_of, with_place}
use Rattle.smv_core.specs.Grammar as g
use Rattle.smv_core.specs.Grammar.{Rules, below, named, chain, sum_of}
use Rattle.law_grammar.specs.Parsing.{Parser, bind, pure, take, starts2}
use Rattle.law_grammar.specs.Lawful.{Levels, Finishes, Lawful}
use Rattle.law_grammar.specs.Marks.{Mark, any_name, any_number, exactly, has_mark, begins, stops_by}
use Rattle.law_grammar.specs.Readers.{a_token, a_name, a_number, a_same_name, same_word}
use Rattle.law_grammar.specs.Expressions.{ExprReaders, reductions, additions, comparisons, prim_marks, expr_marks}
use Rattle.law_grammar.specs.Expressions as p
use Rattle.law_grammar.proofs.Tokens.{pure-law, nothing-lawful, one-lawful, same-lawful}
use Rattle.std.proofs.lemmas.Slice.Eq.{bytes_eq-Decides}
use Rattle.law_grammar.proofs.Second.{Second, second-one, second-then, second-either, second-other, second-wider, Begins2, begins2-one, begins2-then, not-so-then, not-so, accepts-take, accepts-law, accepts-then}
use Rattle.law_grammar.proofs.Ahead.{Accepts, chosen-ahead}
use Rattle.law_grammar.proofs.Marks.{apart, covered}
use Rattle.law_grammar.proofs.Forms.{Begins, begins-then, begins-either, begins-wider, leads-begins, leads-nothing, leads-many, leads-maybe, leads-either, leads-then, token-begins, opener-begins, token-lawful, level, name-begins, name-lawful, number-begins, number-lawful, entry-begins, entry-lawful, closed, next, next-led, repeated, at-most-once, alternative, alternative-led, continued, optionally, made, separated-lawful, next-begun, ended, factored, swapped}

-- a production at each floor and number of levels
abbrev pub At : {A : Type 0} → ((ℕ → ℕ) → ℕ → Rules → Rule A) → Levels A
At rule floor m = rule floor m (below floor m)

-- ---- what goes on with a value

abbrev pub after_path : List Mark
after_path = exactly dot ∷ exactly open_bracket ∷ []

abbrev pub after_sum : List Mark
after_sum = exactly plus ∷ exactly minus ∷ after_path

abbrev pub after_modulo : List Mark
after_modulo = exactly w.word_mod ∷ after_sum

abbrev pub operators : List Mark
operators = exactly equal ∷ exactly differ ∷ exactly less ∷ exactly at_most ∷ exactly greater ∷ exactly at_least ∷ []

abbrev pub after_comparison : List Mark
after_comparison = exactly equal ∷ exactly differ ∷ exactly less ∷ exactly at_most ∷ exactly greater ∷ exactly at_least ∷ exactly w.word_in ∷ after_modulo

abbrev pub after_conjunction : List Mark
after_conjunction = exactly ampersand ∷ after_comparison

abbrev pub after_disjunction : List Mark
after_disjunction = exactly bar ∷ after_conjunction

abbrev pub after_implication : List Mark
after_implication = exactly arrow ∷ after_disjunction

abbrev pub after_equivalence : List Mark
after_equivalence = exactly double_arrow ∷ after_implication

abbrev pub after_expr : List Mark
after_expr = exactly question ∷ after_equivalence

-- a member is also no number before two dots
abbrev pub after_member : List Mark
after_member = exactly dots ∷ after_expr

-- ---- what opens no level

pub span-lawful : {C : Type 0} {n : ℕ} → Lawful C (λ floor m. g.span) n p.read_span (stops_by closed)
unfolding p.read_span
span-lawful = next number-lawful (λ low. next (token-lawful dots refl) (λ _. next number-lawful (λ high. nothing-lawful _)))

pub span-begins : Begins (any_number ∷ []) (λ floor m. g.span)
span-begins = begins-then number-begins

pub index-lawful : {C : Type 0} {n : ℕ} → Lawful C (λ floor m. g.index) n p.read_index (stops_by closed)
unfolding p.read_index
index-lawful = alternative (exactly w.word_boolean ∷ []) (any_number ∷ any_name ∷ []) (next (token-lawful w.word_boolean refl) (λ _. nothing-lawful _))
    (alternative (any_number ∷ []) (any_name ∷ []) (next span-lawful (λ s. nothing-lawful _)) (next name-lawful (λ x. nothing-lawful _)) (begins-then span-begins) (begins-then name-begins) refl)
    (begins-then (token-begins w.word_boolean))
    (begins-either (begins-wider (any_number ∷ []) _ refl (begins-then span-begins)) (begins-wider (any_name ∷ []) _ refl (begins-then name-begins))) refl

-- the laws of what stands inside an opened level, where there is one
pub record InnerLaws (n : ℕ) (inner : ExprReaders) : Type 0 where
  pub expr : Lawful (0 < n) (At g.expr_rule) (n - 1) inner.expr (stops_by (λ x. after_expr))
  pub negation : Lawful (0 < n) (At g.negation_rule) (n - 1) inner.negation (stops_by (λ x. after_comparison))
  pub member : Lawful (0 < n) (At g.member_rule) (n - 1) inner.member (stops_by (λ x. after_member))

-- ---- how expressions begin

pub part-begins : Begins after_path (At g.part_rule)
part-begins = begins-either (begins-wider (exactly dot ∷ []) _ refl (begins-then (token-begins dot))) (begins-wider (exactly open_bracket ∷ []) _ refl (begins-then (opener-begins open_bracket)))

pub path-begins : Begins (any_name ∷ []) (At g.path_rule)
path-begins = begins-then name-begins

condition-begins : Begins (exactly open_paren ∷ []) (At g.condition_rule)
condition-begins = begins-then (opener-begins open_paren)

set-begins : Begins (exactly open_brace ∷ []) (At g.set)
set-begins = begins-either (begins-then (opener-begins open_brace)) (begins-then (opener-begins open_brace))

reduction-begins : Begins (exactly ampersand ∷ exactly bar ∷ []) (At g.reduction)
reduction-begins = begins-then (entry-begins reductions)

fourth-begins : Begins (exactly open_brace ∷ exactly ampersand ∷ exactly bar ∷ []) (λ floor m. At g.set floor m <|> At g.reduction floor m)
fourth-begins = begins-either (begins-wider (exactly open_brace ∷ []) _ refl set-begins) (begins-wider (exactly ampersand ∷ exactly bar ∷ []) _ refl reduction-begins)

third-begins : Begins (exactly open_paren ∷ exactly open_brace ∷ exactly ampersand ∷ exactly bar ∷ []) (λ floor m. At g.condition_rule floor m <|> At g.set floor m <|> At g.reduction floor m)
third-begins = begins-either (begins-wider (exactly open_paren ∷ []) _ refl condition-begins) (begins-wider (exactly open_brace ∷ exactly ampersand ∷ exactly bar ∷ []) _ refl fourth-begins)

second-begins : Begins (any_name ∷ exactly open_paren ∷ exactly open_brace ∷ exactly ampersand ∷ exactly bar ∷ [])
    (λ floor m. (At g.path_rule floor m >>= λ p. nothing (expr.Signal p)) <|> At g.condition_rule floor m <|> At g.set floor m <|> At g.reduction floor m)
second-begins = begins-either (begins-wider (any_name ∷ []) _ refl (begins-then path-begins)) (begins-wider (exactly open_paren ∷ exactly open_brace ∷ exactly ampersand ∷ exactly bar ∷ []) _ refl third-begins)

prim-begins : Begins prim_marks (At g.prim)
prim-begins = begins-either (begins-wider (any_number ∷ []) _ refl (begins-then number-begins)) (begins-wider (any_name ∷ exactly open_paren ∷ exactly open_brace ∷ exactly ampersand ∷ exactly bar ∷ []) _ refl second-begins)

pub signed-begins : Begins (exactly plus ∷ exactly minus ∷ []) (At g.signed)
signed-begins = begins-then (entry-begins additions)

pub sum-begins : Begins prim_marks (At g.sum)
sum-begins = begins-then prim-begins

comparison-begins : Begins prim_marks (At g.comparison)
comparison-begins = begins-then (begins-then sum-begins)

negation-begins : Begins expr_marks (At g.negation_rule)
negation-begins = begins-either (begins-wider (exactly tilde ∷ []) _ refl (begins-then (opener-begins tilde))) (begins-wider prim_marks _ refl comparison-begins)

pub expr-begins : Begins expr_marks (At g.expr_rule)
expr-begins = begins-then (begins-then (begins-then (begins-then (begins-then negation-begins))))

-- ---- what stands behind a number or a name that begins an expression

abbrev pub words : List Mark
words = any_number ∷ any_name ∷ []

abbrev pub names : List Mark
names = any_name ∷ []

module _ (fs : List Mark) (apart3 : apart (exactly open_paren ∷ exactly open_brace ∷ exactly ampersand ∷ exactly bar ∷ []) fs ≡ true) (apart1 : apart (exactly tilde ∷ []) fs ≡ true) where
  prim-second : Second fs after_expr (At g.prim)
  prim-second = second-either (second-then (second-one a_number) (λ k. leads-nothing _))
      (second-either (second-then (second-then (second-one a_name) (λ x. leads-then (leads-many (begins-wider after_path after_expr refl part-begins)) (λ more. leads-nothing _))) (λ p. leads-nothing _))
      (second-other _ third-begins apart3))

  sum-second : Second fs after_expr (At g.sum)
  sum-second = second-then prim-second (λ x. leads-then (leads-many (begins-wider (exactly plus ∷ exactly minus ∷ []) after_expr refl signed-begins)) (λ more. leads-nothing _))

  modulo-second : Second fs after_expr (At g.modulo)
  modulo-second = second-then sum-second (λ x. leads-maybe x (begins-wider (exactly w.word_mod ∷ []) after_expr refl (begins-then (token-begins w.word_mod))))

  comparison-second : Second fs after_expr (At g.comparison)
  comparison-second = second-then modulo-second (λ x. leads-either (leads-begins (begins-wider operators after_expr refl (begins-then (entry-begins comparisons))))
      (leads-maybe x (begins-wider (exactly w.word_in ∷ []) after_expr refl (begins-then (token-begins w.word_in)))))

  negation-second : Second fs after_expr (At g.negation_rule)
  negation-second = second-either (second-other (exactly tilde ∷ []) (begins-then (opener-begins tilde)) apart1) comparison-second

  chained-second : {F : Levels Expr} (k : TokenKind) (make : List Expr → Expr) → covered (exactly k ∷ []) after_expr ≡ true → Second fs after_expr F
      → Second fs after_expr (λ floor m. F floor m >>= λ x. many (token k >> F floor m) >>= λ more. nothing (chain make x more))
  chained-second k make e f = second-then f (λ x. leads-then (leads-many (begins-wider (exactly k ∷ []) after_expr e (begins-then (token-begins k)))) (λ more. leads-nothing _))

  implication-second : Second fs after_expr (At g.implication)
  implication-second = chained-second arrow expr.Implies refl (chained-second bar expr.Or refl (chained-second ampersand expr.And refl negation-second))

  equivalence-second : Second fs after_expr (At g.equivalence)
  equivalence-second = second-then implication-second (λ x. leads-maybe x (begins-wider (exactly double_arrow ∷ []) after_expr refl (begins-then (token-begins double_arrow))))

  pub expr-second : Second fs after_expr (At g.expr_rule)
  expr-second = second-then equivalence-second (λ x. leads-maybe x (begins-wider (exactly question ∷ []) after_expr refl (begins-then (opener-begins question))))

-- ---- primaries are expressions

prim-comparison : (floor : ℕ → ℕ) (m : ℕ) (ts : Tokens) (x : Expr) (rest : Tokens) → At g.prim floor m ts x rest → At g.comparison floor m ts x rest
prim-comparison floor m ts x rest h = (x, rest, (x, rest, (x, rest, h, ([], rest, refl, (refl, refl))), inr (refl, refl)), inr (inr (refl, refl)))

pub prim-expr : (floor : ℕ → ℕ) (m : ℕ) (ts : Tokens) (x : Expr) (rest : Tokens) → At g.prim floor m ts x rest → At g.expr_rule floor m ts x rest
prim-expr floor m ts x rest h =
    (x, rest, (x, rest, (x, rest, (x, rest, (x, rest, inr (prim-comparison floor m ts x rest h), ([], rest, refl, (refl, refl))), ([], rest, refl, (refl, refl))), ([], rest, refl, (refl, refl))), inr (refl, refl)), inr (refl, refl))

-- ---- the second name of a comprehension

same-read : (x : Word) (t : Token) (o : Option Word) (v : Word) → a_name t ≡ o → same_word x o ≡ Some v → (a_name t ≡ Some v) × (v.name ≡ x.name)
same-read x t None v q e = absurd cc
same-read x t (Some u) v q e = go (bytes_eq u.name x.name) refl e
  where
    go : (b : Bool) → bytes_eq u.name x.name ≡ b → cond b (Some u) None ≡ Some v → (a_name t ≡ Some v) × (v.name ≡ x.name)
    go false r e = absurd cc
    go true r e = let i : u ≡ v = cc in (q ∙ e, let P : Word → Type 0 = λ z. z.name ≡ x.name in subst P i ((bytes_eq-Decides u.name x.name).0 r))

same-to : (x : Word) (ts : Tokens) (v : Word) (rest : Tokens) → one (a_same_name x) ts v rest → same_name x ts v rest
same-to x [] v rest h = absurd h
same-to x (t ∷ ts) v rest h = let u = same-read x t (a_name t) v refl h.0 in (v, ts, (u.0, refl), (u.1, (refl, h.1)))

same-from : (x : Word) (ts : Tokens) (v : Word) (rest : Tokens) → same_name x ts v rest → one (a_same_name x) ts v rest
same-from x [] v rest h = absurd h.2
same-from x (t ∷ ts) v rest h =
    let e : bytes_eq h.0.name x.name ≡ true = (bytes_eq-Decides h.0.name x.name).1 h.3.0 in
    (rw h.2.0 (rw e (ap Some h.3.1.0)), h.2.1 ∙ h.3.1.1)

pub same-name-lawful : {C : Type 0} {n : ℕ} {st : Word → Option Token → Bool} (x : Word) → Lawful C (λ floor m. same_name x) n (take (a_same_name x)) st
same-name-lawful x = same-lawful (λ floor m ts v rest h. same-to x ts v rest h) (λ floor m ts v rest h. same-from x ts v rest h) (λ a t e. e)
    (one-lawful (a_same_name x) (record { token = record { kind = Ident x.name; at = 0 }; value = record { name = x.name; at = 0 }; reads = let e = (bytes_eq-Decides x.name x.name).1 refl in rw e refl }))

-- ---- what stands behind the brace of a set

abbrev listed_tail : ℕ → Levels Expr
listed_tail at floor m = separated (below floor m).member >>= λ members. token close_brace >> nothing (expr.List members at)

abbrev each_rest : ℕ → Word → Levels Expr
each_rest at x floor m = token colon >> same_name x >> token w.word_in >> g.index >>= λ over. optional (token comma >> (below floor m).expr) >>= λ cond. token close_brace >> nothing (expr.Each x over cond at)

abbrev each_tail : ℕ → Levels Expr
each_tail at floor m = name >>= λ x. each_rest at x floor m

each-begins2 : (at : ℕ) → Begins2 names (exactly colon ∷ []) (λ floor m. each_tail at floor (suc m))
each-begins2 at = begins2-one a_name name-begins (λ x. begins-then (token-begins colon))

-- a list, or a comma or a closing brace, goes on with a member
abbrev in_list : List Mark
in_list = exactly comma ∷ exactly close_brace ∷ after_expr

member-begins : Begins expr_marks (At g.member_rule)
member-begins = begins-either (begins-then expr-begins) (begins-wider (any_number ∷ []) _ refl (begins-then span-begins))

member-second : Second names in_list (At g.member_rule)
member-second = second-wider after_expr in_list refl (second-either (second-then (expr-second names refl refl) (λ x. leads-nothing _)) (second-other (any_number ∷ []) (begins-then span-begins) refl))

listed-begins : (at : ℕ) → Begins expr_marks (λ floor m. listed_tail at floor (suc m))
listed-begins at = begins-then (begins-then member-begins)

listed-not : (at : ℕ) (floor : ℕ → ℕ) (m : ℕ) (ts : Tokens) (x : Expr) (rest : Tokens) → listed_tail at floor (suc m) ts x rest → starts2 (begins names) (begins (exactly colon ∷ [])) ts ≡ false
listed-not at = not-so-then {S = λ members floor m. token close_brace >> nothing (expr.List members at)} (exactly colon ∷ [])
    (second-then member-second (λ x. leads-then (leads-many (begins-wider (exactly comma ∷ []) in_list refl (begins-then (token-begins comma)))) (λ more. leads-nothing _)))
    (λ members. begins-wider (exactly close_brace ∷ []) in_list refl (begins-then (token-begins close_brace))) refl

pub name-token : (t : Token) → begins names t ≡ true → (x : Word) × (a_name t ≡ Some x)
name-token t e = go t.kind e
  where
    go : (kind : TokenKind) → has_mark names kind ≡ true → (x : Word) × (name_of t.at kind ≡ Some x)
    go (Ident bytes) e = (record { name = bytes; at = t.at }, refl)
    go (Number value) e = absurd cc
    go (Sign i) e = absurd cc
    go (Reserved i) e = absurd cc

abbrev numbers : List Mark
numbers = any_number ∷ []

number-token : (t : Token) → begins numbers t ≡ true → (k : ℕ × ℕ) × (a_number t ≡ Some k)
number-token t e = go t.kind e
  where
    go : (kind : TokenKind) → has_mark numbers kind ≡ true → (k : ℕ × ℕ) × (with_place t.at (number_of kind) ≡ Some k)
    go (Number value) e = ((value, t.at), refl)
    go (Ident bytes) e = absurd cc
    go (Sign i) e = absurd cc
    go (Reserved i) e = absurd cc

abbrev made_span : ℕ × ℕ → ℕ × ℕ → Span × ℕ
made_span low high = (record { low = low.0; high = high.0 }, low.1)

span-begins2 : Begins2 numbers (exactly dots ∷ []) (λ floor m. g.span)
span-begins2 = begins2-one a_number number-begins (λ low. begins-then (token-begins dots))

pub name-prim : (floor : ℕ → ℕ) (m : ℕ) (t : Token) (x : Word) (rest : Tokens) → a_name t ≡ Some x → At g.prim floor m (t ∷ rest) (expr.Signal (named x [])) rest
name-prim floor m t x rest e = inr (inl (named x [], rest, (x, rest, (e, refl), ([], rest, refl, (refl, refl))), (refl, refl)))

module _ (n : ℕ) (inner : ExprReaders) (law : InnerLaws n inner) where
  where-lawful : Lawful (0 < n) (λ floor m. optional (token comma >> (below floor (suc m)).expr)) (n - 1) (p.read_where n inner) (stops_by (λ o. exactly comma ∷ after_expr))
  unfolding p.read_where
  where-lawful = optionally (exactly comma ∷ []) (λ x. after_expr) (λ o. exactly comma ∷ after_expr) (next (token-lawful comma refl) (λ _. law.expr)) (begins-then (token-begins comma)) refl (λ a. refl)

  each-rest-lawful : (at : ℕ) (x : Word) → Lawful (0 < n) (λ floor m. each_rest at x floor (suc m)) (n - 1)
      (bind (take (a_token colon)) (λ _. bind (take (a_same_name x)) (λ _. bind (take (a_token w.word_in)) (λ _. bind p.read_index (λ over. bind (p.read_where n inner) (λ cond. bind (take (a_token close_brace)) (λ _. pure (expr.Each x over cond at))))))))
      (stops_by closed)
  each-rest-lawful at x = next (token-lawful colon refl) (λ _. next (same-name-lawful x) (λ _. next (token-lawful w.word_in refl) (λ _. next index-lawful (λ over.
      ended (exactly comma ∷ after_expr) close_brace (λ cond. expr.Each x over cond at) refl refl where-lawful))))

  each-lawful : (at : ℕ) → Lawful (0 < n) (λ floor m. each_tail at floor (suc m)) (n - 1) (p.read_each n inner at) (stops_by closed)
  unfolding p.read_each
  each-lawful at = next name-lawful (λ x. each-rest-lawful at x)

  each-accepts : (at : ℕ) → 0 < n → (t : Token) → begins names t ≡ true → Accepts (p.read_each n inner at) t
  unfolding p.read_each
  each-accepts at c t e = let x = name-token t e in accepts-take a_name (λ x. (each-rest-lawful at x).law c) t x.0 x.1

  listed-lawful : (at : ℕ) → Lawful (0 < n) (λ floor m. listed_tail at floor (suc m)) (n - 1) (p.read_listed n inner at) (stops_by closed)
  unfolding p.read_listed
  listed-lawful at = ended (exactly comma ∷ after_member) close_brace (λ members. expr.List members at) refl refl (separated-lawful (λ x. after_member) (exactly comma ∷ after_member) law.member (λ x. refl) refl (λ x. refl))

  listed-accepts : (at : ℕ) → 0 < n → (t : Token) → begins names t ≡ true → Accepts (p.read_listed n inner at) t
  listed-accepts at c t e =
      let x = name-token t e in
      let brace : Token = record { kind = close_brace; at = 0 } in
      accepts-law expr_marks ((listed-lawful at).law c) (listed-begins at) t (brace ∷ []) (expr.List (member.One (expr.Signal (named x.0 [])) ∷ []) at) (
        member.One (expr.Signal (named x.0 [])) ∷ [],
        brace ∷ [],
        (member.One (expr.Signal (named x.0 [])), brace ∷ [], inl (_, brace ∷ [], prim-expr (λ i. 0) 0 (t ∷ brace ∷ []) _ (brace ∷ []) (name-prim (λ i. 0) 0 t x.0 (brace ∷ []) x.1), (refl, refl)), ([], brace ∷ [], refl, (refl, refl))),
        (0, [], (refl, refl), (refl, refl)),
      ) refl

module _ (C : Type 0) (n : ℕ) (inner : ExprReaders) (law : InnerLaws n inner) where
  pub part-lawful : Lawful C (At g.part_rule) n (p.read_part n inner) (stops_by closed)
  unfolding p.read_part
  part-lawful = alternative (exactly dot ∷ []) (exactly open_bracket ∷ []) (next (token-lawful dot refl) (λ _. next name-lawful (λ x. nothing-lawful _)))
      (level open_bracket refl (λ _. ended after_expr close_bracket part.At refl refl law.expr)) (begins-then (token-begins dot)) (begins-then (opener-begins open_bracket)) refl

  pub path-lawful : Lawful C (At g.path_rule) n (p.read_path n inner) (stops_by (λ x. after_path))
  unfolding p.read_path
  path-lawful = next name-lawful (λ x. made after_path (named x) (repeated after_path closed after_path part-lawful part-begins (λ a. refl) refl (λ a. refl)))

  pub condition-lawful : Lawful C (At g.condition_rule) n (p.read_condition n inner) (stops_by closed)
  unfolding p.read_condition
  condition-lawful = level open_paren refl (λ _. ended after_expr close_paren (λ x. x) refl refl law.expr)

  reduction-lawful : Lawful C (At g.reduction) n (p.read_reduction n inner) (stops_by closed)
  unfolding p.read_reduction
  reduction-lawful = next (entry-lawful ampersand expr.All ((bar, expr.Any) ∷ []) refl) (λ make. level open_bracket refl (λ _.
      next-begun (exactly colon ∷ []) (λ x. after_expr) law.expr
      (λ x. next (token-lawful colon refl) (λ _. next name-lawful (λ v. next (token-lawful w.word_in refl) (λ _. next index-lawful (λ over. next (token-lawful close_bracket refl) (λ _. nothing-lawful _))))))
      (λ x. begins-then (token-begins colon)) (λ x. refl)))

  set-lawful : Lawful C (At g.set) n (p.read_set n inner) (stops_by closed)
  unfolding p.read_set
  set-lawful = factored {S = listed_tail} {T = each_tail} (level open_brace refl {S = λ at floor m. each_tail at floor m <|> listed_tail at floor m}
      (λ at. chosen-ahead (begins names) (begins (exactly colon ∷ [])) (each-lawful n inner law at) (listed-lawful n inner law at) (each-begins2 at).holds
      (λ floor m ts a rest h stop. listed-not at floor m ts a rest h) (λ c t e. each-accepts n inner law at c t e) (λ c t e. listed-accepts n inner law at c t e)))

  prim-lawful : Lawful C (At g.prim) n (p.read_prim n inner) (stops_by (λ x. after_path))
  unfolding p.read_prim
  prim-lawful = alternative (any_number ∷ []) (any_name ∷ exactly open_paren ∷ exactly open_brace ∷ exactly ampersand ∷ exactly bar ∷ []) (next number-lawful (λ k. nothing-lawful _))
      (alternative (any_name ∷ []) (exactly open_paren ∷ exactly open_brace ∷ exactly ampersand ∷ exactly bar ∷ []) (made after_path expr.Signal path-lawful)
      (alternative (exactly open_paren ∷ []) (exactly open_brace ∷ exactly ampersand ∷ exactly bar ∷ []) (continued closed (λ x. after_path) (λ x. refl) condition-lawful)
      (alternative (exactly open_brace ∷ []) (exactly ampersand ∷ exactly bar ∷ []) (continued closed (λ x. after_path) (λ x. refl) set-lawful) (continued closed (λ x. after_path) (λ x. refl) reduction-lawful)
      set-begins reduction-begins refl) condition-begins fourth-begins refl)
      (begins-then path-begins) third-begins refl) (begins-then number-begins) second-begins refl

  pub signed-lawful : Lawful C (At g.signed) n (p.read_signed n inner) (stops_by (λ x. after_path))
  unfolding p.read_signed
  signed-lawful = next (entry-lawful plus false ((minus, true) ∷ []) refl) (λ sign. made after_path _ prim-lawful)

  pub sum-lawful : Lawful C (At g.sum) n (p.read_sum n inner) (stops_by (λ x. after_sum))
  unfolding p.read_sum
  sum-lawful = next-led (exactly plus ∷ exactly minus ∷ []) (λ x. after_path) (λ x. after_sum) prim-lawful
      (λ x. made after_sum (sum_of x) (repeated (exactly plus ∷ exactly minus ∷ []) (λ x. after_path) after_sum signed-lawful signed-begins (λ a. refl) refl (λ a. refl)))
      (λ x. leads-then (leads-many signed-begins) (λ more. leads-nothing _)) (λ x. refl) (λ x b. refl)

  modulo-lawful : Lawful C (At g.modulo) n (p.read_modulo n inner) (stops_by (λ x. after_modulo))
  unfolding p.read_modulo
  modulo-lawful = next-led (exactly w.word_mod ∷ []) (λ x. after_sum) (λ x. after_modulo) sum-lawful
      (λ x. at-most-once (exactly w.word_mod ∷ []) closed (λ x. after_modulo) x (next (token-lawful w.word_mod refl) (λ _. next number-lawful (λ k. nothing-lawful _)))
      (begins-then (token-begins w.word_mod)) refl (λ a. refl))
      (λ x. leads-maybe x (begins-then (token-begins w.word_mod))) (λ x. refl) (λ x b. refl)

  comparison-lawful : Lawful C (At g.comparison) n (p.read_comparison n inner) (stops_by (λ x. after_comparison))
  unfolding p.read_comparison
  comparison-lawful = next-led (exactly w.word_in ∷ operators) (λ x. after_modulo) (λ x. after_comparison) modulo-lawful
      (λ x. alternative-led operators (exactly w.word_in ∷ []) (λ x. after_comparison)
      (next (entry-lawful equal op.Equal ((differ, op.Differ) ∷ (less, op.Less) ∷ (at_most, op.AtMost) ∷ (greater, op.Greater) ∷ (at_least, op.AtLeast) ∷ []) refl) (λ o. continued (λ x. after_modulo) (λ x. after_comparison) (λ x. refl) (made after_modulo (expr.Compare o.0 x) modulo-lawful)))
      (at-most-once (exactly w.word_in ∷ []) closed (λ x. after_comparison) x (next (token-lawful w.word_in refl) (λ _. made [] (expr.Within x) set-lawful)) (begins-then (token-begins w.word_in)) refl (λ a. refl))
      (begins-then (entry-begins comparisons)) (leads-maybe x (begins-then (token-begins w.word_in))) refl (λ x. refl))
      (λ x. leads-either (leads-begins (begins-wider operators _ refl (begins-then (entry-begins comparisons)))) (leads-maybe x (begins-wider (exactly w.word_in ∷ []) _ refl (begins-then (token-begins w.word_in)))))
      (λ x. refl) (λ x b. refl)

  pub negation-lawful : Lawful C (At g.negation_rule) n (p.read_negation n inner) (stops_by (λ x. after_comparison))
  unfolding p.read_negation
  negation-lawful = alternative (exactly tilde ∷ []) prim_marks (level tilde refl (λ at. made after_comparison (λ x. expr.Not x at) law.negation)) comparison-lawful
      (begins-then (opener-begins tilde)) comparison-begins refl

  -- X { sign X }
  chained-lawful : {F : Levels Expr} {q : Parser Expr} (k : TokenKind) (make : List Expr → Expr) (ys : List Mark) → same_kind k k ≡ true → apart (exactly k ∷ []) ys ≡ true
      → covered (exactly k ∷ []) (exactly k ∷ ys) ≡ true → covered ys (exactly k ∷ ys) ≡ true → Lawful C F n q (stops_by (λ x. ys))
      → Lawful C (λ floor m. F floor m >>= λ x. many (token k >> F floor m) >>= λ more. nothing (chain make x more)) n (p.read_chained n inner k make q) (stops_by (λ x. exactly k ∷ ys))
  chained-lawful k make ys self ap_art inside within f =
      next-led (exactly k ∷ []) (λ x. ys) (λ x. exactly k ∷ ys) f
      (λ x. made (exactly k ∷ ys) (chain make x) (repeated (exactly k ∷ []) (λ x. ys) (exactly k ∷ ys) (next (token-lawful k self) (λ _. f)) (begins-then (token-begins k)) (λ a. ap_art) inside (λ a. within)))
      (λ x. leads-then (leads-many (begins-then (token-begins k))) (λ more. leads-nothing _)) (λ x. ap_art) (λ x b. within)

  pub conjunction-lawful : Lawful C (At g.conjunction) n (p.read_conjunction n inner) (stops_by (λ x. after_conjunction))
  unfolding p.read_conjunction
  conjunction-lawful = chained-lawful ampersand expr.And after_comparison refl refl refl refl negation-lawful

  pub disjunction-lawful : Lawful C (At g.disjunction) n (p.read_disjunction n inner) (stops_by (λ x. after_disjunction))
  unfolding p.read_disjunction
  disjunction-lawful = chained-lawful bar expr.Or after_conjunction refl refl refl refl conjunction-lawful

  implication-lawful : Lawful C (At g.implication) n (p.read_implication n inner) (stops_by (λ x. after_implication))
  unfolding p.read_implication
  implication-lawful = chained-lawful arrow expr.Implies after_disjunction refl refl refl refl disjunction-lawful

  equivalence-lawful : Lawful C (At g.equivalence) n (p.read_equivalence n inner) (stops_by (λ x. after_equivalence))
  unfolding p.read_equivalence
  equivalence-lawful = next-led (exactly double_arrow ∷ []) (λ x. after_implication) (λ x. after_equivalence) implication-lawful
      (λ x. at-most-once (exactly double_arrow ∷ []) (λ x. after_implication) (λ x. after_equivalence) x
      (next (token-lawful double_arrow refl) (λ _. made after_implication (expr.Iff x) implication-lawful)) (begins-then (token-begins double_arrow)) refl (λ a. refl))
      (λ x. leads-maybe x (begins-then (token-begins double_arrow))) (λ x. refl) (λ x b. refl)

  pub expr-lawful : Lawful C (At g.expr_rule) n (p.read_expr n inner) (stops_by (λ x. after_expr))
  unfolding p.read_expr
  expr-lawful = next-led (exactly question ∷ []) (λ x. after_equivalence) (λ x. after_expr) equivalence-lawful
      (λ c. at-most-once (exactly question ∷ []) (λ x. after_expr) (λ x. after_expr) c
      (level question refl (λ _. next-begun (exactly colon ∷ []) (λ x. after_expr) law.expr (λ x. next (token-lawful colon refl) (λ _. made after_expr (expr.Choose c x) law.expr))
      (λ x. begins-then (token-begins colon)) (λ x. refl)))
      (begins-then (opener-begins question)) refl (λ a. refl))
      (λ c. leads-maybe c (begins-then (opener-begins question))) (λ x. refl) (λ x b. refl)

  -- a span, as a member
  span-member : Lawful C (λ floor m. g.span >>= λ s. nothing (member.Span s.0 s.1)) n (bind p.read_span (λ s. pure (member.Span s.0 s.1))) (stops_by (λ x. after_member))
  span-member = next span-lawful (λ s. nothing-lawful _)

  one-member : Lawful C (λ floor m. At g.expr_rule floor m >>= λ x. nothing (member.One x)) n (bind (p.read_expr n inner) (λ x. pure (member.One x))) (stops_by (λ x. after_member))
  one-member = continued (λ x. after_expr) (λ x. after_member) (λ x. refl) (made after_expr member.One expr-lawful)

  span-accepts : C → (t : Token) → begins numbers t ≡ true → Accepts (bind p.read_span (λ s. pure (member.Span s.0 s.1))) t
  unfolding p.read_span
  span-accepts c t e =
      let k = number-token t e in
      accepts-then {S = λ s floor m. nothing (member.Span s.0 s.1)} {n = n} {st = λ x o. true} (λ s. pure-law n (member.Span s.0 s.1) (λ x o. true)) t
      (accepts-take {S = λ low floor m. token dots >> number >>= λ high. nothing (made_span low high)} {n = n} {st = stops_by closed} a_number
      (λ low. (span-rest low).law c) t k.0 k.1)
    where
      span-rest : (low : ℕ × ℕ) → Lawful C (λ floor m. token dots >> number >>= λ high. nothing (made_span low high)) n
          (bind (take (a_token dots)) (λ _. bind (take a_number) (λ high. pure (made_span low high)))) (stops_by closed)
      span-rest low = next (token-lawful dots refl) (λ _. next number-lawful (λ high. nothing-lawful _))

  one-accepts : C → (t : Token) → begins numbers t ≡ true → Accepts (bind (p.read_expr n inner) (λ x. pure (member.One x))) t
  one-accepts c t e =
      let k = number-token t e in
      accepts-law expr_marks (one-member.law c) (begins-then expr-begins) t [] (member.One (expr.Number k.0.0 k.0.1))
      (expr.Number k.0.0 k.0.1, [], prim-expr (λ i. 0) 0 (t ∷ []) _ [] (inl (k.0, [], (k.1, refl), (refl, refl))), (refl, refl)) refl

  pub member-lawful : Lawful C (At g.member_rule) n (p.read_member n inner) (stops_by (λ x. after_member))
  unfolding p.read_member
  member-lawful = swapped (chosen-ahead (begins numbers) (begins (exactly dots ∷ [])) span-member one-member
      (begins2-then span-begins2).holds
      (not-so (exactly dots ∷ []) (λ x. after_member) (second-then (expr-second numbers refl refl) (λ x. leads-nothing _)) refl (λ x. refl)) span-accepts one-accepts)

-- ---- for each number of levels

pub expr-finishes : (place : ℕ) → Finishes (At g.expr_rule) place
expr-finishes place = record {
  more = record { kind = Number 0; at = place } ∷ [];
  value = expr.Number 0 place;
  enough = 0;
  spelled = λ floor m z e r. prim-expr floor m (record { kind = Number 0; at = place } ∷ r) (expr.Number 0 place) r (inl ((0, place), r, (refl, refl), (refl, refl)));
}

negation-finishes : (place : ℕ) → Finishes (At g.negation_rule) place
negation-finishes place = record {
  more = record { kind = Number 0; at = place } ∷ [];
  value = expr.Number 0 place;
  enough = 0;
  spelled = λ floor m z e r. inr (prim-comparison floor m (record { kind = Number 0; at = place } ∷ r) (expr.Number 0 place) r (inl ((0, place), r, (refl, refl), (refl, refl))));
}

member-finishes : (place : ℕ) → Finishes (At g.member_rule) place
member-finishes place = let x = expr-finishes place in record { more = x.more; value = member.One x.value; enough = x.enough; spelled = λ floor m z e r. inl (x.value, r, x.spelled floor m z e r, (refl, refl)) }

pub inner-laws : (n : ℕ) → InnerLaws n (p.expr_readers n)
inner-laws zero = record {
  expr = record { finishes = expr-finishes; law = λ c. absurd (omega arith) };
  negation = record { finishes = negation-finishes; law = λ c. absurd (omega arith) };
  member = record { finishes = member-finishes; law = λ c. absurd (omega arith) };
}
inner-laws (suc n) =
    let x = inner-laws n in
    let e : n ≡ suc n - 1 = omega arith in
    record {
      expr = let P : ℕ → Type 0 = λ k. Lawful (0 < suc n) (At g.expr_rule) k (p.read_expr n (p.expr_readers n)) (stops_by (λ x. after_expr)) in subst P e (expr-lawful (0 < suc n) n (p.expr_readers n) x);
      negation = let P : ℕ → Type 0 = λ k. Lawful (0 < suc n) (At g.negation_rule) k (p.read_negation n (p.expr_readers n)) (stops_by (λ x. after_comparison)) in
          subst P e (negation-lawful (0 < suc n) n (p.expr_readers n) x);
      member = let P : ℕ → Type 0 = λ k. Lawful (0 < suc n) (At g.member_rule) k (p.read_member n (p.expr_readers n)) (stops_by (λ x. after_member)) in
          subst P e (member-lawful (0 < suc n) n (p.expr_readers n) x);
    }

-- the parser of expressions within n levels has its law
pub expressions : (n : ℕ) → Lawful (Unit {0}) (At g.expr_rule) n (p.read_expr n (p.expr_readers n)) (stops_by (λ x. after_expr))
expressions n = expr-lawful (Unit {0}) n (p.expr_readers n) (inner-laws n)
