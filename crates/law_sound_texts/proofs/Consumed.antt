-- What the rules of the grammar read is a front of the tokens, and has no fewer bytes than are counted for them.
use Rattle.std.proofs.Common.{◌≡◌, ◌≤◌, ◌+◌, ℕ, zero, suc, Bool, true, false, ◌&&◌, cond, List, [], ◌∷◌, ◌++◌, inl, inr, Option, refl, ap, sym, subst, ◌∙◌, arith}
use Rattle.smv_core.specs.declared.token.Token.{Token}
use Rattle.smv_core.specs.declared.tree.Word.{Word}
use Rattle.smv_core.specs.declared.tree.Expr.{Expr}
use Rattle.smv_core.specs.declared.tree.Expr.TheVariants as expr
use Rattle.smv_core.specs.declared.tree.Op.TheVariants as op
use Rattle.smv_core.specs.declared.tree.Kind.TheVariants as kind
use Rattle.smv_core.specs.declared.tree.Stmt.{Stmt}
use Rattle.smv_core.specs.declared.tree.Role.{Role}
use Rattle.smv_core.specs.declared.tree.Role.TheVariants as role
use Rattle.smv_core.specs.declared.token.TokenKind.{TokenKind}
use Rattle.smv_core.specs.declared.token.TokenKind.TheVariants.{Ident}
use Rattle.smv_core.specs.Signs as w
use Rattle.smv_core.specs.Notation.{Tokens, Rule, same_kind, nothing, ◌>>=◌, ◌>>◌, ◌<|>◌, many, optional, placed, one, token, name, number, one_of, same_name, positive, separated, separated_or_none, opens, opener}
use Rattle.smv_core.specs.Grammar as g
use Rattle.smv_core.specs.Grammar.{Rules, no_rules, rules, below}

-- ---- tokens

-- a token of this kind has at least so many bytes
abbrev pub width : TokenKind → ℕ
width kind =
    cond (same_kind kind w.word_scalarset) 9 (cond (same_kind kind w.word_ordset) 6 (cond (same_kind kind w.word_undefined) 9 (cond (same_kind kind w.dots) 2 1)))

abbrev pub is_name : TokenKind → Bool
is_name (Ident bytes) = true
is_name _ = false

-- a byte that is no token parts `scalarset` from a name
abbrev pub gap : TokenKind → Tokens → ℕ
gap kind [] = 0
gap kind (next ∷ more) = cond (same_kind kind w.word_scalarset && is_name next.kind) 1 0

-- some tokens have at least so many bytes
abbrev pub weight : Tokens → ℕ
weight [] = 0
weight (t ∷ ts) = width t.kind + gap t.kind ts + weight ts

-- ---- how rules are put together

-- what comes after some first tokens
abbrev pub IsBehind : Tokens → Tokens → Type 0
IsBehind rest ts = (front : Tokens) × (ts ≡ front ++ rest)

-- what the rule spells is a front of the tokens
pub record ReadsFront {A : Type 0} (r : Rule A) : Type 0 where
  pub behind : (ts : Tokens) (a : A) (rest : Tokens) → r ts a rest → IsBehind rest ts

joined : (front other rest : Tokens) → front ++ (other ++ rest) ≡ (front ++ other) ++ rest
joined [] other rest = refl
joined (t ∷ front) other rest = ap (λ ts. t ∷ ts) (joined front other rest)

behind-both : (ts middle rest : Tokens) → IsBehind middle ts → IsBehind rest middle → IsBehind rest ts
behind-both ts middle rest h k = (h.0 ++ k.0, h.1 ∙ (ap (λ m. h.0 ++ m) k.1 ∙ joined h.0 k.0 rest))

weight-behind : (front rest : Tokens) → weight rest ≤ weight (front ++ rest)
weight-behind [] rest = omega arith
weight-behind (t ∷ front) rest = let l = weight-behind front rest in omega (arith, l)

-- so it has no fewer bytes than are counted
pub lighter : {A : Type 0} {r : Rule A} → ReadsFront r → (ts : Tokens) (a : A) (rest : Tokens) → r ts a rest → weight rest ≤ weight ts
lighter l ts a rest h = let b = l.behind ts a rest h in subst (λ ts. weight rest ≤ weight ts) (sym b.1) (weight-behind b.0 rest)

pub front-bind : {A B : Type 0} {r : Rule A} {s : A → Rule B} → ReadsFront r → ((a : A) → ReadsFront (s a)) → ReadsFront (r >>= s)
front-bind l k = record { behind = λ ts b rest h. behind-both ts h.1 rest (l.behind ts h.0 h.1 h.2) ((k h.0).behind h.1 b rest h.3) }

pub front-or : {A : Type 0} {r s : Rule A} → ReadsFront r → ReadsFront s → ReadsFront (r <|> s)
front-or {A} {r} {s} l k = record { behind = λ ts a rest h. by_case ts a rest h }
  where
    by_case : (ts : Tokens) (a : A) (rest : Tokens) → (r <|> s) ts a rest → IsBehind rest ts
    by_case ts a rest (inl h) = l.behind ts a rest h
    by_case ts a rest (inr h) = k.behind ts a rest h

pub front-nothing : {A : Type 0} (a : A) → ReadsFront (nothing a)
front-nothing a = record { behind = λ ts b rest h. ([], h.1) }

front-one : {A : Type 0} (read : Token → Option A) → ReadsFront (one read)
front-one {A} read = record { behind = by_case }
  where
    by_case : (ts : Tokens) (a : A) (rest : Tokens) → one read ts a rest → IsBehind rest ts
    by_case [] a rest h = absurd h
    by_case (t ∷ ts) a rest h = (t ∷ [], ap (λ ts. t ∷ ts) h.1)

-- ---- what opens no level

pub front-token : (k : TokenKind) → ReadsFront (token k)
front-token k = front-one _

pub front-name : ReadsFront name
front-name = front-one _

pub front-number : ReadsFront number
front-number = front-one _

pub front-span : ReadsFront g.span
front-span = front-bind front-number (λ low. front-bind (front-token w.dots) (λ u. front-bind front-number (λ high. front-nothing _)))

pub front-index : ReadsFront g.index
front-index = front-or (front-bind (front-token w.word_boolean) (λ u. front-nothing _)) (front-or (front-bind front-span (λ s. front-nothing _)) (front-bind front-name (λ x. front-nothing _)))

pub front-many : {A : Type 0} {r : Rule A} → ReadsFront r → ReadsFront (many r)
front-many {A} {r} l = record { behind = by_list }
  where
    by_list : (ts : Tokens) (xs : List A) (rest : Tokens) → many r ts xs rest → IsBehind rest ts
    by_list ts [] rest h = ([], h)
    by_list ts (a ∷ xs) rest h = behind-both ts h.0 rest (l.behind ts a h.0 h.1) (by_list h.0 xs rest h.2)

pub front-then : {A B : Type 0} {r : Rule A} {s : Rule B} → ReadsFront r → ReadsFront s → ReadsFront (r >> s)
front-then l k = front-bind l (λ a. k)

pub front-optional : {A : Type 0} {r : Rule A} → ReadsFront r → ReadsFront (optional r)
front-optional l = front-or (front-bind l (λ a. front-nothing _)) (front-nothing _)

pub front-separated : {A : Type 0} {r : Rule A} → ReadsFront r → ReadsFront (separated r)
front-separated l = front-bind l (λ x. front-bind (front-many (front-then (front-token w.comma) l)) (λ more. front-nothing _))

pub front-or_none : {A : Type 0} {r : Rule A} → ReadsFront r → ReadsFront (separated_or_none r)
front-or_none l = front-or (front-separated l) (front-nothing _)

pub front-one_of : {A : Type 0} (list : List (TokenKind × A)) → ReadsFront (one_of list)
front-one_of list = front-one _

front-same_name : (x : Word) → ReadsFront (same_name x)
front-same_name x = front-bind front-name (λ v. record { behind = λ ts u rest h. ([], h.1.1) })

front-positive : ReadsFront positive
front-positive = front-bind front-number (λ k. record { behind = λ ts m rest h. ([], h.1.1) })

front-opens : (floor : ℕ → ℕ) (n at : ℕ) → ReadsFront (opens floor n at)
front-opens floor n at = record { behind = λ ts u rest h. ([], h.1.1) }

front-opener : (floor : ℕ → ℕ) (n : ℕ) (k : TokenKind) → ReadsFront (opener floor n k)
front-opener floor n k = front-bind (front-token k) (λ at. front-then (front-opens floor n at) (front-nothing _))

front-placed : {A : Type 0} {r : Rule A} → ReadsFront r → ReadsFront (placed r)
front-placed {A} {r} l = record { behind = by_case }
  where
    by_case : (ts : Tokens) (a : A × ℕ) (rest : Tokens) → placed r ts a rest → IsBehind rest ts
    by_case [] a rest h = absurd h
    by_case (t ∷ ts) a rest h = l.behind (t ∷ ts) a.0 rest h.0

front-label : ReadsFront g.label
front-label = front-or (front-bind front-number (λ k. front-nothing _)) (front-bind front-name (λ x. front-nothing _))

front-layer_name : ReadsFront g.layer_name
front-layer_name = front-bind front-name (λ l. front-nothing _)

front-free : ReadsFront g.free
front-free = front-then (front-token w.word_free) (front-nothing _)

pub front-extent : ReadsFront g.extent
front-extent = front-or (front-bind (front-token w.word_undefined) (λ at. front-nothing _)) (front-bind front-span (λ s. front-nothing _))

-- ---- the levels

pub record ReadFronts (r : Rules) : Type 0 where
  pub expr : ReadsFront r.expr
  pub negation : ReadsFront r.negation
  pub member : ReadsFront r.member
  pub path : ReadsFront r.path
  pub type : ReadsFront r.type
  pub field : ReadsFront r.field
  pub condition : ReadsFront r.condition
  pub binder : ReadsFront r.binder
  pub stmt : ReadsFront r.stmt
  pub arms : ReadsFront r.arms
  pub turns : ReadsFront r.turns
  pub ref : ReadsFront r.ref
  pub item : ReadsFront r.item
  pub body : ReadsFront r.body

module _ (floor : ℕ → ℕ) (n : ℕ) (inner : Rules) (l : ReadFronts inner) where
  pub opening : (k : TokenKind) → ReadsFront (g.opening floor n inner k)
  opening k = front-opener floor n k

  pub front-enumeration : ReadsFront (g.enumeration floor n inner)
  front-enumeration = front-bind (opening w.open_brace) (λ at. front-bind (front-separated front-name) (λ names. front-then (front-token w.close_brace) (front-nothing _)))

  front-array : ReadsFront (g.array floor n inner)
  front-array = front-then (front-token w.word_array) (front-bind front-index (λ over. front-then (opening w.word_of) (front-bind l.type (λ of. front-nothing _))))

  front-structure : ReadsFront (g.structure floor n inner)
  front-structure = front-then (front-token w.word_struct) (front-then (opening w.open_brace) (front-bind (front-many l.field) (λ fields. front-then (front-token w.close_brace) (front-nothing _))))

  pub front-type : ReadsFront (g.type_rule floor n inner)
  front-type = front-or front-index (front-or front-enumeration (front-or front-array front-structure))

  front-field : ReadsFront (g.field_rule floor n inner)
  front-field = front-bind (front-separated front-name) (λ names. front-then (front-token w.colon) (front-bind front-type (λ of. front-then (front-token w.semicolon) (front-nothing _))))

  front-part : ReadsFront (g.part_rule floor n inner)
  front-part =
      front-or (front-then (front-token w.dot) (front-bind front-name (λ x. front-nothing _)))
      (front-then (opening w.open_bracket) (front-bind l.expr (λ x. front-then (front-token w.close_bracket) (front-nothing _))))

  front-path : ReadsFront (g.path_rule floor n inner)
  front-path = front-bind front-name (λ x. front-bind (front-many front-part) (λ more. front-nothing _))

  front-condition : ReadsFront (g.condition_rule floor n inner)
  front-condition = front-then (opening w.open_paren) (front-bind l.expr (λ x. front-then (front-token w.close_paren) (front-nothing _)))

  front-listed : ReadsFront (g.listed floor n inner)
  front-listed = front-bind (opening w.open_brace) (λ at. front-bind (front-separated l.member) (λ members. front-then (front-token w.close_brace) (front-nothing _)))

  front-comprehension : ReadsFront (g.comprehension floor n inner)
  front-comprehension =
      front-bind (opening w.open_brace) (λ at. front-bind front-name (λ x. front-then (front-token w.colon) (front-then (front-same_name x) (front-then (front-token w.word_in) (front-bind front-index (λ over.
      front-bind (front-optional (front-then (front-token w.comma) l.expr)) (λ cond. front-then (front-token w.close_brace) (front-nothing _))))))))

  front-set : ReadsFront (g.set floor n inner)
  front-set = front-or front-listed front-comprehension

  front-reduction : ReadsFront (g.reduction floor n inner)
  front-reduction =
      front-bind (front-one_of ((w.ampersand, expr.All) ∷ (w.bar, expr.Any) ∷ [])) (λ make. front-then (opening w.open_bracket) (front-bind l.expr (λ x. front-then (front-token w.colon) (front-bind front-name (λ v.
      front-then (front-token w.word_in) (front-bind front-index (λ over. front-then (front-token w.close_bracket) (front-nothing _))))))))

  front-prim : ReadsFront (g.prim floor n inner)
  front-prim = front-or (front-bind front-number (λ k. front-nothing _)) (front-or (front-bind front-path (λ p. front-nothing _)) (front-or front-condition (front-or front-set front-reduction)))

  front-signed : ReadsFront (g.signed floor n inner)
  front-signed = front-bind (front-one_of ((w.plus, false) ∷ (w.minus, true) ∷ [])) (λ sign. front-bind front-prim (λ x. front-nothing _))

  front-sum : ReadsFront (g.sum floor n inner)
  front-sum = front-bind front-prim (λ x. front-bind (front-many front-signed) (λ more. front-nothing _))

  front-modulo : ReadsFront (g.modulo floor n inner)
  front-modulo = front-bind front-sum (λ x. front-or (front-then (front-token w.word_mod) (front-bind front-number (λ k. front-nothing _))) (front-nothing _))

  front-comparison : ReadsFront (g.comparison floor n inner)
  front-comparison =
      front-bind front-modulo (λ x. front-or (front-bind (front-one_of ((w.equal, op.Equal) ∷ (w.differ, op.Differ) ∷ (w.less, op.Less) ∷ (w.at_most, op.AtMost) ∷ (w.greater, op.Greater) ∷ (w.at_least, op.AtLeast) ∷ [])) (λ o. front-bind front-modulo (λ y. front-nothing _))) (front-or (front-then (front-token w.word_in) (front-bind front-set (λ s. front-nothing _))) (front-nothing _)))

  front-negation : ReadsFront (g.negation_rule floor n inner)
  front-negation = front-or (front-bind (opening w.tilde) (λ at. front-bind l.negation (λ x. front-nothing _))) front-comparison

  front-chained : {r : Rule Expr} (k : TokenKind) (make : List Expr → Expr) → ReadsFront r → ReadsFront (g.chained floor n inner k make r)
  front-chained k make m = front-bind m (λ x. front-bind (front-many (front-then (front-token k) m)) (λ more. front-nothing _))

  front-conjunction : ReadsFront (g.conjunction floor n inner)
  front-conjunction = front-chained w.ampersand expr.And front-negation

  front-disjunction : ReadsFront (g.disjunction floor n inner)
  front-disjunction = front-chained w.bar expr.Or front-conjunction

  front-implication : ReadsFront (g.implication floor n inner)
  front-implication = front-chained w.arrow expr.Implies front-disjunction

  front-equivalence : ReadsFront (g.equivalence floor n inner)
  front-equivalence = front-bind front-implication (λ x. front-or (front-then (front-token w.double_arrow) (front-bind front-implication (λ y. front-nothing _))) (front-nothing _))

  pub front-expr : ReadsFront (g.expr_rule floor n inner)
  front-expr =
      front-bind front-equivalence (λ c. front-or (front-then (opening w.question) (front-bind l.expr (λ x. front-then (front-token w.colon) (front-bind l.expr (λ y. front-nothing _))))) (front-nothing _))

  front-member : ReadsFront (g.member_rule floor n inner)
  front-member = front-or (front-bind front-expr (λ x. front-nothing _)) (front-bind front-span (λ s. front-nothing _))

  pub front-binder : ReadsFront (g.binder_rule floor n inner)
  front-binder = front-then (opening w.open_paren) (front-bind front-name (λ x. front-then (front-token w.word_in) (front-bind front-index (λ over. front-then (front-token w.close_paren) (front-nothing _)))))

  front-value : ReadsFront (g.value floor n inner)
  front-value = front-then (front-token w.becomes) (front-bind front-expr (λ x. front-then (front-token w.semicolon) (front-nothing _)))

  front-assignment : ReadsFront (g.assignment floor n inner)
  front-assignment = front-bind front-path (λ p. front-bind front-value (λ x. front-nothing _))

  front-timed : ReadsFront (g.timed floor n inner)
  front-timed = front-bind (front-one_of ((w.word_init, kind.Init) ∷ (w.word_next, kind.Next) ∷ [])) (λ k. front-then (opening w.open_paren) (front-bind l.path (λ p. front-then (front-token w.close_paren) (front-bind front-value (λ x. front-nothing _)))))

  front-otherwise : (x : Stmt) → ReadsFront (g.otherwise floor n inner x)
  front-otherwise x = record { behind = λ ts y rest h. (front-then (front-token w.word_else) l.stmt).behind ts y rest h.1 }

  front-if : ReadsFront (g.if_rule floor n inner)
  front-if = front-bind (opening w.word_if) (λ at. front-bind l.condition (λ c. front-bind l.stmt (λ x. front-bind (front-optional (front-otherwise x)) (λ y. front-nothing _))))

  front-arm : ReadsFront (g.arm floor n inner)
  front-arm = front-bind (front-separated front-label) (λ labels. front-then (front-token w.colon) (front-bind l.stmt (λ body. front-nothing _)))

  front-arms : ReadsFront (g.arms_rule floor n inner)
  front-arms =
      front-then (opening w.open_brace) (front-bind (front-many front-arm) (λ arms. front-bind (front-optional (front-then (front-token w.word_default) (front-then (front-token w.colon) l.stmt))) (λ other.
      front-then (front-token w.close_brace) (front-nothing _))))

  front-switch : ReadsFront (g.switch floor n inner)
  front-switch = front-bind (opening w.word_switch) (λ at. front-bind l.condition (λ x. front-bind l.arms (λ a. front-nothing _)))

  front-default : ReadsFront (g.default floor n inner)
  front-default = front-bind (opening w.word_default) (λ at. front-bind l.stmt (λ x. front-then (front-token w.word_in) (front-bind l.stmt (λ y. front-nothing _))))

  front-turns : ReadsFront (g.turns_rule floor n inner)
  front-turns =
      front-then (opening w.open_paren) (front-bind front-name (λ x. front-then (front-token w.equal) (front-bind front-number (λ from. front-then (front-token w.semicolon) (front-then (front-same_name x)
      (front-bind (front-one_of ((w.less, false) ∷ (w.at_most, true) ∷ [])) (λ closed. front-bind front-number (λ to. front-then (front-token w.semicolon) (front-then (front-same_name x) (front-then (front-token w.equal) (front-then (front-same_name x)
      (front-then (front-token w.plus) (front-bind front-positive (λ step. front-then (front-token w.close_paren) (front-nothing _)))))))))))))))

  front-for : ReadsFront (g.for floor n inner)
  front-for = front-bind (opening w.word_for) (λ at. front-bind l.turns (λ t. front-bind l.stmt (λ body. front-nothing _)))

  pub front-simple : ReadsFront (g.simple floor n inner)
  front-simple = front-or front-assignment (front-or front-timed (front-or front-if (front-or front-switch (front-or front-default front-for))))

  front-stmt : ReadsFront (g.stmt_rule floor n inner)
  front-stmt =
      front-or (front-bind (opening w.word_forall) (λ at. front-bind l.binder (λ b. front-bind l.stmt (λ body. front-nothing _))))
      (front-or (front-then (opening w.open_brace) (front-bind (front-many l.stmt) (λ parts. front-then (front-token w.close_brace) (front-nothing _)))) front-simple)

  pub front-brackets : ReadsFront (g.in_brackets floor n inner)
  front-brackets = front-then (opening w.open_bracket) (front-bind front-name (λ x. front-then (front-token w.close_bracket) (front-nothing _)))

  front-ref_part : ReadsFront (g.ref_part floor n inner)
  front-ref_part = front-or (front-then (front-token w.dot) (front-bind front-name (λ x. front-nothing _))) (front-bind front-brackets (λ x. front-nothing _))

  front-ref_by : {r : Rule (Option Word × Bool)} → ReadsFront r → ReadsFront (g.ref_by floor n inner r)
  front-ref_by m = front-bind front-name (λ x. front-bind (front-many front-ref_part) (λ parts. front-bind m (λ layer. front-nothing _)))

  pub front-own_ref : ReadsFront (g.ref floor n inner)
  front-own_ref = front-ref_by (front-or (front-then (front-token w.slashes) front-layer_name) (front-nothing _))

  front-ref : ReadsFront (g.ref_rule floor n inner)
  front-ref = front-ref_by (front-or (front-then (front-token w.slashes) (front-or front-layer_name front-free)) (front-nothing _))

  pub front-use : ReadsFront (g.use_rule floor n inner)
  front-use =
      front-or (front-bind front-ref (λ r. front-nothing _))
      (front-or (front-then (opening w.open_paren) (front-bind l.ref (λ r. front-then (front-token w.close_paren) (front-nothing _))))
      (front-bind front-name (λ x. front-then (front-token w.arrow) (front-then (opening w.open_brace) (front-bind (front-or_none front-name) (λ names. front-then (front-token w.close_brace) (front-nothing _)))))))

  front-claim : ReadsFront (g.claim floor n inner)
  front-claim =
      front-bind front-name (λ x. front-bind (front-many front-brackets) (λ vars. front-then (front-token w.colon) (front-then (front-token w.word_assert) (front-then (front-token w.word_G) (front-bind front-expr (λ body.
      front-then (front-token w.semicolon) (front-nothing _)))))))

  pub front-pair : ReadsFront (g.pair floor n inner)
  front-pair = front-bind (front-placed front-sum) (λ x. front-then (front-token w.equal) (front-bind front-name (λ y. front-nothing _)))

  pub front-split : ReadsFront (g.split floor n inner)
  front-split =
      front-bind (front-token w.word_subcase) (λ at. front-bind front-name (λ x. front-bind (front-many front-brackets) (λ vars. front-then (front-token w.word_of) (front-bind front-own_ref (λ of. front-then (front-token w.word_for)
      (front-bind (front-separated front-pair) (λ pairs. front-then (front-token w.semicolon) (front-nothing _))))))))

  pub front-using : ReadsFront (g.using floor n inner)
  front-using =
      front-bind (front-token w.word_using) (λ at. front-bind (front-separated front-use) (λ us. front-then (front-token w.word_prove) (front-bind (front-separated front-own_ref) (λ proves.
      front-then (front-token w.semicolon) (front-nothing _)))))

  front-item : ReadsFront (g.item_rule floor n inner)
  front-item =
      front-or (front-bind (opening w.word_forall) (λ at. front-bind l.binder (λ b. front-bind l.item (λ body. front-nothing _))))
      (front-or (front-then (opening w.open_brace) (front-bind (front-many l.item) (λ items. front-then (front-token w.close_brace) (front-nothing _))))
      (front-or front-claim (front-or front-split (front-or front-using (front-bind front-simple (λ x. front-nothing _))))))

  front-declared : (how : Role) (at : List Word → ℕ) → ReadsFront (g.declared floor n inner how at)
  front-declared how at = front-bind (front-separated front-name) (λ names. front-then (front-token w.colon) (front-bind front-type (λ of. front-then (front-token w.semicolon) (front-nothing _))))

  front-declaration : ReadsFront (g.declaration floor n inner)
  front-declaration = front-or (front-bind (front-one_of ((w.word_abstract, role.Abstract) ∷ (w.word_input, role.Input) ∷ (w.word_output, role.Output) ∷ [])) (λ r. front-declared r.0 (λ names. r.1))) (front-declared role.Plain g.place_of)

  front-instance : ReadsFront (g.instance floor n inner)
  front-instance =
      front-bind (front-separated front-name) (λ names. front-then (front-token w.colon) (front-bind front-name (λ m. front-then (opening w.open_paren) (front-bind (front-or_none l.expr) (λ args.
      front-then (front-token w.close_paren) (front-then (front-token w.semicolon) (front-nothing _)))))))

  front-layer : ReadsFront (g.layer floor n inner)
  front-layer =
      front-bind (front-token w.word_layer) (λ at. front-bind front-name (λ x. front-then (front-token w.colon) (front-then (opening w.open_brace) (front-bind (front-many l.stmt) (λ body. front-then (front-token w.close_brace) (front-nothing _))))))

  front-body : ReadsFront (g.body_rule floor n inner)
  front-body = front-or front-declaration (front-or front-instance (front-or front-layer front-item))

  rules-front : ReadFronts (rules floor n inner)
  rules-front = record {
    expr = front-expr;
    negation = front-negation;
    member = front-member;
    path = front-path;
    type = front-type;
    field = front-field;
    condition = front-condition;
    binder = front-binder;
    stmt = front-stmt;
    arms = front-arms;
    turns = front-turns;
    ref = front-ref;
    item = front-item;
    body = front-body;
  }

no-front : ReadFronts no_rules
no-front = record {
  expr = record { behind = λ ts a rest h. absurd h };
  negation = record { behind = λ ts a rest h. absurd h };
  member = record { behind = λ ts a rest h. absurd h };
  path = record { behind = λ ts a rest h. absurd h };
  type = record { behind = λ ts a rest h. absurd h };
  field = record { behind = λ ts a rest h. absurd h };
  condition = record { behind = λ ts a rest h. absurd h };
  binder = record { behind = λ ts a rest h. absurd h };
  stmt = record { behind = λ ts a rest h. absurd h };
  arms = record { behind = λ ts a rest h. absurd h };
  turns = record { behind = λ ts a rest h. absurd h };
  ref = record { behind = λ ts a rest h. absurd h };
  item = record { behind = λ ts a rest h. absurd h };
  body = record { behind = λ ts a rest h. absurd h };
}

pub below-front : (floor : ℕ → ℕ) (n : ℕ) → ReadFronts (below floor n)
below-front floor zero = no-front
below-front floor (suc n) = rules-front floor n (below floor n) (below-front floor n)
