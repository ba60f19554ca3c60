-- Expressions are spelled by related tokens, places aside, where what they spell is changed as the tokens are.
use Rattle.std.proofs.Common.{◌≡◌, ◌≤◌, arith, ◌⊎◌, inl, inr, ℕ, zero, suc, List, [], ◌∷◌, map, Option, Some, None, Bool, true, false, ◌||◌, if◌then◌else◌, refl, sym, ap, ◌∙◌, subst}
use Rattle.std.proofs.lemmas.Bool.{eqb-true}
use Rattle.std.specs.List.{AllZip}
use Rattle.smv_core.specs.Values.{Name}
use Rattle.smv_core.specs.declared.token.TokenKind.{TokenKind}
use Rattle.smv_core.specs.declared.token.TokenKind.TheVariants.{Ident, Number, Sign, Reserved}
use Rattle.smv_core.specs.declared.tree.Word.{Word}
use Rattle.smv_core.specs.declared.tree.Span.{Span}
use Rattle.smv_core.specs.declared.tree.Op.{Op}
use Rattle.smv_core.specs.declared.tree.Op.TheVariants as op
use Rattle.smv_core.specs.declared.tree.Expr.{Expr}
use Rattle.smv_core.specs.declared.tree.Expr.TheVariants as expr
use Rattle.smv_core.specs.declared.tree.Signed.{Signed, roll-Signed}
use Rattle.smv_core.specs.declared.tree.Member.{Member}
use Rattle.smv_core.specs.declared.tree.Member.TheVariants as member
use Rattle.smv_core.specs.declared.tree.Part.{Part}
use Rattle.smv_core.specs.declared.tree.Part.TheVariants as part
use Rattle.smv_core.specs.declared.tree.Path.{Path, roll-Path}
use Rattle.smv_core.specs.declared.tree.TypeExpr.{TypeExpr}
use Rattle.smv_core.specs.declared.tree.TypeExpr.TheVariants as type
use Rattle.smv_core.specs.Signs.{open_paren, close_paren, open_bracket, close_bracket, open_brace, close_brace, colon, semicolon, comma, dot, dots, equal, differ, less, at_most, greater, at_least, plus, minus, tilde, ampersand, bar, arrow, double_arrow, question}
use Rattle.smv_core.specs.Signs as w
use Rattle.smv_core.specs.Notation.{Tokens, Rule, nothing, ◌>>=◌, ◌>>◌, many, token, name, number, same_name, same_kind, found}
use Rattle.smv_core.specs.Grammar as g
use Rattle.smv_core.specs.Grammar.{Rules, chain, sum_of, named}
use Rattle.law_places.specs.Placeless.{placeless_word, placeless_type, placeless, placeless_part, placeless_path}
use Rattle.law_spelled_alike.specs.Local.{IsLocalBy, Fronts, Any, NameBy, SameValue, Maybe}
use Rattle.law_spelled_alike.proofs.Combining.{local-nothing, local-then, local-or, local-one_of, local-name, local-number, local-many, local-optional, local-after, local-separated, local-opener, local-same_name, local-open}
use Rattle.law_spelled_alike.proofs.PlacelessForms.{placeless_member, placeless_signed, word_by, part_by, member_by, signed_by, Forms, placeless-boolean, placeless-And, placeless-Or, placeless-Implies, placeless-List, placeless-Sum, placeless-Signal, placeless-Number, placeless-Not, placeless-Modulo, placeless-Iff, placeless-Compare, placeless-Within, placeless-Choose, placeless-All, placeless-Any, placeless-Each_none, placeless-Each_some, placeless-range, placeless-named}

-- a `;` or a `.`
abbrev pub is_mark : TokenKind → Bool
is_mark k = same_kind k semicolon || same_kind k dot

-- a sign or word that is like one which is no mark is none
no_mark : (k : TokenKind) → is_mark k ≡ false → (j : TokenKind) → same_kind j k ≡ true → is_mark j ≡ false
no_mark (Sign i) h (Sign j) e = rw (eqb-true j i e) h
no_mark (Reserved i) h (Reserved j) e = refl
no_mark (Reserved i) h (Sign j) e = absurd (cc)
no_mark (Sign i) h (Reserved j) e = refl
no_mark k h (Ident bytes) e = refl
no_mark k h (Number value) e = refl
no_mark (Ident bytes) h (Sign j) e = absurd (cc)
no_mark (Number value) h (Sign j) e = absurd (cc)
no_mark (Ident bytes) h (Reserved j) e = refl
no_mark (Number value) h (Reserved j) e = refl

-- what a list has at a sign or word is one of its entries
abbrev AllEntries : {A : Type 0} → (A → Type 0) → List (TokenKind × A) → Type 0
AllEntries Q [] = Unit {0}
AllEntries Q (entry ∷ more) = (is_mark entry.0 ≡ false) × Q entry.1 × AllEntries Q more

-- ---- the same, places aside, where what is spelled first is changed

abbrev pub SameSpan : Span × ℕ → Span × ℕ → Type 0
SameSpan x y = x.0 ≡ y.0

abbrev pub ExprBy : (Expr → Expr) → Expr → Expr → Type 0
ExprBy by x y = by x ≡ placeless y

abbrev pub TypeBy : (TypeExpr → TypeExpr) → TypeExpr → TypeExpr → Type 0
TypeBy by_type x y = by_type x ≡ placeless_type y

abbrev pub PathBy : (Path → Path) → Path → Path → Type 0
PathBy by_path x y = by_path x ≡ placeless_path y

abbrev pub PartBy : (Expr → Expr) → Part → Part → Type 0
PartBy by x y = part_by by x ≡ placeless_part y

abbrev pub MemberBy : (Expr → Expr) → Member → Member → Type 0
MemberBy by x y = member_by by x ≡ placeless_member y

abbrev pub SignedBy : (Expr → Expr) → Signed → Signed → Type 0
SignedBy by x y = signed_by by x ≡ placeless_signed y

pub each-map : {A B C : Type 0} (f : A → C) (g : B → C) (xs : List A) (ys : List B) → AllZip (λ x y. f x ≡ g y) xs ys → map f xs ≡ map g ys
each-map f g [] [] p = refl
each-map f g (x ∷ xs) (y ∷ ys) p = rw (p.0, each-map f g xs ys p.1) refl
each-map f g [] (y ∷ ys) p = absurd p
each-map f g (x ∷ xs) [] p = absurd p

-- a field behind its `.`
abbrev pub dotted : Rule Part
dotted = token dot >> name >>= λ x. nothing (part.Field x)

module _ {P : TokenKind → Type 0} {E : Tokens → Type 0} {K : Tokens → Tokens → Type 0} {new : Name → Name} (F : Fronts P E K new) (plain : (k : TokenKind) → is_mark k ≡ false → P k) {by : Expr → Expr} {by_path : Path → Path} {by_type : TypeExpr → TypeExpr} (forms : Forms new by by_path by_type)
    (field : IsLocalBy E K (PartBy by) dotted dotted) where
  ok : (k : TokenKind) → is_mark k ≡ false → (j : TokenKind) → same_kind j k ≡ true → P j
  ok k h j e = plain j (no_mark k h j e)

  entries : {A : Type 0} (Q : A → Type 0) (list : List (TokenKind × A)) → AllEntries Q list → (k : TokenKind) (a : A) → found list k ≡ Some a → P k × Q a
  entries Q [] h k a e = absurd (cc)
  entries {A} Q (entry ∷ more) h k a e = by_test (same_kind k entry.0) refl e (entries Q more h.2 k a)
    where
      some-same : (x y : A) → Some x ≡ Some y → x ≡ y
      some-same x y r = ap (λ (o : Option A). first o) r
        where
          first : Option A → A
          first None = x
          first (Some z) = z

      by_test : (t : Bool) → same_kind k entry.0 ≡ t → (if t then Some entry.1 else found more k) ≡ Some a → (found more k ≡ Some a → P k × Q a) → P k × Q a
      by_test true q e rest = (ok entry.0 h.0 k q, subst Q (some-same entry.1 a e) h.1)
      by_test false q e rest = rest e

  names : IsLocalBy E K (NameBy new) name name
  names = local-name F (λ bytes. plain (Ident bytes) refl)

  numbers : IsLocalBy E K SameValue number number
  numbers = local-number F (λ n. plain (Number n) refl)

  same-word : (x y : Word) → new x.name ≡ y.name → word_by new x ≡ placeless_word y
  same-word x y e = ap (λ n. record { name = n; at = 0 }) e

  -- ---- what opens no level

  pub local-span : IsLocalBy E K SameSpan g.span g.span
  local-span = local-then F SameValue SameSpan number number _ _ numbers (λ low low' p. local-after F SameSpan dots (ok dots refl) _ _ (local-then F SameValue SameSpan number number _ _ numbers (λ high high' q.
      local-nothing F SameSpan (record { low = low.0; high = high.0 }, low.1) (record { low = low'.0; high = high'.0 }, low'.1) (rw (p, q) refl))))

  pub local-index : IsLocalBy E K (TypeBy by_type) g.index g.index
  local-index = local-or F (TypeBy by_type) _ _ _ _ (local-after F (TypeBy by_type) w.word_boolean (ok w.word_boolean refl) _ _ (local-nothing F (TypeBy by_type) type.Boolean type.Boolean (forms.boolean ∙ sym placeless-boolean)))
      (local-or F (TypeBy by_type) _ _ _ _
      (local-then F SameSpan (TypeBy by_type) g.span g.span _ _ local-span (λ s t p. local-nothing F (TypeBy by_type) (type.Range s.0 s.1) (type.Range t.0 t.1) (forms.range s.0 s.1 ∙ ap (λ r. type.Range r 0) p ∙ sym (placeless-range t.0 t.1))))
      (local-then F (NameBy new) (TypeBy by_type) name name _ _ names (λ x y p. local-nothing F (TypeBy by_type) (type.Named x x.at) (type.Named y y.at) (forms.named x x.at ∙ ap (λ v. type.Named v 0) (same-word x y p) ∙ sym (placeless-named y y.at)))))

  -- ---- expressions

  chain-same : (make : List Expr → Expr) → ((xs : List Expr) → by (make xs) ≡ make (map by xs)) → ((xs : List Expr) → placeless (make xs) ≡ make (map placeless xs)) → (x y : Expr) (xs ys : List Expr) → ExprBy by x y → AllZip (ExprBy by) xs ys → ExprBy by (chain make x xs) (chain make y ys)
  chain-same make h h' x y [] [] p q = p
  chain-same make h h' x y (z ∷ xs) (v ∷ ys) p q = h (x ∷ z ∷ xs) ∙ ap make (ap (λ e. e ∷ map by (z ∷ xs)) p ∙ ap (λ l. placeless y ∷ l) (each-map by placeless (z ∷ xs) (v ∷ ys) q)) ∙ sym (h' (y ∷ v ∷ ys))
  chain-same make h h' x y [] (v ∷ ys) p q = absurd q
  chain-same make h h' x y (z ∷ xs) [] p q = absurd q

  sum-same : (x y : Expr) (xs ys : List Signed) → ExprBy by x y → AllZip (SignedBy by) xs ys → ExprBy by (sum_of x xs) (sum_of y ys)
  sum-same x y [] [] p q = p
  sum-same x y (z ∷ xs) (v ∷ ys) p q = forms.sum x (z ∷ xs) ∙ ap (λ e. expr.Sum e (map (signed_by by) (z ∷ xs))) p ∙ ap (expr.Sum (placeless y)) (each-map (signed_by by) placeless_signed (z ∷ xs) (v ∷ ys) q) ∙ sym (placeless-Sum y (v ∷ ys))
  sum-same x y [] (v ∷ ys) p q = absurd q
  sum-same x y (z ∷ xs) [] p q = absurd q

  pub named-same : (x y : Word) (xs ys : List Part) → new x.name ≡ y.name → AllZip (PartBy by) xs ys → PathBy by_path (named x xs) (named y ys)
  named-same x y xs ys p q = forms.path x xs ∙ ap (λ l. roll-Path (record { parts = l; at = 0 })) (ap (λ v. part.Field v ∷ map (part_by by) xs) (same-word x y p) ∙ ap (λ l. part.Field (placeless_word y) ∷ l) (each-map (part_by by) placeless_part xs ys q))

  -- the rules of the next level
  pub record InnerExprs (inner other : Rules) : Type 0 where
    pub expr : IsLocalBy E K (ExprBy by) inner.expr other.expr
    pub negation : IsLocalBy E K (ExprBy by) inner.negation other.negation
    pub member : IsLocalBy E K (MemberBy by) inner.member other.member
    pub path : IsLocalBy E K (PathBy by_path) inner.path other.path

  module _ (n m : ℕ) (le : n ≤ m) (inner other : Rules) (l : InnerExprs inner other) where
    abbrev zero_floor : ℕ → ℕ
    zero_floor at = 0

    in_brackets : {A : Type 0} (R : A → A → Type 0) (make : Expr → A) → ((x y : Expr) → ExprBy by x y → R (make x) (make y)) → (k : TokenKind) → is_mark k ≡ false → IsLocalBy E K R (inner.expr >>= λ x. token k >> nothing (make x)) (other.expr >>= λ x. token k >> nothing (make x))
    in_brackets R make h k e = local-then F (ExprBy by) R inner.expr other.expr _ _ l.expr (λ x y p. local-after F R k (ok k e) _ _ (local-nothing F R (make x) (make y) (h x y p)))

    pub local-part : IsLocalBy E K (PartBy by) (g.part_rule zero_floor n inner) (g.part_rule zero_floor m other)
    local-part = local-or F (PartBy by) _ _ _ _
        field
        (local-open F (PartBy by) n m le open_bracket (ok open_bracket refl) _ _ (in_brackets (PartBy by) (λ x. part.At x) (λ x y p. ap (λ e. part.At e) p) close_bracket refl))

    pub local-path : IsLocalBy E K (PathBy by_path) (g.path_rule zero_floor n inner) (g.path_rule zero_floor m other)
    local-path = local-then F (NameBy new) (PathBy by_path) name name _ _ names (λ x y p. local-then F (AllZip (PartBy by)) (PathBy by_path) (many (g.part_rule zero_floor n inner)) (many (g.part_rule zero_floor m other)) _ _ (local-many F (PartBy by) _ _ local-part) (λ xs ys q.
        local-nothing F (PathBy by_path) (named x xs) (named y ys) (named-same x y xs ys p q)))

    pub local-condition : IsLocalBy E K (ExprBy by) (g.condition_rule zero_floor n inner) (g.condition_rule zero_floor m other)
    local-condition = local-open F (ExprBy by) n m le open_paren (ok open_paren refl) _ _ (in_brackets (ExprBy by) (λ x. x) (λ x y p. p) close_paren refl)

    local-listed : IsLocalBy E K (ExprBy by) (g.listed zero_floor n inner) (g.listed zero_floor m other)
    local-listed = local-then F Any (ExprBy by) _ _ _ _ (local-opener F n m le open_brace (ok open_brace refl)) (λ at at' q. local-then F (AllZip (MemberBy by)) (ExprBy by) _ _ _ _ (local-separated F (MemberBy by) (ok comma refl) inner.member other.member l.member) (λ xs ys p.
        local-after F (ExprBy by) close_brace (ok close_brace refl) _ _ (local-nothing F (ExprBy by) (expr.List xs at) (expr.List ys at') (forms.list xs at ∙ ap (λ m. expr.List m 0) (each-map (member_by by) placeless_member xs ys p) ∙ sym (placeless-List ys at')))))

    abbrev IsBinder : (Expr → Word → TypeExpr → ℕ → Expr) → Type 0
    IsBinder make = (make ≡ expr.All) ⊎ (make ≡ expr.Any)

    binder-same : (make other : Expr → Word → TypeExpr → ℕ → Expr) → make ≡ other → IsBinder make → (x y : Expr) (v z : Word) (s t : TypeExpr) (a b : ℕ) → ExprBy by x y → new v.name ≡ z.name → TypeBy by_type s t → ExprBy by (make x v s a) (other y z t b)
    binder-same make other same (inl e) x y v z s t a b p q r =
        subst (λ m. (ExprBy by) (make x v s a) (m y z t b)) same (subst (λ m. (ExprBy by) (m x v s a) (m y z t b)) (sym e)
        (forms.every x v s a ∙ ap (λ c. expr.All c (word_by new v) (by_type s) 0) p ∙ ap (λ c. expr.All (placeless y) c (by_type s) 0) (same-word v z q) ∙ ap (λ c. expr.All (placeless y) (placeless_word z) c 0) r ∙ sym (placeless-All y z t b)))
    binder-same make other same (inr e) x y v z s t a b p q r =
        subst (λ m. (ExprBy by) (make x v s a) (m y z t b)) same (subst (λ m. (ExprBy by) (m x v s a) (m y z t b)) (sym e)
        (forms.some x v s a ∙ ap (λ c. expr.Any c (word_by new v) (by_type s) 0) p ∙ ap (λ c. expr.Any (placeless y) c (by_type s) 0) (same-word v z q) ∙ ap (λ c. expr.Any (placeless y) (placeless_word z) c 0) r ∙ sym (placeless-Any y z t b)))

    each-same : (x y : Word) (s t : TypeExpr) (c d : Option Expr) (a b : ℕ) → new x.name ≡ y.name → TypeBy by_type s t → Maybe (ExprBy by) c d → ExprBy by (expr.Each x s c a) (expr.Each y t d b)
    each-same x y s t None None a b p q r = forms.each x s a ∙ ap (λ v. expr.Each v (by_type s) None 0) (same-word x y p) ∙ ap (λ o. expr.Each (placeless_word y) o None 0) q ∙ sym (placeless-Each_none y t b)
    each-same x y s t (Some c) (Some d) a b p q r =
        forms.each_where x s c a ∙ ap (λ v. expr.Each v (by_type s) (Some (by c)) 0) (same-word x y p) ∙ ap (λ o. expr.Each (placeless_word y) o (Some (by c)) 0) q ∙ ap (λ e. expr.Each (placeless_word y) (placeless_type t) (Some e) 0) r ∙ sym (placeless-Each_some y t d b)
    each-same x y s t None (Some d) a b p q r = absurd r
    each-same x y s t (Some c) None a b p q r = absurd r

    local-comprehension : IsLocalBy E K (ExprBy by) (g.comprehension zero_floor n inner) (g.comprehension zero_floor m other)
    local-comprehension =
        local-then F Any (ExprBy by) _ _ _ _ (local-opener F n m le open_brace (ok open_brace refl)) (λ at at' q. local-then F (NameBy new) (ExprBy by) name name _ _ names (λ x y p. local-after F (ExprBy by) colon (ok colon refl) _ _
        (local-then F Any (ExprBy by) (same_name x) (same_name y) _ _ (local-same_name F (λ bytes. plain (Ident bytes) refl) x y p) (λ v z r. local-after F (ExprBy by) w.word_in (ok w.word_in refl) _ _
        (local-then F (TypeBy by_type) (ExprBy by) g.index g.index _ _ local-index (λ s t u. local-then F (Maybe (ExprBy by)) (ExprBy by) _ _ _ _ (local-optional F (ExprBy by) _ _ (local-after F (ExprBy by) comma (ok comma refl) inner.expr other.expr l.expr)) (λ c d h.
        local-after F (ExprBy by) close_brace (ok close_brace refl) _ _ (local-nothing F (ExprBy by) (expr.Each x s c at) (expr.Each y t d at') (each-same x y s t c d at at' p u h)))))))))

    pub local-set : IsLocalBy E K (ExprBy by) (g.set zero_floor n inner) (g.set zero_floor m other)
    local-set = local-or F (ExprBy by) _ _ _ _ local-listed local-comprehension

    local-reduction : IsLocalBy E K (ExprBy by) (g.reduction zero_floor n inner) (g.reduction zero_floor m other)
    local-reduction =
        local-then F _ (ExprBy by) _ _ _ _ (local-one_of F IsBinder ((ampersand, expr.All) ∷ (bar, expr.Any) ∷ []) (entries IsBinder ((ampersand, expr.All) ∷ (bar, expr.Any) ∷ []) (refl, inl refl, (refl, inr refl, tt)))) (λ make made h.
        local-open F (ExprBy by) n m le open_bracket (ok open_bracket refl) _ _ (local-then F (ExprBy by) (ExprBy by) inner.expr other.expr _ _ l.expr (λ x y p. local-after F (ExprBy by) colon (ok colon refl) _ _
        (local-then F (NameBy new) (ExprBy by) name name _ _ names (λ v z q. local-after F (ExprBy by) w.word_in (ok w.word_in refl) _ _
        (local-then F (TypeBy by_type) (ExprBy by) g.index g.index _ _ local-index (λ s t r. local-after F (ExprBy by) close_bracket (ok close_bracket refl) _ _
        (local-nothing F (ExprBy by) (make.0 x v s make.1) (made.0 y z t made.1) (binder-same make.0 made.0 h.0 h.1 x y v z s t make.1 made.1 p q r)))))))))

    pub local-prim : IsLocalBy E K (ExprBy by) (g.prim zero_floor n inner) (g.prim zero_floor m other)
    local-prim =
        local-or F (ExprBy by) _ _ _ _ (local-then F SameValue (ExprBy by) number number _ _ numbers (λ k j p. local-nothing F (ExprBy by) (expr.Number k.0 k.1) (expr.Number j.0 j.1) (forms.number k.0 k.1 ∙ ap (λ v. expr.Number v 0) p ∙ sym (placeless-Number j.0 j.1))))
        (local-or F (ExprBy by) _ _ _ _ (local-then F (PathBy by_path) (ExprBy by) _ _ _ _ local-path (λ x y p. local-nothing F (ExprBy by) (expr.Signal x) (expr.Signal y) (forms.signal x ∙ ap (λ v. expr.Signal v) p ∙ sym (placeless-Signal y))))
        (local-or F (ExprBy by) _ _ _ _ local-condition (local-or F (ExprBy by) _ _ _ _ local-set local-reduction)))

    abbrev IsAny : {A : Type 0} → A → Type 0
    IsAny a = Unit {0}

    local-signed : IsLocalBy E K (SignedBy by) (g.signed zero_floor n inner) (g.signed zero_floor m other)
    local-signed = local-then F _ (SignedBy by) _ _ _ _ (local-one_of F IsAny ((plus, false) ∷ (minus, true) ∷ []) (entries IsAny ((plus, false) ∷ (minus, true) ∷ []) (refl, tt, (refl, tt, tt)))) (λ s t q.
        local-then F (ExprBy by) (SignedBy by) _ _ _ _ local-prim (λ x y p. local-nothing F (SignedBy by) (roll-Signed (record { minus = s.0; of = x })) (roll-Signed (record { minus = t.0; of = y }))
        (ap (λ m. roll-Signed (record { minus = m; of = by x })) q.0 ∙ ap (λ e. roll-Signed (record { minus = t.0; of = e })) p)))

    pub local-sum : IsLocalBy E K (ExprBy by) (g.sum zero_floor n inner) (g.sum zero_floor m other)
    local-sum = local-then F (ExprBy by) (ExprBy by) _ _ _ _ local-prim (λ x y p. local-then F (AllZip (SignedBy by)) (ExprBy by) _ _ _ _ (local-many F (SignedBy by) _ _ local-signed) (λ xs ys q. local-nothing F (ExprBy by) (sum_of x xs) (sum_of y ys) (sum-same x y xs ys p q)))

    local-modulo : IsLocalBy E K (ExprBy by) (g.modulo zero_floor n inner) (g.modulo zero_floor m other)
    local-modulo = local-then F (ExprBy by) (ExprBy by) _ _ _ _ local-sum (λ x y p. local-or F (ExprBy by) _ _ _ _
        (local-after F (ExprBy by) w.word_mod (ok w.word_mod refl) _ _ (local-then F SameValue (ExprBy by) number number _ _ numbers (λ k j q. local-nothing F (ExprBy by) (expr.Modulo x k.0 k.1) (expr.Modulo y j.0 j.1)
        (forms.modulo x k.0 k.1 ∙ ap (λ e. expr.Modulo e k.0 0) p ∙ ap (λ v. expr.Modulo (placeless y) v 0) q ∙ sym (placeless-Modulo y j.0 j.1)))))
        (local-nothing F (ExprBy by) x y p))

    abbrev operators : List (TokenKind × Op)
    operators = (equal, op.Equal) ∷ (differ, op.Differ) ∷ (less, op.Less) ∷ (at_most, op.AtMost) ∷ (greater, op.Greater) ∷ (at_least, op.AtLeast) ∷ []

    local-comparison : IsLocalBy E K (ExprBy by) (g.comparison zero_floor n inner) (g.comparison zero_floor m other)
    local-comparison = local-then F (ExprBy by) (ExprBy by) _ _ _ _ local-modulo (λ x y p.
        local-or F (ExprBy by) _ _ _ _
        (local-then F _ (ExprBy by) _ _ _ _ (local-one_of F IsAny operators (entries IsAny operators (refl, tt, (refl, tt, (refl, tt, (refl, tt, (refl, tt, (refl, tt, tt)))))))) (λ o u q. local-then F (ExprBy by) (ExprBy by) _ _ _ _ local-modulo (λ v z r.
        local-nothing F (ExprBy by) (expr.Compare o.0 x v) (expr.Compare u.0 y z) (forms.comparison o.0 x v ∙ ap (λ m. expr.Compare m (by x) (by v)) q.0 ∙ ap (λ e. expr.Compare u.0 e (by v)) p ∙ ap (λ e. expr.Compare u.0 (placeless y) e) r ∙ sym (placeless-Compare u.0 y z)))))
        (local-or F (ExprBy by) _ _ _ _
        (local-after F (ExprBy by) w.word_in (ok w.word_in refl) _ _ (local-then F (ExprBy by) (ExprBy by) _ _ _ _ local-set (λ s t r. local-nothing F (ExprBy by) (expr.Within x s) (expr.Within y t)
        (forms.membership x s ∙ ap (λ e. expr.Within e (by s)) p ∙ ap (λ e. expr.Within (placeless y) e) r ∙ sym (placeless-Within y t)))))
        (local-nothing F (ExprBy by) x y p)))

    pub local-negation : IsLocalBy E K (ExprBy by) (g.negation_rule zero_floor n inner) (g.negation_rule zero_floor m other)
    local-negation = local-or F (ExprBy by) _ _ _ _
        (local-then F Any (ExprBy by) _ _ _ _ (local-opener F n m le tilde (ok tilde refl)) (λ at at' q. local-then F (ExprBy by) (ExprBy by) _ _ _ _ l.negation (λ x y p. local-nothing F (ExprBy by) (expr.Not x at) (expr.Not y at') (forms.negation x at ∙ ap (λ e. expr.Not e 0) p ∙ sym (placeless-Not y at')))))
        local-comparison

    local-chained : (k : TokenKind) → is_mark k ≡ false → (make : List Expr → Expr) → ((xs : List Expr) → by (make xs) ≡ make (map by xs)) → ((xs : List Expr) → placeless (make xs) ≡ make (map placeless xs)) → (r r' : Rule Expr) → IsLocalBy E K (ExprBy by) r r' → IsLocalBy E K (ExprBy by) (g.chained zero_floor n inner k make r) (g.chained zero_floor m other k make r')
    local-chained k e make h h' r r' f = local-then F (ExprBy by) (ExprBy by) r r' _ _ f (λ x y p. local-then F (AllZip (ExprBy by)) (ExprBy by) _ _ _ _ (local-many F (ExprBy by) _ _ (local-after F (ExprBy by) k (ok k e) r r' f)) (λ xs ys q.
        local-nothing F (ExprBy by) (chain make x xs) (chain make y ys) (chain-same make h h' x y xs ys p q)))

    local-implication : IsLocalBy E K (ExprBy by) (g.implication zero_floor n inner) (g.implication zero_floor m other)
    local-implication = local-chained arrow refl expr.Implies forms.implication placeless-Implies _ _ (local-chained bar refl expr.Or forms.disjunction placeless-Or _ _ (local-chained ampersand refl expr.And forms.conjunction placeless-And _ _ local-negation))

    local-equivalence : IsLocalBy E K (ExprBy by) (g.equivalence zero_floor n inner) (g.equivalence zero_floor m other)
    local-equivalence = local-then F (ExprBy by) (ExprBy by) _ _ _ _ local-implication (λ x y p. local-or F (ExprBy by) _ _ _ _
        (local-after F (ExprBy by) double_arrow (ok double_arrow refl) _ _ (local-then F (ExprBy by) (ExprBy by) _ _ _ _ local-implication (λ v z r. local-nothing F (ExprBy by) (expr.Iff x v) (expr.Iff y z)
        (forms.equivalence x v ∙ ap (λ e. expr.Iff e (by v)) p ∙ ap (λ e. expr.Iff (placeless y) e) r ∙ sym (placeless-Iff y z)))))
        (local-nothing F (ExprBy by) x y p))

    pub local-expr : IsLocalBy E K (ExprBy by) (g.expr_rule zero_floor n inner) (g.expr_rule zero_floor m other)
    local-expr = local-then F (ExprBy by) (ExprBy by) _ _ _ _ local-equivalence (λ c d p. local-or F (ExprBy by) _ _ _ _
        (local-open F (ExprBy by) n m le question (ok question refl) _ _ (local-then F (ExprBy by) (ExprBy by) _ _ _ _ l.expr (λ x y q. local-after F (ExprBy by) colon (ok colon refl) _ _ (local-then F (ExprBy by) (ExprBy by) _ _ _ _ l.expr (λ v z r.
        local-nothing F (ExprBy by) (expr.Choose c x v) (expr.Choose d y z) (forms.choice c x v ∙ ap (λ e. expr.Choose e (by x) (by v)) p ∙ ap (λ e. expr.Choose (placeless d) e (by v)) q ∙ ap (λ e. expr.Choose (placeless d) (placeless y) e) r ∙ sym (placeless-Choose d y z)))))))
        (local-nothing F (ExprBy by) c d p))

    pub local-member : IsLocalBy E K (MemberBy by) (g.member_rule zero_floor n inner) (g.member_rule zero_floor m other)
    local-member = local-or F (MemberBy by) _ _ _ _ (local-then F (ExprBy by) (MemberBy by) _ _ _ _ local-expr (λ x y p. local-nothing F (MemberBy by) (member.One x) (member.One y) (ap (λ e. member.One e) p)))
        (local-then F SameSpan (MemberBy by) g.span g.span _ _ local-span (λ s t p. local-nothing F (MemberBy by) (member.Span s.0 s.1) (member.Span t.0 t.1) (ap (λ r. member.Span r 0) p)))

  pub inner-exprs : (n m : ℕ) → n ≤ m → InnerExprs (g.below (λ at. 0) n) (g.below (λ at. 0) m)
  inner-exprs zero m le = record {
    expr = λ ts a rest h. absurd h;
    negation = λ ts a rest h. absurd h;
    member = λ ts a rest h. absurd h;
    path = λ ts a rest h. absurd h;
  }
  inner-exprs (suc n) zero le = absurd (omega (arith, le))
  inner-exprs (suc n) (suc m) le = let low : n ≤ m = omega (arith, le) in let l = inner-exprs n m low in record {
    expr = local-expr n m low (g.below (λ at. 0) n) (g.below (λ at. 0) m) l;
    negation = local-negation n m low (g.below (λ at. 0) n) (g.below (λ at. 0) m) l;
    member = local-member n m low (g.below (λ at. 0) n) (g.below (λ at. 0) m) l;
    path = local-path n m low (g.below (λ at. 0) n) (g.below (λ at. 0) m) l;
  }

  -- an expression, its tokens and other tokens of the same kinds, within as many levels or more
  pub local-expression : (n m : ℕ) → n ≤ m → IsLocalBy E K (ExprBy by) (g.expr_rule (λ at. 0) n (g.below (λ at. 0) n)) (g.expr_rule (λ at. 0) m (g.below (λ at. 0) m))
  local-expression n m le = local-expr n m le (g.below (λ at. 0) n) (g.below (λ at. 0) m) (inner-exprs n m le)
