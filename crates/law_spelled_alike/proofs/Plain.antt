-- Expressions are spelled by the kinds of tokens alone, places aside.
use Rattle.std.proofs.Common.{◌≡◌, ◌≤◌, ℕ, true, false, refl, ap}
use Rattle.std.proofs.lemmas.Bool.{eqb-true}
use Rattle.smv_core.specs.declared.token.TokenKind.{TokenKind}
use Rattle.smv_core.specs.declared.token.TokenKind.TheVariants.{Ident, Number, Sign, Reserved}
use Rattle.smv_core.specs.declared.tree.Expr.{Expr}
use Rattle.smv_core.specs.declared.tree.Path.{Path}
use Rattle.smv_core.specs.declared.tree.Part.TheVariants as part
use Rattle.smv_core.specs.declared.tree.TypeExpr.{TypeExpr}
use Rattle.smv_core.specs.Signs.{semicolon, dot}
use Rattle.smv_core.specs.Notation.{name, same_kind}
use Rattle.smv_core.specs.Grammar as g
use Rattle.law_lists.proofs.Booleans.{not_left}
use Rattle.law_places.specs.Placeless.{placeless_type, placeless, placeless_path}
use Rattle.law_spelled_alike.specs.Local.{IsLocal, SameName}
use Rattle.law_spelled_alike.proofs.Combining.{same_kinds, local-nothing, local-then, local-name, local-after}
use Rattle.law_spelled_alike.proofs.PlacelessForms.{placeless_forms}
use Rattle.law_spelled_alike.proofs.Expressions.{is_mark, PartBy, dotted, local-expression}

-- a sign or word that is like one which is no `;` is none
not_semicolon : (k : TokenKind) → same_kind k semicolon ≡ false → (j : TokenKind) → same_kind j k ≡ true → same_kind j semicolon ≡ false
not_semicolon (Sign i) h (Sign j) e = rw (eqb-true j i e) h
not_semicolon (Reserved i) h (Reserved j) e = refl
not_semicolon (Reserved i) h (Sign j) e = absurd (cc)
not_semicolon (Sign i) h (Reserved j) e = refl
not_semicolon k h (Ident bytes) e = refl
not_semicolon k h (Number n) e = refl
not_semicolon (Ident bytes) h (Sign j) e = absurd (cc)
not_semicolon (Number n) h (Sign j) e = absurd (cc)
not_semicolon (Ident bytes) h (Reserved j) e = refl
not_semicolon (Number n) h (Reserved j) e = refl

abbrev pub SameExpr : Expr → Expr → Type 0
SameExpr x y = placeless x ≡ placeless y

abbrev pub SameType : TypeExpr → TypeExpr → Type 0
SameType x y = placeless_type x ≡ placeless_type y

abbrev pub SamePath : Path → Path → Type 0
SamePath x y = placeless_path x ≡ placeless_path y

module _ (P : TokenKind → Type 0) (plain : (k : TokenKind) → same_kind k semicolon ≡ false → P k) where
  pub unmarked : (k : TokenKind) → is_mark k ≡ false → P k
  unmarked k e = plain k (not_left (same_kind k semicolon) (same_kind k dot) e)

  pub field : IsLocal P (PartBy placeless) dotted dotted
  field = local-after (same_kinds P) (PartBy placeless) dot (λ j e. plain j (not_semicolon dot refl j e)) _ _
      (local-then (same_kinds P) SameName (PartBy placeless) name name _ _ (local-name (same_kinds P) (λ bytes. plain (Ident bytes) refl)) (λ x y p. local-nothing (same_kinds P) (PartBy placeless) (part.Field x) (part.Field y) (ap (λ n. part.Field (record { name = n; at = 0 })) p)))

  -- an expression, its tokens and other tokens of the same kinds, within as many levels or more
  pub same-expression : (n m : ℕ) → n ≤ m → IsLocal P SameExpr (g.expr_rule (λ at. 0) n (g.below (λ at. 0) n)) (g.expr_rule (λ at. 0) m (g.below (λ at. 0) m))
  same-expression n m le = local-expression (same_kinds P) unmarked placeless_forms field n m le
