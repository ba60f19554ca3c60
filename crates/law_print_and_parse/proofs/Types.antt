-- The canonical tokens of a type spell it again.
use Rattle.std.proofs.Common.{◌≡◌, ℕ, zero, suc, ◌<◌, List, [], ◌∷◌, map, inl, inr, refl, ap, sym, ◌∙◌, subst, append_assoc}
use Rattle.std.specs.List.{flat_map}
use Rattle.smv_core.specs.declared.tree.Word.{Word}
use Rattle.smv_core.specs.declared.tree.Span.{Span}
use Rattle.smv_core.specs.declared.tree.TypeExpr.{TypeExpr}
use Rattle.smv_core.specs.declared.tree.TypeExpr.TheVariants as type
use Rattle.smv_core.specs.declared.tree.Field.{Field, roll-Field}
use Rattle.smv_core.specs.Signs.{colon, semicolon}
use Rattle.smv_core.specs.Notation.{many, name, separated}
use Rattle.smv_core.specs.Grammar as g
use Rattle.smv_core.specs.Grammar.{Rules, below, place_of}
use Rattle.smv_print.specs.Types.{type_kinds, field_kinds, span_kinds, word_kinds, names_kinds}
use Rattle.smv_print.proofs.TypeLaws.{struct-kinds}
use Rattle.law_print_and_parse.specs.Aside.{word_aside, type_aside, field_aside}
use Rattle.law_print_and_parse.proofs.AsideLaws.{kinds-Boolean, kinds-Range, kinds-Named, kinds-Enum, kinds-Array, aside-Range, aside-Named, aside-Enum, aside-Array, aside-Struct, aside-field, field-rolled}
use Rattle.law_print_and_parse.proofs.Again.{Again, next, made, ended, left, right, regroup, weaker, sign, level, a-name, a-number}
use Rattle.law_print_and_parse.proofs.Keeps.{Keeps, keeps-many, keeps-separated}

abbrev f : ℕ → ℕ
f at = 0

-- ---- words and spans

pub word-same : (x : Word) (y : Word) → y.name ≡ x.name → word_aside y ≡ word_aside x
word-same x y e = ap (λ (b : List ℕ). let z : Word = record { name = b; at = 0 } in z) e

pub name-again : (x : Word) → Again name (word_kinds x) (λ y. word_aside y ≡ word_aside x)
name-again x = weaker (a-name x.name) (λ y e. word-same x y e)

pub keeps-name : Keeps name word_kinds word_aside
keeps-name ts x rest h = name-again x

pub keeps-names : Keeps (separated name) names_kinds (map word_aside)
unfolding names_kinds
keeps-names = keeps-separated {r = name} word_kinds word_aside keeps-name

span-same : (s : Span) (low high : ℕ) → low ≡ s.low → high ≡ s.high → (let z : Span = record { low = low; high = high } in z) ≡ s
span-same s low high d e = ap (λ (a : ℕ). let z : Span = record { low = a; high = high } in z) d ∙ ap (λ (b : ℕ). let z : Span = record { low = s.low; high = b } in z) e

pub span-again : (s : Span) → Again g.span (span_kinds s) (λ y. y.0 ≡ s)
span-again s = next (a-number s.low) (λ low d. sign refl (λ at. made (a-number s.high) (λ high e. span-same s low.0 high.0 d e)))

-- ---- index types

abbrev pub SameType : TypeExpr → TypeExpr → Type 0
SameType x y = type_aside y ≡ type_aside x

boolean-again : Again g.index (type_kinds type.Boolean) (SameType type.Boolean)
boolean-again = regroup (sym kinds-Boolean) (left (sign refl (λ at. ended refl)))

range-again : (s : Span) (at : ℕ) → Again g.index (type_kinds (type.Range s at)) (SameType (type.Range s at))
range-again s at = regroup (sym (kinds-Range s at)) (right (left (made (span-again s) (λ y e. aside-Range y.0 y.1 ∙ ap (λ (v : Span). type.Range v 0) e ∙ sym (aside-Range s at)))))

named-again : (x : Word) (at : ℕ) → Again g.index (type_kinds (type.Named x at)) (SameType (type.Named x at))
named-again x at = regroup (sym (kinds-Named x at)) (right (right (made (name-again x) (λ y e. aside-Named y y.at ∙ ap (λ (v : Word). type.Named v 0) e ∙ sym (aside-Named x at)))))

pub keeps-index : Keeps g.index type_kinds type_aside
keeps-index ts z rest (inl (at, mid, h, (e, r))) = let P : TypeExpr → Type 0 = λ z. Again g.index (type_kinds z) (SameType z) in subst P e boolean-again
keeps-index ts z rest (inr (inl (s, mid, h, (e, r)))) = let P : TypeExpr → Type 0 = λ z. Again g.index (type_kinds z) (SameType z) in subst P e (range-again s.0 s.1)
keeps-index ts z rest (inr (inr (x, mid, h, (e, r)))) = let P : TypeExpr → Type 0 = λ z. Again g.index (type_kinds z) (SameType z) in subst P e (named-again x x.at)

-- ---- types

module _ (n : ℕ) (inner : Rules) where
  enum-again : (names : List Word) (at : ℕ) → 0 < n → Again (separated name) (names_kinds names) (λ ys. map word_aside ys ≡ map word_aside names)
      → Again (g.type_rule f n inner) (type_kinds (type.Enum names at)) (SameType (type.Enum names at))
  enum-again names at some p = regroup (sym (kinds-Enum names at)) (right (left (level some refl (λ at'. next p (λ ys e. sign refl (λ _. ended
      (aside-Enum ys at' ∙ ap (λ (v : List Word). type.Enum v 0) e ∙ sym (aside-Enum names at))))))))

  array-again : (over of : TypeExpr) → 0 < n → Again g.index (type_kinds over) (SameType over) → Again inner.type (type_kinds of) (SameType of)
      → Again (g.type_rule f n inner) (type_kinds (type.Array over of)) (SameType (type.Array over of))
  array-again over of some p q = regroup (sym (kinds-Array over of)) (right (right (left (sign refl (λ _. next p (λ u d. level some refl (λ _. made q (λ v e.
      aside-Array u v ∙ ap (λ (z : TypeExpr). type.Array z (type_aside v)) d ∙ ap (λ (z : TypeExpr). type.Array (type_aside over) z) e ∙ sym (aside-Array over of)))))))))

  struct-again : (fields : List Field) → 0 < n → Again (many inner.field) (flat_map field_kinds fields) (λ ys. map field_aside ys ≡ map field_aside fields)
      → Again (g.type_rule f n inner) (type_kinds (type.Struct fields)) (SameType (type.Struct fields))
  struct-again fields some p = regroup (sym (struct-kinds fields)) (right (right (right (sign refl (λ _. level some refl (λ _. next p (λ ys e. sign refl (λ _. ended
      (aside-Struct ys ∙ ap (λ (v : List Field). type.Struct v) e ∙ sym (aside-Struct fields))))))))))

  module _ (inner_type : Keeps inner.type type_kinds type_aside) (inner_field : Keeps inner.field field_kinds field_aside) where
    pub keeps-type : Keeps (g.type_rule f n inner) type_kinds type_aside
    keeps-type ts z rest (inl h) = let r = keeps-index ts z rest h in left r
    keeps-type ts z rest (inr (inl (at, mid, (at', m1, ht, (u, m2, (some, q), e0)), (names, m3, hn, (at2, m4, hc, (e, r)))))) =
        let P : TypeExpr → Type 0 = λ z. Again (g.type_rule f n inner) (type_kinds z) (SameType z) in
        subst P e (enum-again names at some (keeps-names mid names m3 hn))
    keeps-type ts z rest (inr (inr (inl (a0, m0, h0, (over, m1, h1, (a2, m2, (a3, m3, ht, (u, m4, (some, q), e0)), (of, m5, h5, (e, r)))))))) =
        let P : TypeExpr → Type 0 = λ z. Again (g.type_rule f n inner) (type_kinds z) (SameType z) in
        subst P e (array-again over of some (keeps-index m0 over m1 h1) (inner_type m2 of m5 h5))
    keeps-type ts z rest (inr (inr (inr (a0, m0, h0, (a2, m2, (a3, m3, ht, (u, m4, (some, q), e0)), (fields, m5, h5, (a6, m6, h6, (e, r)))))))) =
        let P : TypeExpr → Type 0 = λ z. Again (g.type_rule f n inner) (type_kinds z) (SameType z) in
        subst P e (struct-again fields some (keeps-many {r = inner.field} field_kinds field_aside inner_field m2 fields m5 h5))

    field-again : (names : List Word) (of : TypeExpr) (at : ℕ) → Again (separated name) (names_kinds names) (λ ys. map word_aside ys ≡ map word_aside names)
        → Again (g.type_rule f n inner) (type_kinds of) (SameType of)
        → Again (g.field_rule f n inner) (field_kinds (roll-Field (record { names = names; of = of; at = at }))) (λ y. field_aside y ≡ field_aside (roll-Field (record { names = names; of = of; at = at })))
    field-again names of at p q = regroup (sym (append_assoc (names_kinds names) (colon ∷ type_kinds of) (semicolon ∷ [])) ∙ sym (field-rolled names of at))
        (next p (λ ys d. sign refl (λ _. next q (λ v e. sign refl (λ _. ended
        (aside-field ys v (place_of ys)
        ∙ ap (λ (z : List Word). roll-Field (record { names = z; of = type_aside v; at = 0 })) d
        ∙ ap (λ (z : TypeExpr). roll-Field (record { names = map word_aside names; of = z; at = 0 })) e
        ∙ sym (aside-field names of at)))))))

    pub keeps-field : Keeps (g.field_rule f n inner) field_kinds field_aside
    keeps-field ts z rest (names, m0, h0, (a1, m1, h1, (of, m2, h2, (a3, m3, h3, (e, r))))) =
        let P : Field → Type 0 = λ z. Again (g.field_rule f n inner) (field_kinds z) (λ y. field_aside y ≡ field_aside z) in
        subst P e (field-again names of (place_of names) (keeps-names ts names m0 h0) (keeps-type m1 of m2 h2))

-- ---- within any number of levels

record Types (n : ℕ) : Type 0 where
  type : Keeps (below f n).type type_kinds type_aside
  field : Keeps (below f n).field field_kinds field_aside

types : (n : ℕ) → Types n
types zero = record { type = λ ts z rest h. absurd h; field = λ ts z rest h. absurd h }
types (suc n) = let t = types n in record { type = keeps-type n (below f n) t.type t.field; field = keeps-field n (below f n) t.type t.field }

pub types-kept : (n : ℕ) → Keeps (g.type_rule f n (below f n)) type_kinds type_aside
types-kept n = let t = types n in keeps-type n (below f n) t.type t.field
