-- The canonical tokens of types are no more than those that were read.
use Rattle.std.proofs.Common.{ℕ, zero, suc, [], ◌∷◌, ◌++◌, map, inl, inr, ap, sym, ◌∙◌}
use Rattle.smv_core.specs.declared.tree.Span.{Span}
use Rattle.smv_core.specs.Signs.{open_brace, close_brace, colon, semicolon, dots}
use Rattle.smv_core.specs.Signs as w
use Rattle.smv_core.specs.Notation.{Tokens}
use Rattle.smv_core.specs.Grammar as g
use Rattle.smv_core.specs.Grammar.{place_of}
use Rattle.smv_print.specs.Written.{Kinds}
use Rattle.smv_print.specs.Types.{type_kinds, field_kinds, span_kinds, names_kinds}
use Rattle.smv_print.proofs.TypeLaws.{struct-kinds}
use Rattle.law_print_and_parse.specs.Aside.{word_aside, type_aside, field_aside}
use Rattle.law_print_and_parse.proofs.AsideLaws.{kinds-Boolean, kinds-Range, kinds-Named, kinds-Enum, kinds-Array, aside-Boolean, aside-Range, aside-Named, aside-Enum, aside-Array, aside-Struct, aside-field, field-rolled}
use Rattle.law_print_and_parse.proofs.Levels.{f, inner}
use Rattle.law_print_and_parse.proofs.Frugal.{Short, nil, cat, sign-before, name-before, number-before, opener-before, same-end, same-kinds, Saves, finish, saves-many, saves-names}

pub span-short : (ts : Tokens) (x : Span × ℕ) (rest : Tokens) → g.span ts x rest → Short (span_kinds x.0) ts rest
span-short ts x rest (low, m0, h0, (at, m1, h1, (high, m2, h2, (e, r)))) = number-before low h0 (sign-before dots at h1 (number-before high h2 (same-end r (nil m2))))

pub saves-index : Saves g.index type_kinds type_aside
saves-index ts z rest (inl (at, m0, h, (e, r))) = finish e r (record { alike = ap type_kinds aside-Boolean; short = same-kinds (sym kinds-Boolean) (sign-before w.word_boolean at h (nil m0)) })
saves-index ts z rest (inr (inl (x, m0, h, (e, r)))) = finish e r (record {
  alike = ap type_kinds (aside-Range x.0 x.1) ∙ kinds-Range x.0 0 ∙ sym (kinds-Range x.0 x.1);
  short = same-kinds (sym (kinds-Range x.0 x.1)) (span-short ts x m0 h);
})
saves-index ts z rest (inr (inr (x, m0, h, (e, r)))) = finish e r (record {
  alike = ap type_kinds (aside-Named x x.at) ∙ kinds-Named (word_aside x) 0 ∙ sym (kinds-Named x x.at);
  short = same-kinds (sym (kinds-Named x x.at)) (name-before x h (nil m0));
})

-- what stands inside an opened level
record Inside (n : ℕ) : Type 0 where
  type : Saves (inner n).type type_kinds type_aside
  field : Saves (inner n).field field_kinds field_aside

type-saved : (n : ℕ) → Inside n → Saves (g.type_rule f n (inner n)) type_kinds type_aside
type-saved n i ts z rest (inl h) = saves-index ts z rest h
type-saved n i ts z rest (inr (inl (at, m0, ho, (names, m1, hn, (a2, m2, hc, (e, r)))))) =
    let a = saves-names m0 names m1 hn in
    finish e r (record {
      alike = ap type_kinds (aside-Enum names at) ∙ kinds-Enum (map word_aside names) 0 ∙ ap (λ (ks : Kinds). open_brace ∷ ks ++ close_brace ∷ []) a.alike ∙ sym (kinds-Enum names at);
      short = same-kinds (sym (kinds-Enum names at)) (cat (opener-before n open_brace at ho a.short) (sign-before close_brace a2 hc (nil m2)));
    })
type-saved n i ts z rest (inr (inr (inl (a0, m0, h0, (over, m1, h1, (a2, m2, h2, (of, m3, h3, (e, r)))))))) =
    let a = saves-index m0 over m1 h1 in
    let b = i.type m2 of m3 h3 in
    finish e r (record {
      alike = ap type_kinds (aside-Array over of) ∙ kinds-Array (type_aside over) (type_aside of)
          ∙ ap (λ (ks : Kinds). w.word_array ∷ ks ++ w.word_of ∷ type_kinds (type_aside of)) a.alike ∙ ap (λ (ks : Kinds). w.word_array ∷ type_kinds over ++ w.word_of ∷ ks) b.alike ∙ sym (kinds-Array over of);
      short = same-kinds (sym (kinds-Array over of)) (cat (sign-before w.word_array a0 h0 a.short) (opener-before n w.word_of a2 h2 b.short));
    })
type-saved n i ts z rest (inr (inr (inr (a0, m0, h0, (a1, m1, h1, (fields, m2, h2, (a3, m3, h3, (e, r)))))))) =
    let a = saves-many {r = (inner n).field} field_kinds field_aside i.field m1 fields m2 h2 in
    finish e r (record {
      alike = ap type_kinds (aside-Struct fields) ∙ struct-kinds (map field_aside fields) ∙ ap (λ (ks : Kinds). w.word_struct ∷ open_brace ∷ ks ++ close_brace ∷ []) a.alike ∙ sym (struct-kinds fields);
      short = same-kinds (sym (struct-kinds fields)) (cat (sign-before w.word_struct a0 h0 (opener-before n open_brace a1 h1 a.short)) (sign-before close_brace a3 h3 (nil m3)));
    })

field-saved : (n : ℕ) → Inside n → Saves (g.field_rule f n (inner n)) field_kinds field_aside
field-saved n i ts z rest (names, m0, h0, (a1, m1, h1, (of, m2, h2, (a3, m3, h3, (e, r))))) =
    let a = saves-names ts names m0 h0 in
    let b = type-saved n i m1 of m2 h2 in
    finish e r (record {
      alike = ap field_kinds (aside-field names of (place_of names)) ∙ field-rolled (map word_aside names) (type_aside of) 0
          ∙ ap (λ (ks : Kinds). ks ++ colon ∷ type_kinds (type_aside of) ++ semicolon ∷ []) a.alike ∙ ap (λ (ks : Kinds). names_kinds names ++ colon ∷ ks ++ semicolon ∷ []) b.alike
          ∙ sym (field-rolled names of (place_of names));
      short = same-kinds (sym (field-rolled names of (place_of names))) (cat (cat a.short (sign-before colon a1 h1 b.short)) (sign-before semicolon a3 h3 (nil m3)));
    })

insides : (n : ℕ) → Inside n
insides zero = record { type = λ ts z rest h. absurd h; field = λ ts z rest h. absurd h }
insides (suc n) = let i = insides n in record { type = type-saved n i; field = field-saved n i }

pub saves-type : (n : ℕ) → Saves (g.type_rule f n (inner n)) type_kinds type_aside
saves-type n = type-saved n (insides n)
