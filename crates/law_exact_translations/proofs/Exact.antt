-- A text has one translation, and is sound over times exactly where that spells a sound text.
use Rattle.std.proofs.Common.{◌≡◌, ◌≤◌, ◌+◌, ℕ, suc, List, [], ◌∷◌, ◌++◌, map, length, nat_eq, false, Ok, refl, sym, ap, ◌∙◌, subst, arith}
use Rattle.std.specs.List.{list_any}
use Rattle.std.proofs.lemmas.Bool.{or_from}
use Rattle.law_lists.proofs.Numbers.{nat_eq-below}
use Rattle.smv_core.specs.declared.token.Token.{Token}
use Rattle.smv_core.specs.declared.token.TokenKind.{TokenKind}
use Rattle.smv_core.specs.declared.token.TokenKind.TheVariants.{Ident, Number, Sign, Reserved}
use Rattle.smv_core.specs.Notation.{Tokens}
use Rattle.smv_core.specs.Spelling.{Spells}
use Rattle.smv_lex.specs.Lexing.{Lexed, lexed}
use Rattle.law_grammar.proofs.Only as grammar
use Rattle.law_places.specs.Placeless.{placeless_text}
use Rattle.law_places.proofs.Designs.{sound-alike}
use Rattle.law_lexed_parts.proofs.Parted.{From, Rising, Under, rising, within-text}
use Rattle.law_formulas.specs.Formulas.{FormulaText}
use Rattle.law_formulas.specs.Monitors.{translated}
use Rattle.law_fresh_monitors.specs.Spots.{NoneTwice}
use Rattle.law_formula_texts.specs.Laws.{name_in, names_of}
use Rattle.law_formula_texts.specs.Spelled.{SpellsFormulas}
use Rattle.law_formula_texts.proofs.Lexed.{read-exact}
use Rattle.law_formula_grammar.proofs.Answers.{one-text}
use Rattle.law_formula_grammar.proofs.Back.{back-text}
use Rattle.law_translated_texts.specs.Translation.{translation_of}
use Rattle.law_translated_bytes.proofs.Spelled.{translations-spelled}
use Rattle.law_exact_translations.specs.Laws.{TranslationsAreOne, TranslationsAreExact}

-- ---- the tokens of a text

other-offsets : (at : ℕ) (ts : Tokens) → From (at + 1) ts → list_any (nat_eq at) (map (λ (t : Token). t.at) ts) ≡ false
other-offsets at [] h = refl
other-offsets at (t ∷ ts) h = let low = h.0 in or_from (nat_eq at t.at) (list_any (nat_eq at) (map (λ (u : Token). u.at) ts)) (nat_eq-below at t.at (omega (arith, low))) (other-offsets at ts h.1)

offsets-once : (ts : Tokens) → Rising ts → NoneTwice (map (λ (t : Token). t.at) ts)
offsets-once [] h = tt
offsets-once (t ∷ ts) h = (other-offsets t.at ts h.0, offsets-once ts h.1)

few-tokens : (from to : ℕ) (ts : Tokens) → from ≤ to → Rising ts → From from ts → Under to ts → length ts + from ≤ to
few-tokens from to [] le rises low high = omega (arith, le)
few-tokens from to (t ∷ ts) le rises low high =
    let a = low.0 in
    let b = high.0 in
    let rest = few-tokens (t.at + 1) to ts (omega (arith, b)) rises.1 rises.0 high.1 in
    omega (arith, a, b, rest)

from-zero : (ts : Tokens) → From 0 ts
from-zero [] = tt
from-zero (t ∷ ts) = (omega arith, from-zero ts)

few-names : (ts : Tokens) → length (names_of ts) ≤ length ts
few-names [] = omega arith
few-names (t ∷ ts) = by_kind t.kind (few-names ts)
  where
    by_kind : (k : TokenKind) → length (names_of ts) ≤ length ts → length (name_in k ++ names_of ts) ≤ suc (length ts)
    by_kind (Ident bytes) h = omega (arith, h)
    by_kind (Number value) h = omega (arith, h)
    by_kind (Sign i) h = omega (arith, h)
    by_kind (Reserved i) h = omega (arith, h)

same-tokens : (l : Lexed) (ts us : Tokens) → l ≡ Ok ts → l ≡ Ok us → ts ≡ us
same-tokens l ts us p q = let both : Ok ts ≡ Ok us = sym p ∙ q in cc (both)

-- ---- one translation

same-tree : (n : ℕ) (text : List ℕ) (ts us : Tokens) (x y : FormulaText) → lexed text ≡ Ok ts → ts ≡ us → SpellsFormulas n ts x → SpellsFormulas n us y → x ≡ y
same-tree n text ts us x y read same p q =
    let once = offsets-once ts (rising 0 0 text ts read) in
    one-text n n ts x y (back-text n ts x once p) (back-text n ts y once (subst (λ l. SpellsFormulas n l y) (sym same) q))

pub translations-one : TranslationsAreOne
translations-one text t u p q =
    let tokens = same-tokens (lexed text) p.tokens q.tokens p.readable.read q.readable.read in
    let tree = same-tree 64 text p.tokens q.tokens p.tree q.tree p.readable.read tokens p.readable.spelled q.readable.spelled in
    p.translated ∙ ap (λ l. translation_of text l p.tree) tokens ∙ ap (translation_of text q.tokens) tree ∙ sym q.translated

-- ---- what it spells

pub translations-exact : TranslationsAreExact
translations-exact text n ts ft read spelled short few binders m us x lexed_so spells =
    let rises = rising 0 0 text ts read in
    let within = few-tokens 0 (0 + length text) ts (omega arith) rises (from-zero ts) (within-text 0 0 text ts read) in
    let names = few-names ts in
    let o = translations-spelled n text ts ft (omega (arith, within, names, short, few)) read spelled in
    let tokens = same-tokens (lexed (translation_of text ts ft).text) o.0 us o.2 lexed_so in
    let text_is = grammar.one-text (7 + n) m us o.1 x (subst (λ l. Spells (7 + n) l o.1) tokens o.3) spells in
    let same : placeless_text (translated (names_of ts) ft) ≡ placeless_text x = o.4 ∙ ap placeless_text text_is in
    let exact = read-exact text n ts ft read spelled (omega (arith, short)) (omega (arith, few)) binders in
    (λ h. sound-alike (translated (names_of ts) ft) x same (exact.0 h), λ h. exact.1 (sound-alike x (translated (names_of ts) ft) (sym same) h))
