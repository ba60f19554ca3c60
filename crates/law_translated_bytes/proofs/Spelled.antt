-- The bytes of the translation spell the translated tree.
use Rattle.std.proofs.Common.{◌≡◌, ◌<◌, ◌+◌, ℕ, zero, suc, List, [], ◌∷◌, length, drop, Ok, refl, sym, ap, ◌∙◌, arith}
use Rattle.std.specs.List.{AllByRecursion}
use Rattle.smv_core.specs.Values.{Name}
use Rattle.smv_core.specs.declared.tree.Text.{Text}
use Rattle.smv_core.specs.Notation.{Tokens}
use Rattle.smv_core.specs.Spelling.{Spells}
use Rattle.smv_lex.specs.Lexing.{lexed}
use Rattle.law_lexed_parts.specs.Parts.{moved_token, moved_tokens}
use Rattle.law_lexed_parts.proofs.Parted.{From}
use Rattle.law_places.specs.Placeless.{placeless_text}
use Rattle.law_formulas.specs.Formulas.{FormulaText}
use Rattle.law_formulas.specs.Monitors.{free_names, monitors_of, first_name, layer_of, translated_by}
use Rattle.law_formula_texts.specs.Spelled.{SpellsFormulas}
use Rattle.law_formula_texts.specs.Laws.{names_of}
use Rattle.law_fresh_monitors.proofs.FreeNames as fresh
use Rattle.law_strengthened_claims.specs.Renaming.{IsName}
use Rattle.law_translated_texts.specs.Translation.{edited, translation_by}
use Rattle.law_written_monitors.proofs.Names.{names-are}
use Rattle.law_translated_items.specs.Segments.{old}
use Rattle.law_translated_items.proofs.Tops.{tokens-translated}
use Rattle.law_translated_bytes.specs.Laws.{TranslationsAreSpelled}
use Rattle.law_translated_bytes.proofs.Cuts.{made}
use Rattle.law_translated_bytes.proofs.Made.{made-read}
use Rattle.law_translated_bytes.proofs.Narrow.{plain, cuts, tokens-cuts, kinds-cuts, fine-cuts, narrow}

not-moved : (ts : Tokens) → ts ≡ moved_tokens 0 ts
not-moved [] = refl
not-moved (t ∷ ts) = let e : t.at ≡ t.at + 0 = omega arith in ap (λ k. record { kind = t.kind; at = k } ∷ ts) e ∙ ap (λ l. moved_token 0 t ∷ l) (not-moved ts)

from-none : (ts : Tokens) → From 0 ts
from-none [] = tt
from-none (t ∷ ts) = (omega arith, from-none ts)

-- with any names
by-names : (n : ℕ) (text : List ℕ) (ts : Tokens) (ft : FormulaText) (names : List Name) → lexed text ≡ Ok ts → SpellsFormulas n ts ft → AllByRecursion IsName names → IsName (layer_of names ft) →
    (us : Tokens) × (new : Text) × (lexed (translation_by names text ts ft).text ≡ Ok us) × Spells (7 + n) us new × (placeless_text (translated_by names ft) ≡ placeless_text new)
by-names n text ts ft names read h all_names layer_name =
    let layer = layer_of names ft in
    let v = tokens-translated n text ts ft names layer read h all_names layer_name in
    let cs = cuts text ts layer v.segments in
    let bytes : (translation_by names text ts ft).text ≡ made text 0 cs =
    ap (λ es. plain (edited text 0 es)) (sym v.edited) ∙ narrow text ts layer read v.segments 0 ([], v.split) (from-none (old v.segments)) v.good in
    let r = made-read text cs (fine-cuts text ts layer v.segments v.good) 0 [] (record { own = ts; read = read; own_moved = tokens-cuts text ts layer v.segments ∙ sym v.split ∙ not-moved ts }) in
    let x = v.again r.0 (r.2 ∙ kinds-cuts text ts layer v.segments v.good) in
    (r.0, x.0, ap lexed bytes ∙ r.1, x.1, x.2)

-- one of a list is so
first-of : (P : Name → Type 0) (k : ℕ) (names : List Name) → k < length names → AllByRecursion P names → P (first_name (drop k names))
first-of P zero [] lt h = absurd (omega (arith, lt))
first-of P zero (x ∷ names) lt h = h.0
first-of P (suc k) [] lt h = absurd (omega (arith, lt))
first-of P (suc k) (x ∷ names) lt h = first-of P k names (omega (arith, lt)) h.1

pub translations-spelled : TranslationsAreSpelled
translations-spelled n text ts ft small read h =
    let count : ℕ = monitors_of ft.formulas + 1 in
    let names = free_names (names_of ts) count in
    let all_names = names-are (names_of ts) count small in
    let long = (fresh.free (names_of ts) count (omega (arith, small))).0 in
    by-names n text ts ft names read h all_names (first-of IsName (monitors_of ft.formulas) names (omega (arith, long)) all_names)
