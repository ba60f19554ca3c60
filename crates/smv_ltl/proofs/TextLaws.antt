-- The translation, put together from what the pieces answer.
use Rattle.std.proofs.Common.{◌≡◌, ◌<◌, ◌≤◌, ◌+◌, ℕ, List, [], ◌∷◌, ◌++◌, length, map, drop, Result, Ok, Err, IfOk, sym, ap, ◌∙◌, subst, arith}
use Rattle.std.proofs.lemmas.List.{length-map}
use Rattle.smv_core.specs.Values.{Name}
use Rattle.smv_core.specs.declared.fault.Refusal.{Refusal}
use Rattle.smv_core.specs.declared.fault.Refusal.TheVariants as refusal
use Rattle.smv_core.specs.Notation.{Tokens}
use Rattle.smv_lex.specs.Answers.{IfFault}
use Rattle.smv_parse_formula_texts.specs.Spelling.{HasFault}
use Rattle.smv_parse_formula_texts.specs.Spelling as read
use Rattle.smv_ltl.specs.Answers.{shown}
use Rattle.smv_ltl.specs.declared.Translated.{Translated}
use Rattle.law_formulas.specs.Formulas.{FormulaText}
use Rattle.law_formulas.specs.Monitors.{Watched, watched, monitors_of, free_names, first_name, layer_of}
use Rattle.law_formula_texts.specs.Laws.{names_of}
use Rattle.law_translated_texts.specs.Answers.{limit, IsReadable, IsTranslated, IsRefused, too_long, of_bytes, unexpected, too_deep, too_long_translated}
use Rattle.law_translated_texts.specs.Translation.{Placed, Translation, translation_of, edited, edits, with_end}

module _ (text : List ℕ) (ts : Tokens) (ft : FormulaText) where
  -- the names of the monitors and of the layer
  abbrev own_names : List Name
  own_names = free_names (names_of ts) (monitors_of ft.formulas + 1)

  abbrev bytes_by : List (ℕ × Watched) → Name → Placed
  bytes_by plan layer = edited text 0 (edits text ts plan layer ft.text.tops)

  abbrev own_bytes : Placed
  own_bytes = bytes_by (watched ft.formulas own_names) (layer_of own_names ft)

  module _ (count : ℕ) (names : List Name) (plan : List (ℕ × Watched)) (layer : Name) (counted : count ≡ monitors_of ft.formulas) (named : names ≡ free_names (names_of ts) (count + 1))
      (planned : plan ≡ watched ft.formulas names) (layered : layer ≡ first_name (drop count names)) where
    names-are : names ≡ own_names
    names-are = named ∙ ap (λ k. free_names (names_of ts) (k + 1)) counted

    bytes-are : bytes_by plan layer ≡ own_bytes
    bytes-are =
        ap (λ p. bytes_by p layer) (planned ∙ ap (λ ns. watched ft.formulas ns) names-are)
        ∙ ap (λ l. bytes_by (watched ft.formulas own_names) l) (layered ∙ ap (λ ns. first_name (drop count ns)) names-are ∙ ap (λ k. first_name (drop k own_names)) counted)

    pub written-is : (out : Placed) (t : Translation) → out ≡ bytes_by plan layer → t.text ≡ map (λ b. b.0) out → t.places ≡ map (λ b. b.1) out ++ length text ∷ [] → t ≡ translation_of text ts ft
    written-is out t e first second =
        ap (λ z. record { text = z; places = t.places }) first ∙ ap (λ z. record { text = map (λ (b : ℕ × ℕ). b.0) out; places = z }) second ∙ ap (λ bytes. with_end text bytes) (e ∙ bytes-are)

    pub over-is : limit < length (bytes_by plan layer) → limit < length (translation_of text ts ft).text
    over-is lt = let e = ap (λ (l : Placed). length l) bytes-are in omega (arith, lt, e, length-map own_bytes (λ b. b.0))

  -- ---- what is answered of a text that is read

  module _ (readable : IsReadable text ts ft) where
    pub translated-there : (r : Result Translated Refusal) → IfOk r (λ t. shown t ≡ translation_of text ts ft) → IfOk r (λ t. length t.text ≤ limit) → IfOk r (λ t. IsTranslated text (shown t))
    translated-there (Ok t) e le = record { tokens = ts; tree = ft; readable = readable; translated = e; fits = le }
    translated-there (Err f) e le = tt

    pub refused-there : (r : Result Translated Refusal) → IfFault r (λ f. (f.number ≡ 31) × (f.at ≡ 0) × (limit < length (translation_of text ts ft).text)) → IfFault r (λ f. IsRefused text f.number f.at)
    refused-there (Ok t) h = tt
    refused-there (Err refusal.OutOfMemory) h = tt
    refused-there (Err (refusal.Fault f)) h =
        subst (λ (n : ℕ). IsRefused text n f.at) (sym h.0) (subst (λ (a : ℕ). IsRefused text 31 a) (sym h.1) (too_long_translated readable h.2))

-- a text with a fault of 1 to 6 is refused with it
pub faults-are : (text : List ℕ) → length text ≤ limit → (number at : ℕ) → HasFault text number at → IsRefused text number at
faults-are text le number at (read.of_bytes e) = of_bytes le e
faults-are text le number at (read.unexpected e bad) = unexpected le e bad
faults-are text le number at (read.too_deep e bad) = too_deep le e bad

-- a text over the limit is refused at its front
pub too-long-there : (text : List ℕ) → limit < length text → (r : Refusal) → r ≡ refusal.Fault (record { number = 31; at = 0 }) → IfFault {X = Translated} (Err r) (λ f. IsRefused text f.number f.at)
too-long-there text long r e = subst (λ (z : Refusal). IfFault {X = Translated} (Err z) (λ f. IsRefused text f.number f.at)) (sym e) (too_long long)
