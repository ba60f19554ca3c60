-- A text is sound over times where each unit of its translation is true.
use Rattle.std.proofs.Common.{◌≡◌, ◌∙◌, ◌≤◌, ◌+◌, ◌*◌, ℕ, Bool, true, false, List, length, Ok, refl, sym, ap, subst, arith}
use Rattle.std.specs.Prelude.{◌≢◌, if◌then◌else◌}
use Rattle.std.specs.List.{list_any, AllByRecursion}
use Rattle.smv_core.specs.Notation.{Tokens}
use Rattle.smv_core.specs.Spelling.{Spells}
use Rattle.smv_core.specs.Sound.{IsSound}
use Rattle.smv_core.specs.declared.tree.Text.{Text}
use Rattle.smv_lex.specs.Lexing.{Lexed, lexed}
use Rattle.smv_bits.specs.declared.Bits.{Bits}
use Rattle.smv_problem.specs.declared.report.Budgets.{Budgets}
use Rattle.smv_problem.specs.declared.report.Report.{Report}
use Rattle.smv_command.specs.declared.exit.Status.{Status}
use Rattle.smv_command.specs.declared.exit.Status.TheVariants as status
use Rattle.law_grammar.proofs.Only as grammar
use Rattle.law_places.specs.Placeless.{placeless_text}
use Rattle.law_reports.specs.Reports.{AllTrueUnits}
use Rattle.law_valid_texts.specs.Reports.{IsValid}
use Rattle.law_valid_texts.specs.Laws.{RightReportsAreSound}
use Rattle.law_valid_texts.specs.PlanLaws.{ValidTextsAreFaultless}
use Rattle.law_document_answers.specs.Statuses.{is_false, is_unknown, status_of}
use Rattle.law_document_answers.proofs.Statuses.{true_units}
use Rattle.law_formulas.specs.Formulas.{FormulaText}
use Rattle.law_formulas.specs.Monitors.{monitors_of, names_around}
use Rattle.law_formula_trees.specs.Behind.{AreApart}
use Rattle.law_fresh_monitors.specs.Spots.{spots}
use Rattle.law_formula_texts.specs.Laws.{names_of}
use Rattle.law_translated_texts.specs.Translation.{Translation, translation_of}
use Rattle.law_translated_texts.specs.Answers.{levels, IsReadable}
use Rattle.law_translated_bytes.specs.Laws.{TranslationsAreSpelled}
use Rattle.law_exact_translations.specs.Laws.{TranslationsAreExact}
use Rattle.law_ltl_answers.specs.Dues.{IsLtlDue, translated as is_translated, refused_text, refused_translation}
use Rattle.law_ltl_answers.specs.Laws.{AreSoundFormulas, ProvedFormulasAreSound}
use Rattle.law_ltl_answers.proofs.Tokens.{few-tokens, few-names}
use Rattle.law_ltl_answers.proofs.Few.{few-formulas}
use Rattle.law_ltl_answers.proofs.Monitors.{few-monitors}
use Rattle.law_ltl_answers.proofs.Binders.{binders-apart}

same-tokens : (l : Lexed) (ts us : Tokens) → l ≡ Ok ts → l ≡ Ok us → ts ≡ us
same-tokens l ts us p q = let both : Ok ts ≡ Ok us = sym p ∙ q in cc (both)

-- a text that is read has few monitors
monitors-within : (text : List ℕ) (ts : Tokens) (ft : FormulaText) → IsReadable text ts ft → monitors_of ft.formulas ≤ 9 * length text
monitors-within text ts ft readable =
    let a = few-monitors ft.formulas readable.no_ninth in
    let b = few-formulas levels ts ft readable.spelled in
    let c = few-tokens text ts readable.read in
    omega (arith, a, b, c)

-- where its translation is valid, no two binders around a formula have the same name
valid-apart : TranslationsAreSpelled → ValidTextsAreFaultless → (text : List ℕ) (ts : Tokens) (ft : FormulaText) (x : Text) → IsReadable text ts ft → IsValid (translation_of text ts ft).text x →
    AllByRecursion (λ spot. AreApart (names_around spot.1)) (spots ft)
valid-apart spelled faultless text ts ft x readable valid =
    let fits = readable.fits in
    let few = monitors-within text ts ft readable in
    let tokens = few-tokens text ts readable.read in
    let names = few-names ts in
    let o = spelled levels text ts ft (omega (arith, fits, few, tokens, names)) readable.read readable.spelled in
    let u = valid.is_tree.spelled in
    let same = same-tokens (lexed (translation_of text ts ft).text) o.0 u.0 o.2 u.1 in
    let text_is = grammar.one-text (7 + levels) levels u.0 o.1 x (subst (λ l. Spells (7 + levels) l o.1) same o.3) u.2 in
    binders-apart (names_of ts) ft x (o.4 ∙ ap placeless_text text_is) ((faultless (translation_of text ts ft).text x valid).0.kinds.3)

-- a text is sound over times where its translation is valid and sound
translated-sound : TranslationsAreExact → TranslationsAreSpelled → ValidTextsAreFaultless → (text : List ℕ) (ts : Tokens) (ft : FormulaText) (x : Text) → IsReadable text ts ft → IsValid (translation_of text ts ft).text x → IsSound x → AreSoundFormulas text
translated-sound exact spelled faultless text ts ft x readable valid sound =
    let fits = readable.fits in
    let few = monitors-within text ts ft readable in
    let u = valid.is_tree.spelled in
    let both = exact text levels ts ft readable.read readable.spelled (omega (arith, fits)) (omega (arith, fits, few)) (valid-apart spelled faultless text ts ft x readable valid) levels u.0 x u.1 u.2 in
    (ts, ft, readable.read, readable.spelled, both.1 sound)

-- the units of a report that has the status of a proved text are true
all-proved : (proved : Status) (report : Report) → proved ≢ status.SomeFalse → proved ≢ status.SomeUnknown → status_of proved report ≡ proved → AllTrueUnits report.units
all-proved proved report no_false no_unknown e = by (list_any (λ u. is_false u.verdict) report.units) (list_any (λ u. is_unknown u.verdict) report.units) refl refl e
  where
    by : (x y : Bool) → list_any (λ u. is_false u.verdict) report.units ≡ x → list_any (λ u. is_unknown u.verdict) report.units ≡ y → (if x then status.SomeFalse else (if y then status.SomeUnknown else proved)) ≡ proved → AllTrueUnits report.units
    by true y f u q = absurd (no_false (sym q))
    by false true f u q = absurd (no_unknown (sym q))
    by false false f u q = true_units report.units f u

proved-by : TranslationsAreExact → TranslationsAreSpelled → ValidTextsAreFaultless → RightReportsAreSound → (proved : Status) (bits : Bits) (budgets : Budgets) (text : List ℕ) (due : Status) (answer : List ℕ) →
    proved ≢ status.SomeFalse → proved ≢ status.SomeUnknown → proved ≢ status.Refused → due ≡ proved → IsLtlDue proved bits budgets text due answer → AreSoundFormulas text
proved-by exact spelled faultless reports _ _ _ text _ _ f u r e (is_translated proved bits budgets t report is right) =
    let design = reports t.text bits budgets.nodes budgets.steps report right (all-proved proved report f u e) in
    translated-sound exact spelled faultless text is.tokens is.tree design.0 is.readable (subst (λ (z : Translation). IsValid z.text design.0) is.translated design.1) design.2
proved-by exact spelled faultless reports _ _ _ text _ _ f u r e (refused_text proved bits budgets number at fault) = absurd (r (sym e))
proved-by exact spelled faultless reports _ _ _ text _ _ f u r e (refused_translation proved bits budgets t number at is fault) = absurd (r (sym e))

pub proved-sound : TranslationsAreExact → TranslationsAreSpelled → ValidTextsAreFaultless → RightReportsAreSound → ProvedFormulasAreSound
proved-sound exact spelled faultless reports proved bits budgets text answer f u r is = proved-by exact spelled faultless reports proved bits budgets text proved answer f u r refl is
