-- What a refusal of formulas over several times tells.
use Rattle.std.proofs.Common.{◌≡◌, ℕ, List, length, true, false, refl, sym, ◌∙◌, inl, inr, true≢false, arith}
use Rattle.smv_parse.specs.Laws.{IsWithin}
use Rattle.smv_parse.specs.Spelling as form
use Rattle.smv_bits.specs.declared.Bits.{Bits}
use Rattle.smv_bits.specs.declared.Bits.TheVariants.{Declared}
use Rattle.smv_problem.specs.declared.report.Budgets.{Budgets}
use Rattle.smv_report.specs.Lines.{fault_text}
use Rattle.smv_command.specs.declared.commands.Command.TheVariants.{Prove, Ltl}
use Rattle.smv_command.specs.declared.exit.Status.{Status}
use Rattle.law_translated_texts.specs.Answers.{IsRefused, too_long, of_bytes, unexpected, too_deep, too_many, too_long_translated}
use Rattle.law_translated_texts.specs.Translation.{back}
use Rattle.law_ltl_answers.specs.Dues.{IsLtlDue, translated, refused_text, refused_translation}
use Rattle.law_formula_places.specs.Laws.{RefusalsAreWithin, TranslationsAreCarriedBack}
use Rattle.law_fault_places.specs.FaultsOfTexts.{FaultsAreWithin, IsFaultUnder}
use Rattle.law_fault_places.proofs.Refusals.{as-fault, is_refused, open-not}

module _ (form_within : IsWithin) (refused : RefusalsAreWithin) (carried : TranslationsAreCarriedBack) (within : FaultsAreWithin) where
  -- why a text is not translated
  of-text : (bits : Bits) (budgets : Budgets) (text : List ℕ) (number at : ℕ) → IsRefused text number at → IsFaultUnder (Ltl bits budgets) (length text) number at
  of-text bits budgets text _ _ (too_long long) = inl (record { lowest = omega arith; highest = omega arith; place = omega arith })
  of-text bits budgets text number at (of_bytes short bad) =
      let w = form_within text number at (form.of_bytes bad) in
      inl (record { lowest = w.0; highest = (let le = w.1 in omega (arith, le)); place = w.2 })
  of-text bits budgets text _ at (unexpected short read is) = inl (record { lowest = omega arith; highest = omega arith; place = refused text 5 at (unexpected short read is) })
  of-text bits budgets text _ at (too_deep short read is) = inl (record { lowest = omega arith; highest = omega arith; place = refused text 6 at (too_deep short read is) })
  of-text bits budgets text _ at (too_many short read spelled ninth) = inr (record { own = refl; place = refused text 37 at (too_many short read spelled ninth) })
  of-text bits budgets text _ _ (too_long_translated readable long) = inl (record { lowest = omega arith; highest = omega arith; place = omega arith })

  pub formula-refusal-tells : (proved : Status) → is_refused proved ≡ false → (bits : Bits) (budgets : Budgets) (text : List ℕ) (due : Status) (answer : List ℕ) → IsLtlDue proved bits budgets text due answer → is_refused due ≡ true →
      (number : ℕ) × (at : ℕ) × IsFaultUnder (Ltl bits budgets) (length text) number at × (answer ≡ fault_text text number at)
  formula-refusal-tells _ not _ _ text _ _ (translated proved bits budgets t report is right) e = absurd (true≢false (sym e ∙ open-not proved report not))
  formula-refusal-tells _ not _ _ text _ _ (refused_text proved bits budgets number at fault) e = (number, at, of-text bits budgets text number at fault, refl)
  formula-refusal-tells _ not _ _ text _ _ (refused_translation proved bits budgets t number at is fault) e =
      let w = within (Prove Declared (record { nodes = 1; steps = 1 })) t.text number at (as-fault t.text number at fault) in
      (number, back t at, inl (record { lowest = w.lowest; highest = w.highest; place = carried text t at is }), refl)
