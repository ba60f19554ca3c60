use Rattle.std.proofs.Common.{◌≡◌, ◌<◌, ℕ, List, ◌++◌, [], ◌∷◌, length, map, drop, ap, ◌∙◌, subst}
use Rattle.smv_core.specs.Values.{Name}
use Rattle.smv_core.specs.declared.tree.Top.{Top}
use Rattle.law_formulas.specs.Monitors.{watched, monitors_of, first_name}
use Rattle.law_translated_texts.specs.Answers.{limit}
use Rattle.law_translated_texts.specs.Translation.{Placed as PlacedBytes, translation_of, edited, edits}
use Rattle.smv_parse_formulas.specs.Trees.{meanings, shown}
use Rattle.smv_parse_formulas.specs.declared.tree.Placed.{Placed}
use Rattle.smv_parse_formula_texts.proofs.Answers.{rising}
use Rattle.smv_token_ends.proofs.Standing.{tokens-stand}
use Rattle.smv_ltl.specs.Answers as answers
use Rattle.smv_ltl.specs.Planned.{plan_of}
use Rattle.smv_ltl.specs.Writing.{IsTooLong}
use Rattle.smv_ltl.proofs.TextLaws.{written-is, over-is}
use Rattle.smv_ltl.proofs.ExitLaws.{exit-with}
use Rattle.smv_ltl.proofs.written.Goals as goal

pub edit-requires : goal.edit-requires
edit-requires c = record {
  source = record {
    short = c.requires.within;
    stand = tokens-stand c.args.text.now c.args.tokens.now c.requires.tree.0;
    rise = (length c.args.text.now, rising c.args.text.now c.args.tokens.now c.requires.tree.0);
  };
}

pub returns-clause-translated : goal.returns-clause-translated
returns-clause-translated c =
    let text = c.args.text.now in
    let ts = c.args.tokens.now in
    let ft = shown c.args.tree.now in
    let count = c.in_ok-count.count in
    let names = c.in_ok-names.names.items in
    let plan = plan_of c.in_ok-plan.plan in
    let layer = c.in_ok-layer.layer in
    let counted : count ≡ monitors_of ft.formulas = c.in_ok-count.ensures.count ∙ ap (λ (l : List Placed). monitors_of (meanings l)) c.as_slice-formulas.ensures in
    let planned : plan ≡ watched ft.formulas names = c.in_ok-plan.ensures ∙ ap (λ (l : List Placed). watched (meanings l) c.as_slice.result.now) c.as_slice-formulas.ensures ∙ ap (λ (ns : List Name). watched ft.formulas ns) c.as_slice.ensures.value in
    let layered : layer ≡ first_name (drop count names) = c.in_ok-layer.ensures ∙ ap (λ (ns : List Name). first_name (drop count ns)) c.as_slice-2.ensures.value in
    written-is text ts ft count names plan layer counted c.in_ok-names.ensures planned layered c.in_ok-out.out.items (answers.shown c.in_ok-translated.translated)
    (c.in_ok-out.ensures.written ∙ ap (λ (tops : List Top). edited text 0 (edits text ts plan layer tops)) c.as_slice-3.ensures)
    (c.in_ok-translated.ensures.text ∙ ap (λ (l : PlacedBytes). map (λ (b : ℕ × ℕ). b.0) l) c.as_slice-4.ensures.value)
    (c.in_ok-translated.ensures.map ∙ ap (λ (l : PlacedBytes). map (λ (b : ℕ × ℕ). b.1) l ++ length text ∷ []) c.as_slice-4.ensures.value)

pub returns-in_err-out-clause-fault : goal.returns-in_err-out-clause-fault
returns-in_err-out-clause-fault c =
    let text = c.args.text.now in
    let ts = c.args.tokens.now in
    let ft = shown c.args.tree.now in
    let count = c.in_ok-count.count in
    let names = c.in_ok-names.names.items in
    let plan = plan_of c.in_ok-plan.plan in
    let layer = c.in_ok-layer.layer in
    let counted : count ≡ monitors_of ft.formulas = c.in_ok-count.ensures.count ∙ ap (λ (l : List Placed). monitors_of (meanings l)) c.as_slice-formulas.ensures in
    let planned : plan ≡ watched ft.formulas names = c.in_ok-plan.ensures ∙ ap (λ (l : List Placed). watched (meanings l) c.as_slice.result.now) c.as_slice-formulas.ensures ∙ ap (λ (ns : List Name). watched ft.formulas ns) c.as_slice.ensures.value in
    let layered : layer ≡ first_name (drop count names) = c.in_ok-layer.ensures ∙ ap (λ (ns : List Name). first_name (drop count ns)) c.as_slice-2.ensures.value in
    exit-with c.edit.result c.from_residual-in_err-out.result c.in_err-out.field-0.0 (IsTooLong (edited text 0 (edits text ts plan layer c.as_slice-3.result.now))) (λ f. (f.number ≡ 31) × (f.at ≡ 0) × (limit < length (translation_of text ts ft).text))
    (λ f h. (
      h.0,
      h.1,
      over-is text ts ft count names plan layer counted c.in_ok-names.ensures planned layered
          (subst (λ (tops : List Top). limit < length (edited text 0 (edits text ts plan layer tops))) c.as_slice-3.ensures h.2),
    )) c.in_err-out.was c.from_residual-in_err-out.ensures.1 c.edit.ensures.refused
