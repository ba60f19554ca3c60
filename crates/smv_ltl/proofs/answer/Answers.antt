use Rattle.std.proofs.Common.{◌<◌, ◌≤◌, length, sym, subst, arith}
use Rattle.smv_core.specs.Notation.{Tokens}
use Rattle.law_translated_texts.specs.Answers.{limit, IsRefused}
use Rattle.smv_parse_formula_texts.specs.Spelling.{SpellsText, HasFault}
use Rattle.smv_parse_formulas.specs.Trees.{shown}
use Rattle.smv_ltl.proofs.TextLaws.{faults-are, too-long-there}
use Rattle.smv_ltl.proofs.ExitLaws.{exit-with}
use Rattle.smv_ltl.proofs.answer.Goals as goal

pub returns-then-text-gt-LIMIT-clause-fault : goal.returns-then-text-gt-LIMIT-clause-fault
returns-then-text-gt-LIMIT-clause-fault c =
    let long : limit < length c.args.text.now = grind (arith, c.if-text-gt-LIMIT.true) in
    too-long-there c.args.text.now long c.too_long.result c.too_long.ensures

pub returns-in_err-read-clause-fault : goal.returns-in_err-read-clause-fault
returns-in_err-read-clause-fault c =
    let text = c.args.text.now in
    let within : length c.args.text.now ≤ limit = grind (arith, c.if-text-gt-LIMIT.false) in
    exit-with c.parse_formula_text.result c.from_residual.result c.in_err-read.field-0.0 (λ f. HasFault text f.number f.at) (λ f. IsRefused text f.number f.at) (λ f h. faults-are text within f.number f.at h) c.in_err-read.was c.from_residual.ensures.1
    c.parse_formula_text.ensures.fault

pub of_tree-requires : goal.of_tree-requires
of_tree-requires c = record {
  within = grind (arith, c.if-text-gt-LIMIT.false);
  tree = subst (λ (ts : Tokens). SpellsText c.args.text.now ts (shown c.in_ok-read.read.tree)) (sym c.as_slice.ensures) c.in_ok-read.ensures.text;
}
