use Rattle.std.proofs.Common.{◌∙◌, ap, arith}
use Rattle.std.proofs.lemmas.Result.{IfOk-weaker}
use Rattle.smv_report.specs.Lines.{fault_text}
use Rattle.smv_top.proofs.formulas.refused_back.Goals as goal

pub back-at-requires : goal.back-at-requires
back-at-requires c = let long = c.requires.lengths in let within = c.requires.place in omega (arith, long, within)

pub returns-clause-bytes : goal.returns-clause-bytes
returns-clause-bytes c = IfOk-weaker c.refused.result _ _ (λ answer b. b ∙ ap (fault_text c.args.text.now c.args.fault.number) c.back-at.ensures) c.refused.ensures.bytes
