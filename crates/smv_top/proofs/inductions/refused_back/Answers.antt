use Rattle.std.proofs.Common.{◌∙◌, ap, arith}
use Rattle.std.proofs.lemmas.Result.{IfOk-weaker}
use Rattle.smv_report.specs.Lines.{fault_text}
use Rattle.smv_top.proofs.inductions.refused_back.Goals as goal

pub back-at-requires-clause-placed : goal.back-at-requires-clause-placed
back-at-requires-clause-placed c = c.requires.lengths.0

pub back-at-requires-clause-short : goal.back-at-requires-clause-short
back-at-requires-clause-short c = let long = c.requires.lengths.1 in let within = c.requires.within in omega (arith, long, within)

pub returns-clause-bytes : goal.returns-clause-bytes
returns-clause-bytes c = IfOk-weaker c.refused.result _ _ (λ answer b. b ∙ ap (fault_text c.args.text.now c.args.fault.number) c.back-at.ensures) c.refused.ensures.bytes
