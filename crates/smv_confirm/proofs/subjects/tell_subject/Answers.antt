use Rattle.std.proofs.Common.{List}
use Rattle.smv_core.specs.declared.flat.Case.{Case}
use Rattle.smv_problem.specs.declared.report.Verdict.{Verdict}
use Rattle.law_concrete.specs.Sizes.{cases_fault, width_fault}
use Rattle.smv_concrete.specs.Subjects.{unit_of}
use Rattle.smv_confirm.proofs.Given.{are-few, refused-first, refused-then}
use Rattle.smv_confirm.proofs.subjects.tell_subject.Goals as goal

pub at_sizes-requires-clause-apart : goal.at_sizes-requires-clause-apart
at_sizes-requires-clause-apart c = c.requires.ready.are_apart

pub at_sizes-requires-clause-few : goal.at_sizes-requires-clause-few
at_sizes-requires-clause-few c = are-few c.args.subject.now.design.now c.args.subject.now.sizes.now c.requires.ready c.requires.sizes

pub returns-in-Ok-clause-refuses : goal.returns-in-Ok-clause-refuses
returns-in-Ok-clause-refuses c =
    let s = c.args.subject.now in
    refused-then (cases_fault s.design.now (unit_of s) s.sizes.now) (width_fault s.design.now (unit_of s) s.sizes.now) c.tell_cases.result c.in-Ok.ensures.refuses c.tell_cases.ensures.refuses

pub returns-in-Err-clause-refuses : goal.returns-in-Err-clause-refuses
returns-in-Err-clause-refuses c =
    let s = c.args.subject.now in
    refused-first (List Case) Verdict (cases_fault s.design.now (unit_of s) s.sizes.now) (width_fault s.design.now (unit_of s) s.sizes.now) c.in-Err.refusal c.in-Err.ensures.refuses
