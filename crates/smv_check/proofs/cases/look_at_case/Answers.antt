use Rattle.std.proofs.Common.{◌∙◌, ◌<◌, length, get_or, sym, arith}
use Rattle.std.proofs.lemmas.Option.{slice_get-get_or}
use Rattle.smv_check.specs.Tasks.{unit_case}
use Rattle.smv_check.proofs.Fits.{none_here, other_here, looked_here}
use Rattle.smv_check.proofs.Judged.{set_is}
use Rattle.smv_check.proofs.cases.look_at_case.Goals as goal

pub look_at_set-requires-clause-set : goal.look_at_set-requires-clause-set
look_at_set-requires-clause-set c =
    let within : c.args.progress.looked < length c.args.task.now.sets.now = omega (arith, c.if-place-task.false) in
    set_is c.args.task.now.sets.now c.args.progress.looked (get_or c.args.task.now.sets.now c.args.progress.looked c.index-task-place.result) c.requires.task.sets (slice_get-get_or c.args.task.now.sets.now c.args.progress.looked c.index-task-place.result within)

pub returns-then-place-task-clause-looked : goal.returns-then-place-task-clause-looked
returns-then-place-task-clause-looked c = λ done passed.
    none_here done c.args.task.now.sets.now c.args.progress passed (unit_case c.args.task.now c.args.number c.args.case.now.classes) (omega (arith, c.if-place-task.true))

pub returns-then-not-is_for-clause-looked : goal.returns-then-not-is_for-clause-looked
returns-then-not-is_for-clause-looked c = λ done passed.
    let within : c.args.progress.looked < length c.args.task.now.sets.now = omega (arith, c.if-place-task.false) in
    other_here done c.args.task.now.sets.now c.args.progress passed (unit_case c.args.task.now c.args.number c.args.case.now.classes) (get_or c.args.task.now.sets.now c.args.progress.looked c.index-task-place.result)
    (slice_get-get_or c.args.task.now.sets.now c.args.progress.looked c.index-task-place.result within) (sym c.is_for.ensures ∙ c.if-not-is_for.true)

pub returns-clause-looked : goal.returns-clause-looked
returns-clause-looked c = λ done passed.
    let within : c.args.progress.looked < length c.args.task.now.sets.now = omega (arith, c.if-place-task.false) in
    looked_here done c.args.task.now.sets.now c.args.progress passed (unit_case c.args.task.now c.args.number c.args.case.now.classes) (get_or c.args.task.now.sets.now c.args.progress.looked c.index-task-place.result)
    (slice_get-get_or c.args.task.now.sets.now c.args.progress.looked c.index-task-place.result within) (sym c.is_for.ensures ∙ c.if-not-is_for.false) c.in_ok-looked.looked c.in_ok-looked.ensures.looked
