use Rattle.std.proofs.Common.{◌≡◌, [], length, ap, sym, ◌∙◌, arith}
use Rattle.std.proofs.lemmas.Bool.{eqb-true}
use Rattle.smv_first_fault.specs.Firsts.{least}
use Rattle.law_designs.specs.SingleFaults.{later_places, cross}
use Rattle.smv_single_assignment.specs.Links.{held, between}
use Rattle.smv_single_assignment.proofs.ClashLaws.{cross-none}
use Rattle.smv_single_assignment.proofs.LinkLaws.{none-left}
use Rattle.smv_single_assignment.proofs.SharedLaws.{apart-cross, shared-none}
use Rattle.smv_single_assignment.proofs.earlier.first_cross.Goals as goal
use Rattle.smv_single_assignment.proofs.earlier.first_cross.Goals.{then-is_empty-via-then-is_empty, then-is_empty-via-else-is_empty+then-table}

pub returns-then-is_empty : goal.returns-then-is_empty
returns-then-is_empty c = λ order within first second.
    let all = held c.args.table.now in
    let left = between c.args.start c.args.middle all in
    let right = between c.args.middle c.args.end all in
    elim c.then-is_empty.branch [
      | then-is_empty-via-then-is_empty w ↦
          let none : c.args.around.now ≡ [] = none-left c.args.around.now (let zero = eqb-true (length c.args.around.now) 0 (sym c.is_empty.ensures ∙ w.if-is_empty.true) in omega (arith, zero)) in
          sym (ap (λ vars. least (later_places (cross vars) left right)) none ∙ ap least (cross-none left right))
      | then-is_empty-via-else-is_empty+then-table w ↦ sym (ap least (shared-none c.args.around.now all c.args.start c.args.middle c.args.end (c.requires.1.sharing w.if-table.true) first second))
    ]

pub returns-then-not-do_touch : goal.returns-then-not-do_touch
returns-then-not-do_touch c = λ order within first second.
    sym (ap least (apart-cross c.args.around.now (held c.args.table.now) c.args.start c.args.middle c.args.end (c.do_touch.ensures c.if-not-do_touch.true)))
