use Rattle.std.proofs.Common.{ℕ, List, [], map}
use Rattle.std.specs.Prelude.{if◌then◌else◌, nat_eq}
use Rattle.std.specs.List.{flat_map}
use Rattle.smv_mentions.specs.NameFaults.{place_if}
use Rattle.law_designs.specs.Standing.{Standing}
use Rattle.smv_single_assignment.specs.Held.{standing_of}
use Rattle.smv_single_assignment.specs.Clashes.{clash_by}
use Rattle.smv_look_assignments.proofs.MetLaws.{step_over}
use Rattle.smv_look_assignments.proofs.clashes.first_clash.Goals as goal

pub loop-b-preserved : goal.loop-b-preserved
loop-b-preserved c =
    let f : Standing → List ℕ = λ b. if nat_eq b.at c.args.at then flat_map (λ (a : Standing). place_if (clash_by c.args.by a b) a.at) (map standing_of c.args.earlier.now) else [] in
    step_over f standing_of c.args.later.now c.loop-b.b-index c.b-item.result c.loop-b.found c.first_at.result c.first_of-found.result _ c.loop-b-test.true c.b-item.is c.first_at.ensures c.first_of-found.ensures c.loop-b.invariant
