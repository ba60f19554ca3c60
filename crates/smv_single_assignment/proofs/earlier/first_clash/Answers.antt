use Rattle.std.proofs.Common.{◌≡◌, ◌<◌, length, ap, ◌∙◌, arith}
use Rattle.std.specs.Prelude.{slice_get, Some}
use Rattle.law_lists.proofs.Places.{get_there}
use Rattle.smv_mentions.specs.NameFaults.{place_if}
use Rattle.smv_first_fault.specs.Firsts.{least}
use Rattle.law_designs.specs.Standing.{Standing}
use Rattle.smv_single_assignment.specs.Clashes.{clash_by}
use Rattle.smv_single_assignment.specs.Links.{held, between}
use Rattle.smv_single_assignment.proofs.LinkLaws.{held-length}
use Rattle.smv_single_assignment.proofs.EarlierLaws.{clash-step, nothing-between, same-here}
use Rattle.smv_single_assignment.proofs.earlier.first_clash.Goals as goal

pub loop-place-init : goal.loop-place-init
loop-place-init c = nothing-between (clash_by c.args.by) (between c.args.start c.args.middle (held c.args.table.now)) (held c.args.table.now) c.args.middle

pub loop-place-preserved : goal.loop-place-preserved
loop-place-preserved c =
    let all = held c.args.table.now in
    let i = c.loop-place.place in
    let lt : i < length all = omega (arith, c.loop-place-test.true, held-length c.args.table.now.all.items) in
    let b : Standing = (get_there all i lt).0 in
    let got : slice_get all i ≡ Some b = (get_there all i lt).1 in
    let it = same-here c.args.table.now.all.items i c.index.result.now b lt c.index.ensures got in
    clash-step (clash_by c.args.by) all (between c.args.start c.args.middle all) c.args.middle i b c.has_earlier-clashes.result c.loop-place.found c.place_if.result c.first_of-found.result got c.loop-place.auto.place
    (c.has_earlier-clashes.ensures b got) c.loop-place.invariant (c.place_if.ensures ∙ ap (λ (s : Standing). least (place_if c.has_earlier-clashes.result s.at)) it) c.first_of-found.ensures
