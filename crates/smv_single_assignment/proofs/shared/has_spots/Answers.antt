use Rattle.std.proofs.Common.{◌≡◌, ◌<◌, ◌≤◌, ◌+◌, length, take, subst, sym, ap, arith, All}
use Rattle.std.proofs.lemmas.List.Elements.{All-more}
use Rattle.std.proofs.lemmas.List.{take_all}
use Rattle.smv_single_assignment.specs.Shared.{HasSpot}
use Rattle.smv_single_assignment.proofs.shared.has_spots.Goals as goal

pub loop-var-preserved : goal.loop-var-preserved
loop-var-preserved c =
    let P = HasSpot c.args.kept.now c.args.class c.args.x.now.left.now in
    let xs = c.deref-var-items.result.now in
    let e : xs ≡ c.args.x.now.around.items = c.deref-var-items.ensures.value in
    let i = c.loop-var.var-index in
    let lt : i < length xs = omega (arith, c.loop-var-test.true) in
    subst (λ l. All P (take (i + 1) l)) e (All-more P xs i _ lt (subst (λ l. All P (take i l)) (sym e) c.loop-var.invariant) (c.has_spot.ensures c.if-not-has_spot.false))

pub returns : goal.returns
returns c = λ e.
    let P = HasSpot c.args.kept.now c.args.class c.args.x.now.left.now in
    let around = c.args.x.now.around.items in
    let long : length around ≤ c.loop-var.var-index = omega (arith, c.loop-var-test.false, ap length c.deref-var-items.ensures.value) in
    subst (λ l. All P l) (take_all c.loop-var.var-index around long) c.loop-var.invariant
