use Rattle.std.proofs.Common.{◌≡◌, [], map, arith, ap}
use Rattle.std.specs.List.{flat_map}
use Rattle.std.proofs.lemmas.Grind.{common_steps}
use Rattle.smv_core.specs.FlatOrder.{Body, body_of, modules}
use Rattle.smv_core.specs.Types.{types_from}
use Rattle.smv_flatten_families.specs.Held.{path_of}
use Rattle.smv_flatten.specs.Leaves.{leaves, leaf_of, binders_of}
use Rattle.smv_flatten.proofs.MetLaws.{inside-some}
use Rattle.smv_flatten.proofs.met.+walk.Goals as goal

pub walk-returns : goal.walk-returns
walk-returns t c =
    let text = c.args.numbers.now.text.now in
    let body = body_of (types_from [] text.tops) (modules text.tops) c.args.name.now in
    let items = ap (λ (b : Body). b.items) (c.body_of.ensures (types_from [] text.tops)) in
    let e : flat_map (leaves (binders_of c.args.around.now)) body.items ≡ map leaf_of c.as_slice.result.now = grind (arith, common_steps, items) in
    rw (inside-some text c.args.left (binders_of c.args.around.now) (path_of c.args.path.now) c.args.name.now c.if-left-eq0.false, e) c.meet_all.ensures
