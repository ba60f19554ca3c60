use Rattle.std.proofs.Common.{[], ap}
use Rattle.smv_core.specs.Types.{types_from}
use Rattle.smv_core.specs.FlatOrder.{Body}
use Rattle.smv_flatten_families.specs.Held.{instance_of}
use Rattle.smv_flatten.specs.Leaves.{binders_of}
use Rattle.smv_flatten.specs.Items.{flat_said}
use Rattle.smv_flatten.proofs.FlatLaws.{instance-made}
use Rattle.smv_flatten.proofs.flatten.add_item.Goals as goal

pub returns-in-Instance : goal.returns-in-Instance
returns-in-Instance c =
    let here = c.args.here in
    let text = here.numbers.now.text.now in
    let around = binders_of c.args.around.now in
    let names = c.args.layers.now.names in
    let words = ap (λ (b : Body). b.formals) (c.body_of.ensures (types_from [] text.tops)) in
    let what = ap (flat_said text names (instance_of here) around) c.in-Instance.is in
    let made =
    instance-made here names around c.in-Instance.name c.in-Instance.of c.in-Instance.args c.body_of.result.formals.now c.roles_named-roles.result.now c.args.roles.now words c.roles_named-roles.ensures c.requires.roles in
    rw (what, ← made) c.connections.ensures
