use Rattle.std.proofs.Common.{◌++◌, map, ap, sym, ◌∙◌}
use Rattle.std.specs.Prelude.{unwrap_or}
use Rattle.std.proofs.lemmas.List.{append-nil}
use Rattle.smv_core.specs.Types.{find_name}
use Rattle.smv_core.specs.FlatOrder as order
use Rattle.smv_flatten_families.specs.Paths.{path_of}
use Rattle.smv_flatten_families.specs.Families.{in_place, instance_places, no_body}
use Rattle.smv_flatten_families.proofs.ItemLaws.{instance-none, instance-done}
use Rattle.smv_flatten_families.proofs.families.+instances.Goals as goal

pub add_instance-returns-then-left-eq0 : goal.add_instance-returns-then-left-eq0
add_instance-returns-then-left-eq0 t c =
    let text = c.args.types.now.simples.text.now in
    let old = map in_place c.args.out.now.items in
    sym (ap (λ n. old ++ instance_places text n (path_of c.args.here.now) c.args.name.now) c.if-left-eq0.true ∙ ap (λ l. old ++ l) (instance-none text (path_of c.args.here.now) c.args.name.now) ∙ append-nil old)

pub add_instance-returns : goal.add_instance-returns
add_instance-returns t c =
    let text = c.args.types.now.simples.text.now in
    instance-done text c.args.left (path_of c.args.here.now) c.args.name.now (map in_place c.loop-item.out.items) (map in_place c.args.out.now.items) c.module_named-body.result.items.now c.loop-item.item-index c.if-left-eq0.false
    c.loop-item-test.false
    (ap (λ (b : order.Body). b.items) c.module_named-body.ensures ∙ ap (λ l. (unwrap_or (find_name l c.args.name.now) no_body).items) c.requires.modules)
    c.loop-item.invariant
