use Rattle.std.proofs.Common.{[], List, ap, ◌∙◌}
use Rattle.smv_core.specs.Values.{Name}
use Rattle.smv_core.specs.FlatOrder.{main}
use Rattle.smv_mentions.specs.Sizes.{sized_from}
use Rattle.smv_size.specs.Summary.{size_named}
use Rattle.smv_size.specs.declared.modules.ModuleSize.{ModuleSize}
use Rattle.smv_size.proofs.size.size_of_main.Goals as goal

pub returns : goal.returns
returns c =
    let names = c.in_ok-names.names in
    c.size_named.ensures ∙ ap (λ (l : List ModuleSize). size_named names l c.in_ok-name.name) c.as_slice.ensures.value ∙ ap (λ (name : Name). size_named names c.in_ok-sizes.sizes.items name) c.in_ok-name.ensures
    ∙ c.in_ok-sizes.ensures (sized_from [] c.args.tops.now) c.in_ok-types.ensures main
