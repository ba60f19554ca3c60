use Rattle.std.proofs.Common.{ap, ◌∙◌}
use Rattle.smv_core.specs.declared.flat.Simple.TheVariants.{Enum}
use Rattle.smv_core.specs.Types.{names_of}
use Rattle.smv_flatten_families.specs.Paths.{first_place}
use Rattle.smv_flatten_families.specs.Simples.{numbering}
use Rattle.smv_flatten_families.proofs.NumberLaws.{list-found}
use Rattle.smv_flatten_families.proofs.simples.list_simple.Goals as goal

pub returns : goal.returns
returns c =
    let lists = (numbering c.args.simples.now.text.now).enums in
    ap Enum (c.in_ok-short.ensures ∙ c.unwrap_or-place.ensures
    ∙ list-found lists c.args.simples.now.list_count (names_of c.args.words.now) c.place_of.result c.requires.list_count (c.place_of.ensures ∙ c.requires.lists c.in_ok-names.names ∙ ap (first_place lists) c.in_ok-names.ensures))
