use Rattle.std.proofs.Common.{[], length, map, ap, ◌∙◌}
use Rattle.std.specs.List.{flat_map}
use Rattle.smv_core.specs.FlatOrder.{main, modules}
use Rattle.law_designs.specs.Flattening.{set_of}
use Rattle.smv_flatten_families.specs.Paths.{first_place}
use Rattle.smv_flatten_families.specs.Families.{in_place, written, instance_places}
use Rattle.smv_flatten_families.proofs.BuildLaws.{families-are, paths-are}
use Rattle.smv_flatten_families.proofs.numbers.numbers_with.Goals as goal

pub returns-clause-numbers : goal.returns-clause-numbers
returns-clause-numbers c =
    let text = c.args.text.now in
    let count = c.count_modules-module_count.result in
    let placed = c.in_ok-placed.placed.items in
    let long = c.count_modules-module_count.ensures ∙ ap (λ tops. length (modules tops)) c.as_slice-tops.ensures in
    let same = c.in_ok-placed.ensures ∙ ap (λ t. instance_places t count [] main) c.requires.types_text in
    record {
      sets = c.in_ok-sets.ensures ∙ ap (flat_map set_of) c.as_slice-tops.ensures;
      enums = c.requires.enums;
      families = families-are text placed count same long c.in_ok-families.families (c.in_ok-families.ensures ∙ ap (map (λ placed. written (in_place placed))) c.as_slice.ensures.value);
      modules = c.in_ok-modules.ensures ∙ ap modules c.as_slice-tops.ensures;
      module_count = long;
      types = c.requires.types;
      types_text = c.requires.types_text;
      constants = c.requires.constants;
      places = λ path.
          c.in_ok-places.ensures path ∙ ap (λ l. first_place l path) (ap (map (λ placed. (in_place placed).path)) c.as_slice-2.ensures.value ∙ paths-are text placed count same long);
    }
