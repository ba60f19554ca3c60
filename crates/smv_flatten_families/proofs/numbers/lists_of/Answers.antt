use Rattle.std.proofs.Common.{map, ap, ◌∙◌}
use Rattle.smv_core.specs.Types.{names_of}
use Rattle.smv_flatten_families.specs.Paths.{first_place}
use Rattle.std.proofs.lemmas.Result.{IfOk-weaker}
use Rattle.smv_flatten_families.specs.Lists.{AreLists}
use Rattle.smv_flatten_families.specs.Held.{AreEnums}
use Rattle.smv_flatten_families.proofs.BuildLaws.{enums-are}
use Rattle.smv_flatten_families.proofs.numbers.lists_of.Goals as goal

pub returns : goal.returns
returns c =
    let text = c.args.text.now in
    let lists = map (λ words. names_of words.now) c.as_slice.result.now in
    let same = enums-are text c.args.pieces.now lists c.requires (ap (map (λ words. names_of words.now)) c.as_slice.ensures.value ∙ c.in_ok-all.ensures) in
    IfOk-weaker c.different_lists.result (λ l. AreLists l lists) (λ l. AreEnums text l) (λ l are. record { words = are.words ∙ same; places = λ names. are.places names ∙ ap (λ e. first_place e names) same }) c.different_lists.ensures
