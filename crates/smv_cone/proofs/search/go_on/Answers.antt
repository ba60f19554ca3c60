use Rattle.std.proofs.Common.{List, ap, ◌∙◌}
use Rattle.std.specs.List.{slice_index_or}
use Rattle.smv_core.specs.declared.flat.Element.{Element}
use Rattle.smv_cone.proofs.SearchLaws.{gone-on-ok}
use Rattle.smv_cone.proofs.search.go_on.Goals as goal

pub returns : goal.returns
returns c =
    gone-on-ok c.args.part.now c.requires.view c.requires.least c.read_next.result c.args.found.now c.read_next.new.found c.args.turn c.index-elements-turn.result c.as_slice-spots.result.now c.requires.found c.requires.few c.requires.turn
    (c.index-elements-turn.is ∙ ap (λ (es : List Element). slice_index_or es c.args.turn c.index-elements-turn.result) c.as_slice-elements.ensures) (c.as_slice-spots.ensures.value ∙ c.in_ok-own.ensures) c.read_next.ensures
