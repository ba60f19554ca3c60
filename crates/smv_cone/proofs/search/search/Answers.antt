use Rattle.std.proofs.Common.{List, ap, ◌∙◌}
use Rattle.smv_core.specs.declared.flat.Element.{Element}
use Rattle.smv_elements.specs.Elements.{put_all}
use Rattle.smv_cone.specs.Begins.{read_first}
use Rattle.smv_cone.proofs.SearchLaws.{begun}
use Rattle.smv_cone.proofs.search.search.Goals as goal

pub go_on_from_each-requires-clause-found : goal.go_on_from_each-requires-clause-found
go_on_from_each-requires-clause-found c =
    begun c.args.part.now c.requires.view c.requires.least c.read_first.new.found (c.in_ok-read_first.ensures ∙ ap (λ (es : List Element). put_all es (read_first c.args.part.now)) c.new-found.ensures)
