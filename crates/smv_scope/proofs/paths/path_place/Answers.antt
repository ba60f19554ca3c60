use Rattle.std.proofs.Common.{ap, sym, ◌∙◌}
use Rattle.smv_mentions.specs.Scopes.{path_places}
use Rattle.smv_mentions.specs.Said.{words_at}
use Rattle.smv_first_fault.specs.Firsts.{least}
use Rattle.smv_scope.specs.Numbered.{scope_at}
use Rattle.smv_scope.proofs.PathLaws.{words-flat}
use Rattle.smv_scope.proofs.paths.path_place.Goals as goal

pub returns : goal.returns
returns c =
    c.names_place.ensures
    ∙ ap (λ words. least (path_places (scope_at c.args.tables.now.text.now c.args.place) c.args.around words)) (ap words_at c.as_slice.ensures.value ∙ c.in_ok-words.ensures ∙ sym (words-flat c.args.parts.now))
