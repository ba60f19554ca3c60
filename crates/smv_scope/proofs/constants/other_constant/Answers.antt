use Rattle.std.proofs.Common.{◌≤◌, length, ◌∙◌, ap, sym, rules}
use Rattle.smv_core.specs.Types.{find_name}
use Rattle.smv_mentions.specs.Scopes.{pieces, constants}
use Rattle.smv_mentions.specs.NameFaults.{place_if, is_of_other_list}
use Rattle.smv_first_fault.specs.Firsts.{least}
use Rattle.smv_scope.proofs.ConstantLaws.{places-flat, at-end}
use Rattle.smv_scope.proofs.constants.other_constant.Goals as goal

pub returns : goal.returns
returns c =
    let names = c.args.names.now in
    let known = constants (pieces c.args.tables.now.text.now) in
    let over : length names ≤ c.loop-word.word-index = search rules in
    at-end (λ word. place_if (is_of_other_list names (find_name known word.name)) word.at) names c.loop-word.word-index c.loop-word.first _ over c.loop-word.invariant.0
    ∙ sym (ap least (places-flat (λ word. is_of_other_list names (find_name known word.name)) names))
