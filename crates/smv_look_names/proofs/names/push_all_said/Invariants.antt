use Rattle.std.proofs.Common.{◌≡◌, ◌++◌, drop}
use Rattle.std.specs.List.{flat_map}
use Rattle.smv_mentions.specs.Said.{said}
use Rattle.smv_scope.specs.Numbered.{scope_at}
use Rattle.smv_look_names.specs.Names as spec
use Rattle.smv_look_names.proofs.names.push_all_said.Given as goal

abbrev pub invariant-loop-mention : goal.invariant-loop-mention
invariant-loop-mention l =
    l.out.items ++ flat_map (λ mention. spec.first_said l.at (scope_at l.tables.text.now l.place) (said mention)) (drop l.mention-index l.mentions)
    ≡ l.initial.out.items ++ flat_map (λ mention. spec.first_said l.at (scope_at l.tables.text.now l.place) (said mention)) l.mentions
