use Rattle.std.proofs.Common.{◌≡◌, ◌++◌, map, drop}
use Rattle.smv_mentions.specs.NameFaults.{used_in}
use Rattle.smv_mentions.specs.Said.{said}
use Rattle.smv_look_modules.proofs.push_used.Given as goal

abbrev pub invariant-loop-mention : goal.invariant-loop-mention
invariant-loop-mention l = l.names ++ used_in (map said (drop l.mention-index l.mentions)) ≡ l.initial.names ++ used_in (map said l.mentions)
