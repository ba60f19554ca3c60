use Rattle.std.proofs.Common.{◌≡◌, take, length, map}
use Rattle.std.specs.Prelude.{min}
use Rattle.smv_mentions.specs.Said.{said}
use Rattle.smv_size.specs.Constants.{Counts, constants_said}
use Rattle.smv_size.proofs.constants.in_mentions.Given as goal

abbrev pub invariant-loop-mention : goal.invariant-loop-mention
invariant-loop-mention l = record {
  total : l.total ≡ min 4097 (length l.names);
  names : Counts (constants_said (map said (take l.mention-index l.mentions))) l.initial.names l.names;
}
