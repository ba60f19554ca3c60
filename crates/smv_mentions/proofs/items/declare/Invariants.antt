use Rattle.std.proofs.Common.{◌≡◌, ◌++◌, map, drop}
use Rattle.smv_mentions.specs.Mentions.{declared_as}
use Rattle.smv_mentions.specs.Said.{said, said_of}
use Rattle.smv_mentions.proofs.items.declare.Given as goal

abbrev pub invariant-loop-word : goal.invariant-loop-word
invariant-loop-word l = map said l.out.items ++ declared_as (said_of l.what) (drop l.word-index l.words) ≡ map said l.initial.out.items ++ declared_as (said_of l.what) l.words
