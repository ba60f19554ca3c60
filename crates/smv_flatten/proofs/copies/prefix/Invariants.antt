use Rattle.std.proofs.Common.{◌≡◌, ◌++◌, map, drop}
use Rattle.smv_flatten_families.specs.Held.{path_of}
use Rattle.smv_flatten.specs.Forms.{word_at}
use Rattle.smv_flatten.proofs.copies.prefix.Given as goal

abbrev pub invariant-loop-name : goal.invariant-loop-name
invariant-loop-name l = l.out ++ map (word_at l.at) (path_of (drop l.name-index l.here.instance.now)) ≡ l.initial.out ++ map (word_at l.at) (path_of l.here.instance.now)
