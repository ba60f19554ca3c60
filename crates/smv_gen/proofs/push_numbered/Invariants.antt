use Rattle.std.specs.Prelude.{◌≡◌, ◌++◌, drop}
use Rattle.smv_gen.specs.Generated.{numbered}
use Rattle.smv_gen.proofs.push_numbered.Given as goal

abbrev pub invariant-loop-byte : goal.invariant-loop-byte
invariant-loop-byte l = l.out.items ++ numbered l.j l.k (drop l.byte-index l.pattern) ≡ l.initial.out.items ++ numbered l.j l.k l.pattern
