use Rattle.std.proofs.Common.{◌≡◌, ◌++◌, map, drop}
use Rattle.smv_scope.specs.Numbered.{top_word}
use Rattle.smv_scope.proofs.build.names_of_tops.Given as goal

abbrev pub invariant-loop-top : goal.invariant-loop-top
invariant-loop-top l = l.names ++ map (λ top. (top_word top).name) (drop l.top-index l.tops) ≡ map (λ top. (top_word top).name) l.tops
