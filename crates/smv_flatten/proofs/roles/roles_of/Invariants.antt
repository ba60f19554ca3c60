use Rattle.std.proofs.Common.{◌≡◌, ◌++◌, map, drop}
use Rattle.smv_core.specs.FlatOrder.{role_of}
use Rattle.smv_flatten.proofs.roles.roles_of.Given as goal

abbrev pub invariant-loop-word : goal.invariant-loop-word
invariant-loop-word l = l.roles ++ map (λ word. role_of l.fn.items word.name) (drop l.word-index l.formals) ≡ map (λ word. role_of l.fn.items word.name) l.formals
