use Rattle.std.proofs.Common.{◌≡◌, drop}
use Rattle.smv_mentions.specs.Scopes.{has_name}
use Rattle.smv_scope.proofs.fields.has_name.Given as goal

abbrev pub invariant-loop-word : goal.invariant-loop-word
invariant-loop-word l = has_name (drop l.word-index l.words) l.name ≡ has_name l.words l.name
