use Rattle.std.proofs.Common.{◌≡◌, ◌++◌, drop, filter, not}
use Rattle.std.specs.Prelude.{option_copied}
use Rattle.law_uses.specs.Choices.{is_own}
use Rattle.smv_choices.specs.Parts.{without_places}
use Rattle.smv_choices.proofs.leaf_choices.besides.Given as goal

abbrev pub invariant-loop-pick : goal.invariant-loop-pick
invariant-loop-pick l = l.out ++ filter (λ p. not (is_own (option_copied l.own) p)) (without_places (drop l.pick-index l.picks)) ≡ filter (λ p. not (is_own (option_copied l.own) p)) (without_places l.picks)
