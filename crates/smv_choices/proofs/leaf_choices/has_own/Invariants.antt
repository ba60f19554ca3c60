use Rattle.std.proofs.Common.{◌≡◌, drop}
use Rattle.std.specs.Prelude.{option_copied}
use Rattle.std.specs.List.{list_any}
use Rattle.law_uses.specs.Choices.{is_own}
use Rattle.smv_choices.specs.Parts.{without_places}
use Rattle.smv_choices.proofs.leaf_choices.has_own.Given as goal

abbrev pub invariant-loop-pick : goal.invariant-loop-pick
invariant-loop-pick l = list_any (is_own (option_copied l.own)) (without_places (drop l.pick-index l.picks)) ≡ list_any (is_own (option_copied l.own)) (without_places l.picks)
