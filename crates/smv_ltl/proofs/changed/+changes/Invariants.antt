use Rattle.std.proofs.Common.{◌≡◌, ◌++◌, drop}
use Rattle.std.specs.List.{flat_map}
use Rattle.law_translated_texts.specs.Translation.{changed_in}
use Rattle.smv_ltl.specs.Changes.{around_of, changes_of}
use Rattle.smv_ltl.specs.Planned.{plan_of}
use Rattle.smv_ltl.proofs.changed.+changes.Given as goal

abbrev pub invariant-in_items-loop-x : goal.invariant-in_items-loop-x
invariant-in_items-loop-x l = changes_of l.out.items ++ flat_map (changed_in (plan_of l.plan) (around_of l.around)) (drop l.x-index l.items) ≡ changes_of l.initial.out.items ++ flat_map (changed_in (plan_of l.plan) (around_of l.around)) l.items
