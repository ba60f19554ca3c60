use Rattle.std.proofs.Common.{◌≡◌, ◌++◌, drop}
use Rattle.std.specs.List.{AllByRecursion}
use Rattle.smv_phrases.specs.Defined.{Stands}
use Rattle.smv_phrases.specs.Seen.{binders_of}
use Rattle.smv_ltl.specs.Changes.{around_of}
use Rattle.smv_ltl.specs.Edits.{binders_at}
use Rattle.smv_ltl.proofs.edits.binders.Given as goal

abbrev pub invariant-loop-one : goal.invariant-loop-one
invariant-loop-one l = record {
  told : binders_of l.source.text.now l.binders.items ++ binders_at l.source (around_of (drop l.one-index l.around)) ≡ binders_at l.source (around_of l.around);
  stand : AllByRecursion (Stands l.source.text.now) l.binders.items;
}
