use Rattle.std.proofs.Common.{◌≡◌, ℕ, List, Option, sym, ap, ◌∙◌, subst}
use Rattle.std.specs.Prelude.{IfOk}
use Rattle.smv_core.specs.Assignments.{computed}
use Rattle.law_designs.specs.Loops.{at_index}
use Rattle.smv_loops.proofs.WayLaws.{at-Range}
use Rattle.smv_loops.proofs.ways.choices.Goals as goal

pub returns-in-Range : goal.returns-in-Range
returns-in-Range c =
    subst (λ (xs : List (Option ℕ)). IfOk c.numbers.result (λ v. v.items ≡ xs)) (sym (at-Range c.in-Range.low c.in-Range.high) ∙ ap (λ o. at_index o computed) (sym c.in-Range.is)) c.numbers.ensures
