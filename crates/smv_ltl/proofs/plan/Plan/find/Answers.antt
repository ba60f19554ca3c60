use Rattle.std.proofs.Common.{List, option_map, sym, ap, ◌∙◌}
use Rattle.std.specs.Prelude.{slice_get}
use Rattle.smv_ltl.specs.declared.plan.Entry.{Entry}
use Rattle.smv_ltl.specs.Plans.{watched_of}
use Rattle.smv_ltl.proofs.PlanLaws.{found-at, found-nowhere}
use Rattle.smv_ltl.proofs.plan.Plan.find.Goals as goal

pub returns-in-Some : goal.returns-in-Some
returns-in-Some c =
    let plan = c.args.self.now in
    c.watched_at.ensures ∙ ap (λ (l : List Entry). option_map (λ (e : Entry). watched_of e.watched) (slice_get l c.in-Some.place)) c.as_slice.ensures.value
    ∙ found-at plan.entries.items c.args.at c.in-Some.place (sym (plan.are_noted c.args.at) ∙ sym c.place_at.ensures ∙ c.in-Some.is)

pub returns-in-None : goal.returns-in-None
returns-in-None c =
    let plan = c.args.self.now in
    found-nowhere plan.entries.items c.args.at (sym (plan.are_noted c.args.at) ∙ sym c.place_at.ensures ∙ c.in-None.is)
