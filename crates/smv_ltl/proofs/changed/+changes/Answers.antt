use Rattle.std.proofs.Common.{List, [], ◌∷◌, ◌++◌, sym, ap, ◌∙◌}
use Rattle.std.proofs.lemmas.Result.{IfOk-equal}
use Rattle.smv_core.specs.declared.tree.Item.{Item}
use Rattle.law_formulas.specs.Monitors as monitors
use Rattle.law_translated_texts.specs.Translation as law
use Rattle.law_translated_texts.specs.Translation.{changed_in}
use Rattle.smv_ltl.specs.declared.changed.Around.{Around}
use Rattle.smv_ltl.specs.Changes.{around_of, changes_of}
use Rattle.smv_ltl.specs.Planned.{plan_of}
use Rattle.smv_ltl.proofs.ChangeLaws.{item-Forall}
use Rattle.smv_ltl.proofs.changed.+changes.Goals as goal

pub in_item-returns-in_ok-inner-in-Forall : goal.in_item-returns-in_ok-inner-in-Forall
in_item-returns-in_ok-inner-in-Forall t c =
    let plan = plan_of c.args.plan.now in
    let around = around_of c.args.around.now in
    let old = changes_of c.args.out.now.items in
    let var = c.in-Forall.var in
    let over = c.in-Forall.over in
    IfOk-equal c.in_item.result _ _ _ c.in_item.ensures
    (ap (λ (l : List law.Changed). old ++ l)
    (ap (λ (a : List Around). changed_in plan (around_of a) c.get.result.now) c.as_slice.ensures.value ∙ ap (λ (a : monitors.Around). changed_in plan a c.get.result.now) c.in_ok-inner-in-Forall.ensures
    ∙ ap (λ (b : Item). changed_in plan (around ++ (var, over) ∷ []) b) c.get.ensures ∙ sym (item-Forall plan around var over c.in-Forall.body c.in-Forall.at) ∙ ap (λ (x : Item). changed_in plan around x) (sym c.in-Forall.is)))
