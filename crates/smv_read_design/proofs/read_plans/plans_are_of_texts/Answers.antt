use Rattle.std.proofs.Common.{◌≡◌, ◌∙◌, ap, sym}
use Rattle.std.specs.Prelude.{List, length}
use Rattle.smv_core.specs.declared.flat.Design.{Design}
use Rattle.smv_core.specs.declared.flat.Leaf.{Leaf}
use Rattle.smv_core.specs.declared.flat.Choice.{Choice}
use Rattle.smv_core.specs.declared.flat.Unit.{Unit}
use Rattle.law_obligations.specs.Units.{units_of, script_of}
use Rattle.law_obligations.specs.Times.{all_timed}
use Rattle.law_splits.specs.Leaves.{leaves_of}
use Rattle.law_uses.specs.Choices.{choices_of}
use Rattle.law_valid_texts.specs.Joined.{flat_design}
use Rattle.smv_read_design.proofs.Order.{choice_each}
use Rattle.smv_read_design.proofs.read_plans.plans_are_of_texts.Goals as goal

pub returns : goal.returns
returns c tree plan is =
    let d = flat_design tree in
    let script : script_of d (leaves_of d) (choices_of d) ≡ script_of plan.design plan.leaves plan.choices =
    ap (λ (e : Design). script_of e (leaves_of d) (choices_of d)) (sym is.design)
    ∙ (ap (λ (leaves : List Leaf). script_of plan.design leaves (choices_of d)) (sym is.leaves) ∙ ap (λ (choices : List Choice). script_of plan.design plan.leaves choices) (sym is.choices)) in (
      record {
        design = is.design;
        units = is.units ∙ ap units_of (sym is.design);
        leaves = is.leaves ∙ ap leaves_of (sym is.design);
        choices = ap (λ (choices : List Choice). length choices) is.choices ∙ (choice_each d ∙ ap (λ (units : List Unit). length units) (sym is.units));
        timed = is.timed ∙ ap all_timed script;
      },
      is.choices ∙ ap choices_of (sym is.design),
    )
