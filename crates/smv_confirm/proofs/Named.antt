-- What is told of the plan of a valid text is what the call gives of the text.
use Rattle.std.proofs.Common.{◌≡◌, ◌<◌, ℕ, List, length, Some, None, Err, sym, ap, subst, ◌∙◌}
use Rattle.std.specs.Prelude.{is_some}
use Rattle.law_lists.proofs.Places.{get_within}
use Rattle.smv_core.specs.declared.fault.Refusal.{Refusal}
use Rattle.smv_core.specs.declared.fault.Refusal.TheVariants as refusal
use Rattle.smv_core.specs.declared.flat.Design.{Design}
use Rattle.smv_core.specs.declared.flat.Unit.{Unit as DesignUnit}
use Rattle.smv_core.specs.declared.tree.Text.{Text}
use Rattle.smv_lex.specs.Answers.{IfFault}
use Rattle.smv_bits.specs.declared.Bits.{Bits}
use Rattle.law_obligations.specs.Outlines.{place_of}
use Rattle.law_obligations.specs.Units.{units_of}
use Rattle.law_problems.specs.Parts.{Refuses}
use Rattle.law_concrete.specs.Sizes.{sizes_at, sizes_fault}
use Rattle.law_confirmed.specs.Answers.{unnamed, unsized}
use Rattle.law_confirmed.specs.Confirmed.{IsToldAt}
use Rattle.law_sized_texts.specs.Laws.{DesignsAreExact}
use Rattle.law_valid_texts.specs.Joined.{flat_design}
use Rattle.law_valid_texts.specs.PlanLaws.{ValidTextsAreFaultless}
use Rattle.smv_front.specs.Plans.{IsPlan}
use Rattle.smv_problem.specs.declared.report.Plan.{Plan}
use Rattle.smv_read_design.specs.Answers.{HasPlan}
use Rattle.smv_read_design.specs.Named.{is_named}
use Rattle.smv_read_design.specs.ReadPlanLaws.{PlansOfValidTextsAreWhole}
use Rattle.smv_confirm.specs.Confirmations.{IsConfirmation, IsConfirmFault, of_unit}
use Rattle.smv_confirm.specs.Ready.{IsReady, own_of, unit_at}
use Rattle.smv_confirm.specs.declared.Confirmed.{Confirmed}
use Rattle.smv_confirm.proofs.Texts.{IsFoundAt, found-at, none-found, own-shown, ready-plan, unit-there}

module _ (text name given : List ℕ) (plan : Plan) (h : HasPlan text plan) where
  abbrev tree : Text
  tree = h.0

  abbrev d : Design
  d = flat_design h.0

  is-plan : IsPlan (flat_design h.0) plan
  is-plan = h.2

  -- the place of the unit in the plan is that in the design of the text
  place-is : place_of (is_named plan.design name) plan.units ≡ place_of (is_named d name) (units_of d)
  place-is = λ i. place_of (is_named (is-plan.design i) name) (is-plan.units i)

  module _ (place : ℕ) (e : place_of (is_named plan.design name) plan.units ≡ Some place) where
    pub found : IsFoundAt (is_named d name) (units_of d) place
    found = found-at (is_named d name) (units_of d) place (sym place-is ∙ e)

    pub there : place < length plan.units
    there = subst (λ (us : List DesignUnit). place < length us) (sym is-plan.units) (get_within (units_of d) place (ap is_some found.1))

    pub ready : ValidTextsAreFaultless → DesignsAreExact → PlansOfValidTextsAreWhole → IsReady plan
    ready faultless exact whole = ready-plan faultless exact text tree h.1 plan is-plan.design (whole text tree h.1 plan is-plan) place there

    unit-is : unit_at plan place ≡ found.0
    unit-is = unit-there d plan is-plan place found.0 found.1

    fault-is : sizes_fault plan.design (unit_at plan place) given ≡ sizes_fault d found.0 given
    fault-is = λ i. sizes_fault (is-plan.design i) (unit-is i) given

    pub confirmed : (bits : Bits) (nodes steps : ℕ) (c : Confirmed) → c.design ≡ plan.design → c.params ≡ (own_of plan place).params → sizes_fault plan.design (unit_at plan place) given ≡ None →
        IsToldAt plan.design (sizes_at plan.design.sets given) (unit_at plan place) bits nodes steps c.verdict → IsConfirmation text name given bits nodes steps c
    confirmed bits nodes steps c design params taken told = record {
      is_confirmed = record {
        tree = tree;
        is_valid = h.1;
        unit = found.0;
        is_called = found.2;
        is_taken = sym fault-is ∙ taken;
        is_told = subst (λ (x : Design × DesignUnit). IsToldAt x.0 (sizes_at x.0.sets given) x.1 bits nodes steps c.verdict) (λ i. (is-plan.design i, unit-is i)) told;
      };
      tree = tree;
      is_valid = h.1;
      design = design ∙ is-plan.design;
      unit = found.0;
      is_called = found.2;
      params = params ∙ own-shown d plan is-plan place found.0 found.1;
    }

    pub unit-fault : (A B : Type 0) (e : Refusal) → Refuses {A = A} (sizes_fault plan.design (unit_at plan place) given) (Err e) → IfFault {X = B} (Err e) (IsConfirmFault text name given)
    unit-fault A B (refusal.Fault f) r = of_unit (unsized tree found.0 f h.1 found.2 (sym fault-is ∙ r))
    unit-fault A B refusal.OutOfMemory r = tt

  pub no-unit : place_of (is_named plan.design name) plan.units ≡ None → IsConfirmFault text name given (record { number = 26; at = 0 })
  no-unit e = of_unit (unnamed tree h.1 (none-found (is_named d name) (units_of d) (sym place-is ∙ e)))
