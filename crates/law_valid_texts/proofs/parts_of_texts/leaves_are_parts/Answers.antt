use Rattle.std.proofs.Common.{◌≡◌, subst, sym}
use Rattle.std.specs.Prelude.{◌≤◌, List, slice_get, Some, IfSome}
use Rattle.smv_core.specs.declared.flat.Design.{Design}
use Rattle.smv_core.specs.declared.flat.Leaf.{Leaf}
use Rattle.smv_core.specs.declared.flat.SetInfo.{SetInfo}
use Rattle.smv_core.specs.declared.flat.Guard.{Guard}
use Rattle.law_designs.specs.Flattening.{flatten}
use Rattle.law_obligations.specs.Sets.{Has}
use Rattle.law_obligations.proofs.OneOfEach.{get_Has}
use Rattle.law_obligations.specs.Units.{script_of}
use Rattle.law_splits.specs.Leaves.{leaves_of}
use Rattle.law_problems.specs.Parts.{entry_of, IsFitDesign}
use Rattle.law_problems.specs.Kinded.{kinds_of, IsKinded}
use Rattle.law_valid_texts.specs.Joined.{flat_design}
use Rattle.law_valid_texts.proofs.Places.{each_leaf, each_choice}
use Rattle.law_valid_texts.proofs.parts_of_texts.leaves_are_parts.Goals as goal

pub returns : goal.returns
returns c tree faultless plan is u leaf choice at_leaf at_choice =
    let flat_text = flatten tree in
    let kinds = c.flattened_texts_are_kinded.ensures tree faultless.kinds in
    let passes = c.faultless_texts_pass.ensures tree faultless in
    let ready = c.well_kinded_are_ready.ensures tree faultless.kinds in
    let own = c.leaves_are_in_place.ensures tree plan is u leaf at_leaf in
    let at : slice_get (script_of plan.design plan.leaves plan.choices).entries u ≡ Some (entry_of plan.design leaf choice) =
    c.parts_are_entries.ensures plan.design plan.leaves plan.choices u leaf choice
    (record { each_leaf = each_leaf tree plan is; each_choice = each_choice tree plan is; is_leaf = at_leaf; is_choice = at_choice; is_unit = own }) in
    let fit : IsFitDesign (flat_design tree) = c.designs_are_fit.ensures.fit flat_text kinds faultless.sets (c.constants_are_distinct.ensures tree faultless.kinds.3) in
    let leaf_there : Has (leaves_of (flat_design tree)) leaf =
    subst (λ (d : Design). Has (leaves_of d) leaf) is.design (subst (λ (leaves : List Leaf). Has leaves leaf) is.leaves (get_Has plan.leaves u leaf at_leaf)) in
    let guards : (g : Guard) → Has leaf.guards g → IsKinded (flat_design tree) (kinds_of leaf.params) g.expr =
    c.guards_have_kinds.ensures (flat_design tree) ready.0 passes.splits (c.designs_are_fit.ensures.splits flat_text kinds faultless.sets) leaf leaf_there in
    record {
      leaves = plan.leaves;
      choices = plan.choices;
      each_leaf = each_leaf tree plan is;
      each_choice = each_choice tree plan is;
      is_entry = get_Has (script_of plan.design plan.leaves plan.choices).entries u (entry_of plan.design leaf choice) at;
      is_checked = c.plans_are_checked.ensures.checked tree faultless plan is;
      have_values = c.plans_are_checked.ensures.values tree faultless plan is;
      sizes = subst (λ (d : Design). (info : SetInfo) → Has d.sets info → IfSome info.size (λ n. n ≤ 256)) (sym is.design) (c.designs_are_fit.ensures.sizes flat_text kinds);
      is_fit = subst IsFitDesign (sym is.design) fit;
      guards = subst (λ (d : Design). (g : Guard) → Has leaf.guards g → IsKinded d (kinds_of leaf.params) g.expr) (sym is.design) guards;
    }
