-- The unit at a place of a plan, and its cases.
use Rattle.std.proofs.Common.{◌≡◌, ◌∙◌, ℕ, zero, suc, ◌<◌, ◌≤◌, List, [], ◌∷◌, Bool, true, false, ◌||◌, nat_lt, if◌then◌else◌, length, Some, None, refl, sym, ap, subst, arith}
use Rattle.std.proofs.lemmas.List.{length-map}
use Rattle.std.specs.Prelude.{slice_get, Option}
use Rattle.std.proofs.Common.{Bor}
use Rattle.law_lists.proofs.Options.{some_is}
use Rattle.smv_core.specs.Values.{Name}
use Rattle.smv_core.specs.declared.flat.Design.{Design}
use Rattle.smv_core.specs.declared.flat.Def.{Def}
use Rattle.smv_core.specs.declared.flat.Pick.{Pick}
use Rattle.smv_core.specs.declared.flat.Unit.{Unit}
use Rattle.smv_core.specs.declared.flat.Leaf.{Leaf}
use Rattle.smv_core.specs.declared.flat.Choice.{Choice}
use Rattle.smv_core.specs.declared.flat.Timed.{Timed}
use Rattle.smv_core.specs.declared.flat.Class.{Class}
use Rattle.smv_core.specs.declared.flat.Case.{Case as CaseData}
use Rattle.law_obligations.specs.LeafCases.{leaf_cases}
use Rattle.law_obligations.specs.Outlines.{Entry, unit_in}
use Rattle.law_obligations.specs.Readings.{PosedCase}
use Rattle.law_obligations.specs.Units.{script_of, units_of}
use Rattle.law_splits.specs.Leaves.{name_of}
use Rattle.smv_problem.specs.declared.report.Plan.{Plan}
use Rattle.law_problems.specs.Parts.{entry_of, case_with, fault_at_unit, outlined}
use Rattle.smv_chosen_table.specs.Tables.{IsTable}
use Rattle.law_reports.specs.PlanLaws.{IsAt}
use Rattle.law_reports.proofs.Plans.{is_entry, case_is}
use Rattle.law_valid_texts.specs.Rooms.{HasRoom, IsWholePlan}
use Rattle.smv_decide.specs.Leaves.{classes_in}
use Rattle.smv_plan_reports.proofs.PlanLaws.{at, each_choice, each_timed, unit_is}
use Rattle.smv_core.specs.declared.flat.Param.{Param}
use Rattle.smv_problem.specs.declared.report.Verdict.{Verdict}
use Rattle.smv_look_lines.specs.Cones.{count_line}
use Rattle.smv_look_sets.specs.Sought.{open_text}
use Rattle.law_checked_proofs.specs.Cases.{cases_at, cases_from}

module _ (plan : Plan) (whole : IsWholePlan plan) (u : ℕ) (unit : Unit) (leaf : Leaf) (choice : Choice) (timed : Timed) (is_unit : slice_get plan.units u ≡ Some unit) (is_leaf : slice_get plan.leaves u ≡ Some leaf) (is_choice : slice_get plan.choices u ≡ Some choice)
    (is_timed : slice_get plan.timed u ≡ Some timed) where
  place : IsAt plan.design plan.leaves plan.choices u leaf choice
  place = at plan whole u unit leaf choice timed is_unit is_leaf is_choice is_timed

  -- its entry
  pub entry_is : (entry : Entry) → slice_get (script_of plan.design plan.leaves plan.choices).entries u ≡ Some entry → entry_of plan.design leaf choice ≡ entry
  entry_is entry is = some_is (sym (is_entry plan.design plan.leaves plan.choices u leaf choice place) ∙ is)

  pub own_unit : (entry_of plan.design leaf choice).unit ≡ unit
  own_unit = unit_is plan whole u unit leaf choice timed is_unit is_leaf is_choice is_timed

  -- its cases
  pub cases_are : (name : Name) → name ≡ name_of plan.design (unit_in plan.design unit) → (entry : Entry) → slice_get (script_of plan.design plan.leaves plan.choices).entries u ≡ Some entry
      → cases_from name (case_with plan.design leaf choice timed) 0 (leaf_cases plan.design.sets leaf.params choice.keeps) ≡ cases_at (script_of plan.design plan.leaves plan.choices) u entry
  cases_are name named entry is =
      let own_name : name ≡ name_of plan.design (unit_in plan.design (entry_of plan.design leaf choice).unit) = named ∙ ap (λ (x : Unit). name_of plan.design (unit_in plan.design x)) (sym own_unit) in
      ap (λ (n : Name). cases_from n (case_with plan.design leaf choice timed) 0 (leaf_cases plan.design.sets leaf.params choice.keeps)) own_name
      ∙ (ap (λ (case_for : List Class → PosedCase). cases_from (name_of plan.design (unit_in plan.design (entry_of plan.design leaf choice).unit)) case_for 0 (leaf_cases plan.design.sets leaf.params choice.keeps))
      (λ i classes. case_is plan.design plan.leaves plan.choices u leaf choice place timed (ap (λ (xs : List Timed). slice_get xs u) (sym whole.timed) ∙ is_timed) classes i)
      ∙ ap (λ (e : Entry). cases_at (script_of plan.design plan.leaves plan.choices) u e) (entry_is entry is))

-- there is a part at each place of a list
pub part_there : {X : Type 0} (xs : List X) (u : ℕ) → u < length xs → (x : X) × (slice_get xs u ≡ Some x)
part_there {X} [] u lt = absurd (omega (arith, lt))
part_there {X} (x ∷ xs) zero lt = (x, refl)
part_there {X} (x ∷ xs) (suc u) lt = part_there xs u (omega (arith, lt))

-- a table of what picks choose, by what slices show of it
pub table_is : (d : Design) (units : List Unit) (shown picks : List Pick) (items table : List (Option (Bor Def))) → units ≡ units_of d → shown ≡ picks → table ≡ items → IsTable (record { design = d; units = units }) shown items → IsTable (outlined d) picks table
table_is d units shown picks items table same picked slice is =
    subst (λ (xs : List (Option (Bor Def))). IsTable (outlined d) picks xs) (sym slice)
    (subst (λ (ps : List Pick). IsTable (outlined d) ps items) picked (subst (λ (us : List Unit). IsTable (record { design = d; units = us }) shown items) same is))

-- a leaf that is not refused has at most 4,096 cases
pub few_cases : (d : Design) (leaf : Leaf) (choice : Choice) (cases : List CaseData) → HasRoom d leaf choice → classes_in cases ≡ leaf_cases d.sets leaf.params choice.keeps → length cases ≤ 4096
few_cases d leaf choice cases room same =
    let mapped : length (classes_in cases) ≡ length cases = length-map cases (λ (c : CaseData). c.classes) in
    let long = ap (λ (xs : List (List Class)). length xs) same in
    let few = by_test (nat_lt 8 (length leaf.params)) (nat_lt 4096 (length (leaf_cases d.sets leaf.params choice.keeps))) refl room.cases in
    omega (arith, mapped, long, few)
  where
    not_more : (n : ℕ) → nat_lt 4096 n ≡ false → n ≤ 4096
    not_more n e = grind arith

    by_test : (a b : Bool) → nat_lt 4096 (length (leaf_cases d.sets leaf.params choice.keeps)) ≡ b → (if a || b then Some (fault_at_unit 29 d leaf) else None) ≡ None → length (leaf_cases d.sets leaf.params choice.keeps) ≤ 4096
    by_test true b h e = absurd (cc (e))
    by_test false true h e = absurd (cc (e))
    by_test false false h e = not_more (length (leaf_cases d.sets leaf.params choice.keeps)) h

-- the unit and the leaf of an entry are those at its place
pub entry_at : (plan : Plan) (whole : IsWholePlan plan) (u : ℕ) (unit : Unit) (leaf : Leaf) → u < length plan.units → slice_get plan.units u ≡ Some unit → slice_get plan.leaves u ≡ Some leaf → (entry : Entry) →
    slice_get (script_of plan.design plan.leaves plan.choices).entries u ≡ Some entry → (entry.unit ≡ unit) × (entry.leaf ≡ leaf)
entry_at plan whole u unit leaf lt is_unit is_leaf entry is =
    let choice = part_there plan.choices u (each_choice plan whole u lt) in
    let timed = part_there plan.timed u (each_timed plan whole u lt) in
    let same = entry_is plan whole u unit leaf choice.0 timed.0 is_unit is_leaf choice.1 timed.1 entry is in
    (sym (ap (λ (x : Entry). x.unit) same) ∙ own_unit plan whole u unit leaf choice.0 timed.0 is_unit is_leaf choice.1 timed.1, sym (ap (λ (x : Entry). x.leaf) same))

-- so the lines that are told of its unit are those of the entry
pub told_at : (plan : Plan) (whole : IsWholePlan plan) (u : ℕ) (unit : Unit) (leaf : Leaf) (params : List Param) → u < length plan.units → slice_get plan.units u ≡ Some unit → slice_get plan.leaves u ≡ Some leaf → params ≡ leaf.params → (entry : Entry) →
    slice_get (script_of plan.design plan.leaves plan.choices).entries u ≡ Some entry → (verdict : Verdict) → open_text plan.design unit params verdict ≡ open_text plan.design entry.unit entry.leaf.params verdict
told_at plan whole u unit leaf params lt is_unit is_leaf shown entry is verdict =
    let same = entry_at plan whole u unit leaf lt is_unit is_leaf entry is in
    ap (λ (ps : List Param). open_text plan.design unit ps verdict) (shown ∙ ap (λ (l : Leaf). l.params) (sym same.1)) ∙ ap (λ (x : Unit). open_text plan.design x entry.leaf.params verdict) (sym same.0)

pub counted_at : (plan : Plan) (whole : IsWholePlan plan) (u : ℕ) (unit : Unit) (leaf : Leaf) → u < length plan.units → slice_get plan.units u ≡ Some unit → slice_get plan.leaves u ≡ Some leaf → (entry : Entry) →
    slice_get (script_of plan.design plan.leaves plan.choices).entries u ≡ Some entry → (count : ℕ) → count_line plan.design unit count ≡ count_line plan.design entry.unit count
counted_at plan whole u unit leaf lt is_unit is_leaf entry is count = ap (λ (x : Unit). count_line plan.design x count) (sym (entry_at plan whole u unit leaf lt is_unit is_leaf entry is).0)
