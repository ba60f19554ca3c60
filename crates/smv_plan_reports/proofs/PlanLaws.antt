-- The units of a plan, one by one.
use Rattle.std.proofs.Common.{◌≡◌, ℕ, zero, suc, ◌+◌, ◌<◌, ◌≤◌, List, [], ◌∷◌, ◌++◌, length, get_or, take, refl, sym, ap, subst, ◌∙◌, Option, Some, arith}
use Rattle.std.specs.Prelude.{unwrap_or}
use Rattle.std.specs.List.{slice_get}
use Rattle.std.proofs.Math.Seq.{take-length}
use Rattle.std.proofs.lemmas.List.{take_more, length-take-le}
use Rattle.std.proofs.lemmas.Option.{slice_get-get_or}
use Rattle.law_lists.proofs.Options.{some_is}
use Rattle.smv_core.specs.declared.flat.Design.{Design}
use Rattle.smv_core.specs.declared.flat.Unit.{Unit}
use Rattle.smv_core.specs.declared.flat.Unit.TheVariants.{Claim}
use Rattle.smv_core.specs.declared.flat.Leaf.{Leaf}
use Rattle.smv_core.specs.declared.flat.Choice.{Choice}
use Rattle.smv_core.specs.declared.flat.Timed.{Timed}
use Rattle.smv_core.specs.declared.flat.Param.{Param}
use Rattle.smv_core.specs.declared.flat.Class.{Class}
use Rattle.smv_core.specs.declared.flat.Case.{Case as CaseData}
use Rattle.smv_core.specs.Values.{Name}
use Rattle.law_obligations.specs.Sets.{Has, first, later}
use Rattle.law_obligations.specs.LeafCases.{leaf_cases}
use Rattle.law_obligations.specs.Outlines.{Entry, Script, entries_of, unit_in}
use Rattle.law_obligations.specs.Units.{units_of, script_of}
use Rattle.law_obligations.specs.Times.{timed_from}
use Rattle.law_splits.specs.Leaves.{name_of}
use Rattle.smv_problem.specs.declared.report.Verdict.{Verdict}
use Rattle.smv_problem.specs.declared.report.UnitResult.{UnitResult}
use Rattle.smv_problem.specs.declared.report.Plan.{Plan}
use Rattle.law_problems.specs.Parts.{IsCaseOf, entry_of, case_with}
use Rattle.smv_bits.specs.declared.Bits.{Bits}
use Rattle.law_reports.specs.Reports.{IsResultOf, AreResultsFrom}
use Rattle.law_reports.specs.Told.{IsToldBy}
use Rattle.law_reports.specs.PlanLaws.{IsAt}
use Rattle.law_reports.proofs.Plans.{is_entry, told_is}
use Rattle.smv_decide.specs.Leaves.{classes_in, AreCases}
use Rattle.law_valid_texts.specs.Rooms.{HasRoom, IsWholePlan}
use Rattle.law_valid_texts.proofs.Rooms.{few_params}

-- what stands at a place of a list that a slice shows
pub part_at : {X : Type 0} (xs shown : List X) (u : ℕ) (x : X) → shown ≡ xs → u < length xs → x ≡ get_or shown u x → slice_get xs u ≡ Some x
part_at {X} xs shown u x same lt is = slice_get-get_or xs u x lt ∙ ap Some (sym (subst (λ (ys : List X). x ≡ get_or ys u x) same is))

-- what is copied from there
pub copied_at : {X : Type 0} (xs shown : List X) (u : ℕ) (d : X) → shown ≡ xs → u < length xs → slice_get xs u ≡ Some (get_or shown u d)
copied_at {X} xs shown u d same lt = slice_get-get_or xs u d lt ∙ ap (λ (ys : List X). Some (get_or ys u d)) (sym same)

-- ---- cases

Has_map : (cases : List CaseData) (c : CaseData) → Has cases c → Has (classes_in cases) c.classes
Has_map (x ∷ cases) _ first = first
Has_map (x ∷ cases) c (later h) = later (Has_map cases c h)
Has_map [] c h = elim h [ ]

pub cases_are : (d : Design) (leaf : Leaf) (choice : Choice) (cases : List CaseData) → HasRoom d leaf choice → classes_in cases ≡ leaf_cases d.sets leaf.params choice.keeps → AreCases d leaf choice cases
cases_are d leaf choice cases room same = record {
  are_cases = λ c h. case_is c h;
  have_width = λ c h. room.width c.classes (case_is c h);
}
  where
    case_is : (c : CaseData) → Has cases c → IsCaseOf d leaf choice c.classes
    case_is c h = record { few = few_params d leaf choice room.cases; is_case = subst (λ (xs : List (List Class)). Has xs c.classes) same (Has_map cases c h) }

-- ---- results

length_entries : (units : List Unit) (leaves : List Leaf) (choices : List Choice) → length leaves ≡ length units → length choices ≡ length units → length (entries_of units leaves choices) ≡ length units
length_entries [] leaves choices e f = refl
length_entries (x ∷ units) [] choices e f = absurd (omega arith)
length_entries (x ∷ units) (y ∷ leaves) [] e f = absurd (omega arith)
length_entries (x ∷ units) (y ∷ leaves) (z ∷ choices) e f = ap (λ n. suc n) (length_entries units leaves choices (omega arith) (omega arith))

module _ (s : Script) (bits : Bits) (nodes images : ℕ) where
  one_more : (k : ℕ) (entries : List Entry) (results : List UnitResult) (entry : Entry) (r : UnitResult) → AreResultsFrom s bits nodes images k entries results → IsResultOf s bits nodes images (k + length entries) entry r
      → AreResultsFrom s bits nodes images k (entries ++ (entry ∷ [])) (results ++ (r ∷ []))
  one_more k [] [] entry r are is = let same : k + 0 ≡ k = omega arith in (subst (λ (n : ℕ). IsResultOf s bits nodes images n entry r) same is, tt)
  one_more k [] (x ∷ results) entry r are is = absurd are
  one_more k (x ∷ entries) [] entry r are is = absurd are
  one_more k (x ∷ entries) (y ∷ results) entry r are is =
      let same : k + length (x ∷ entries) ≡ suc k + length entries = omega arith in
      (are.0, one_more (suc k) entries results entry r are.1 (subst (λ (n : ℕ). IsResultOf s bits nodes images n entry r) same is))

  pub no_results : (entries : List Entry) (results : List UnitResult) → results ≡ [] → AreResultsFrom s bits nodes images 0 (take 0 entries) results
  no_results [] [] e = tt
  no_results (x ∷ entries) [] e = tt
  no_results [] (r ∷ results) e = absurd (cc)
  no_results (x ∷ entries) (r ∷ results) e = absurd (cc)

  pub next_result : (u : ℕ) (results pushed : List UnitResult) (r : UnitResult) → u < length s.entries → AreResultsFrom s bits nodes images 0 (take u s.entries) results → ((entry : Entry) → slice_get s.entries u ≡ Some entry → IsResultOf s bits nodes images u entry r)
      → pushed ≡ results ++ (r ∷ []) → AreResultsFrom s bits nodes images 0 (take (u + 1) s.entries) pushed
  next_result u results pushed r lt are each put =
      let entry = there s.entries u lt in
      let long : 0 + length (take u s.entries) ≡ u = let t = length-take-le u s.entries (omega arith) in omega arith in
      subst (λ (rs : List UnitResult). AreResultsFrom s bits nodes images 0 (take (u + 1) s.entries) rs) (sym put)
      (subst (λ (es : List Entry). AreResultsFrom s bits nodes images 0 es (results ++ (r ∷ []))) (sym (more s.entries u entry.0 entry.1 lt))
      (one_more 0 (take u s.entries) results entry.0 r are (subst (λ (n : ℕ). IsResultOf s bits nodes images n entry.0 r) (sym long) (each entry.0 entry.1))))
    where
      there : (es : List Entry) (u : ℕ) → u < length es → (entry : Entry) × (slice_get es u ≡ Some entry)
      there [] u lt = absurd (omega arith)
      there (x ∷ es) zero lt = (x, refl)
      there (x ∷ es) (suc u) lt = there es u (omega arith)

      more : (es : List Entry) (u : ℕ) (entry : Entry) → slice_get es u ≡ Some entry → u < length es → take (u + 1) es ≡ take u es ++ (entry ∷ [])
      more es u entry e lt = take_more es u entry lt ∙ ap (λ (x : Entry). take u es ++ (x ∷ [])) (at es u entry e)
        where
          at : (es : List Entry) (u : ℕ) (entry : Entry) → slice_get es u ≡ Some entry → get_or es u entry ≡ entry
          at [] u entry e = absurd (cc)
          at (x ∷ es) zero entry e = some_is e
          at (x ∷ es) (suc u) entry e = at es u entry e

  pub all_results : (u : ℕ) (results : List UnitResult) → length s.entries ≤ u → u ≤ length s.entries → AreResultsFrom s bits nodes images 0 (take u s.entries) results → AreResultsFrom s bits nodes images 0 s.entries results
  all_results u results le ge are =
      let same : u ≡ length s.entries = omega arith in
      subst (λ (es : List Entry). AreResultsFrom s bits nodes images 0 es results) (ap (λ (n : ℕ). take n s.entries) same ∙ take-length s.entries) are

length_timed : (s : Script) (k : ℕ) (entries : List Entry) → length (timed_from s k entries) ≡ length entries
length_timed s k [] = refl
length_timed s k (entry ∷ entries) = ap (λ n. suc n) (length_timed s (suc k) entries)

module _ (plan : Plan) (whole : IsWholePlan plan) where
  pub entries_long : length (script_of plan.design plan.leaves plan.choices).entries ≡ length plan.units
  entries_long =
      let units = ap (λ (xs : List Unit). length xs) whole.units in
      let leaves = whole.leaves in
      let choices = whole.choices in
      let long = length_entries (units_of plan.design) plan.leaves plan.choices (omega arith) (omega arith) in
      omega arith

  -- each list of a plan has a part for each unit
  pub each_leaf : (u : ℕ) → u < length plan.units → u < length plan.leaves
  each_leaf u lt =
      let leaves = whole.leaves in
      omega (arith, lt, leaves)

  pub each_choice : (u : ℕ) → u < length plan.units → u < length plan.choices
  each_choice u lt =
      let choices = whole.choices in
      omega (arith, lt, choices)

  pub each_timed : (u : ℕ) → u < length plan.units → u < length plan.timed
  each_timed u lt =
      let timed = ap (λ (xs : List Timed). length xs) whole.timed in
      let long = length_timed (script_of plan.design plan.leaves plan.choices) 0 (script_of plan.design plan.leaves plan.choices).entries in
      let entries = entries_long in
      omega (arith, lt, timed, long, entries)

  module _ (u : ℕ) (unit : Unit) (leaf : Leaf) (choice : Choice) (timed : Timed) (is_unit : slice_get plan.units u ≡ Some unit) (is_leaf : slice_get plan.leaves u ≡ Some leaf) (is_choice : slice_get plan.choices u ≡ Some choice) (is_timed : slice_get plan.timed u ≡ Some timed) where
    pub at : IsAt plan.design plan.leaves plan.choices u leaf choice
    at = record {
      each_leaf = whole.leaves ∙ ap (λ (xs : List Unit). length xs) whole.units;
      each_choice = whole.choices ∙ ap (λ (xs : List Unit). length xs) whole.units;
      is_leaf = is_leaf;
      is_choice = is_choice;
      is_unit = whole.own u leaf is_leaf;
    }

    pub unit_is : (entry_of plan.design leaf choice).unit ≡ unit
    unit_is = ap (λ (n : ℕ). unwrap_or (slice_get (units_of plan.design) n) (Claim 0)) (whole.own u leaf is_leaf) ∙ ap (λ (o : Option Unit). unwrap_or o (Claim 0)) (ap (λ (xs : List Unit). slice_get xs u) (sym whole.units) ∙ is_unit)

    pub result_is : (bits : Bits) (nodes images : ℕ) (name : Name) (params : List Param) (verdict : Verdict) → name ≡ name_of plan.design (unit_in plan.design unit) → params ≡ leaf.params
        → IsToldBy (case_with plan.design leaf choice timed) bits nodes images (leaf_cases plan.design.sets leaf.params choice.keeps) verdict → (entry : Entry) → slice_get (script_of plan.design plan.leaves plan.choices).entries u ≡ Some entry
        → IsResultOf (script_of plan.design plan.leaves plan.choices) bits nodes images u entry (record { name = name; params = params; verdict = verdict })
    result_is bits nodes images name params verdict named copied told entry is =
        subst (λ (e : Entry). IsResultOf (script_of plan.design plan.leaves plan.choices) bits nodes images u e (record { name = name; params = params; verdict = verdict })) (some_is (sym (is_entry plan.design plan.leaves plan.choices u leaf choice at) ∙ is))
        (record {
          name = named ∙ ap (λ (x : Unit). name_of plan.design (unit_in plan.design x)) (sym unit_is);
          params = copied;
          verdict = told_is plan.design plan.leaves plan.choices u leaf choice at timed (ap (λ (xs : List Timed). slice_get xs u) (sym whole.timed) ∙ is_timed) bits nodes images verdict told;
        })
