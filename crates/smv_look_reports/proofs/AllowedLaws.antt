-- What the maps of a plan's units allow, unit by unit.
use Rattle.std.proofs.Common.{◌≡◌, ◌∙◌, ◌⊎◌, inl, inr, ℕ, zero, suc, ◌+◌, ◌≤◌, List, [], ◌∷◌, ◌++◌, Some, length, refl, sym, ap, append_assoc, subst, arith}
use Rattle.std.specs.Prelude.{Option, map, slice_get}
use Rattle.std.proofs.lemmas.List.{length-append}
use Rattle.law_lists.proofs.Options.{some_is}
use Rattle.smv_core.specs.declared.flat.Design.{Design}
use Rattle.smv_core.specs.declared.flat.Element.{Element}
use Rattle.smv_core.specs.declared.flat.Unit.{Unit as FlatUnit}
use Rattle.smv_core.specs.declared.flat.Leaf.{Leaf}
use Rattle.smv_core.specs.declared.flat.Choice.{Choice}
use Rattle.smv_core.specs.declared.flat.Timed.{Timed}
use Rattle.smv_core.specs.declared.flat.Class.{Class}
use Rattle.smv_core.specs.declared.flat.Case.{Case}
use Rattle.smv_core.specs.declared.flat.Param.{Param}
use Rattle.law_obligations.specs.Outlines.{Entry, Script, unit_in}
use Rattle.law_obligations.specs.Readings.{PosedCase}
use Rattle.law_obligations.specs.Scripts.{case_at}
use Rattle.law_problems.specs.Parts.{case_with, entry_of}
use Rattle.law_reports.specs.Lines.{line}
use Rattle.law_reports.specs.PlanLaws.{IsAt}
use Rattle.law_reports.proofs.Plans.{case_is, is_entry}
use Rattle.law_read_reports.specs.Shown.{value_name}
use Rattle.law_valid_texts.specs.Faultless.{script_of_plan}
use Rattle.law_valid_texts.specs.Rooms.{IsWholePlan}
use Rattle.smv_problem.specs.declared.problem.AbsState.{AbsState as StateData}
use Rattle.smv_problem.specs.declared.problem.AbsValue.{AbsValue}
use Rattle.smv_problem.specs.declared.report.Plan.{Plan}
use Rattle.smv_problem.specs.declared.report.Verdict.{Verdict}
use Rattle.smv_problem.specs.declared.report.UnitResult.{UnitResult}
use Rattle.smv_look_lines.specs.Lists.{choice_lines}
use Rattle.smv_look_lines.specs.Cones.{target_of}
use Rattle.smv_look_reports.specs.Paths.{path_lines}
use Rattle.smv_look_reports.specs.Allowed.{AreAllowedBy, AreAllowedByAll, allowed_lines, some_line, values_line}
use Rattle.smv_look_reports.specs.Explained.{false_lines}

-- the line of values, where there are some
pub line_of_some : (d : Design) (x : Element) (values : List AbsValue) → 1 ≤ length values → values_line (map (value_name d x) values) ≡ some_line (map (value_name d x) values)
line_of_some d x [] some = absurd (omega arith)
line_of_some d x (value ∷ values) some = refl

-- three parts are written, one after another
three : (out a b c first second : List ℕ) → first ≡ out ++ a → second ≡ first ++ b → second ++ c ≡ out ++ (a ++ b ++ c)
three out a b c first second is next = ap (λ l. l ++ c) (next ∙ (ap (λ l. l ++ b) is ∙ append_assoc out a b)) ∙ append_assoc out (a ++ b) c

-- a line is written
pub line_written : (out text parts first second third : List ℕ) → first ≡ out ++ text → second ≡ first ++ parts → third ≡ second ++ 10 ∷ [] → third ≡ out ++ line (text ++ parts)
line_written out text parts first second third a b c = c ∙ three out text parts (10 ∷ []) first second a b

-- what is written of a unit that is false, by its target as it is read twice
pub false_written : (d : Design) (unit : FlatUnit) (choice : Choice) (times : Timed) (r : UnitResult) (values : List AbsValue) (case : Case) (elements : List Element) (path : List StateData)
    (classes : List Class) (target copied again : Option Element) (name : List ℕ) (params : List Param) (out first second : List ℕ) →
    classes ≡ case.classes → target ≡ target_of d classes (unit_in d unit) → copied ≡ target → again ≡ target → name ≡ r.name → params ≡ r.params →
    first ≡ out ++ path_lines d copied name params case elements path → second ≡ first ++ allowed_lines d again values →
    second ++ choice_lines d choice times ≡ out ++ false_lines d unit choice times r values case elements path
false_written d unit choice times r values case elements path classes target copied again name params out first second same is one two named with_params told allowed =
    let aim : Option Element = target_of d case.classes (unit_in d unit) in
    let here : target ≡ aim = is ∙ ap (λ (cs : List Class). target_of d cs (unit_in d unit)) same in
    let aimed : copied ≡ aim = one ∙ here in
    let aimed_again : again ≡ aim = two ∙ here in
    let table : out ++ path_lines d copied name params case elements path ≡ out ++ path_lines d aim r.name r.params case elements path = λ i. out ++ path_lines d (aimed i) (named i) (with_params i) case elements path in
    three out (path_lines d aim r.name r.params case elements path) (allowed_lines d aim values) (choice_lines d choice times) first second (told ∙ table) (allowed ∙ ap (λ (t : Option Element). first ++ allowed_lines d t values) aimed_again)

-- what stands at a place behind one that is added
get_pushed : {X : Type 0} (xs : List X) (x y : X) (v : ℕ) → slice_get (xs ++ x ∷ []) v ≡ Some y → (slice_get xs v ≡ Some y) ⊎ ((v ≡ length xs) × (x ≡ y))
get_pushed [] x y zero e = inr (refl, some_is e)
get_pushed [] x y (suc v) e = absurd (cc (e))
get_pushed (z ∷ xs) x y zero e = inl e
get_pushed (z ∷ xs) x y (suc v) e = elim (get_pushed xs x y v e) [ inl h ↦ inl h | inr h ↦ inr (ap (λ n. suc n) h.0, h.1) ]

module _ (s : Script) (results : List UnitResult) where
  -- so many of them are told
  pub record AreAllowedSoFar (u : ℕ) (allowed : List (List AbsValue)) : Type 0 where
    pub so_long : length allowed ≡ u
    pub each_one : (v : ℕ) (entry : Entry) (r : UnitResult) (values : List AbsValue) → slice_get s.entries v ≡ Some entry → slice_get results v ≡ Some r → slice_get allowed v ≡ Some values → AreAllowedBy (case_at s v entry) r.verdict values

  pub none_yet : (allowed : List (List AbsValue)) → allowed ≡ [] → AreAllowedSoFar 0 allowed
  none_yet [] e = record { so_long = refl; each_one = λ v entry r values a b c. absurd (cc (c)) }
  none_yet (values ∷ allowed) e = absurd (cc (e))

  pub one_more : (u : ℕ) (allowed pushed : List (List AbsValue)) (values : List AbsValue) → pushed ≡ allowed ++ values ∷ [] → AreAllowedSoFar u allowed →
      ((entry : Entry) (r : UnitResult) → slice_get s.entries u ≡ Some entry → slice_get results u ≡ Some r → AreAllowedBy (case_at s u entry) r.verdict values) → AreAllowedSoFar (u + 1) pushed
  one_more u allowed pushed values put so_far next = subst (AreAllowedSoFar (u + 1)) (sym put) (record { so_long = longer; each_one = each })
    where
      longer : length (allowed ++ values ∷ []) ≡ u + 1
      longer =
          let long = length-append allowed (values ∷ []) in
          let before = so_far.so_long in
          omega (arith, long, before)

      each : (v : ℕ) (entry : Entry) (r : UnitResult) (told : List AbsValue) → slice_get s.entries v ≡ Some entry → slice_get results v ≡ Some r → slice_get (allowed ++ values ∷ []) v ≡ Some told → AreAllowedBy (case_at s v entry) r.verdict told
      each v entry r told a b c = elim (get_pushed allowed values told v c) [
        | inl h ↦ so_far.each_one v entry r told a b h
        | inr h ↦ at v (h.0 ∙ so_far.so_long) entry r a b h.1
      ]
        where
          at : (v : ℕ) → v ≡ u → (entry : Entry) (r : UnitResult) → slice_get s.entries v ≡ Some entry → slice_get results v ≡ Some r → values ≡ told → AreAllowedBy (case_at s v entry) r.verdict told
          at v same entry r a b is =
              subst (λ (k : ℕ). AreAllowedBy (case_at s k entry) r.verdict told) (sym same)
              (subst (AreAllowedBy (case_at s u entry) r.verdict) is (next entry r (ap (slice_get s.entries) (sym same) ∙ a) (ap (slice_get results) (sym same) ∙ b)))

  pub all_are : (u : ℕ) (allowed : List (List AbsValue)) → length results ≡ u → AreAllowedSoFar u allowed → AreAllowedByAll s results allowed
  all_are u allowed done so_far = record { long = so_far.so_long ∙ sym done; each = so_far.each_one }

-- what is told of a part of a plan is told of the script's entry
module _ (plan : Plan) (whole : IsWholePlan plan) (u : ℕ) (leaf : Leaf) (choice : Choice) (timed : Timed) (is_leaf : slice_get plan.leaves u ≡ Some leaf) (is_choice : slice_get plan.choices u ≡ Some choice) (is_timed : slice_get plan.timed u ≡ Some timed) where
  place : IsAt plan.design plan.leaves plan.choices u leaf choice
  place =
      let long : length plan.units ≡ _ = ap (λ (xs : List FlatUnit). length xs) whole.units in
      record { each_leaf = whole.leaves ∙ long; each_choice = whole.choices ∙ long; is_leaf = is_leaf; is_choice = is_choice; is_unit = whole.own u leaf is_leaf }

  pub of_entry : (verdict : Verdict) (values : List AbsValue) → AreAllowedBy (case_with plan.design leaf choice timed) verdict values → (entry : Entry) → slice_get (script_of_plan plan).entries u ≡ Some entry → AreAllowedBy (case_at (script_of_plan plan) u entry) verdict values
  of_entry verdict values told entry is =
      let same : entry_of plan.design leaf choice ≡ entry = some_is (sym (is_entry plan.design plan.leaves plan.choices u leaf choice place) ∙ is) in
      let cases : case_with plan.design leaf choice timed ≡ case_at (script_of_plan plan) u (entry_of plan.design leaf choice) =
      (λ i classes. case_is plan.design plan.leaves plan.choices u leaf choice place timed (ap (λ (xs : List Timed). slice_get xs u) (sym whole.timed) ∙ is_timed) classes i) in
      subst (λ (e : Entry). AreAllowedBy (case_at (script_of_plan plan) u e) verdict values) same (subst (λ (case_for : List Class → PosedCase). AreAllowedBy case_for verdict values) cases told)

  -- the result at this place is told
  pub of_result : (results : List UnitResult) (r : UnitResult) (values : List AbsValue) → slice_get results u ≡ Some r → AreAllowedBy (case_with plan.design leaf choice timed) r.verdict values → (entry : Entry) (q : UnitResult) → slice_get (script_of_plan plan).entries u ≡ Some entry → slice_get results u ≡ Some q → AreAllowedBy (case_at (script_of_plan plan) u entry) q.verdict values
  of_result results r values at told entry q is got = subst (λ (q : UnitResult). AreAllowedBy (case_at (script_of_plan plan) u entry) q.verdict values) (some_is (sym at ∙ got)) (of_entry r.verdict values told entry is)
