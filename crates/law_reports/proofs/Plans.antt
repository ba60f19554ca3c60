-- Parts of a plan and entries of its script.
use Rattle.std.proofs.Common.{◌≡◌, ℕ, zero, suc, ◌+◌, List, [], ◌∷◌, map, length, refl, sym, ap, subst, ◌∙◌, Option, Some, arith}
use Rattle.std.specs.Prelude.{unwrap_or}
use Rattle.std.specs.List.{slice_get}
use Rattle.std.proofs.lemmas.Option.{slice_get_within}
use Rattle.law_lists.proofs.Options.{some_is}
use Rattle.law_lists.proofs.Places.{get_there}
use Rattle.smv_core.specs.declared.flat.Design.{Design}
use Rattle.smv_core.specs.declared.flat.Unit.{Unit}
use Rattle.smv_core.specs.declared.flat.Unit.TheVariants.{Claim}
use Rattle.smv_core.specs.declared.flat.Leaf.{Leaf}
use Rattle.smv_core.specs.declared.flat.Choice.{Choice}
use Rattle.smv_core.specs.declared.flat.Timed.{Timed}
use Rattle.smv_core.specs.declared.flat.Class.{Class}
use Rattle.smv_bits.specs.declared.Bits.{Bits}
use Rattle.law_obligations.specs.LeafCases.{leaf_cases}
use Rattle.law_obligations.specs.Outlines.{Entry, Outline, Script, entries_of, outline_of}
use Rattle.law_obligations.specs.Units.{units_of, script_of}
use Rattle.law_obligations.specs.Times.{graph, timed, timed_from, all_timed}
use Rattle.law_obligations.specs.Readings.{PosedCase}
use Rattle.law_obligations.specs.Scripts.{case_of, case_at, classes_of}
use Rattle.smv_problem.specs.declared.report.Verdict.{Verdict}
use Rattle.smv_problem.specs.declared.report.Verdict.TheVariants.{True, False, UnknownNodes, UnknownSteps}
use Rattle.law_problems.specs.Parts.{outlined, entry_of, case_with}
use Rattle.law_reports.specs.Reports.{IsToldOf}
use Rattle.law_reports.specs.Told.{IsToldBy}
use Rattle.law_reports.specs.PlanLaws.{IsAt}

entries_at : (units : List Unit) (leaves : List Leaf) (choices : List Choice) (u : ℕ) (unit : Unit) (leaf : Leaf) (choice : Choice) → slice_get units u ≡ Some unit → slice_get leaves u ≡ Some leaf → slice_get choices u ≡ Some choice
    → slice_get (entries_of units leaves choices) u ≡ Some (record { unit = unit; leaf = leaf; choice = choice })
entries_at [] leaves choices u unit leaf choice e f g = absurd (cc)
entries_at (x ∷ units) [] choices u unit leaf choice e f g = absurd (cc)
entries_at (x ∷ units) (y ∷ leaves) [] u unit leaf choice e f g = absurd (cc)
entries_at (x ∷ units) (y ∷ leaves) (z ∷ choices) zero unit leaf choice e f g = λ i. Some (record { unit = some_is e i; leaf = some_is f i; choice = some_is g i })
entries_at (x ∷ units) (y ∷ leaves) (z ∷ choices) (suc u) unit leaf choice e f g = entries_at units leaves choices u unit leaf choice e f g

units_kept : (units : List Unit) (leaves : List Leaf) (choices : List Choice) → length leaves ≡ length units → length choices ≡ length units → map (λ (entry : Entry). entry.unit) (entries_of units leaves choices) ≡ units
units_kept [] leaves choices e f = refl
units_kept (x ∷ units) [] choices e f = absurd (omega arith)
units_kept (x ∷ units) (y ∷ leaves) [] e f = absurd (omega arith)
units_kept (x ∷ units) (y ∷ leaves) (z ∷ choices) e f = ap (λ (xs : List Unit). x ∷ xs) (units_kept units leaves choices (omega arith) (omega arith))

timed_at : (s : Script) (k : ℕ) (entries : List Entry) (u : ℕ) (entry : Entry) → slice_get entries u ≡ Some entry → slice_get (timed_from s k entries) u ≡ Some (timed (outline_of s) (graph s) (k + u) entry)
timed_at s k [] u entry e = absurd (cc)
timed_at s k (x ∷ entries) zero entry e =
    let same : k ≡ k + 0 = omega arith in
    ap (λ (n : ℕ). Some (timed (outline_of s) (graph s) n x)) same ∙ ap (λ (y : Entry). Some (timed (outline_of s) (graph s) (k + 0) y)) (some_is e)
timed_at s k (x ∷ entries) (suc u) entry e =
    let same : suc k + u ≡ k + suc u = omega arith in
    timed_at s (suc k) entries u entry e ∙ ap (λ (n : ℕ). Some (timed (outline_of s) (graph s) n entry)) same

told_same : (s : Script) (u : ℕ) (entry : Entry) (bits : Bits) (nodes images : ℕ) (verdict : Verdict) → IsToldBy (case_at s u entry) bits nodes images (classes_of s entry) verdict → IsToldOf s bits nodes images u entry verdict
told_same s u entry bits nodes images True told = told
told_same s u entry bits nodes images (False case elements path) told = told
told_same s u entry bits nodes images (UnknownNodes case count) told = told
told_same s u entry bits nodes images (UnknownSteps case) told = told

module _ (d : Design) (leaves : List Leaf) (choices : List Choice) (u : ℕ) (leaf : Leaf) (choice : Choice) (at : IsAt d leaves choices u leaf choice) where
  abbrev s : Script
  s = script_of d leaves choices

  pub is_entry : slice_get (script_of d leaves choices).entries u ≡ Some (entry_of d leaf choice)
  is_entry =
      let count = at.each_leaf in
      let below = slice_get_within leaves u leaf at.is_leaf in
      let unit = get_there (units_of d) u (omega arith) in
      let own : unit.0 ≡ unwrap_or (slice_get (units_of d) leaf.unit) (Claim 0) = sym (ap (λ (n : ℕ). unwrap_or (slice_get (units_of d) n) (Claim 0)) at.is_unit ∙ ap (λ (o : Option Unit). unwrap_or o (Claim 0)) unit.1) in
      entries_at (units_of d) leaves choices u unit.0 leaf choice unit.1 at.is_leaf at.is_choice ∙ ap (λ (x : Unit). Some (let entry : Entry = record { unit = x; leaf = leaf; choice = choice } in entry)) own

  outline_is : outlined d ≡ outline_of (script_of d leaves choices)
  outline_is = ap (λ (units : List Unit). let o : Outline = record { design = d; units = units } in o) (sym (units_kept (units_of d) leaves choices at.each_leaf at.each_choice))

  module _ (times : Timed) (is_time : slice_get (all_timed (script_of d leaves choices)) u ≡ Some times) where
    times_are : times ≡ timed (outline_of s) (graph s) u (entry_of d leaf choice)
    times_are =
        let same : 0 + u ≡ u = omega arith in
        some_is (sym is_time ∙ timed_at s 0 s.entries u (entry_of d leaf choice) is_entry) ∙ ap (λ (n : ℕ). timed (outline_of s) (graph s) n (entry_of d leaf choice)) same

    pub case_is : (classes : List Class) → case_with d leaf choice times classes ≡ case_at (script_of d leaves choices) u (entry_of d leaf choice) classes
    case_is classes = ap (λ (o : Outline). case_of o (entry_of d leaf choice) times classes) outline_is ∙ ap (λ (t : Timed). case_of (outline_of s) (entry_of d leaf choice) t classes) times_are

    pub told_is : (bits : Bits) (nodes images : ℕ) (verdict : Verdict) → IsToldBy (case_with d leaf choice times) bits nodes images (leaf_cases d.sets leaf.params choice.keeps) verdict → IsToldOf (script_of d leaves choices) bits nodes images u (entry_of d leaf choice) verdict
    told_is bits nodes images verdict told =
        told_same s u (entry_of d leaf choice) bits nodes images verdict
        (subst (λ (case_for : List Class → PosedCase). IsToldBy case_for bits nodes images (leaf_cases d.sets leaf.params choice.keeps) verdict) (λ i classes. case_is classes i) told)
