-- The cases of right results.
use Rattle.std.proofs.Common.{◌≡◌, ◌∙◌, ℕ, zero, suc, List, [], ◌∷◌, ◌++◌, Some, length, refl, sym, ap, subst, arith}
use Rattle.std.specs.Prelude.{slice_get}
use Rattle.law_lists.proofs.Options.{some_is}
use Rattle.smv_bits.specs.declared.Bits.{Bits}
use Rattle.smv_core.specs.declared.flat.Unit.{Unit as FlatUnit}
use Rattle.smv_core.specs.declared.flat.Leaf.{Leaf}
use Rattle.smv_core.specs.declared.flat.Choice.{Choice}
use Rattle.law_obligations.specs.Sets.{Has, first, later}
use Rattle.law_obligations.specs.Outlines.{Entry, Script, entries_of}
use Rattle.law_obligations.specs.Units.{units_of}
use Rattle.law_reports.specs.Reports.{AreResultsFrom, IsResultOf, IsToldOf}
use Rattle.law_valid_texts.specs.Faultless.{script_of_plan}
use Rattle.law_valid_texts.specs.PartLaws.{CasesAreOfLeaves}
use Rattle.law_valid_texts.specs.Rooms.{HasRoom, IsWholePlan}
use Rattle.smv_problem.specs.declared.report.Plan.{Plan}
use Rattle.smv_problem.specs.declared.report.Verdict.{Verdict}
use Rattle.smv_problem.specs.declared.report.Verdict.TheVariants.{True, False, UnknownNodes, UnknownSteps}
use Rattle.smv_problem.specs.declared.report.UnitResult.{UnitResult}
use Rattle.smv_look_reports.specs.Cases.{HasCase, HaveCases, RightResultsHaveCases}

in_middle : {X : Type 0} (before behind : List X) (x : X) → Has (before ++ (x ∷ behind)) x
in_middle [] behind x = first
in_middle (y ∷ before) behind x = later (in_middle before behind x)

module _ (s : Script) (bits : Bits) (nodes steps : ℕ) where
  -- the verdict that is told of a leaf with room is of one of its cases, where it is false or unknown
  told_case : CasesAreOfLeaves → (u : ℕ) (entry : Entry) → HasRoom s.design entry.leaf entry.choice → (v : Verdict) → IsToldOf s bits nodes steps u entry v → HasCase s.design entry.leaf entry.choice v
  told_case law u entry room True told = tt
  told_case law u entry room (False case elements path) told = law s.design entry.leaf entry.choice room.cases case.classes (subst (λ xs. Has xs case.classes) (sym told.1.stands) (in_middle told.1.before told.1.behind case.classes))
  told_case law u entry room (UnknownNodes case count) told = law s.design entry.leaf entry.choice room.cases case.classes (subst (λ xs. Has xs case.classes) (sym told.stands) (in_middle told.before told.behind case.classes))
  told_case law u entry room (UnknownSteps case) told = law s.design entry.leaf entry.choice room.cases case.classes (subst (λ xs. Has xs case.classes) (sym told.stands) (in_middle told.before told.behind case.classes))

  -- there is a result for each entry
  as_many : (u : ℕ) (entries : List Entry) (results : List UnitResult) → AreResultsFrom s bits nodes steps u entries results → length results ≡ length entries
  as_many u [] [] are = refl
  as_many u [] (r ∷ results) are = absurd are
  as_many u (entry ∷ entries) [] are = absurd are
  as_many u (entry ∷ entries) (r ∷ results) are = ap (λ n. suc n) (as_many (suc u) entries results are.1)

  -- the result at a place is that of the entry there
  result_at : (u k : ℕ) (entries : List Entry) (results : List UnitResult) → AreResultsFrom s bits nodes steps u entries results → (entry : Entry) (r : UnitResult) → slice_get entries k ≡ Some entry → slice_get results k ≡ Some r → (v : ℕ) × IsResultOf s bits nodes steps v entry r
  result_at u k [] results are entry r at is = absurd (cc (at))
  result_at u k (x ∷ entries) [] are entry r at is = absurd are
  result_at u zero (x ∷ entries) (y ∷ results) are entry r at is = (u, subst (λ z. IsResultOf s bits nodes steps u entry z) (some_is is) (subst (λ z. IsResultOf s bits nodes steps u z y) (some_is at) are.0))
  result_at u (suc k) (x ∷ entries) (y ∷ results) are entry r at is = result_at (suc u) k entries results are.1 entry r at is

-- entries by their parts
length_entries : (units : List FlatUnit) (leaves : List Leaf) (choices : List Choice) → length leaves ≡ length units → length choices ≡ length units → length (entries_of units leaves choices) ≡ length units
length_entries [] leaves choices e f = refl
length_entries (x ∷ units) [] choices e f = absurd (omega arith)
length_entries (x ∷ units) (y ∷ leaves) [] e f = absurd (omega arith)
length_entries (x ∷ units) (y ∷ leaves) (z ∷ choices) e f = ap (λ n. suc n) (length_entries units leaves choices (omega arith) (omega arith))

entry_at : (units : List FlatUnit) (leaves : List Leaf) (choices : List Choice) (k : ℕ) (leaf : Leaf) (choice : Choice) → length leaves ≡ length units → slice_get leaves k ≡ Some leaf → slice_get choices k ≡ Some choice →
    (unit : FlatUnit) × (slice_get (entries_of units leaves choices) k ≡ Some (record { unit = unit; leaf = leaf; choice = choice }))
entry_at units [] choices k leaf choice e at is = absurd (cc (at))
entry_at units (y ∷ leaves) [] k leaf choice e at is = absurd (cc (is))
entry_at [] (y ∷ leaves) (z ∷ choices) k leaf choice e at is = absurd (omega arith)
entry_at (x ∷ units) (y ∷ leaves) (z ∷ choices) zero leaf choice e at is = (x, λ i. Some (record { unit = x; leaf = some_is at i; choice = some_is is i }))
entry_at (x ∷ units) (y ∷ leaves) (z ∷ choices) (suc k) leaf choice e at is = entry_at units leaves choices k leaf choice (omega arith) at is

module _ (law : CasesAreOfLeaves) (plan : Plan) (whole : IsWholePlan plan) (bits : Bits) (nodes steps : ℕ) (results : List UnitResult) (are : AreResultsFrom (script_of_plan plan) bits nodes steps 0 (script_of_plan plan).entries results) where
  long : length results ≡ length plan.units
  long =
      let units = ap (λ (xs : List FlatUnit). length xs) whole.units in
      let leaves = whole.leaves in
      let choices = whole.choices in
      as_many (script_of_plan plan) bits nodes steps 0 (script_of_plan plan).entries results are ∙ (length_entries (units_of plan.design) plan.leaves plan.choices (omega (arith, units, leaves)) (omega (arith, units, choices)) ∙ sym units)

  have_cases : HaveCases plan results
  have_cases u leaf choice r at is got =
      let units = ap (λ (xs : List FlatUnit). length xs) whole.units in
      let leaves = whole.leaves in
      let entry = entry_at (units_of plan.design) plan.leaves plan.choices u leaf choice (omega (arith, units, leaves)) at is in
      let told = result_at (script_of_plan plan) bits nodes steps 0 u (script_of_plan plan).entries results are (record { unit = entry.0; leaf = leaf; choice = choice }) r entry.1 got in
      told_case (script_of_plan plan) bits nodes steps law told.0 (record { unit = entry.0; leaf = leaf; choice = choice }) (whole.room u leaf choice at is) r.verdict told.1.verdict

pub right_have_cases : CasesAreOfLeaves → RightResultsHaveCases
right_have_cases law plan whole bits nodes steps results are = (long law plan whole bits nodes steps results are, have_cases law plan whole bits nodes steps results are)
