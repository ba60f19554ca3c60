-- What the plan of a valid text gives to the lines of its units.
use Rattle.std.proofs.Common.{◌≡◌, ℕ, suc, List, [], ◌∷◌, Bool, true, false, Some, None, length, refl, ap, arith}
use Rattle.std.specs.Prelude.{◌||◌, if◌then◌else◌, nat_lt}
use Rattle.smv_core.specs.declared.fault.Fault.{Fault}
use Rattle.smv_core.specs.declared.flat.Design.{Design}
use Rattle.smv_core.specs.declared.flat.Leaf.{Leaf}
use Rattle.smv_core.specs.declared.flat.Choice.{Choice}
use Rattle.smv_core.specs.declared.flat.Unit.{Unit}
use Rattle.smv_core.specs.declared.flat.Timed.{Timed}
use Rattle.law_obligations.specs.LeafCases.{leaf_cases}
use Rattle.law_obligations.specs.Outlines.{Entry, Script, entries_of}
use Rattle.law_obligations.specs.Times.{timed_from}
use Rattle.law_obligations.specs.Units.{script_of, units_of}
use Rattle.smv_problem.specs.declared.report.Plan.{Plan}
use Rattle.law_problems.specs.Parts as parts
use Rattle.law_valid_texts.specs.Rooms.{IsWholePlan}
use Rattle.smv_cases.specs.Faults as cases
use Rattle.smv_look_lines.specs.Lists.{HaveFewCases}

-- the two readings of fault 29 agree where there is none
same_none : (x y : Fault) (b : Bool) → (if b then Some x else None) ≡ None → (if b then Some y else None) ≡ None
same_none x y true e = let bad : ⊥ = cc in absurd bad
same_none x y false e = refl

no_cases_fault : (d : Design) (leaf : Leaf) (choice : Choice) → parts.cases_fault d leaf choice ≡ None → cases.cases_fault d leaf choice ≡ None
no_cases_fault d leaf choice e = same_none (parts.fault_at_unit 29 d leaf) (cases.fault_at_unit 29 d leaf) (nat_lt 8 (length leaf.params) || nat_lt 4096 (length (leaf_cases d.sets leaf.params choice.keeps))) e

pub few_cases : (plan : Plan) → IsWholePlan plan → HaveFewCases plan
few_cases plan whole u leaf choice at is = no_cases_fault plan.design leaf choice (whole.room u leaf choice at is).cases

length_entries : (units : List Unit) (leaves : List Leaf) (choices : List Choice) → length leaves ≡ length units → length choices ≡ length units → length (entries_of units leaves choices) ≡ length units
length_entries [] leaves choices e f = refl
length_entries (x ∷ units) [] choices e f = absurd (omega arith)
length_entries (x ∷ units) (y ∷ leaves) [] e f = absurd (omega arith)
length_entries (x ∷ units) (y ∷ leaves) (z ∷ choices) e f = ap (λ n. suc n) (length_entries units leaves choices (omega arith) (omega arith))

length_timed : (s : Script) (k : ℕ) (entries : List Entry) → length (timed_from s k entries) ≡ length entries
length_timed s k [] = refl
length_timed s k (entry ∷ entries) = ap (λ n. suc n) (length_timed s (suc k) entries)

-- each unit has its times
pub all_timed_long : (plan : Plan) → IsWholePlan plan → length plan.timed ≡ length plan.units
all_timed_long plan whole =
    let units = ap (λ (xs : List Unit). length xs) whole.units in
    let leaves = whole.leaves in
    let choices = whole.choices in
    let entries = length_entries (units_of plan.design) plan.leaves plan.choices (omega (arith, units, leaves)) (omega (arith, units, choices)) in
    let timed = ap (λ (xs : List Timed). length xs) whole.timed in
    let long = length_timed (script_of plan.design plan.leaves plan.choices) 0 (script_of plan.design plan.leaves plan.choices).entries in
    omega (arith, units, entries, timed, long)
