-- Where no case of any leaf has a violating path, every unit holds.
use Rattle.std.proofs.Common.{◌≡◌, List, [], ◌∷◌, length, false, sym, subst, inl, inr, arith}
use Rattle.smv_core.specs.declared.flat.Design.{Design}
use Rattle.smv_core.specs.declared.flat.Unit.{Unit}
use Rattle.smv_core.specs.declared.flat.Leaf.{Leaf}
use Rattle.smv_core.specs.declared.flat.Choice.{Choice}
use Rattle.law_obligations.specs.Sets.{Has, first, later}
use Rattle.law_obligations.specs.May.{AbsState}
use Rattle.law_obligations.specs.Pictures.{IsAbsState}
use Rattle.law_obligations.specs.Circular.{is_violating}
use Rattle.law_obligations.specs.Obligations.{obligation}
use Rattle.law_obligations.specs.LeafCases.{leaf_cases}
use Rattle.law_obligations.specs.Soundness.{HasNoViolatingPath}
use Rattle.law_obligations.proofs.Members.{Has-uncons}
use Rattle.law_obligations.proofs.OneOfEach.{get_Has, Has_get}
use Rattle.law_obligations.proofs.Joined.{sound}
use Rattle.law_obligations.specs.Outlines.{Entry, Script, entries_of, unit_in}
use Rattle.law_obligations.specs.Units.{units_of, script_of}
use Rattle.law_obligations.specs.Problems.{proof_of, proofs_from, plan_of}
use Rattle.law_obligations.specs.Checked.{IsChecked, IsProved, HoldsAlways, IsSoundScript}
use Rattle.law_obligations.proofs.Granted.{proofs-get}
use Rattle.law_obligations.proofs.Plans.{from_leaf, is_plan}

pub proved_is_sound : (s : Script) → IsChecked s → IsProved s → IsSoundScript s
proved_is_sound s checked proved entry h sizes are_sizes run is_run values are_values =
    let g = Has_get h in
    sound (plan_of s) (is_plan s checked) none sizes are_sizes run is_run (proof_of s g.0 entry) (get_Has (proofs_from s 0 s.entries) g.0 _ (proofs-get s 0 g.0 s.entries g.0 entry (omega arith) g.1)) values are_values
  where
    none : HasNoViolatingPath (plan_of s)
    none leaf h classes is_case = from_leaf s checked (λ leaf. Has (leaf_cases s.design.sets leaf.params leaf.keeps) classes → (path : List AbsState) →
        ((a : AbsState) → Has path a → IsAbsState (leaf.problem classes).world (leaf.problem classes).kept a) → is_violating (obligation (leaf.problem classes)) path ≡ false)
        (λ u entry e c. proved u entry e classes c) leaf h is_case

-- each unit has an entry
entry-of : (units : List Unit) (leaves : List Leaf) (choices : List Choice) → length leaves ≡ length units → length choices ≡ length units → (unit : Unit) → Has units unit →
    (entry : Entry) × Has (entries_of units leaves choices) entry × (entry.unit ≡ unit)
entry-of [] leaves choices l c unit h = elim h [ ]
entry-of (x ∷ units) [] choices l c unit h = absurd (omega arith)
entry-of (x ∷ units) (leaf ∷ leaves) [] l c unit h = absurd (omega arith)
entry-of (x ∷ units) (leaf ∷ leaves) (choice ∷ choices) l c unit h = elim (Has-uncons h) [
  | inl e ↦ (record { unit = x; leaf = leaf; choice = choice }, first, sym e)
  | inr k ↦ let r = entry-of units leaves choices (omega arith) (omega arith) unit k in (r.0, later r.1, r.2)
]

pub proved_units_hold : (d : Design) (leaves : List Leaf) (choices : List Choice) → length leaves ≡ length (units_of d) → length choices ≡ length (units_of d) →
    IsChecked (script_of d leaves choices) → IsProved (script_of d leaves choices) → (unit : Unit) → Has (units_of d) unit → HoldsAlways d (unit_in d unit)
proved_units_hold d leaves choices l c checked proved unit h =
    let r = entry-of (units_of d) leaves choices l c unit h in
    subst (λ unit. HoldsAlways d (unit_in d unit)) r.2 (proved_is_sound (script_of d leaves choices) checked proved r.0 r.1)
