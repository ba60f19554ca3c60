-- The entry and the report of the first unit of a name, by its place.
use Rattle.std.proofs.Common.{◌≡◌, ◌∙◌, ℕ, suc, ◌+◌, ◌<◌, List, [], ◌∷◌, length, Bool, true, false, refl, sym, ap, subst, Option, Some, None, arith}
use Rattle.std.specs.Prelude.{if◌then◌else◌, option_map}
use Rattle.std.specs.List.{slice_get}
use Rattle.law_splits.proofs.Lists.{place_below}
use Rattle.law_lists.proofs.Options.{some_is}
use Rattle.smv_core.specs.declared.flat.Design.{Design}
use Rattle.smv_core.specs.declared.flat.Unit.{Unit}
use Rattle.smv_core.specs.declared.flat.Leaf.{Leaf}
use Rattle.smv_core.specs.declared.flat.Choice.{Choice}
use Rattle.law_obligations.specs.Outlines.{Entry, Script, entries_of, place_of}
use Rattle.law_obligations.specs.Units.{units_of, script_of}
use Rattle.smv_bits.specs.declared.Bits.{Bits}
use Rattle.law_reports.specs.Reports.{IsReportOf}
use Rattle.smv_problem.specs.declared.report.Plan.{Plan}
use Rattle.smv_problem.specs.declared.report.Report.{Report}
use Rattle.smv_plan_reports.specs.Reports.{named_from, unit_named, HasNoUnit, IsReportOfUnit, IsRightReport, IsUnitReport}
use Rattle.smv_read_design.specs.Named.{is_named}
use Rattle.smv_prove.specs.Ready.{IsReady}

-- ---- entries of a script

-- the entry at a place, which is the first of the name from a place on
pub record IsNamedAt (s : Script) (name : List ℕ) (k u : ℕ) (entries : List Entry) : Type 0 where
  pub entry : Entry
  pub there : slice_get entries u ≡ Some entry
  pub named : named_from s name k entries ≡ Some (k + u, entry)

map_none : (o : Option ℕ) → option_map (λ k. suc k) o ≡ None → o ≡ None
map_none None e = refl
map_none (Some k) e = absurd (cc)

-- what is mapped to a place
record Mapped (o : Option ℕ) (u : ℕ) : Type 0 where
  pub from : ℕ
  pub is : o ≡ Some from
  pub next : suc from ≡ u

map_some : (o : Option ℕ) (u : ℕ) → option_map (λ k. suc k) o ≡ Some u → Mapped o u
map_some None u e = absurd (cc)
map_some (Some k) u e = record { from = k; is = refl; next = some_is e }

module _ (s : Script) (name : List ℕ) (x : Unit) (y : Leaf) (z : Choice) (k : ℕ) (units : List Unit) (entries : List Entry) where
  named_first : is_named s.design name x ≡ true → named_from s name k (record { unit = x; leaf = y; choice = z } ∷ entries) ≡ Some (k, record { unit = x; leaf = y; choice = z })
  named_first is = ap (λ (b : Bool). if b then Some (k, record { unit = x; leaf = y; choice = z }) else named_from s name (suc k) entries) is

  named_later : is_named s.design name x ≡ false → named_from s name k (record { unit = x; leaf = y; choice = z } ∷ entries) ≡ named_from s name (suc k) entries
  named_later is = ap (λ (b : Bool). if b then Some (k, record { unit = x; leaf = y; choice = z }) else named_from s name (suc k) entries) is

  some_by : (b : Bool) → is_named s.design name x ≡ b → (u : ℕ) → place_of (is_named s.design name) (x ∷ units) ≡ Some u → ((v : ℕ) → place_of (is_named s.design name) units ≡ Some v → IsNamedAt s name (suc k) v entries)
      → IsNamedAt s name k u (record { unit = x; leaf = y; choice = z } ∷ entries)
  some_by true is u place more =
      let zero_is : 0 ≡ u = some_is (sym (ap (λ (b : Bool). if b then Some 0 else option_map (λ k. suc k) (place_of (is_named s.design name) units)) is) ∙ place) in
      let plus : k ≡ k + 0 = omega arith in
      subst (λ (n : ℕ). IsNamedAt s name k n (record { unit = x; leaf = y; choice = z } ∷ entries)) zero_is
      (record { entry = record { unit = x; leaf = y; choice = z }; there = refl; named = named_first is ∙ ap (λ (n : ℕ). Some (n, record { unit = x; leaf = y; choice = z })) plus })
  some_by false is u place more =
      let found = map_some (place_of (is_named s.design name) units) u (sym (ap (λ (b : Bool). if b then Some 0 else option_map (λ k. suc k) (place_of (is_named s.design name) units)) is) ∙ place) in
      let at = more found.from found.is in
      let plus : suc k + found.from ≡ k + suc found.from = omega arith in
      subst (λ (n : ℕ). IsNamedAt s name k n (record { unit = x; leaf = y; choice = z } ∷ entries)) found.next
      (record { entry = at.entry; there = at.there; named = named_later is ∙ (at.named ∙ ap (λ (n : ℕ). Some (n, at.entry)) plus) })

  none_by : (b : Bool) → is_named s.design name x ≡ b → place_of (is_named s.design name) (x ∷ units) ≡ None → (place_of (is_named s.design name) units ≡ None → named_from s name (suc k) entries ≡ None)
      → named_from s name k (record { unit = x; leaf = y; choice = z } ∷ entries) ≡ None
  none_by true is place more =
      let bad = sym (ap (λ (b : Bool). if b then Some 0 else option_map (λ k. suc k) (place_of (is_named s.design name) units)) is) ∙ place in
      absurd (cc)
  none_by false is place more =
      named_later is ∙ more (map_none (place_of (is_named s.design name) units) (sym (ap (λ (b : Bool). if b then Some 0 else option_map (λ k. suc k) (place_of (is_named s.design name) units)) is) ∙ place))

module _ (s : Script) (name : List ℕ) where
  named_some : (k : ℕ) (units : List Unit) (leaves : List Leaf) (choices : List Choice) → length leaves ≡ length units → length choices ≡ length units → (u : ℕ) → place_of (is_named s.design name) units ≡ Some u → IsNamedAt s name k u (entries_of units leaves choices)
  named_some k [] leaves choices e f u is = absurd (cc)
  named_some k (x ∷ units) [] choices e f u is = absurd (omega arith)
  named_some k (x ∷ units) (y ∷ leaves) [] e f u is = absurd (omega arith)
  named_some k (x ∷ units) (y ∷ leaves) (z ∷ choices) e f u is =
      some_by s name x y z k units (entries_of units leaves choices) (is_named s.design name x) refl u is (λ v at. named_some (suc k) units leaves choices (omega arith) (omega arith) v at)

  named_none : (k : ℕ) (units : List Unit) (leaves : List Leaf) (choices : List Choice) → place_of (is_named s.design name) units ≡ None → named_from s name k (entries_of units leaves choices) ≡ None
  named_none k [] leaves choices is = refl
  named_none k (x ∷ units) [] choices is = refl
  named_none k (x ∷ units) (y ∷ leaves) [] is = refl
  named_none k (x ∷ units) (y ∷ leaves) (z ∷ choices) is =
      none_by s name x y z k units (entries_of units leaves choices) (is_named s.design name x) refl is (λ none. named_none (suc k) units leaves choices none)

-- ---- the unit of a name in a plan

-- what was found among the units that a slice shows
pub found_among : (d : Design) (name : List ℕ) (units shown : List Unit) (place answer : Option ℕ) → shown ≡ units → place ≡ place_of (is_named d name) shown → place ≡ answer → place_of (is_named d name) units ≡ answer
found_among d name units shown place answer same found is = sym (ap (place_of (is_named d name)) same) ∙ (sym found ∙ is)

module _ (text : List ℕ) (plan : Plan) (ready : IsReady text plan) (name : List ℕ) where
  -- by its place among the units
  pub is_there : (u : ℕ) → place_of (is_named plan.design name) plan.units ≡ Some u → IsNamedAt (script_of plan.design plan.leaves plan.choices) name 0 u (script_of plan.design plan.leaves plan.choices).entries
  is_there u place =
      let whole = ready.is_whole in
      let units = ap (λ (xs : List Unit). length xs) whole.units in
      let leaves = whole.leaves in
      let choices = whole.choices in
      named_some (script_of plan.design plan.leaves plan.choices) name 0 (units_of plan.design) plan.leaves plan.choices (omega (arith, units, leaves)) (omega (arith, units, choices)) u
      (subst (λ (xs : List Unit). place_of (is_named plan.design name) xs ≡ Some u) whole.units place)

  -- none has it
  pub is_none : place_of (is_named plan.design name) plan.units ≡ None → HasNoUnit text name
  is_none place = (
    ready.tree,
    ready.is_valid,
    subst (λ (s : Script). unit_named s name ≡ None) ready.is_script
        (named_none (script_of plan.design plan.leaves plan.choices) name 0 (units_of plan.design) plan.leaves plan.choices
        (subst (λ (xs : List Unit). place_of (is_named plan.design name) xs ≡ None) ready.is_whole.units place)),
  )

  pub is_below : (u : ℕ) → place_of (is_named plan.design name) plan.units ≡ Some u → u < length plan.units
  is_below u place = place_below (is_named plan.design name) plan.units u place

  pub is_reported : (bits : Bits) (nodes steps u : ℕ) → place_of (is_named plan.design name) plan.units ≡ Some u → (report : Report) → ((entry : Entry) → slice_get (script_of plan.design plan.leaves plan.choices).entries u ≡ Some entry → IsReportOfUnit (script_of plan.design plan.leaves plan.choices) bits nodes steps u entry report)
      → IsUnitReport text name bits nodes steps report
  is_reported bits nodes steps u place report is =
      let at = is_there u place in
      let same : 0 + u ≡ u = omega arith in (
        ready.tree,
        ready.is_valid,
        (
          u,
          at.entry,
          subst (λ (s : Script). unit_named s name ≡ Some (u, at.entry)) ready.is_script (at.named ∙ ap (λ (n : ℕ). Some (n, at.entry)) same),
          subst (λ (s : Script). IsReportOfUnit s bits nodes steps u at.entry report) ready.is_script (is at.entry at.there),
        ),
      )

pub all_reported : (text : List ℕ) (plan : Plan) → IsReady text plan → (bits : Bits) (nodes steps : ℕ) (report : Report) → IsReportOf (script_of plan.design plan.leaves plan.choices) bits nodes steps report → IsRightReport text bits nodes steps report
all_reported text plan ready bits nodes steps report is = (ready.tree, ready.is_valid, subst (λ (s : Script). IsReportOf s bits nodes steps report) ready.is_script is)
