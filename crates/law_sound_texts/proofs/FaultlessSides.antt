-- What a text without a fault of single assignment has: no place where a rule is broken.
use Rattle.std.proofs.Common.{◌≡◌, ℕ, List, [], ◌++◌, filter, Option, Some, None, Bool, true, false, not, cond, refl}
use Rattle.std.specs.List.{flat_map}
use Rattle.law_lists.proofs.Lists.{map-nil}
use Rattle.smv_core.specs.declared.fault.Fault.{Fault}
use Rattle.smv_core.specs.declared.flat.FlatText.{FlatText}
use Rattle.smv_mentions.specs.NameFaults.{place_if}
use Rattle.smv_mentions.specs.FirstFault.{comes_before, earlier, faults_at}
use Rattle.law_designs.specs.WholeText.{claims_of}
use Rattle.law_obligations.specs.Sets.{Has, first, later}
use Rattle.law_designs.specs.Standing.{statements_of, Standing}
use Rattle.law_designs.specs.SingleFaults.{later_places, conflicting, has_variables, lacking, unnamed, assigned_in, single_faults, first_fault_of_single}
use Rattle.law_designs.proofs.Faultless.{no_fault-in}
use Rattle.law_flat_kinds.proofs.NoFaults.{nil-left, nil-flat_map}
use Rattle.law_flat_kinds.proofs.Lists.{none_passes}

no-earlier : (f : Fault) (o : Option Fault) → earlier f o ≡ None → ⊥
no-earlier f None e = cc
no-earlier f (Some g) e = by_test (comes_before g f) e
  where
    by_test : (b : Bool) → cond b (Some g) (Some f) ≡ None → ⊥
    by_test true e = cc
    by_test false e = cc

no-place : (b : Bool) (at : ℕ) → place_if (not b) at ≡ [] → b ≡ true
no-place true at e = refl
no-place false at e = absurd (cc (e))

module _ (flat_text : FlatText) (faultless : first_fault_of_single flat_text ≡ None) where
  none : flat_map faults_at (single_faults flat_text) ≡ []
  none = no_fault-in (flat_map faults_at (single_faults flat_text)) faultless

  pub no-conflict : conflicting (statements_of flat_text) ≡ []
  no-conflict = map-nil _ (conflicting (statements_of flat_text)) (nil-flat_map faults_at (single_faults flat_text) none (15, conflicting (statements_of flat_text)) first)

  pub no-lack : (a : Standing) → Has (assigned_in flat_text) a → has_variables a ≡ true
  no-lack a h =
      let here : flat_map lacking (assigned_in flat_text) ++ flat_map unnamed (claims_of flat_text.items) ≡ [] =
      map-nil _ (flat_map lacking (assigned_in flat_text) ++ flat_map unnamed (claims_of flat_text.items)) (nil-flat_map faults_at (single_faults flat_text) none (17, flat_map lacking (assigned_in flat_text) ++ flat_map unnamed (claims_of flat_text.items)) (later (later first))) in
      no-place (has_variables a) a.at (nil-flat_map lacking (assigned_in flat_text) (nil-left _ (flat_map unnamed (claims_of flat_text.items)) here) a h)

pub no-clash : (clash : Standing → Standing → Bool) (as' bs : List Standing) → later_places clash as' bs ≡ [] → (a b : Standing) → Has as' a → Has bs b → clash a b ≡ false
no-clash clash as' bs e a b h k = none_passes (clash a) bs (map-nil _ (filter (clash a) bs) (nil-flat_map _ as' e a h)) b k
