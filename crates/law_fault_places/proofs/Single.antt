-- The first fault of single assignment stands at a place of the flattened text.
use Rattle.std.proofs.Common.{◌≤◌, ℕ, Bool, not, List, [], ◌∷◌, ◌++◌, map, filter, Option, IfSome, refl}
use Rattle.std.specs.List.{AllByRecursion, flat_map}
use Rattle.law_lists.proofs.Each.{each_flat_map, each_in_any, each_filter, each_append}
use Rattle.smv_core.specs.Types.{names_of}
use Rattle.smv_core.specs.Outcome.{same_path}
use Rattle.smv_core.specs.declared.flat.Claim.{Claim}
use Rattle.smv_core.specs.declared.flat.Param.{Param}
use Rattle.smv_core.specs.declared.flat.FlatText.{FlatText}
use Rattle.smv_core.specs.declared.flat.FlatStmt.{FlatStmt, Assign, If', Block', Default', Forall', Row_of-FlatStmt, end_of-FlatStmt, more_of-FlatStmt}
use Rattle.law_designs.specs.WholeText.{claims_of}
use Rattle.law_designs.specs.Standing.{Statement, statements_of, Standing, standing, standing_in, assigned_by}
use Rattle.law_designs.specs.SingleFaults.{later_places, meet, cross, conflicts, conflicts_in, conflicting, are_mixed, mixed, has_variables, lacking, unnamed, assigned_in, single_faults, faults_of_single, first_fault_of_single}
use Rattle.law_designs.proofs.Faultless.{each-map}
use Rattle.law_fault_places.specs.FaultPlaces.{IsFaultOf}
use Rattle.law_fault_places.proofs.Firsts.{first-one, AreUpTo, placed-if, lists-placed}
use Rattle.law_fault_places.specs.FlatPlaces.{ActIsWithin, ActsAreWithin, ClaimIsWithin, FlatTextIsWithin}
use Rattle.law_fault_places.proofs.DesignLaws.{SaidIsWithin, statements-within, StandingIsWithin, standing-within, standing_in-within, assigned-within, claims-within}
use Rattle.law_fault_places.specs.DesignFaultPlaces.{numbers_of_single}

module _ (n : ℕ) where
  abbrev IsUpTo : ℕ → Type 0
  IsUpTo at = at ≤ n

  both : (xs ys : List ℕ) → AreUpTo n xs → AreUpTo n ys → AreUpTo n (xs ++ ys)
  both xs ys h g = each_append IsUpTo xs ys h g

  later-within : (clash : Standing → Standing → Bool) (earlier later : List Standing) → AllByRecursion (StandingIsWithin n) later → AreUpTo n (later_places clash earlier later)
  later-within clash earlier later h =
      each_in_any IsUpTo (λ (a : Standing). map (λ (b : Standing). b.at) (filter (clash a) later))
      (λ a. each-map (StandingIsWithin n) IsUpTo (λ (b : Standing). b.at) (λ b own. own.1) (filter (clash a) later) (each_filter (StandingIsWithin n) (clash a) later h)) earlier

  module _ (layer : Option ℕ) where
    mutual
      conflicts-within : (around : List ℕ) (act : FlatStmt) → ActIsWithin n act → AreUpTo n (conflicts layer around act)
      conflicts-within around (Assign kind family left value at) h = tt
      conflicts-within around (If' cond l (more_of-FlatStmt left end_of-FlatStmt) r (more_of-FlatStmt right end_of-FlatStmt)) h =
          both ((conflicts layer around left) ++ (conflicts layer around right)) (later_places (cross around) (standing layer around left) (standing layer around right))
          (both (conflicts layer around left) (conflicts layer around right) (conflicts-within around left h.1) (conflicts-within around right h.2)) (later-within (cross around) (standing layer around left) (standing layer around right) (standing-within n layer around right h.2))
      conflicts-within around (Block' shape parts) h = conflicts_in-within around parts h
      conflicts-within around (Default' l (more_of-FlatStmt left end_of-FlatStmt) r (more_of-FlatStmt right end_of-FlatStmt)) h =
          both ((conflicts layer around left) ++ (conflicts layer around right)) (later_places (cross around) (standing layer around left) (standing layer around right))
          (both (conflicts layer around left) (conflicts layer around right) (conflicts-within around left h.0) (conflicts-within around right h.1)) (later-within (cross around) (standing layer around left) (standing layer around right) (standing-within n layer around right h.1))
      conflicts-within around (Forall' var over shape (more_of-FlatStmt body end_of-FlatStmt)) h = conflicts-within (var ∷ around) body h

      conflicts_in-within : {m : _} (around : List ℕ) (row : Row_of-FlatStmt m) → ActsAreWithin n row → AreUpTo n (conflicts_in layer around row)
      conflicts_in-within around end_of-FlatStmt h = tt
      conflicts_in-within around (more_of-FlatStmt part rest) h =
          both ((conflicts layer around part) ++ (conflicts_in layer around rest)) (later_places meet (standing layer around part) (standing_in layer around rest))
          (both (conflicts layer around part) (conflicts_in layer around rest) (conflicts-within around part h.0) (conflicts_in-within around rest h.1)) (later-within meet (standing layer around part) (standing_in layer around rest) (standing_in-within n layer around rest h.1))

  assigned-all : (statements : List Statement) → AllByRecursion (SaidIsWithin n) statements → AllByRecursion (StandingIsWithin n) (flat_map assigned_by statements)
  assigned-all statements h = each_flat_map (SaidIsWithin n) (StandingIsWithin n) assigned_by (assigned-within n) statements h

  conflicting-within : (statements : List Statement) → AllByRecursion (SaidIsWithin n) statements → AreUpTo n (conflicting statements)
  conflicting-within [] h = tt
  conflicting-within (s ∷ more) h =
      both ((conflicts s.layer [] s.act) ++ (conflicting more)) (later_places meet (assigned_by s) (flat_map assigned_by more)) (both (conflicts s.layer [] s.act) (conflicting more) (conflicts-within s.layer [] s.act h.0) (conflicting-within more h.1)) (later-within meet (assigned_by s) (flat_map assigned_by more) (assigned-all more h.1))

  mixed-within : (all : List Standing) → AllByRecursion (StandingIsWithin n) all → AreUpTo n (mixed all)
  mixed-within [] h = tt
  mixed-within (a ∷ more) h = both (later_places are_mixed (a ∷ []) more) (mixed more) (later-within are_mixed (a ∷ []) more h.1) (mixed-within more h.1)

  lacking-within : (a : Standing) → StandingIsWithin n a → AreUpTo n (lacking a)
  lacking-within a h = placed-if n (not (has_variables a)) a.at h.1

  unnamed-within : (c : Claim) → ClaimIsWithin n c → AreUpTo n (unnamed c)
  unnamed-within c h = placed-if n (not (same_path (names_of c.vars) (map (λ (p : Param). p.name) c.params))) c.at h.2

  pub first-within : (flat_text : FlatText) → FlatTextIsWithin n flat_text → IfSome (first_fault_of_single flat_text) (IsFaultOf numbers_of_single n)
  first-within flat_text h =
      let said = statements-within n flat_text h in
      let assigned : AllByRecursion (StandingIsWithin n) (assigned_in flat_text) = assigned-all (statements_of flat_text) said in
      first-one (IsFaultOf numbers_of_single n) (faults_of_single flat_text) (lists-placed numbers_of_single n (single_faults flat_text) (
        (refl, conflicting-within (statements_of flat_text) said),
        (
          (refl, mixed-within (assigned_in flat_text) assigned),
          (
            (
              refl,
              both (flat_map lacking (assigned_in flat_text)) (flat_map unnamed (claims_of flat_text.items)) (each_flat_map (StandingIsWithin n) IsUpTo lacking lacking-within (assigned_in flat_text) assigned)
                  (each_flat_map (ClaimIsWithin n) IsUpTo unnamed unnamed-within (claims_of flat_text.items) (claims-within n flat_text.items h)),
            ),
            tt,
          ),
        ),
      ))
