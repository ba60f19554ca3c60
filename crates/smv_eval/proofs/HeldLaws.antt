-- Demands, targets and guards of a case in states that cells read at plain conditions.
use Rattle.std.proofs.Common.{◌≡◌, ℕ, List, [], ◌∷◌, map, Bool, true, false, ◌&&◌, refl, sym, ap, subst, ◌∙◌, Option, Some, None}
use Rattle.std.specs.List.{slice_get, list_all}
use Rattle.law_lists.proofs.Lists.{head_is, tail_is}
use Rattle.smv_core.specs.declared.flat.Family.{Family}
use Rattle.smv_core.specs.declared.flat.Simple.{Simple}
use Rattle.smv_core.specs.declared.flat.Def.{Def}
use Rattle.smv_core.specs.declared.flat.Guard.{Guard}
use Rattle.law_obligations.specs.Sets.{Has, first, later}
use Rattle.law_obligations.specs.Places.{Place, is_among}
use Rattle.law_obligations.specs.May.{AbsState, Kept}
use Rattle.law_obligations.specs.Pictures.{IsAbsState}
use Rattle.law_obligations.specs.Covers.{IsIndexType}
use Rattle.law_obligations.specs.Demands.{places_of_family}
use Rattle.law_obligations.specs.Soundness.{over_of}
use Rattle.law_obligations.specs.Obligations.{Demanded, defined, holds, is_met, is_broken, may_hold, obligation}
use Rattle.law_obligations.specs.Obligations as oblig
use Rattle.law_obligations.proofs.Same.{is_among-Has}
use Rattle.law_obligations.proofs.Members.{any-found, any-some}
use Rattle.law_obligations.proofs.OneOfEach.{get_Has}
use Rattle.law_obligations.specs.Cones.{AbsElement, element, same_element}
use Rattle.law_obligations.proofs.ConeFacts.{same_element-itself, same_element-family}
use Rattle.law_obligations.specs.Readings.{PosedCase}
use Rattle.smv_problem.specs.declared.problem.Problem.{Problem}
use Rattle.smv_problem.specs.declared.problem.Demand.{Demand}
use Rattle.smv_problem.specs.Written.{written, written_demand, written_spot}
use Rattle.smv_problem.specs.WellFormed.{IsWellFormed, IsFit, OfCases}
use Rattle.smv_conditions.specs.declared.stores.Plain.{Plain}
use Rattle.smv_conditions.specs.Offers.{AreOffersMade}
use Rattle.smv_conditions.specs.declared.offers.Offer.{Offer}
use Rattle.smv_cells.specs.declared.cells.Cell.{Cell}
use Rattle.smv_cells.specs.Cells.{AreCellsMade}
use Rattle.smv_cells.specs.Seen.{IsSeen}
use Rattle.smv_walks.specs.Demands.{at_before, IsDemand, IsTargetOf, IsGuard, IsDemanded, AreOldMade, HaveValues}
use Rattle.smv_walks.specs.Demands as demands
use Rattle.smv_eval.specs.States.{plainly, view_of}
use Rattle.smv_eval.specs.Held.{steady, IsNowBy, IsBeforeBy, AreReadBy}

-- ---- plain conditions are made everywhere

offers_made : (offers : List (Offer Bool)) → AreOffersMade (λ (c : Bool). Unit {0}) offers
offers_made [] = tt
offers_made (o ∷ offers) = (tt, offers_made offers)

pub cells_made : (cells : List (Cell Bool)) → AreCellsMade (λ (c : Bool). Unit {0}) cells
cells_made [] = tt
cells_made (c ∷ cells) = (offers_made c.values, cells_made cells)

pub old_made : (old : Option (List (Cell Bool))) → AreOldMade (λ (c : Bool). Unit {0}) old
old_made None = tt
old_made (Some cells) = cells_made cells

-- ---- one demand

pub steady_at : (before : Option AbsState) (a : ℕ → Bool) → at_before (steady before) a ≡ before
steady_at None a = refl
steady_at (Some b) a = refl

-- what is said of a demand at each assignment is said of the states
pub plainly_said : (Of : oblig.AbstractProblem → Demanded → Type 0) (problem : Problem) (old : Option (List (Cell Bool))) (cells : List (Cell Bool)) (demand : Demand) (says : oblig.AbstractProblem → Option AbsState → AbsState → Demanded → Bool) (s t : Plain) (r : Bool) →
    IsDemanded Of plainly s t problem old cells demand says r → (p : oblig.AbstractProblem) (before : Option AbsState) (now : AbsState) → AreReadBy problem old cells p before now → (d : Demanded) → Of p d → demand ≡ written_demand p.world.classes d → r ≡ says p before now d
unfolding IsDemanded
plainly_said Of problem old cells demand says s t r is p before now read d of same = is p (steady before) (λ a. now) (read s) d of same (λ v. false) ∙ ap (λ b. says p b now d) (steady_at before (λ v. false))

-- ---- demands of a well-formed case

module _ (c : PosedCase) (well : IsWellFormed c) where
  kept_is : (x : AbsElement) → Has c.elements x → c.problem.kept x.family x.indexes ≡ true
  kept_is x h = ap (λ (k : Kept). k x.family x.indexes) well.is_case.are_kept ∙ any-found (same_element (element x.family x.indexes)) h (same_element-itself x)

  pub types_of : (family : ℕ) (t : Simple) → Has (over_of (slice_get c.problem.world.classes.families family)) t → IsIndexType t
  types_of family t h = at (slice_get c.problem.world.classes.families family) refl h
    where
      at : (o : Option Family) → slice_get c.problem.world.classes.families family ≡ o → Has (over_of o) t → IsIndexType t
      at None e h = elim h [ ]
      at (Some f) e h = well.index_types f (get_Has c.problem.world.classes.families family f e) t h

  fit_demand : (d : Demanded) → IsFit c d → ((def : Def) (indexes : List Place) → d ≡ defined def indexes → Has c.elements (element def.family indexes)) → IsDemand c.problem d
  fit_demand (defined def indexes) fit there = (kept_is (element def.family indexes) (there def indexes refl), types_of def.family, fit.3)
  fit_demand (holds body b) fit there = (well.set_types, fit.0, fit.2.are_of)

  pub now_demands : (d : Demanded) → Has c.problem.now d → IsDemand c.problem d
  now_demands d h = fit_demand d (well.now d h) (λ def indexes e. well.is_case.now_is_kept def indexes (subst (Has c.problem.now) e h))

  pub before_demands : (d : Demanded) → Has c.problem.before d → IsDemand c.problem d
  before_demands d h = fit_demand d (well.before d h) (λ def indexes e. well.is_case.before_is_kept def indexes (subst (Has c.problem.before) e h))

  fit_target : (d : Demanded) → c.problem.target ≡ d → IsFit c d → IsTargetOf c.problem d
  fit_target (defined def indexes) e fit = ((λ n. kept_is (element def.family indexes) (well.target_is_kept def indexes e n)), types_of def.family, fit.3)
  fit_target (holds body b) e fit = (well.set_types, fit.0, fit.2.are_of)

  pub the_target : IsTargetOf c.problem c.problem.target
  the_target = fit_target c.problem.target refl well.target

  -- values of a state
  values_in : (a : AbsState) → IsAbsState c.problem.world c.problem.kept a → HaveValues c.problem (λ v. a)
  values_in a state v family ps k =
      let r = any-some (same_element (element family ps)) c.elements (sym (ap (λ (k : Kept). k family ps) well.is_case.are_kept) ∙ k) in
      let f = well.is_case.have_values r.0 r.1 in
      let is : slice_get c.problem.world.classes.families family ≡ Some f.0 = ap (slice_get c.problem.world.classes.families) (same_element-family (element family ps) r.0 r.2) ∙ f.1 in
      subst (λ (o : Option Family). is_among (places_of_family c.problem.world c.problem.kept o) (a family ps) ≡ true) (sym is) (is_among-Has (state.is_somewhere family f.0 is ps k))

  -- states that are read by cells at plain conditions
  pub are_read : (problem : Problem) (old : Option (List (Cell Bool))) (cells : List (Cell Bool)) (before : Option AbsState) (now : AbsState) → IsBeforeBy problem old c.problem before → IsAbsState c.problem.world c.problem.kept now →
      ((s : Plain) → IsSeen plainly s problem cells (view_of c now)) → AreReadBy problem old cells c.problem before now
  unfolding demands.view_of
  are_read problem old cells before now is_before state seen s = record { now = seen s; values = values_in now state; before = is_before s }

  pub is_before_by : (problem : Problem) (cells : List (Cell Bool)) (before : AbsState) → IsAbsState c.problem.world c.problem.kept before → ((s : Plain) → IsSeen plainly s problem cells (view_of c before)) → IsBeforeBy problem (Some cells) c.problem (Some before)
  unfolding demands.view_of
  is_before_by problem cells before state seen s = (seen s, values_in before state)

  module _ (problem : Problem) (is : problem ≡ written c) where
    pub now_written : problem.now ≡ map (written_demand c.problem.world.classes) c.problem.now
    unfolding written
    now_written = ap (λ (q : Problem). q.now) is

    pub before_written : problem.before ≡ map (written_demand c.problem.world.classes) c.problem.before
    unfolding written
    before_written = ap (λ (q : Problem). q.before) is

    target_written : problem.target ≡ written_demand c.problem.world.classes c.problem.target
    unfolding written
    target_written = ap (λ (q : Problem). q.target) is

    guards_are : problem.guards ≡ c.problem.guards
    unfolding written
    guards_are = ap (λ (q : Problem). q.guards) is

    bindings_are : problem.bindings ≡ map (written_spot c.problem.world.classes) c.problem.params
    unfolding written
    bindings_are = ap (λ (q : Problem). q.bindings) is

    guard_is : (g : Guard) → Has problem.guards g → IsGuard c.problem problem.bindings g
    guard_is g h =
        let fit = well.guards g (subst (λ gs. Has gs g) guards_are h) in
        record { apart = well.set_types; over = well.params; are_of = fit.is_of.are_of; bound = sym bindings_are; has_param = fit.has_param }

-- ---- demands one after the other

abbrev IsMetBy : Problem → Option (List (Cell Bool)) → List (Cell Bool) → Demand → Bool → Type 0
IsMetBy problem old cells demand met = (p : oblig.AbstractProblem) (before : Option AbsState) (now : AbsState) → AreReadBy problem old cells p before now → (d : Demanded) → IsDemand p d → demand ≡ written_demand p.world.classes d → met ≡ is_met p before now d

abbrev AreMetBy : Problem → Option (List (Cell Bool)) → List (Cell Bool) → List Demand → Bool → Type 0
AreMetBy problem old cells all met = (p : oblig.AbstractProblem) (before : Option AbsState) (now : AbsState) → AreReadBy problem old cells p before now → (ds : List Demanded) → ((d : Demanded) → Has ds d → IsDemand p d) → all ≡ map (written_demand p.world.classes) ds → met ≡ list_all (is_met p before now) ds

no_head : {X : Type 0} {x : X} {xs : List X} → x ∷ xs ≡ [] → ⊥
no_head e = cc

module _ (problem : Problem) (old : Option (List (Cell Bool))) (cells : List (Cell Bool)) (all others : List Demand) (demand : Demand) (split : all ≡ demand ∷ others) (met : Bool) (is : IsMetBy problem old cells demand met) where
  pub first_unmet : met ≡ false → AreMetBy problem old cells all false
  first_unmet f p before now read [] each e = absurd (no_head (sym split ∙ e))
  first_unmet f p before now read (d ∷ ds) each e = ap (λ b. b && list_all (is_met p before now) ds) (sym f ∙ is p before now read d (each d first) (head_is (sym split ∙ e)))

  pub first_met : met ≡ true → (more : Bool) → AreMetBy problem old cells others more → AreMetBy problem old cells all more
  first_met t more behind p before now read [] each e = absurd (no_head (sym split ∙ e))
  first_met t more behind p before now read (d ∷ ds) each e =
      behind p before now read ds (λ x h. each x (later h)) (tail_is (sym split ∙ e)) ∙ ap (λ b. b && list_all (is_met p before now) ds) (sym t ∙ is p before now read d (each d first) (head_is (sym split ∙ e)))

-- ---- guards one after the other

abbrev IsGuardHeld : Problem → List (Cell Bool) → Guard → Bool → Type 0
IsGuardHeld problem cells guard hold = (p : oblig.AbstractProblem) (now : AbsState) → IsNowBy problem cells p now → IsGuard p problem.bindings guard → hold ≡ may_hold p now guard

abbrev IsHeld : Problem → List (Cell Bool) → List Guard → Bool → Type 0
IsHeld problem cells guards hold = (p : oblig.AbstractProblem) (now : AbsState) → IsNowBy problem cells p now → ((g : Guard) → Has guards g → IsGuard p problem.bindings g) → hold ≡ list_all (may_hold p now) guards

pub guard_held : (problem : Problem) (cells : List (Cell Bool)) (guard : Guard) (s t : Plain) (hold : Bool) →
    ((p : oblig.AbstractProblem) (now : (ℕ → Bool) → AbsState) → IsSeen plainly s problem cells (demands.view_of p now) → IsGuard p problem.bindings guard → (a : ℕ → Bool) → plainly t hold a ≡ may_hold p (now a) guard) → IsGuardHeld problem cells guard hold
guard_held problem cells guard s t hold is p now read g = is p (λ a. now) (read s) g (λ v. false)

module _ (problem : Problem) (cells : List (Cell Bool)) (guards others : List Guard) (guard : Guard) (split : guards ≡ guard ∷ others) (hold : Bool) (is : IsGuardHeld problem cells guard hold) where
  all_is : (p : oblig.AbstractProblem) (now : AbsState) → IsNowBy problem cells p now → ((g : Guard) → Has guards g → IsGuard p problem.bindings g) → hold ≡ may_hold p now guard
  all_is p now read each = is p now read (each guard (subst (λ gs. Has gs guard) (sym split) first))

  pub first_not_held : hold ≡ false → IsHeld problem cells guards false
  first_not_held f p now read each = ap (λ b. b && list_all (may_hold p now) others) (sym f ∙ all_is p now read each) ∙ ap (list_all (may_hold p now)) (sym split)

  pub first_held : hold ≡ true → (more : Bool) → IsHeld problem cells others more → IsHeld problem cells guards more
  first_held t more behind p now read each =
      behind p now read (λ g h. each g (subst (λ gs. Has gs g) (sym split) (later h))) ∙ (ap (λ b. b && list_all (may_hold p now) others) (sym t ∙ all_is p now read each) ∙ ap (list_all (may_hold p now)) (sym split))

-- ---- the obligation of a case

held_is : (problem : Problem) (old : Option (List (Cell Bool))) (cells : List (Cell Bool)) (guards : List Guard) → guards ≡ problem.guards → (hold : Bool) → IsHeld problem cells guards hold → (c : PosedCase) → problem ≡ written c → IsWellFormed c → (before : Option AbsState) (now : AbsState) → AreReadBy problem old cells c.problem before now →
    hold ≡ list_all (may_hold c.problem now) c.problem.guards
held_is problem old cells guards same hold each c is well before now read =
    each c.problem now (λ s. (read s).now) (λ g h. guard_is c well problem is g (subst (λ gs. Has gs g) same h)) ∙ ap (list_all (may_hold c.problem now)) (same ∙ guards_are c well problem is)

-- a guard may not hold
pub not_held : (problem : Problem) (old : Option (List (Cell Bool))) (cells : List (Cell Bool)) (guards : List Guard) → guards ≡ problem.guards → (hold : Bool) → IsHeld problem cells guards hold → hold ≡ false →
    OfCases problem (λ c. (before : Option AbsState) (now : AbsState) → AreReadBy problem old cells c.problem before now → false ≡ (obligation c.problem).broken before now)
not_held problem old cells guards same hold each f c is well before now read = ap (λ b. b && is_broken c.problem before now c.problem.target) (sym f ∙ held_is problem old cells guards same hold each c is well before now read)

-- all may
pub held_broken : (problem : Problem) (old : Option (List (Cell Bool))) (cells : List (Cell Bool)) (guards : List Guard) → guards ≡ problem.guards → (hold broken : Bool) → IsHeld problem cells guards hold → hold ≡ true →
    ((p : oblig.AbstractProblem) (before : Option AbsState) (now : AbsState) → AreReadBy problem old cells p before now → (d : Demanded) → IsTargetOf p d → problem.target ≡ written_demand p.world.classes d → broken ≡ is_broken p before now d) →
    OfCases problem (λ c. (before : Option AbsState) (now : AbsState) → AreReadBy problem old cells c.problem before now → broken ≡ (obligation c.problem).broken before now)
held_broken problem old cells guards same hold broken each t target c is well before now read =
    target c.problem before now read c.problem.target (the_target c well) (target_written c well problem is)
    ∙ ap (λ b. b && is_broken c.problem before now c.problem.target) (sym t ∙ held_is problem old cells guards same hold each c is well before now read)
