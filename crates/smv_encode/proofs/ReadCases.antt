-- The states of a case over an arrangement, for demands: each kept element has a value of its type, and demands of the case are of elements that are kept.
use Rattle.std.proofs.Common.{◌≡◌, ℕ, List, Bool, true, false, refl, sym, ap, ◌∙◌, Option, Some, None}
use Rattle.std.specs.List.{list_any, slice_get}
use Rattle.smv_core.specs.declared.flat.Simple.{Simple}
use Rattle.smv_core.specs.declared.flat.Family.{Family}
use Rattle.smv_core.specs.declared.flat.Guard.{Guard}
use Rattle.law_obligations.specs.Sets.{Has}
use Rattle.law_obligations.specs.Places.{Place, same_place, is_among, places_in}
use Rattle.law_obligations.specs.Demands.{places_of_family}
use Rattle.law_obligations.specs.Soundness.{over_of}
use Rattle.law_obligations.specs.Covers.{IsIndexType}
use Rattle.law_obligations.specs.Obligations.{Demanded, defined, holds}
use Rattle.law_obligations.proofs.Members.{any-found}
use Rattle.law_obligations.proofs.Same.{same_place-itself}
use Rattle.law_obligations.proofs.OneOfEach.{get_Has}
use Rattle.law_obligations.specs.Cones.{AbsElement, element, same_element, kept}
use Rattle.law_obligations.proofs.Lookups.{find-some}
use Rattle.law_obligations.proofs.ConeFacts.{same_element-itself, same_element-family}
use Rattle.law_obligations.specs.May.{AbsState}
use Rattle.law_obligations.specs.Readings.{PosedCase, Slot, slots}
use Rattle.law_obligations.proofs.ReadBack.{found, slot_element, reading_is_state}
use Rattle.smv_problem.specs.declared.problem.Problem.{Problem}
use Rattle.smv_problem.specs.Written.{written}
use Rattle.smv_problem.specs.WellFormed.{IsFit, IsWellFormed}
use Rattle.bdd_store.specs.declared.Ref.{Ref}
use Rattle.bdd_store.specs.Diagram.{Diagram, table}
use Rattle.smv_cells.specs.declared.cells.Cell.{Cell}
use Rattle.smv_cells.specs.Seen.{IsSeen}
use Rattle.bdd_codes.specs.Codes.{bits_at}
use Rattle.law_arrangements.specs.Arrangements.{Arrangement, spread, IsState}
use Rattle.law_arrangements.specs.Orders.{arranged}
use Rattle.smv_encode.specs.Coded.{AreStates, state_at, view_at}
use Rattle.smv_walks.specs.Demands.{view_of, HaveValues, AreRead, IsDemand, IsTargetOf, IsGuard}
use Rattle.smv_encode.specs.Encoded.{IsKept}

module _ (c : PosedCase) (well : IsWellFormed c) where
  -- ---- values

  some_family : (family : ℕ) (ps : List Place) → c.problem.kept family ps ≡ true → (f : Family) × (slice_get c.problem.world.classes.families family ≡ Some f)
  some_family family ps k =
      let is = well.is_case in
      let any : list_any (same_element (element family ps)) c.elements ≡ true = sym (ap (λ (keeps : ℕ → List Place → Bool). keeps family ps) is.are_kept) ∙ k in
      let slot = found c.problem.world (same_element (element family ps)) 0 c.elements any in
      let at = find-some (λ (s : Slot). same_element (element family ps) s.element) (slots c) slot.1 in
      let x : AbsElement = slot.0.element in
      let same : family ≡ x.family = same_element-family (element family ps) x at.1 in
      let r = is.have_values x (slot_element c.problem.world 0 c.elements slot.0 at.0) in
      (r.0, ap (λ (k : ℕ). slice_get c.problem.world.classes.families k) same ∙ r.1)

  among : (places : List Place) (p : Place) → Has places p → is_among places p ≡ true
  among places p h = any-found (same_place p) h (same_place-itself p)

  value_among : (a : AbsState) → IsState c a → (family : ℕ) (ps : List Place) → c.problem.kept family ps ≡ true → is_among (places_of_family c.problem.world c.problem.kept (slice_get c.problem.world.classes.families family)) (a family ps) ≡ true
  value_among a state family ps k =
      let f = some_family family ps k in
      ap (λ (o : Option Family). is_among (places_of_family c.problem.world c.problem.kept o) (a family ps)) f.1
      ∙ among (places_in c.problem.world f.0.value) (a family ps) (state.is_somewhere family f.0 f.1 ps k)

  have_values : (o : Arrangement) → AreStates c o → (next : Bool) → HaveValues c.problem (state_at c o next)
  have_values o states next a family ps k = value_among (state_at c o next a) (states (bits_at next a)) family ps k

  -- without elements that are worked out
  pub arranged_states : (order : List ℕ) → AreStates c (arranged order)
  arranged_states order s = reading_is_state c well.is_case (spread order s)

  -- ---- reading by cells

  module _ (o : Arrangement) (states : AreStates c o) (d : Diagram) (p : Problem) where
    pub read_first : (cells : List (Cell Ref)) → IsSeen table d p cells (view_at c o false) → AreRead table d p None cells c.problem None (state_at c o false)
    unfolding view_of
    read_first cells seen = record { now = seen; values = have_values o states false; before = tt }

    pub read_step : (old cells : List (Cell Ref)) → IsSeen table d p old (view_at c o false) → IsSeen table d p cells (view_at c o true) → AreRead table d p (Some old) cells c.problem (Some (state_at c o false)) (state_at c o true)
    unfolding view_of
    read_step old cells before now = record { now = now; values = have_values o states true; before = (before, have_values o states false) }

    pub seen_state : (next : Bool) (cells : List (Cell Ref)) → IsSeen table d p cells (view_at c o next) → IsSeen table d p cells (view_of c.problem (state_at c o next))
    unfolding view_of
    seen_state next cells seen = seen

  -- ---- demands

  index_types : (family : ℕ) (t : Simple) → Has (over_of (slice_get c.problem.world.classes.families family)) t → IsIndexType t
  index_types family t h = by (slice_get c.problem.world.classes.families family) refl h
    where
      by : (o : Option Family) → slice_get c.problem.world.classes.families family ≡ o → Has (over_of o) t → IsIndexType t
      by None e h = elim h [ ]
      by (Some f) e h = well.index_types f (get_Has c.problem.world.classes.families family f e) t h

  pub is_demand : (d : Demanded) → IsFit c d → IsKept c d → IsDemand c.problem d
  is_demand (defined def indexes) fit kept = (kept, index_types def.family, fit.3)
  is_demand (holds body b) fit kept = (well.set_types, fit.0, fit.2.are_of)

  pub target_demand : IsTargetOf c.problem c.problem.target
  target_demand = by c.problem.target refl well.target
    where
      by : (d : Demanded) → c.problem.target ≡ d → IsFit c d → IsTargetOf c.problem d
      by (defined def indexes) e fit = (
        λ named. ap (λ (keeps : ℕ → List Place → Bool). keeps def.family indexes) well.is_case.are_kept ∙ any-found (same_element (element def.family indexes)) (well.target_is_kept def indexes e named) (same_element-itself (element def.family indexes)),
        index_types def.family,
        fit.3,
      )
      by (holds body b) e fit = (well.set_types, fit.0, fit.2.are_of)

  pub is_guard : (p : Problem) → p ≡ written c → (g : Guard) → Has c.problem.guards g → IsGuard c.problem p.bindings g
  unfolding written
  is_guard p is g h =
      let fit = well.guards g h in
      record {
        apart = well.set_types;
        over = well.params;
        are_of = fit.is_of.are_of;
        bound = sym (ap (λ (q : Problem). q.bindings) is);
        has_param = fit.has_param;
      }
