-- One case of a leaf under one placing: what holds of a state is met in its picture, and what fails is broken there.
use Rattle.std.proofs.Common.{◌≡◌, ℕ, zero, suc, List, [], ◌∷◌, map, length, get_or, true, false, refl, sym, ap, subst, ◌∙◌, ◌⊎◌, inl, inr, Option, Some, None, option_map}
use Rattle.std.specs.List.{list_all}
use Rattle.std.proofs.lemmas.Bool.{cases_Bool}
use Rattle.law_lists.proofs.Booleans.{clash, left_of, right_of}
use Rattle.law_lists.proofs.Lists.{length_map}
use Rattle.smv_core.specs.Values.{Name, Value, number, Sizes, truth, is_in, values_of}
use Rattle.smv_core.specs.Outcome.{is_true}
use Rattle.smv_core.specs.FlatMeaning.{Numbered, FlatState, FlatElement, values_in, simple_in, flat_outcome, flat_allowed}
use Rattle.smv_core.specs.declared.flat.Def.{Def}
use Rattle.smv_core.specs.declared.flat.Family.{Family}
use Rattle.smv_core.specs.declared.flat.Guard.{Guard}
use Rattle.smv_core.specs.declared.flat.Simple.{Simple as FlatSimple}
use Rattle.smv_core.specs.declared.abstract_type.AbsType.{AbsType}
use Rattle.law_obligations.specs.Sets.{Has, one_of_each}
use Rattle.law_obligations.specs.Places.{Place, named, is_named, World, world, named_in}
use Rattle.law_obligations.specs.May.{AbsState}
use Rattle.law_obligations.specs.Guards.{guard_holds}
use Rattle.law_obligations.specs.Demands.{is_defined, is_broken_map, is_assumed, is_broken_claim, may_guard}
use Rattle.law_obligations.specs.Obligations.{Demanded, AbstractProblem, is_met, is_broken, may_hold}
use Rattle.law_obligations.specs.Pictures.{Placing, placed, ArePlaced, AreOfTypes, IsState, IsPicture, ArePictured, AreValues, KeepsNamed, IsAbsState}
use Rattle.law_obligations.specs.Bound.{AreAtClasses, IsSingle}
use Rattle.law_obligations.specs.FlatConflicts.{IsConflictFree}
use Rattle.law_obligations.specs.Soundness.{FlatUnit, map_of, claim_of, ProofPlan, at_sizes, over_of, values_of_family, params_of, values_over, is_held, IsUnit, said_at, IsKept, IsOf}
use Rattle.law_obligations.proofs.Members.{Has-from_map}
use Rattle.law_obligations.proofs.Same.{is_in-Has, Has-is_in}
use Rattle.law_obligations.proofs.Facts.{of_type}
use Rattle.law_obligations.proofs.OneOfEach.{AreOf, are_of, one_of, are_long}
use Rattle.law_obligations.proofs.PicturesExist.{state_pictured}
use Rattle.law_obligations.proofs.OneGives.{is_single}
use Rattle.law_obligations.proofs.DemandsKeep.{map_may, map_must}
use Rattle.law_obligations.proofs.GuardsKeep.{is_one, guard_kept, claim_may, claim_must}

-- a state of a design
pub record Known (n : Numbered) : Type 0 where
  pub state : FlatState
  pub is_state : IsState n state

abbrev pub state_of : {n : Numbered} → Known n → FlatState
state_of s = s.state

pub types_are : (n : Numbered) (over : List FlatSimple) (xs : List Value) → AreOf (map (values_in n) over) xs → AreOfTypes n over xs
types_are n [] [] h = tt
types_are n [] (x ∷ xs) h = elim h [ ]
types_are n (t ∷ over) [] h = tt
types_are n (t ∷ over) (x ∷ xs) h = (h.0, types_are n over xs h.1)

pub values_are : (n : Numbered) (over : List FlatSimple) (xs : List Value) → AreOf (map (values_in n) over) xs → AreValues n xs
values_are n [] [] h = tt
values_are n [] (x ∷ xs) h = elim h [ ]
values_are n (t ∷ over) [] h = tt
values_are n (t ∷ over) (x ∷ xs) h = (of_type n t x h.0, values_are n over xs h.1)

classes_are : (n : Numbered) (spots : Placing) (over : List FlatSimple) (xs : List Value) → AreOf (map (values_in n) over) xs → list_all is_named (map (placed spots) xs) ≡ true → AreAtClasses n spots xs
classes_are n spots over [] h e = tt
classes_are n spots [] (x ∷ xs) h e = elim h [ ]
classes_are n spots (t ∷ over) (x ∷ xs) h e =
    let l = left_of (is_named (placed spots x)) (list_all is_named (map (placed spots) xs)) e in
    let r = right_of (is_named (placed spots x)) (list_all is_named (map (placed spots) xs)) e in
    ((of_type n t x h.0, l), classes_are n spots over xs h.1 r)

class_is_named : (w : World) (t : FlatSimple) (q : Place) → Has (named_in w t) q → is_named q ≡ true
class_is_named w t q h = ap is_named (Has-from_map named (values_of w.classes.sizes (simple_in w.classes t)) h).2

pub number_placed : (spots : Placing) (xs : List Value) (k : ℕ) → get_or (map (placed spots) xs) k (named (number 0)) ≡ placed spots (get_or xs k (number 0))
number_placed spots [] k = refl
number_placed spots (x ∷ xs) zero = refl
number_placed spots (x ∷ xs) (suc k) = number_placed spots xs k

module _ (plan : ProofPlan) (sizes : Sizes) (p : AbstractProblem) (types : Name → AbsType) (is_world : p.world ≡ world plan.names types) (spots : Placing)
    (facts : ArePlaced (at_sizes plan.names sizes) (world plan.names types) spots) (keeps_named : KeepsNamed p.world p.kept) where
  abbrev n : Numbered
  n = at_sizes plan.names sizes

  some_picture : (s : Known n) → (a : AbsState) × IsPicture n spots p.kept s.state a × IsAbsState (world n types) p.kept a
  some_picture s = state_pictured n types spots facts p.kept (subst (λ w. KeepsNamed w p.kept) is_world keeps_named) s.state s.is_state

  pub picture : Known n → AbsState
  picture s = (some_picture s).0

  pictures : (s : Known n) → IsPicture n spots p.kept s.state (picture s)
  unfolding picture
  pictures s = (some_picture s).1

  -- a picture is an abstract state of the case
  pub picture_is : (s : Known n) → IsAbsState p.world p.kept (picture s)
  unfolding picture
  picture_is s = subst (λ w. IsAbsState w p.kept (some_picture s).0) (sym is_world) (some_picture s).2

  pictures_before : (old : Option (Known n)) → ArePictured n spots p.kept (option_map state_of old) (option_map picture old)
  pictures_before None = tt
  pictures_before (Some s) = (s.is_state, pictures s)

  -- values that lie at numbers, constants and classes
  record Back (over : List FlatSimple) (ps : List Place) : Type 0 where
    values : List Value
    are : AreOf (map (values_in n) over) values
    lie : map (placed spots) values ≡ ps
    classes : AreAtClasses n spots values

  back : (over : List FlatSimple) (ps : List Place) → AreOf (map (named_in (world n types)) over) ps → Back over ps
  back [] [] h = record { values = []; are = tt; lie = refl; classes = tt }
  back [] (q ∷ ps) h = elim h [ ]
  back (t ∷ over) [] h = elim h [ ]
  back (t ∷ over) (q ∷ ps) h =
      let v = (facts t).class_has_value q h.0 in
      let r = back over ps h.1 in
      record {
        values = v.0 ∷ r.values;
        are = (v.1, r.are);
        lie = ap (λ x. x ∷ map (placed spots) r.values) v.2 ∙ ap (λ xs. q ∷ xs) r.lie;
        classes = ((of_type n t v.0 v.1, ap is_named v.2 ∙ class_is_named (world n types) t q h.0), r.classes);
      }

  in_world : (over : List FlatSimple) (ps : List Place) → Has (one_of_each (map (named_in p.world) over)) ps → AreOf (map (named_in (world n types)) over) ps
  in_world over ps h = are_of (map (named_in (world n types)) over) ps (subst (λ w. Has (one_of_each (map (named_in w) over)) ps) is_world h)

  single : (def : Def) (f : Family) (xs : List Value) → AreOf (map (values_in n) f.over) xs → IsConflictFree (length f.over) def → IsSingle n def xs (values_in n f.value)
  single def f xs are free = is_single n def xs (values_in n f.value) (subst (λ k. IsConflictFree k def) (sym (are_long (map (values_in n) f.over) xs are ∙ length_map (values_in n) f.over)) free)

  -- what holds of all instances is met
  pub demand_met : (unit : FlatUnit) → IsUnit plan unit → (d : Demanded) → IsOf plan p unit d → (old : Option (Known n)) (s : Known n) →
      ((xs : List Value) → Has (values_over n (params_of plan.names unit)) xs → is_held n unit xs (option_map state_of old) s.state ≡ true) → is_met p (option_map picture old) (picture s) d ≡ true
  demand_met (map_of def) unit d of old s held =
      let f = unit.family in
      let r = back f.over of.places (in_world f.over of.places (subst (λ o. Has (one_of_each (map (named_in p.world) (over_of o))) of.places) unit.is_family of.are_named)) in
      let among = one_of (map (values_in n) f.over) r.values r.are in
      let x : FlatElement = record { family = def.family; indexes = r.values } in
      let allowed : is_in (flat_allowed n def x (values_in n f.value) (option_map state_of old) s.state) (s.state def.family r.values) ≡ true =
      subst (λ o. is_in (flat_allowed n def x (values_of_family n o) (option_map state_of old) s.state) (s.state def.family r.values) ≡ true) unit.is_family
      (held r.values (subst (λ o. Has (values_over n (over_of o)) r.values) (sym unit.is_family) among)) in
      let met = map_may n types spots facts p.kept def f unit.is_family r.values (types_are n f.over r.values r.are) r.classes (subst (λ qs. p.kept def.family qs ≡ true) (sym r.lie) of.is_kept)
      (single def f r.values r.are unit.is_conflict_free) s.state s.is_state (picture s) (pictures s) (option_map state_of old) (option_map picture old) (pictures_before old)
      (Has-is_in (flat_allowed n def x (values_in n f.value) (option_map state_of old) s.state) (s.state def.family r.values) allowed) in
      subst (λ d. is_met p (option_map picture old) (picture s) d ≡ true) (sym of.is_said)
      (subst (λ w. is_defined w p.kept def of.places (option_map picture old) (picture s) ≡ true) (sym is_world)
      (subst (λ qs. is_defined (world n types) p.kept def qs (option_map picture old) (picture s) ≡ true) r.lie met))
  demand_met (claim_of claim) unit d of old s held =
      let over = params_of plan.names (claim_of claim) in
      let r = back over of.places (in_world over of.places of.are_named) in
      let met = claim_may n types spots facts s.state s.is_state p.kept (picture s) (pictures s) claim.body r.values (values_are n over r.values r.are)
      (is_one (flat_outcome n s.state claim.body r.values) (held r.values (one_of (map (values_in n) over) r.values r.are))) in
      subst (λ d. is_met p (option_map picture old) (picture s) d ≡ true) (sym of.is_said)
      (subst (λ w. is_assumed w p.kept claim.body of.places (picture s) ≡ true) (sym is_world)
      (subst (λ qs. is_assumed (world n types) p.kept claim.body qs (picture s) ≡ true) r.lie met))

  -- an instance that fails is broken
  pub target_broken : (unit : FlatUnit) → IsUnit plan unit → (xs : List Value) → Has (values_over n (params_of plan.names unit)) xs →
      (list_all is_named (map (placed spots) xs) ≡ true → IsKept p unit (map (placed spots) xs)) → (old : Option (Known n)) (s : Known n) →
      is_held n unit xs (option_map state_of old) s.state ≡ false → is_broken p (option_map picture old) (picture s) (said_at unit (map (placed spots) xs)) ≡ true
  target_broken (map_of def) unit xs h kept old s fails = subst (λ w. is_broken_map w p.kept def (map (placed spots) xs) (option_map picture old) (picture s) ≡ true) (sym is_world) (at (cases_Bool (list_all is_named (map (placed spots) xs))))
    where
      at : (list_all is_named (map (placed spots) xs) ≡ true) ⊎ (list_all is_named (map (placed spots) xs) ≡ false) → is_broken_map (world n types) p.kept def (map (placed spots) xs) (option_map picture old) (picture s) ≡ true
      at (inr e) = rw e refl
      at (inl e) = elim (cases_Bool (is_broken_map (world n types) p.kept def (map (placed spots) xs) (option_map picture old) (picture s))) [
        | inl b ↦ b
        | inr b ↦
            let f = unit.family in
            let x : FlatElement = record { family = def.family; indexes = xs } in
            let among = subst (λ o. Has (values_over n (over_of o)) xs) unit.is_family h in
            let are = are_of (map (values_in n) f.over) xs among in
            let allowed = map_must n types spots facts p.kept def f unit.is_family xs (types_are n f.over xs are) (classes_are n spots f.over xs are e) (kept e)
            (single def f xs are unit.is_conflict_free) s.state s.is_state (picture s) (pictures s) (option_map state_of old) (option_map picture old) (pictures_before old) b in
            absurd (clash (subst (λ o. is_in (flat_allowed n def x (values_of_family n o) (option_map state_of old) s.state) (s.state def.family xs) ≡ true) (sym unit.is_family) (is_in-Has allowed)) fails)
      ]
  target_broken (claim_of claim) unit xs h kept old s fails = subst (λ w. is_broken_claim w p.kept claim.body (map (placed spots) xs) (picture s) ≡ true) (sym is_world)
      (elim (cases_Bool (is_broken_claim (world n types) p.kept claim.body (map (placed spots) xs) (picture s))) [
        | inl b ↦ b
        | inr b ↦
            let over = params_of plan.names (claim_of claim) in
            let one = claim_must n types spots facts s.state s.is_state p.kept (picture s) (pictures s) claim.body xs (values_are n over xs (are_of (map (values_in n) over) xs h)) b in
            absurd (clash (ap (λ u. is_true (truth u)) one) fails)
      ])

  -- a guard that holds may hold
  pub guard_may : (g : Guard) (ys : List Value) → AreValues n ys → map (placed spots) ys ≡ p.params → Has (values_in n g.over) (get_or ys g.var (number 0)) → (s : Known n) →
      guard_holds n s.state g.over g.expr ys (get_or ys g.var (number 0)) ≡ true → may_hold p (picture s) g ≡ true
  guard_may g ys are stands of_its_type s met =
      let i = get_or ys g.var (number 0) in
      let may = guard_kept n types spots facts s.state s.is_state p.kept (picture s) (pictures s) g.over g.expr ys are i of_its_type met in
      subst (λ w. may_guard w p.kept g.over g.expr p.params (get_or p.params g.var (named (number 0))) (picture s) ≡ true) (sym is_world)
      (subst (λ ps. may_guard (world n types) p.kept g.over g.expr ps (get_or ps g.var (named (number 0))) (picture s) ≡ true) stands
      (subst (λ q. may_guard (world n types) p.kept g.over g.expr (map (placed spots) ys) q (picture s) ≡ true) (sym (number_placed spots ys g.var)) may))
