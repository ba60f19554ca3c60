-- The joined law: the circular rule over the states of a design and the instances of its units.
use Rattle.std.proofs.Common.{◌≡◌, ℕ, zero, suc, ◌≤◌, List, [], ◌∷◌, ◌++◌, map, take, length, get_or, Bool, true, false, ◌&&◌, if◌then◌else◌, refl, sym, ap, subst, ◌∙◌, Option, Some, None, option_map, nat_eq}
use Rattle.std.specs.List.{list_all, slice_get}
use Rattle.std.proofs.lemmas.List.{map-append, take_at}
use Rattle.law_lists.proofs.Lists.{length_map}
use Rattle.law_lists.proofs.Numbers.{nat_eq-is}
use Rattle.law_lists.proofs.Booleans.{and_both}
use Rattle.smv_core.specs.Values.{Name, Value, number, Sizes}
use Rattle.smv_core.specs.FlatMeaning.{Numbered, FlatState, simple_in, values_in}
use Rattle.smv_core.specs.declared.flat.Class.{Class}
use Rattle.smv_core.specs.declared.flat.Guard.{Guard}
use Rattle.smv_core.specs.declared.flat.Simple.TheVariants.{Range, Enum, Set}
use Rattle.smv_core.specs.declared.flat.Simple.{Simple as FlatSimple}
use Rattle.smv_core.specs.declared.abstract_type.AbsType.{AbsType}
use Rattle.law_obligations.specs.Sets.{Has, first, later}
use Rattle.law_obligations.specs.Places.{is_named, world}
use Rattle.law_obligations.specs.May.{AbsState}
use Rattle.law_obligations.specs.Pictures.{Placing, placed, ArePlaced, IsState, AreValues, IsAbsState}
use Rattle.law_obligations.specs.Guards.{guard_holds}
use Rattle.law_obligations.specs.Cases.{Parameter}
use Rattle.law_obligations.specs.LeafCases.{treatments_of, parameters_of, leaf_cases}
use Rattle.law_obligations.specs.Covers.{place_at, places_at, types_at}
use Rattle.law_obligations.specs.Circular.{Demand, Obligation, always, is_violating_after, Circle, AreHeld, IsShown, ShowsFailures, HasNoViolation}
use Rattle.law_obligations.specs.Obligations.{Demanded, AbstractProblem, is_met, is_broken, may_hold, obligation}
use Rattle.law_obligations.specs.Soundness.{FlatUnit, map_of, claim_of, LeafProof, ProofPlan, at_sizes, AreSizes, over_of, params_of, values_over, is_held, meets_base, IsRun, HasValue, IsUnit, IsSoundPlan, HasNoViolatingPath, said_at, IsKept, IsGranted, by_base, by_use, own_places, IsCase, IsPlan}
use Rattle.law_obligations.proofs.Members.{Has-right, Has-from_map, all-each, all-holds}
use Rattle.law_obligations.proofs.Same.{nat_eq-itself}
use Rattle.law_obligations.proofs.OneOfEach.{AreOf, are_of, one_of, are_long, are_joined, get_Has, Has_get}
use Rattle.law_obligations.proofs.GuardsChosen.{choose}
use Rattle.law_obligations.proofs.CoverLeaf.{leaf_cases_cover}
use Rattle.law_obligations.proofs.CaseKeeps.{Known, state_of, values_are, picture, picture_is, demand_met, target_broken, guard_may}
use Rattle.law_obligations.proofs.TypedRuns.{patched, patched_state, map_same, claim_same}
use Rattle.law_obligations.proofs.Induction.{always_holds}

-- demands along a run
always_mapped : {X Y : Type 0} (f : X → Y) (D : Demand Y) (old : Option X) (xs : List X) → always (λ old x. D (option_map f old) (f x)) old xs ≡ always D (option_map f old) (map f xs)
always_mapped f D old [] = refl
always_mapped f D old (x ∷ xs) = ap (λ b. D (option_map f old) (f x) && b) (always_mapped f D (Some x) xs)

always_same : {X : Type 0} (D E : Demand X) → ((old : Option X) (x : X) → D old x ≡ E old x) → (old : Option X) (xs : List X) → always D old xs ≡ always E old xs
always_same D E h old [] = refl
always_same D E h old (x ∷ xs) = ap (λ b. b && always D (Some x) xs) (h old x) ∙ ap (λ b. E old x && b) (always_same D E h (Some x) xs)

all_same : {X : Type 0} (f g : X → Bool) (xs : List X) → ((x : X) → Has xs x → f x ≡ g x) → list_all f xs ≡ list_all g xs
all_same f g [] h = refl
all_same f g (x ∷ xs) h = ap (λ b. b && list_all f xs) (h x first) ∙ ap (λ b. g x && b) (all_same f g xs (λ y k. h y (later k)))

-- an obligation of states, as one of what has such a state
abbrev pulled : {X Y : Type 0} → (X → Y) → Obligation Y → Obligation X
pulled f o = record { now = λ old x. o.now (option_map f old) (f x); before = λ old x. o.before (option_map f old) (f x); broken = λ old x. o.broken (option_map f old) (f x) }

pulled_violates : {X Y : Type 0} (f : X → Y) (o : Obligation Y) (old : Option X) (path : List X) → is_violating_after (pulled f o) old path ≡ is_violating_after o (option_map f old) (map f path)
pulled_violates f o old [] = refl
pulled_violates f o old (x ∷ []) = refl
pulled_violates f o old (x ∷ y ∷ path) = ap (λ b. o.now (option_map f old) (f x) && (o.before (option_map f old) (f x) && b)) (pulled_violates f o (Some x) (y ∷ path))

twice : {X Y Z : Type 0} (f : X → Y) (g : Y → Z) (h : X → Z) → ((x : X) → h x ≡ g (f x)) → (o : Option X) → option_map h o ≡ option_map g (option_map f o)
twice f g h e None = refl
twice f g h e (Some x) = ap Some (e x)

known : (n : Numbered) (run : List FlatState) → ((s : FlatState) → Has run s → IsState n s) → List (Known n)
known n [] h = []
known n (s ∷ run) h = record { state = s; is_state = h s first } ∷ known n run (λ t k. h t (later k))

known_are : (n : Numbered) (run : List FlatState) (h : (s : FlatState) → Has run s → IsState n s) → map state_of (known n run h) ≡ run
unfolding known
known_are n [] h = refl
known_are n (s ∷ run) h = ap (λ ss. s ∷ ss) (known_are n run (λ t k. h t (later k)))

of_its_type : (n : Numbered) (types : List FlatSimple) (ys : List Value) (k : ℕ) (t : FlatSimple) → AreOf (map (values_in n) types) ys → slice_get types k ≡ Some t → Has (values_in n t) (get_or ys k (number 0))
of_its_type n [] ys k t h e = absurd (cc)
of_its_type n (u ∷ types) [] k t h e = elim h [ ]
of_its_type n (u ∷ types) (y ∷ ys) zero t h e = subst (λ u. Has (values_in n u) y) (inner e) h.0
  where
    inner : {u t : FlatSimple} → Some u ≡ Some t → u ≡ t
    inner e = cc
of_its_type n (u ∷ types) (y ∷ ys) (suc k) t h e = of_its_type n types ys k t h.1 e

-- the sizes say nothing of the types
type_same : (n : Numbered) (sizes : Sizes) (t : FlatSimple) → simple_in (at_sizes n sizes) t ≡ simple_in n t
type_same n sizes (Range low high) = refl
type_same n sizes (Enum list) = refl
type_same n sizes (Set set) = refl

places_same : (n : Numbered) (sizes : Sizes) (params : List Parameter) (classes : List Class) → places_at (at_sizes n sizes) params classes ≡ places_at n params classes
places_same n sizes [] classes = refl
places_same n sizes (p ∷ params) [] = refl
places_same n sizes (p ∷ params) (c ∷ classes) = ap (λ t. place_at t c ∷ places_at (at_sizes n sizes) params classes) (type_same n sizes p.over) ∙ ap (λ ps. place_at (simple_in n p.over) c ∷ ps) (places_same n sizes params classes)

module _ (plan : ProofPlan) (sizes : Sizes) where
  abbrev n : Numbered
  n = at_sizes plan.names sizes

  -- an instance of the unit at this place
  record Instance : Type 0 where
    place : ℕ
    leaf : LeafProof
    is_leaf : slice_get plan.leaves place ≡ Some leaf
    values : List Value
    are_values : Has (values_over n (params_of plan.names leaf.unit)) values

  -- a case of it
  record CaseOf : Type 0 where
    place : ℕ
    leaf : LeafProof
    is_leaf : slice_get plan.leaves place ≡ Some leaf
    classes : List Class
    is_case : Has (leaf_cases plan.names.sets leaf.params leaf.keeps) classes

  abbrev problem_of : CaseOf → AbstractProblem
  problem_of c = c.leaf.problem c.classes

  -- an abstract state of a case
  record Seen (c : CaseOf) : Type 0 where
    state : AbsState
    is_state : IsAbsState (problem_of c).world (problem_of c).kept state

  abbrev seen_state : {c : CaseOf} → Seen c → AbsState
  seen_state s = s.state

  abbrev held : Instance → Demand (Known n)
  held i old s = is_held n i.leaf.unit i.values (option_map state_of old) s.state

  abbrev circle : Circle (Known n) Instance CaseOf Seen
  circle = record {
    base = λ old s. meets_base n plan.base (option_map state_of old) s.state;
    holds = λ u i old s. if nat_eq u i.place then held i old s else true;
    uses_now = plan.uses_now;
    uses_before = plan.uses_before;
    is_case = λ u c. nat_eq u c.place;
    obligation = λ u c. pulled seen_state (obligation (problem_of c));
  }

  -- values at which an instance's guards hold, and the case that they have
  record HasCase (i : Instance) (s : FlatState) : Type 0 where
    added : List Value
    classes : List Class
    is_case : Has (leaf_cases plan.names.sets i.leaf.params i.leaf.keeps) classes
    spots : Placing
    are_placed : ArePlaced n (world plan.names (types_at plan.names.sets (treatments_of i.leaf.keeps 0 plan.names.sets) (parameters_of i.leaf.keeps i.leaf.params) classes)) spots
    are_values : AreValues n (i.values ++ added)
    stand : map (placed spots) (i.values ++ added) ≡ places_at plan.names (parameters_of i.leaf.keeps i.leaf.params) classes
    of_types : (g : Guard) → Has i.leaf.guards g → Has (values_in n g.over) (get_or (i.values ++ added) g.var (number 0))
    hold : (g : Guard) → Has i.leaf.guards g → guard_holds n s g.over g.expr (i.values ++ added) (get_or (i.values ++ added) g.var (number 0)) ≡ true

  module _ (is_plan : IsPlan plan) (are_sizes : AreSizes plan.names sizes) where
    is_one : (i : Instance) → Has plan.leaves i.leaf
    is_one i = get_Has plan.leaves i.place i.leaf i.is_leaf

    is_long : (i : Instance) → length i.values ≡ length (params_of plan.names i.leaf.unit)
    is_long i = are_long (map (values_in n) (params_of plan.names i.leaf.unit)) i.values (are_of (map (values_in n) (params_of plan.names i.leaf.unit)) i.values i.are_values)
        ∙ length_map (values_in n) (params_of plan.names i.leaf.unit)

    has_case : (i : Instance) (s : FlatState) → HasCase i s
    has_case i s =
        let own = params_of plan.names i.leaf.unit in
        let leaf = is_plan.leaves i.leaf (is_one i) in
        let types = map (λ p. p.over) i.leaf.params in
        let filled : (t : FlatSimple) → Has leaf.added t → HasValue n t = λ t h.
        let p = Has-from_map (λ p. p.over) i.leaf.params (subst (λ ts. Has ts t) (sym leaf.are_params) (Has-right own h)) in
        subst (HasValue n) (sym p.2) ((is_plan.have_values sizes are_sizes).params i.leaf (is_one i) p.0 p.1) in
        let r = choose n s i.leaf.guards types leaf.are_guards.is_of_type leaf.are_guards.reads_before leaf.are_guards.one_each leaf.added own (sym leaf.are_params) filled i.values (is_long i) in
        let ys = i.values ++ r.added in
        let are : AreOf (map (values_in n) types) ys = subst (λ ts. AreOf (map (values_in n) ts) ys) (sym leaf.are_params) (subst (λ xss. AreOf xss ys) (sym (map-append (values_in n) own leaf.added))
        (are_joined (map (values_in n) own) (map (values_in n) leaf.added) i.values r.added (are_of (map (values_in n) own) i.values i.are_values) r.are)) in
        let c = leaf_cases_cover n is_plan.are_apart (λ info h. (are_sizes info h).1) i.leaf.params leaf.are_index_types i.leaf.keeps ys (one_of (map (values_in n) types) ys are) in
        record {
          added = r.added;
          classes = c.classes;
          is_case = c.is_case;
          spots = c.spots;
          are_placed = c.are_placed;
          are_values = values_are n types ys are;
          stand = c.stands ∙ places_same plan.names sizes (parameters_of i.leaf.keeps i.leaf.params) c.classes;
          of_types = λ g h. of_its_type n types ys g.var g.over are (leaf.are_guards.is_of_type g h);
          hold = λ g h. r.hold g h (subst (λ k. k ≤ g.var) (sym (is_long i)) (leaf.are_guards.is_added g h));
        }

    -- what is granted is met in the pictures of a case
    module _ (p : AbstractProblem) (u : ℕ) (leaf : LeafProof) (classes : List Class) (is_case : IsCase plan u leaf classes p) (spots : Placing)
        (facts : ArePlaced n (world plan.names (types_at plan.names.sets (treatments_of leaf.keeps 0 plan.names.sets) (parameters_of leaf.keeps leaf.params) classes)) spots) where
      abbrev types : Name → AbsType
      types = types_at plan.names.sets (treatments_of leaf.keeps 0 plan.names.sets) (parameters_of leaf.keeps leaf.params) classes

      abbrev seen : Known n → AbsState
      seen = picture plan sizes p types is_case.is_world spots facts is_case.keeps_named

      granted : (uses : ℕ → Bool) (d : Demanded) → IsGranted plan uses p d → (old : Option (Known n)) (s : Known n) → circle.base old s ≡ true → AreHeld circle uses old s →
          is_met p (option_map seen old) (seen s) d ≡ true
      granted uses d (by_base def h of) old s base used =
          demand_met plan sizes p types is_case.is_world spots facts is_case.keeps_named (map_of def) (is_plan.base def h) d of old s
          (λ xs k. all-each (λ xs. is_held n (map_of def) xs (option_map state_of old) s.state)
          (all-each (λ def. list_all (λ xs. is_held n (map_of def) xs (option_map state_of old) s.state) (values_over n (params_of n (map_of def)))) base h) k)
      granted uses d (by_use v is_used leaf' is_leaf of) old s base used =
          demand_met plan sizes p types is_case.is_world spots facts is_case.keeps_named leaf'.unit (is_plan.leaves leaf' (get_Has plan.leaves v leaf' is_leaf)).is_unit d of old s
          (λ xs k. subst (λ b. (if b then is_held n leaf'.unit xs (option_map state_of old) s.state else true) ≡ true) (nat_eq-itself v)
          (used v (record { place = v; leaf = leaf'; is_leaf = is_leaf; values = xs; are_values = k }) is_used))

      all_granted : (uses : ℕ → Bool) (ds : List Demanded) → ((d : Demanded) → Has ds d → IsGranted plan uses p d) → (old : Option (Known n)) (s : Known n) → circle.base old s ≡ true → AreHeld circle uses old s →
          list_all (is_met p (option_map seen old) (seen s)) ds ≡ true
      all_granted uses ds h old s base used = all-holds (is_met p (option_map seen old) (seen s)) ds (λ d k. granted uses d (h d k) old s base used)

    -- the instance is broken in its case, and its guards may hold there
    module _ (i : Instance) (s : Known n) (c : HasCase i s.state) (is_case : IsCase plan i.place i.leaf c.classes (i.leaf.problem c.classes)) where
      abbrev p : AbstractProblem
      p = i.leaf.problem c.classes

      abbrev seen_in : Known n → AbsState
      seen_in = seen p i.place i.leaf c.classes is_case c.spots c.are_placed

      abbrev types_in : Name → AbsType
      types_in = types_at plan.names.sets (treatments_of i.leaf.keeps 0 plan.names.sets) (parameters_of i.leaf.keeps i.leaf.params) c.classes

      stands : map (placed c.spots) (i.values ++ c.added) ≡ p.params
      stands = c.stand ∙ sym is_case.are_params

      front : map (placed c.spots) i.values ≡ own_places plan i.leaf p
      front = sym (ap (take (length (params_of plan.names i.leaf.unit))) (sym stands ∙ map-append (placed c.spots) i.values c.added)
          ∙ take_at (map (placed c.spots) i.values) (map (placed c.spots) c.added) (length (params_of plan.names i.leaf.unit)) (length_map (placed c.spots) i.values ∙ is_long i))

      guards_may : list_all (may_hold p (seen_in s)) p.guards ≡ true
      guards_may = subst (λ gs. list_all (may_hold p (seen_in s)) gs ≡ true) (sym is_case.are_guards) (all-holds (may_hold p (seen_in s)) i.leaf.guards
          (λ g h. guard_may plan sizes p types_in is_case.is_world c.spots c.are_placed is_case.keeps_named g (i.values ++ c.added) c.are_values stands (c.of_types g h) s (c.hold g h)))

      broken : (old : Option (Known n)) → held i old s ≡ false → is_broken p (option_map seen_in old) (seen_in s) p.target ≡ true
      broken old fails = subst (λ d. is_broken p (option_map seen_in old) (seen_in s) d ≡ true) (sym is_case.is_target)
          (subst (λ ps. is_broken p (option_map seen_in old) (seen_in s) (said_at i.leaf.unit ps) ≡ true) front
          (target_broken plan sizes p types_in is_case.is_world c.spots c.are_placed is_case.keeps_named i.leaf.unit (is_plan.leaves i.leaf (is_one i)).is_unit i.values i.are_values
          (λ e. subst (IsKept p i.leaf.unit) (sym front) (is_case.keeps_target (subst (λ ps. list_all is_named ps ≡ true) front e))) old s fails))

      abbrev here : CaseOf
      here = record { place = i.place; leaf = i.leaf; is_leaf = i.is_leaf; classes = c.classes; is_case = c.is_case }

      abbrev whole : Known n → Seen here
      whole s = record { state = seen_in s; is_state = picture_is plan sizes p types_in is_case.is_world c.spots c.are_placed is_case.keeps_named s }

      shown_in : (old : Option (Known n)) → held i old s ≡ false → IsShown circle i.place old s
      shown_in old fails = record {
        case = here;
        is_case = nat_eq-itself i.place;
        picture = whole;
        keeps_now = λ old s base used. subst (λ o. list_all (is_met p o (seen_in s)) p.now ≡ true) (twice whole seen_state seen_in (λ s. refl) old)
            (all_granted p i.place i.leaf c.classes is_case c.spots c.are_placed (plan.uses_now i.place) p.now is_case.now old s base used);
        keeps_before = λ old s base used. subst (λ o. list_all (is_met p o (seen_in s)) p.before ≡ true) (twice whole seen_state seen_in (λ s. refl) old)
            (all_granted p i.place i.leaf c.classes is_case c.spots c.are_placed (plan.uses_before i.place) p.before is_case.before old s base used);
        breaks = and_both guards_may (subst (λ o. is_broken p o (seen_in s) p.target ≡ true) (twice whole seen_state seen_in (λ s. refl) old) (broken old fails));
      }

    -- an instance that fails is shown by the case of its values and of some added ones at which the guards hold
    shown : (i : Instance) (old : Option (Known n)) (s : Known n) → held i old s ≡ false → IsShown circle i.place old s
    shown i old s fails = let c = has_case i s.state in shown_in i s c (is_plan.are_cases i.place i.leaf i.is_leaf c.classes c.is_case) old fails

    shows : ShowsFailures circle
    shows u i old s base fails = at_place (nat_eq u i.place) refl fails
      where
        at_place : (b : Bool) → nat_eq u i.place ≡ b → (if b then held i old s else true) ≡ false → IsShown circle u old s
        at_place true e f = subst (λ u. IsShown circle u old s) (sym (nat_eq-is u i.place e)) (shown i old s f)
        at_place false e f = absurd (cc)

    none : HasNoViolatingPath plan → HasNoViolation circle
    none h u c e path = pulled_violates seen_state (obligation (problem_of c)) None path
        ∙ h c.leaf (get_Has plan.leaves c.place c.leaf c.is_leaf) c.classes c.is_case (map seen_state path)
        (λ a k. let r = Has-from_map seen_state path k in subst (IsAbsState (problem_of c).world (problem_of c).kept) (sym r.2) r.0.is_state)

    everything : HasNoViolatingPath plan → (run : List FlatState) → ((s : FlatState) → Has run s → IsState n s) → always (meets_base n plan.base) None run ≡ true → (i : Instance) →
        always (is_held n i.leaf.unit i.values) None run ≡ true
    everything h run are_states keeps_base i =
        let states = known n run are_states in
        let same = known_are n run are_states in
        let runs : always circle.base None states ≡ true =
        always_mapped state_of (meets_base n plan.base) None states ∙ (ap (always (meets_base n plan.base) None) same ∙ keeps_base) in
        let holds : always (circle.holds i.place i) None states ≡ true = always_holds circle is_plan.order is_plan.falls shows (none h) states runs i.place i in
        sym (ap (always (is_held n i.leaf.unit i.values) None) same)
        ∙ (sym (always_mapped state_of (is_held n i.leaf.unit i.values) None states)
        ∙ (always_same (held i) (circle.holds i.place i) (λ old s. ap (λ b. if b then held i old s else true) (sym (nat_eq-itself i.place))) None states
        ∙ holds))

    abbrev fixed : FlatState → FlatState
    fixed = patched n (is_plan.have_values sizes are_sizes).families

    unit_same : (unit : FlatUnit) → IsUnit plan unit → (xs : List Value) → Has (values_over n (params_of plan.names unit)) xs → (old : Option FlatState) (s : FlatState) →
        is_held n unit xs (option_map fixed old) (fixed s) ≡ is_held n unit xs old s
    unit_same (map_of def) unit xs h old s =
        map_same n (is_plan.have_values sizes are_sizes).families def unit.family unit.is_family unit.is_whole xs (subst (λ o. Has (values_over n (over_of o)) xs) unit.is_family h) old s
    unit_same (claim_of claim) unit xs h old s = claim_same n (is_plan.have_values sizes are_sizes).families claim xs old s unit

    base_same : (old : Option FlatState) (s : FlatState) → meets_base n plan.base (option_map fixed old) (fixed s) ≡ meets_base n plan.base old s
    base_same old s = all_same (λ def. list_all (λ xs. is_held n (map_of def) xs (option_map fixed old) (fixed s)) (values_over n (params_of n (map_of def))))
        (λ def. list_all (λ xs. is_held n (map_of def) xs old s) (values_over n (params_of n (map_of def)))) plan.base
        (λ def h. all_same (λ xs. is_held n (map_of def) xs (option_map fixed old) (fixed s)) (λ xs. is_held n (map_of def) xs old s) (values_over n (params_of n (map_of def)))
        (λ xs k. unit_same (map_of def) (is_plan.base def h) xs k old s))

    -- a run of typed states holds what the run of the patched states holds
    in_run : HasNoViolatingPath plan → (run : List FlatState) → IsRun n plan.base run → (i : Instance) → always (is_held n i.leaf.unit i.values) None run ≡ true
    in_run h run is_run i =
        let holds : always (is_held n i.leaf.unit i.values) None (map fixed run) ≡ true =
        everything h (map fixed run)
        (λ s k. let r = Has-from_map fixed run k in subst (IsState n) (sym r.2) (patched_state n (is_plan.have_values sizes are_sizes).families r.0 (is_run.are_typed r.0 r.1)))
        (sym (always_mapped fixed (meets_base n plan.base) None run)
        ∙ (always_same (λ old s. meets_base n plan.base (option_map fixed old) (fixed s)) (meets_base n plan.base) base_same None run ∙ is_run.keeps_base)) i in
        sym (always_same (λ old s. is_held n i.leaf.unit i.values (option_map fixed old) (fixed s)) (is_held n i.leaf.unit i.values)
        (λ old s. unit_same i.leaf.unit (is_plan.leaves i.leaf (is_one i)).is_unit i.values i.are_values old s) None run)
        ∙ (always_mapped fixed (is_held n i.leaf.unit i.values) None run ∙ holds)

-- where no case of any leaf has a violating path, every unit holds at every time of every run, for all sizes
pub sound : (plan : ProofPlan) → IsPlan plan → HasNoViolatingPath plan → IsSoundPlan plan
sound plan is_plan none sizes are_sizes run is_run leaf is_leaf values are_values =
    let at = Has_get is_leaf in
    in_run plan sizes is_plan are_sizes none run is_run (record { place = at.0; leaf = leaf; is_leaf = at.1; values = values; are_values = are_values })
