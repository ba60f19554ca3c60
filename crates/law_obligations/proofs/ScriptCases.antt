-- The cases of a checked script are cases.
use Rattle.std.proofs.Common.{◌≡◌, ℕ, zero, suc, ◌+◌, ◌-◌, ◌<◌, ◌≤◌, List, [], ◌∷◌, ◌++◌, map, length, Bool, true, false, if◌then◌else◌, ◌&&◌, refl, sym, ap, subst, ◌∙◌, ◌⊎◌, inl, inr, Option, Some, None, option_to_list, nat_lt, arith}
use Rattle.std.specs.Prelude.{IfSome}
use Rattle.std.specs.List.{flat_map, slice_get, zip}
use Rattle.std.proofs.lemmas.Bool.Decides.{nat_tests}
use Rattle.law_lists.proofs.Options.{some_is}
use Rattle.smv_core.specs.Values.{Name, number, constant, scalar, ordinal, choice, scalarset, ordset, numbers_from}
use Rattle.smv_core.specs.FlatMeaning.{set_type}
use Rattle.smv_core.specs.declared.flat.Simple.{Simple as FlatSimple}
use Rattle.smv_core.specs.declared.flat.Simple.TheVariants.{Range, Enum, Set}
use Rattle.smv_core.specs.declared.flat.SetInfo.{SetInfo}
use Rattle.smv_core.specs.declared.flat.Family.{Family}
use Rattle.smv_core.specs.declared.flat.Def.{Def}
use Rattle.smv_core.specs.declared.flat.Claim.{Claim}
use Rattle.smv_core.specs.declared.flat.Assumed.{Assumed}
use Rattle.smv_core.specs.declared.flat.Keep.{Keep}
use Rattle.smv_core.specs.declared.flat.Class.{Class}
use Rattle.smv_core.specs.declared.flat.Timing.{Timing}
use Rattle.smv_core.specs.declared.flat.Timing.TheVariants.{Now, Before}
use Rattle.smv_core.specs.declared.flat.Timed.{Timed}
use Rattle.smv_core.specs.declared.abstract_type.Rest.TheVariants as beside
use Rattle.smv_core.specs.declared.abstract_type.AbsType.{AbsType}
use Rattle.law_obligations.specs.Sets.{Has, first, later, one_of_each}
use Rattle.law_obligations.specs.Places.{Place, named, rest, World, rests_beside, named_of, rests_of, places_of, named_in, places_in}
use Rattle.law_obligations.specs.Cases.{Treatment, whole, reduced, ordered, numbered, abstract_type, used, named_among, listed_classes, type_in}
use Rattle.law_obligations.specs.Covers.{types_at}
use Rattle.law_obligations.specs.LeafCases.{kept_of, treatment_of, treatments_of}
use Rattle.law_obligations.specs.Obligations.{Demanded, defined, holds}
use Rattle.law_obligations.specs.Soundness.{over_of}
use Rattle.law_obligations.proofs.Members.{Has-left, Has-right, Has-cases, Has-map, Has-from_map}
use Rattle.law_obligations.proofs.Spots.{Has-numbers, numbers-Has}
use Rattle.law_obligations.proofs.OneOfEach.{Has-from_flat_map, get_Has}
use Rattle.law_obligations.proofs.CoverNames.{by_name-at, numbered-at}
use Rattle.law_obligations.specs.Reached.{reached, is_among}
use Rattle.law_obligations.specs.Outlines.{Entry, Outline, Script, outline_of, unit_in, map_in, assumed, chosen}
use Rattle.law_obligations.specs.Cones.{AbsElement, element, same_element, elements_of, elements, first_elements, next_elements, cone}
use Rattle.law_obligations.specs.Problems.{is_at, family_time, leaf_params, leaf_treatments, world_of, params_at, own_params, element_demands, own_demands, itself_demands, instances, claim_demands, demands}
use Rattle.law_obligations.specs.Checked.{IsChecked, IsFilled}
use Rattle.law_obligations.proofs.Lookups.{Has-option, Has-tested, Has-from_filter}
use Rattle.law_obligations.proofs.OutlineFacts.{chosen-comes}
use Rattle.law_obligations.proofs.ConeFacts.{same_element-family}
use Rattle.law_obligations.specs.Readings.{IsCase}
use Rattle.law_obligations.specs.Scripts.{case_of, HaveValues}

-- ---- types have values

some_of : {X : Type 0} {xs : List X} {x : X} → Has xs x → 0 < length xs
some_of (first {xs = xs}) = omega arith
some_of (later {xs = xs} h) = omega arith

-- a class or a rest
IsFilledType : AbsType → Type 0
IsFilledType t = (0 < t.named) ⊎ Has (rests_beside t.rest t.named) 0

reduced_filled : (n m : ℕ) (b : Bool) → nat_lt m n ≡ b → 1 ≤ n → IsFilledType (record { named = m; rest = if b then beside.One else beside.None })
unfolding IsFilledType
reduced_filled n m true e one = inr first
reduced_filled n m false e one = inl (let le : n ≤ m = grind (arith, nat_tests) in omega arith)

type_filled : (t : Treatment) (m : ℕ) → ((n : ℕ) → t ≡ whole n → 1 ≤ n) → ((n : ℕ) → t ≡ reduced (Some n) → 1 ≤ n) → IsFilledType (abstract_type t m)
unfolding IsFilledType
type_filled (whole n) m w r = inl (let one = w n refl in omega arith)
type_filled (reduced None) m w r = inr first
type_filled (reduced (Some n)) m w r = reduced_filled n m (nat_lt m n) refl (r n refl)
type_filled ordered m w r = inr (Has-numbers 0 (m + 1) 0 (omega arith) (omega arith))

-- how a set type is treated
sized : (b : Bool) (size : Option ℕ) (keep : Option (List ℕ)) → IfSome size (λ n. 1 ≤ n) → (m : ℕ) → IsFilledType (abstract_type (treatment_of b size keep) m)
unfolding IsFilledType
sized true size keep one m = inr (Has-numbers 0 (m + 1) 0 (omega arith) (omega arith))
sized false (Some n) None one m = inl (omega (arith, one))
sized false (Some n) (Some vars) one m = reduced_filled n m (nat_lt m n) refl one
sized false None None one m = inr first
sized false None (Some vars) one m = inr first

pub treatment-at : (keeps : List Keep) (k i j : ℕ) (sets : List SetInfo) (info : SetInfo) → i ≡ k + j → slice_get sets j ≡ Some info → slice_get (treatments_of keeps k sets) j ≡ Some (treatment_of info.ordered info.size (kept_of keeps i))
treatment-at keeps k i j [] info e g = absurd (cc)
treatment-at keeps k i zero (x ∷ sets) info e g = let same : k ≡ i = omega arith in
    ap (λ (n : ℕ). Some (treatment_of x.ordered x.size (kept_of keeps n))) same ∙ ap (λ (y : SetInfo). Some (treatment_of y.ordered y.size (kept_of keeps i))) (some_is g)
treatment-at keeps k i (suc j) (x ∷ sets) info e g = treatment-at keeps (k + 1) i j sets info (omega arith) g

module _ (s : Script) (checked : IsChecked s) (have : HaveValues s.design) (entry : Entry) (classes : List Class) where
  o : Outline
  o = outline_of s

  abbrev w : World
  w = world_of (outline_of s) entry classes

  set_filled : (set : ℕ) (info : SetInfo) → slice_get s.design.sets set ≡ Some info →
      IsFilledType (types_at s.design.sets (leaf_treatments (outline_of s) entry) (leaf_params entry) classes info.name)
  set_filled set info e =
      let t : Treatment = treatment_of info.ordered info.size (kept_of entry.choice.keeps set) in
      subst IsFilledType
      (sym (by_name-at (record { named = 0; rest = beside.None }) s.design.sets (map (λ (set, t). type_in t set (leaf_params entry) classes) (numbered 0 (leaf_treatments (outline_of s) entry))) set info
      (type_in t set (leaf_params entry) classes) checked.are_apart e
      (numbered-at (λ (set, t). type_in t set (leaf_params entry) classes) 0 set set (leaf_treatments (outline_of s) entry) t (omega arith) (treatment-at entry.choice.keeps 0 set set s.design.sets info (omega arith) e))))
      (sized info.ordered info.size (kept_of entry.choice.keeps set) (have info (get_Has s.design.sets set info e)) (used (named_among (listed_classes t set (leaf_params entry) classes))))

  name_filled : (b : Bool) (name : Name) → IsFilledType (record { named = w.classes.sizes name; rest = w.rests name }) → 0 < length (places_of w (if b then ordset name else scalarset name))
  unfolding IsFilledType
  name_filled true name (inl lt) = some_of (Has-left (rests_of w (ordset name)) (Has-map named (Has-map (ordinal name) (Has-numbers 0 (w.classes.sizes name) 0 (omega arith) (omega arith)))))
  name_filled true name (inr h) = some_of (Has-right (named_of w (ordset name)) (Has-map (λ g. rest (ordinal name g)) h))
  name_filled false name (inl lt) = some_of (Has-left (rests_of w (scalarset name)) (Has-map named (Has-map (scalar name) (Has-numbers 0 (w.classes.sizes name) 0 (omega arith) (omega arith)))))
  name_filled false name (inr h) = some_of (Has-right (named_of w (scalarset name)) (Has-map (λ g. rest (scalar name g)) h))

  pub filled : (t : FlatSimple) → IsFilled s.design t → 0 < length (places_in w t)
  filled (Range low high) h = some_of (Has-left [] (Has-map named (Has-map number (Has-numbers low (high + 1 - low) low (omega arith) (omega (arith, h))))))
  filled (Enum list) h = some_of (Has-left [] (Has-map named (Has-map constant h.1)))
  filled (Set set) h = subst (λ (i : Option SetInfo). 0 < length (places_of w (set_type i))) (sym h.1) (name_filled h.0.ordered h.0.name (set_filled set h.0 h.1))

  -- ---- elements

  there : (family : ℕ) (fs : List Family) → family < length fs → (f : Family) × (slice_get fs family ≡ Some f)
  there family [] lt = absurd (omega arith)
  there zero (f ∷ fs) lt = (f, refl)
  there (suc family) (f ∷ fs) lt = there family fs (omega arith)

  abbrev the_cone : List AbsElement
  the_cone = cone w (outline_of s) entry (params_at (outline_of s) entry classes)

  element_values : (x : AbsElement) → Has the_cone x → (f : Family) × (slice_get w.classes.families x.family ≡ Some f) × (0 < length (places_in w f.value))
  element_values x h =
      let in_elements : Has (elements w) x = (Has-from_filter (is_among same_element (next_elements w (outline_of s) entry (params_at (outline_of s) entry classes))
      (reached same_element (next_elements w (outline_of s) entry (params_at (outline_of s) entry classes)) (length (elements w)) (first_elements w (outline_of s) entry (params_at (outline_of s) entry classes)))) (elements w) h).0 in
      let r = Has-from_flat_map (elements_of w) (numbers_from 0 (length w.classes.families)) in_elements in
      let q = Has-from_map (element r.0) (one_of_each (map (named_in w) (over_of (slice_get w.classes.families r.0)))) r.2 in
      let bound = numbers-Has 0 (length w.classes.families) r.0 r.1 in
      let lt = bound.1 in
      let f = there r.0 w.classes.families (omega arith) in
      let same : x.family ≡ r.0 = ap (λ (x : AbsElement). x.family) q.2 in
      (f.0, subst (λ (k : ℕ). slice_get w.classes.families k ≡ Some f.0) (sym same) f.1, filled f.0.value (checked.are_filled f.0 (get_Has s.design.families r.0 f.0 f.1)))

  -- ---- demands

  module _ (times : Timed) where
    abbrev own : List Place
    own = own_params (outline_of s) entry classes

    at_element : (time : Timing) (x : AbsElement) (def : Def) (indexes : List Place) → Has (element_demands (outline_of s) entry times w own time x) (defined def indexes) → x ≡ element def.family indexes
    at_element time x def indexes h =
        let t = Has-tested (is_at (family_time entry.choice.picks times.picks x.family) time) h in
        let r = Has-from_map (λ def. defined def x.indexes) (option_to_list (chosen (outline_of s) entry.choice.picks x.family)) t.1 in
        let comes = (chosen-comes (outline_of s) entry.choice.picks x.family r.0 (Has-option (chosen (outline_of s) entry.choice.picks x.family) r.1)).0 in
        let same_def : def ≡ r.0 = def_is r.2 in
        let same_indexes : indexes ≡ x.indexes = indexes_are r.2 in
        ap (λ (k : ℕ). element k x.indexes) (sym (ap (λ (d : Def). d.family) same_def ∙ comes)) ∙ ap (element def.family) (sym same_indexes)
      where
        def_is : {d e : Def} {is js : List Place} → defined d is ≡ defined e js → d ≡ e
        def_is e = cc

        indexes_are : {d e : Def} {is js : List Place} → defined d is ≡ defined e js → is ≡ js
        indexes_are e = cc

    at_own : (x : AbsElement) (od : Option Def) (def : Def) (indexes : List Place) → Has (own_demands (outline_of s) entry times w own x od) (defined def indexes) → x ≡ element def.family indexes
    at_own x None def indexes h = elim h [ ]
    at_own x (Some d) def indexes h =
        let t = Has-tested (same_element (element d.family own) x) h in
        let r = only t.1 in
        let family = same_element-family (element d.family own) x t.0 in
        ap (λ (k : ℕ). element k x.indexes) (sym (ap (λ (d : Def). d.family) (def_is r) ∙ family)) ∙ ap (element def.family) (sym (indexes_are r))
      where
        only : {y z : Demanded} → Has (y ∷ []) z → z ≡ y
        only first = refl
        only (later h) = elim h [ ]

        def_is : {d e : Def} {is js : List Place} → defined d is ≡ defined e js → d ≡ e
        def_is e = cc

        indexes_are : {d e : Def} {is js : List Place} → defined d is ≡ defined e js → is ≡ js
        indexes_are e = cc

    no_instance : (c : Option Claim) (def : Def) (indexes : List Place) → Has (instances (outline_of s) entry times w own c) (defined def indexes) → ⊥
    no_instance None def indexes h = elim h [ ]
    no_instance (Some claim) def indexes h =
        let r = Has-from_map (holds claim.body) (one_of_each (map (named_in w) (map (λ p. p.over) claim.params))) h in clash r.2
      where
        clash : {d : Def} {is : List Place} {b : List Place} → defined d is ≡ holds claim.body b → ⊥
        clash e = cc

    defined_kept : (time : Timing) (def : Def) (indexes : List Place) → Has (demands (outline_of s) entry times w own the_cone time) (defined def indexes) → Has the_cone (element def.family indexes)
    defined_kept time def indexes h = elim (Has-cases (flat_map (λ x. element_demands (outline_of s) entry times w own time x ++ itself_demands (outline_of s) entry times w own time x) the_cone) (claim_demands (outline_of s) entry times w own time) h) [
      | inl l ↦
          let r = Has-from_flat_map (λ (x : AbsElement). element_demands (outline_of s) entry times w own time x ++ itself_demands (outline_of s) entry times w own time x) the_cone l in
          subst (Has the_cone) (of_one r.0 r.2) r.1
      | inr k ↦
          let r = Has-from_flat_map (λ (u : Assumed × Timing). if is_at u.1 time then instances (outline_of s) entry times w own (assumed (outline_of s) u.0) else []) (zip entry.choice.claims times.claims) k in
          let t = Has-tested (is_at r.0.1 time) r.2 in
          absurd (no_instance (assumed (outline_of s) r.0.0) def indexes t.1)
    ]
      where
        of_one : (x : AbsElement) → Has (element_demands (outline_of s) entry times w own time x ++ itself_demands (outline_of s) entry times w own time x) (defined def indexes) → x ≡ element def.family indexes
        of_one x h = elim (Has-cases (element_demands (outline_of s) entry times w own time x) (itself_demands (outline_of s) entry times w own time x) h) [
          | inl l ↦ at_element time x def indexes l
          | inr k ↦ at_own x (map_in (unit_in (outline_of s).design entry.unit)) def indexes (Has-tested (is_at time Before && entry.choice.itself) k).1
        ]

    pub is_case : IsCase (case_of (outline_of s) entry times classes)
    is_case = record {
      are_kept = refl;
      have_values = element_values;
      now_is_kept = λ def indexes h. defined_kept Now def indexes h;
      before_is_kept = λ def indexes h. defined_kept Before def indexes h;
    }
