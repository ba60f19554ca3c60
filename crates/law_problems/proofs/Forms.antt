-- The problem of a case is well formed.
use Rattle.std.proofs.Common.{◌≡◌, ◌≢◌, ℕ, ◌+◌, ◌-◌, ◌<◌, ◌≤◌, List, [], ◌∷◌, ◌++◌, map, take, length, Bool, true, false, ◌&&◌, if◌then◌else◌, refl, sym, ap, subst, ◌∙◌, ◌⊎◌, inl, inr, Option, Some, None, option_to_list, nat_lt, arith}
use Rattle.std.specs.Prelude.{IfSome, IsTrue}
use Rattle.std.specs.List.{flat_map, slice_get, zip, list_all}
use Rattle.std.proofs.lemmas.Simd.{map-map}
use Rattle.std.proofs.lemmas.List.{map-append}
use Rattle.law_lists.proofs.Options.{some_is}
use Rattle.law_lists.proofs.Lists.{length_map}
use Rattle.smv_core.specs.Values.{numbers_from}
use Rattle.smv_core.specs.declared.flat.Simple.{Simple}
use Rattle.smv_core.specs.declared.flat.Simple.TheVariants.{Range, Enum, Set}
use Rattle.smv_core.specs.declared.flat.SetInfo.{SetInfo}
use Rattle.smv_core.specs.declared.flat.Family.{Family}
use Rattle.smv_core.specs.declared.flat.Def.{Def}
use Rattle.smv_core.specs.declared.flat.Claim.{Claim as FlatClaim}
use Rattle.smv_core.specs.declared.flat.Param.{Param}
use Rattle.smv_core.specs.declared.flat.Guard.{Guard}
use Rattle.smv_core.specs.declared.flat.Design.{Design}
use Rattle.smv_core.specs.declared.flat.Unit.{Unit}
use Rattle.smv_core.specs.declared.flat.Unit.TheVariants.{Map, Claim}
use Rattle.smv_core.specs.declared.flat.Leaf.{Leaf}
use Rattle.smv_core.specs.declared.flat.Choice.{Choice}
use Rattle.smv_core.specs.declared.flat.Assumed.{Assumed}
use Rattle.smv_core.specs.declared.flat.Timing.{Timing}
use Rattle.smv_core.specs.declared.flat.Timing.TheVariants.{Now, Before}
use Rattle.smv_core.specs.declared.flat.Timed.{Timed}
use Rattle.smv_core.specs.declared.flat.Class.{Class}
use Rattle.smv_core.specs.declared.flat.Class.TheVariants.{Number, Named, Rest}
use Rattle.smv_core.specs.declared.abstract_type.Rest.TheVariants as beside
use Rattle.smv_core.specs.declared.abstract_type.AbsType.{AbsType}
use Rattle.law_obligations.specs.Sets.{Has, first, later, one_of_each}
use Rattle.law_obligations.specs.Places.{Place, is_named, World, named_in, rests_in, places_in}
use Rattle.law_obligations.specs.Pictures.{AreNamedOf}
use Rattle.law_obligations.specs.Cases.{Treatment, whole, reduced, ordered, Parameter, is_set, those_of, used, named_among, listed_classes, abstract_type, type_in, candidates, numbered}
use Rattle.law_obligations.specs.Covers.{types_at, IsIndexType}
use Rattle.law_obligations.specs.LeafCases.{kept_of, treatment_of, stays}
use Rattle.law_obligations.specs.Obligations.{Demanded, defined, holds}
use Rattle.law_obligations.specs.Soundness.{FlatUnit, map_of, claim_of, over_of, params_of, said_at, IsDefinition}
use Rattle.law_obligations.proofs.Members.{Has-left, Has-cases, Has-from_map, Has-uncons, any-some}
use Rattle.law_obligations.proofs.Spots.{numbers-Has}
use Rattle.law_obligations.proofs.OneOfEach.{AreOf as AreMembers, are_of, one_of, Has-from_flat_map, get_Has, Has_get}
use Rattle.law_obligations.proofs.CoverNames.{by_name-at, numbered-at}
use Rattle.law_obligations.specs.Reached.{is_among, reached}
use Rattle.law_obligations.specs.Outlines.{Entry, Outline, Script, entries_of, outline_of, names_of, nothing_claimed, as_map, as_claim, unit_in, map_in, assumed, chosen}
use Rattle.law_obligations.specs.Units.{units_of, script_of}
use Rattle.law_obligations.specs.Cones.{AbsElement, element, same_element, elements, first_elements, next_elements, cone}
use Rattle.law_obligations.specs.Problems.{is_at, family_time, leaf_params, leaf_treatments, world_of, params_at, own_params, element_demands, own_demands, itself_demands, instances, claim_demands, demands, plan_of}
use Rattle.law_obligations.specs.Checked.{IsSplit, IsFilled}
use Rattle.law_obligations.proofs.Lookups.{Has-option, Has-tested, Has-from_filter}
use Rattle.law_obligations.proofs.OutlineFacts.{Comes, from_base, from_unit, bases-are, unit-def, map_in-is, chosen-comes, assumed-comes}
use Rattle.law_obligations.proofs.CasePlaces.{IsThere, case_places, treatment_there, take_of, named_there}
use Rattle.law_obligations.proofs.ConeFacts.{in_cone-is, same_element-family, same_element-indexes, own_kept}
use Rattle.law_designs.specs.FlatKinds as kinds
use Rattle.law_designs.specs.FlatKinds.{FlatKind, kind_of}
use Rattle.law_obligations.specs.Readings.{PosedCase, IsCase, state_bits}
use Rattle.law_obligations.specs.Scripts.{case_of}
use Rattle.law_obligations.proofs.ScriptCases.{is_case, filled, treatment-at}
use Rattle.law_obligations.proofs.CoverOrdsets.{used_most}
use Rattle.smv_problem.specs.WellFormed.{as_flat_text, keeps_orders, AreOf, IsFit, IsFitGuard, IsWellFormed}
use Rattle.law_problems.specs.Parts.{outlined, entry_of, case_with, IsPart, IsCaseOf}
use Rattle.law_problems.proofs.Unlike.{AreUnlike, unlike-filter, unlike-elements, apart_elements}

-- ---- lists

units-are : (us : List Unit) (leaves : List Leaf) (choices : List Choice) → length leaves ≡ length us → length choices ≡ length us → map (λ entry. entry.unit) (entries_of us leaves choices) ≡ us
units-are [] leaves choices l c = refl
units-are (u ∷ us) [] choices l c = absurd (omega arith)
units-are (u ∷ us) (leaf ∷ leaves) [] l c = absurd (omega arith)
units-are (u ∷ us) (leaf ∷ leaves) (choice ∷ choices) l c = ap (λ us. u ∷ us) (units-are us leaves choices (omega arith) (omega arith))

-- ---- places of types

named-are : (w : World) (types : List Simple) (ps : List Place) → AreMembers (map (named_in w) types) ps → AreNamedOf w types ps
named-are w [] [] h = tt
named-are w [] (p ∷ ps) h = elim h [ ]
named-are w (t ∷ types) [] h = tt
named-are w (t ∷ types) (p ∷ ps) h = (h.0, named-are w types ps h.1)

places-are : (w : World) (types : List Simple) (ps : List Place) → AreMembers (map (places_in w) types) ps → AreOf w types ps
places-are w [] [] h = tt
places-are w [] (p ∷ ps) h = elim h [ ]
places-are w (t ∷ types) [] h = elim h [ ]
places-are w (t ∷ types) (p ∷ ps) h = (h.0, places-are w types ps h.1)

also-places : (w : World) (types : List Simple) (ps : List Place) → AreMembers (map (named_in w) types) ps → AreOf w types ps
also-places w [] [] h = tt
also-places w [] (p ∷ ps) h = elim h [ ]
also-places w (t ∷ types) [] h = elim h [ ]
also-places w (t ∷ types) (p ∷ ps) h = (Has-left (rests_in w t) h.0, also-places w types ps h.1)

-- ---- the classes of set types

pub among-is : (cs : List Class) (k : ℕ) → Has (named_among cs) k → Has cs (Named k)
among-is [] k h = elim h [ ]
among-is (Number n ∷ cs) k h = later (among-is cs k h)
among-is (Rest g ∷ cs) k h = later (among-is cs k h)
among-is (Named c ∷ cs) _ first = first
among-is (Named c ∷ cs) k (later h) = later (among-is cs k h)

pub those-are : (test : Bool → Bool) (set : ℕ) (params : List Parameter) (classes : List Class) (c : Class) → Has (those_of test set params classes) c → Has classes c
those-are test set [] classes c h = elim h [ ]
those-are test set (p ∷ params) [] c h = elim h [ ]
those-are test set (p ∷ params) (d ∷ classes) c h = at (is_set set p.over && test p.listed) h (λ k. those-are test set params classes c k)
  where
    under : Has (d ∷ those_of test set params classes) c → (Has (those_of test set params classes) c → Has classes c) → Has (d ∷ classes) c
    under h goes = elim (Has-uncons h) [ inl e ↦ subst (Has (d ∷ classes)) (sym e) first | inr k ↦ later (goes k) ]

    at : (b : Bool) → Has (if b then d ∷ those_of test set params classes else those_of test set params classes) c → (Has (those_of test set params classes) c → Has classes c) → Has (d ∷ classes) c
    at true h goes = under h goes
    at false h goes = later (goes h)

pub listed-are : (t : Treatment) (set : ℕ) (params : List Parameter) (classes : List Class) (c : Class) → Has (listed_classes t set params classes) c → Has classes c
listed-are (whole n) set params classes c h = those-are (λ listed. true) set params classes c h
listed-are (reduced size) set params classes c h = those-are (λ listed. listed) set params classes c h
listed-are ordered set params classes c h = those-are (λ listed. listed) set params classes c h

-- a named class is below the number of parameters
pub class-below : (treatments : List Treatment) (count : ℕ) (t : Simple) (k : ℕ) → Has (candidates treatments count t) (Named k) → k < count
class-below treatments count (Range low high) k h = let r = Has-from_map Number (numbers_from low (high + 1 - low)) h in absurd (clash r.2)
  where
    clash : {n : ℕ} → Named k ≡ Number n → ⊥
    clash e = cc
class-below treatments count (Enum list) k h = elim h [ ]
class-below treatments count (Set set) k h = elim (Has-cases (map Named (numbers_from 0 count)) (map Rest (numbers_from 0 (count + 1))) h) [
  | inl l ↦ let r = Has-from_map Named (numbers_from 0 count) l in let b = numbers-Has 0 count r.0 r.1 in let e = number_of r.2 in omega (arith, b, e)
  | inr l ↦ let r = Has-from_map Rest (numbers_from 0 (count + 1)) l in absurd (clash r.2)
]
  where
    number_of : {n : ℕ} → Named k ≡ Named n → k ≡ n
    number_of e = cc

    clash : {n : ℕ} → Named k ≡ Rest n → ⊥
    clash e = cc

all-below : (treatments : List Treatment) (count : ℕ) (params : List Parameter) (classes : List Class) → AreMembers (map (λ (p : Parameter). candidates treatments count p.over) params) classes → (k : ℕ) → Has classes (Named k) → k < count
all-below treatments count [] [] are k h = elim h [ ]
all-below treatments count [] (c ∷ classes) are k h = elim are [ ]
all-below treatments count (p ∷ params) [] are k h = elim are [ ]
all-below treatments count (p ∷ params) (_ ∷ classes) are k first = class-below treatments count p.over k are.0
all-below treatments count (p ∷ params) (c ∷ classes) are k (later h) = all-below treatments count params classes are.1 k h

-- an abstract type whose listed parameters use at most 8 classes
pub named-few : (b : Bool) (size : Option ℕ) (keep : Option (List ℕ)) → IfSome size (λ n. n ≤ 256) → (m : ℕ) → m ≤ 8 → (abstract_type (treatment_of b size keep) m).named ≤ 256
named-few true size keep s m l = omega (arith, l)
named-few false (Some n) None s m l = s
named-few false (Some n) (Some vars) s m l = omega (arith, l)
named-few false None None s m l = omega (arith, l)
named-few false None (Some vars) s m l = omega (arith, l)

one_or_none : (b : Bool) → (if b then beside.One else beside.None) ≢ beside.Gaps
one_or_none true e = cc
one_or_none false e = cc

gaps-few : (b : Bool) (size : Option ℕ) (keep : Option (List ℕ)) (m : ℕ) → m ≤ 8 → (abstract_type (treatment_of b size keep) m).rest ≡ beside.Gaps → (abstract_type (treatment_of b size keep) m).named ≤ 255
gaps-few true size keep m l e = omega (arith, l)
gaps-few false (Some n) None m l e = absurd (cc)
gaps-few false (Some n) (Some vars) m l e = absurd (one_or_none (nat_lt m n) e)
gaps-few false None None m l e = absurd (cc)
gaps-few false None (Some vars) m l e = absurd (cc)

-- ---- kinds

-- an operand that is taken has a kind
taken-kind : (target : FlatKind) (k : Option FlatKind) → IsTrue (kinds.takes target k) → (kind : FlatKind) × (k ≡ Some kind) × IsTrue (kinds.takes target (Some kind))
taken-kind target None t = absurd (cc)
taken-kind target (Some kind) t = (kind, refl, t)

-- what a unit or a demand says is of the design, or nothing
abbrev IsOf : Design → FlatUnit → Type 0
IsOf d (map_of def) = Has d.defs def
IsOf d (claim_of claim) = Has d.claims claim ⊎ (claim ≡ nothing_claimed)

module _ (d : Design) (leaf : Leaf) (choice : Choice) (part : IsPart d leaf choice) (times : Timed) (classes : List Class) (case : IsCaseOf d leaf choice classes) where
  abbrev s : Script
  s = script_of d part.leaves part.choices

  abbrev o : Outline
  o = outlined d

  abbrev entry : Entry
  entry = entry_of d leaf choice

  abbrev c : PosedCase
  c = case_with d leaf choice times classes

  abbrev w : World
  w = world_of (outlined d) (entry_of d leaf choice) classes

  abbrev own : List Place
  own = own_params (outlined d) (entry_of d leaf choice) classes

  abbrev the_cone : List AbsElement
  the_cone = cone w (outlined d) (entry_of d leaf choice) (params_at (outlined d) (entry_of d leaf choice) classes)

  same_outline : outline_of s ≡ outlined d
  same_outline = ap (λ (us : List Unit). record { design = d; units = us }) (units-are (units_of d) part.leaves part.choices part.each_leaf part.each_choice)

  a_case : IsCase c
  a_case = subst (λ (o : Outline). IsCase (case_of o entry times classes)) same_outline (is_case s part.is_checked part.have_values entry classes times)

  type_has_value : (f : Family) → Has d.families f → 0 < length (places_in w f.value)
  type_has_value f h = subst (λ (o : Outline). 0 < length (places_in (world_of o entry classes) f.value)) same_outline (filled s part.is_checked part.have_values entry classes f.value (part.is_checked.are_filled f h))

  split : IsSplit s entry
  split = part.is_checked.are_split entry part.is_entry

  -- ---- elements

  in_elements : AreUnlike the_cone
  in_elements = unlike-filter (is_among same_element (next_elements w o entry (params_at o entry classes))
      (reached same_element (next_elements w o entry (params_at o entry classes)) (length (elements w)) (first_elements w o entry (params_at o entry classes)))) (elements w)
      (unlike-elements w part.is_fit.constants)

  element-members : (x : AbsElement) → Has the_cone x → AreMembers (map (named_in w) (over_of (slice_get d.families x.family))) x.indexes
  element-members x h = are_of (map (named_in w) (over_of (slice_get d.families x.family))) x.indexes (in_cone-is w o entry (params_at o entry classes) x h)

  -- ---- definitions and claims

  chosen-of : (family : ℕ) (def : Def) → chosen o choice.picks family ≡ Some def → (def.family ≡ family) × Has d.defs def
  chosen-of family def e = let r = chosen-comes o choice.picks family def e in (r.0, at r.1)
    where
      at : Comes o choice.picks family def → Has d.defs def
      at (from_base h) = bases-are d def h
      at (from_unit p f v n says) = let k = unit-def d says.unit def says.is_said in get_Has d.defs k.0 def k.2

  map-is : (od : Option Def) (k : ℕ) → slice_get d.defs k ≡ od → IsOf d (as_map od)
  map-is None k e = inr refl
  map-is (Some def) k e = get_Has d.defs k def e

  claim-is : (oc : Option FlatClaim) (k : ℕ) → slice_get d.claims k ≡ oc → IsOf d (as_claim oc)
  claim-is None k e = inr refl
  claim-is (Some claim) k e = inl (get_Has d.claims k claim e)

  unit-is : (unit : Unit) → IsOf d (unit_in d unit)
  unit-is (Map k) = map-is (slice_get d.defs k) k refl
  unit-is (Claim k) = claim-is (slice_get d.claims k) k refl

  claim-of : (unit : Unit) (claim : FlatClaim) → unit_in d unit ≡ claim_of claim → Has d.claims claim ⊎ (claim ≡ nothing_claimed)
  claim-of unit claim e = subst (IsOf d) e (unit-is unit)

  def-of : (unit : Unit) (def : Def) → unit_in d unit ≡ map_of def → Has d.defs def
  def-of unit def e = subst (IsOf d) e (unit-is unit)

  -- ---- demands

  fits_def : (def : Def) → Has d.defs def → (indexes : List Place) → AreOf w (over_of (slice_get d.families def.family)) indexes → IsFit c (defined def indexes)
  fits_def def h indexes are = let f = part.is_fit.definitions def h in (f.0, f.1, f.2, are)

  fits_claim : (claim : FlatClaim) → Has d.claims claim ⊎ (claim ≡ nothing_claimed) → (b : List Place) → AreOf w (map (λ p. p.over) claim.params) b → IsFit c (holds claim.body b)
  fits_claim claim (inl h) b are =
      let f = part.is_fit.claims claim h in
      let k = taken-kind FlatKind.number (kinds.kind_in (as_flat_text (names_of d)) (map (λ p. kind_of p.over) claim.params) claim.body) f.0 in
      let same : map kind_of (map (λ p. p.over) claim.params) ≡ map (λ p. kind_of p.over) claim.params = map-map kind_of (λ p. p.over) claim.params in (
        map (λ p. p.over) claim.params,
        k.0,
        record {
          are_of = are;
          has_kind = ap (λ vars. kinds.kind_in (as_flat_text (names_of d)) vars claim.body) same ∙ k.1;
          has_orders = subst (λ vars. IsTrue (keeps_orders (as_flat_text (names_of d)) vars claim.body)) (sym same) f.1;
        },
        k.2,
      )
  fits_claim claim (inr e) b are = subst (λ (claim : FlatClaim). AreOf w (map (λ p. p.over) claim.params) b → IsFit c (holds claim.body b)) (sym e)
      (λ a. ([], FlatKind.number, record { are_of = a; has_kind = refl; has_orders = refl }, refl)) are

  fits_element : (time : Timing) (x : AbsElement) → Has the_cone x → (demand : Demanded) → Has (element_demands o entry times w own time x) demand → IsFit c demand
  fits_element time x h demand k =
      let t = Has-tested (is_at (family_time choice.picks times.picks x.family) time) k in
      let r = Has-from_map (λ def. defined def x.indexes) (option_to_list (chosen o choice.picks x.family)) t.1 in
      let f = chosen-of x.family r.0 (Has-option (chosen o choice.picks x.family) r.1) in
      subst (IsFit c) (sym r.2) (fits_def r.0 f.1 x.indexes (subst (λ family. AreOf w (over_of (slice_get d.families family)) x.indexes) (sym f.0) (also-places w _ x.indexes (element-members x h))))

  fits_itself : (time : Timing) (x : AbsElement) → Has the_cone x → (demand : Demanded) → Has (itself_demands o entry times w own time x) demand → IsFit c demand
  fits_itself time x h demand k = from (map_in (unit_in d entry.unit)) refl (Has-tested (is_at time Before && choice.itself) k).1
    where
      from : (od : Option Def) → map_in (unit_in d entry.unit) ≡ od → Has (own_demands o entry times w own x od) demand → IsFit c demand
      from None m k = elim k [ ]
      from (Some def) m k =
          let t = Has-tested (same_element (element def.family own) x) k in
          let r = Has-option (Some (defined def x.indexes)) t.1 in
          let family = same_element-family (element def.family own) x t.0 in
          subst (IsFit c) (some_is r) (fits_def def (def-of entry.unit def (map_in-is (unit_in d entry.unit) def m)) x.indexes
          (subst (λ family. AreOf w (over_of (slice_get d.families family)) x.indexes) (sym family) (also-places w _ x.indexes (element-members x h))))

  fits_instance : (u : Assumed) (demand : Demanded) → (oc : Option FlatClaim) → assumed o u ≡ oc → Has (instances o entry times w own oc) demand → IsFit c demand
  fits_instance u demand None e h = elim h [ ]
  fits_instance u demand (Some claim) e h =
      let r = Has-from_map (holds claim.body) (one_of_each (map (named_in w) (map (λ p. p.over) claim.params))) h in
      let says = (assumed-comes o u claim e).2 in
      subst (IsFit c) (sym r.2) (fits_claim claim (claim-of says.unit claim says.is_said) r.0 (also-places w (map (λ p. p.over) claim.params) r.0 (are_of _ r.0 r.1)))

  fits : (time : Timing) (demand : Demanded) → Has (demands o entry times w own the_cone time) demand → IsFit c demand
  fits time demand h = elim (Has-cases (flat_map (λ x. element_demands o entry times w own time x ++ itself_demands o entry times w own time x) the_cone) (claim_demands o entry times w own time) h) [
    | inl l ↦
        let r = Has-from_flat_map (λ (x : AbsElement). element_demands o entry times w own time x ++ itself_demands o entry times w own time x) the_cone l in
        elim (Has-cases (element_demands o entry times w own time r.0) (itself_demands o entry times w own time r.0) r.2) [
          | inl k ↦ fits_element time r.0 r.1 demand k
          | inr k ↦ fits_itself time r.0 r.1 demand k
        ]
    | inr k ↦
        let r = Has-from_flat_map (λ (u : Assumed × Timing). if is_at u.1 time then instances o entry times w own (assumed o u.0) else []) (zip choice.claims times.claims) k in
        fits_instance r.0.0 demand (assumed o r.0.0) refl (Has-tested (is_at r.0.1 time) r.2).1
  ]

  -- ---- the target and the guards

  parameter : Param → Parameter
  parameter p = record { over = p.over; listed = stays choice.keeps p.over p.var }

  types_are : map (λ p. p.over) (leaf_params entry) ≡ map (λ p. p.over) leaf.params
  types_are = map-map (λ (p : Parameter). p.over) (λ (p : Param). record { over = p.over; listed = stays choice.keeps p.over p.var }) leaf.params

  there : (t : Simple) → IsFilled d t → IsThere d.sets t
  there (Range low high) f = tt
  there (Enum list) f = tt
  there (Set set) f = f

  params-are : AreMembers (map (places_in w) (map (λ p. p.over) leaf.params)) (params_at o entry classes)
  params-are = subst (λ ts. AreMembers (map (places_in w) ts) (params_at o entry classes)) types_are
      (case_places (names_of d) (leaf_treatments o entry) (leaf_params entry) classes part.is_checked.are_apart (treatment_there choice.keeps 0 d.sets) case.is_case indexed found)
    where
      made : Param → Parameter
      made p = record { over = p.over; listed = stays choice.keeps p.over p.var }

      indexed : (p : Parameter) → Has (leaf_params entry) p → IsIndexType p.over
      indexed p h = let r = Has-from_map (λ (p : Param). record { over = p.over; listed = stays choice.keeps p.over p.var }) leaf.params h in subst (λ (p : Parameter). IsIndexType p.over) (sym r.2) (split.are_index_types r.0 r.1)

      found : (p : Parameter) → Has (leaf_params entry) p → IsThere d.sets p.over
      found p h = let r = Has-from_map (λ (p : Param). record { over = p.over; listed = stays choice.keeps p.over p.var }) leaf.params h in subst (λ (p : Parameter). IsThere d.sets p.over) (sym r.2) (there r.0.over (split.are_filled r.0 r.1))

  own-members : AreMembers (map (places_in w) (params_of (names_of d) (unit_in d entry.unit))) own
  own-members =
      let over = params_of (names_of d) (unit_in d entry.unit) in
      let params = params_at o entry classes in
      let front : AreMembers (map (places_in w) over ++ map (places_in w) split.added) params =
      subst (λ xss. AreMembers xss params) (map-append (places_in w) over split.added) (subst (λ ts. AreMembers (map (places_in w) ts) params) split.are_params params-are) in
      subst (AreMembers (map (places_in w) over)) (ap (λ k. take k params) (length_map (places_in w) over)) (take_of (map (places_in w) over) (map (places_in w) split.added) params front)

  own-are : AreOf w (params_of (names_of d) (unit_in d entry.unit)) own
  own-are = places-are w (params_of (names_of d) (unit_in d entry.unit)) own own-members

  -- the target's element, where it is at no rest
  target_there : (unit : FlatUnit) → unit_in d entry.unit ≡ unit → (def : Def) (indexes : List Place) → said_at unit own ≡ defined def indexes → list_all is_named indexes ≡ true → Has the_cone (element def.family indexes)
  target_there (claim_of claim) e def indexes is named = absurd (clash is)
    where
      clash : {b : List Place} → holds claim.body b ≡ defined def indexes → ⊥
      clash e = cc
  target_there (map_of target) e def indexes is named =
      subst (λ (x : AbsElement). Has the_cone x) (ap (λ (k : ℕ). element k own) (ap (λ (g : Def). g.family) (def_is is)) ∙ ap (element def.family) (indexes_are is))
      (at (subst (λ ps. list_all is_named ps ≡ true) (sym (indexes_are is)) named))
    where
      def_is : {f g : Def} {is js : List Place} → defined f is ≡ defined g js → f ≡ g
      def_is e = cc

      indexes_are : {f g : Def} {is js : List Place} → defined f is ≡ defined g js → is ≡ js
      indexes_are e = cc

      over : List Simple
      over = over_of (slice_get d.families target.family)

      definition : IsDefinition (plan_of s) target
      definition = part.is_checked.are_definitions target (def-of entry.unit target e)

      members : AreMembers (map (places_in w) over) own
      members = subst (λ (unit : FlatUnit). AreMembers (map (places_in w) (params_of (names_of d) unit)) own) e own-members

      at : list_all is_named own ≡ true → Has the_cone (element target.family own)
      at all_named =
          let is_own : take (length over) (params_at o entry classes) ≡ own = ap (λ (unit : FlatUnit). take (length (params_of (names_of d) unit)) (params_at o entry classes)) (sym e) in
          let r = any-some (same_element (element target.family own)) the_cone
          (own_kept w o entry (params_at o entry classes) target e definition.family definition.is_family own is_own (one_of (map (named_in w) over) own (named_there w over own members all_named)) all_named) in
          subst (Has the_cone) (sym (ap (λ (k : ℕ). element k own) (same_element-family (element target.family own) r.0 r.2) ∙ ap (element r.0.family) (same_element-indexes (element target.family own) r.0 r.2))) r.1

  fits_unit : (unit : FlatUnit) → IsOf d unit → (ps : List Place) → AreOf w (params_of (names_of d) unit) ps → IsFit c (said_at unit ps)
  fits_unit (map_of def) is ps are = fits_def def is ps are
  fits_unit (claim_of claim) is ps are = fits_claim claim is ps are

  guard : (g : Guard) → Has leaf.guards g → IsFitGuard c (map (λ p. p.over) leaf.params) g
  guard g h =
      let k = part.guards g h in
      let same : map kind_of (map (λ p. p.over) leaf.params) ≡ map (λ p. kind_of p.over) leaf.params = map-map kind_of (λ p. p.over) leaf.params in
      record {
        kind = k.0;
        is_of = record {
          are_of = places-are w (map (λ p. p.over) leaf.params) (params_at o entry classes) params-are;
          has_kind = ap (λ vars. kinds.kind_in (as_flat_text (names_of d)) vars g.expr) same ∙ k.1;
          has_orders = subst (λ vars. IsTrue (keeps_orders (as_flat_text (names_of d)) vars g.expr)) (sym same) k.2;
        };
        has_param = split.are_guards.is_of_type g h;
      }

  -- ---- set types

  abbrev type_of : SetInfo → AbsType
  type_of info = types_at d.sets (leaf_treatments (outlined d) (entry_of d leaf choice)) (leaf_params (entry_of d leaf choice)) classes info.name

  -- how a set type is treated, and how many classes its listed parameters use
  record IsTyped (info : SetInfo) : Type 0 where
    keep : Option (List ℕ)
    classes_used : ℕ
    few : classes_used ≤ 8
    is_type : type_of info ≡ abstract_type (treatment_of info.ordered info.size keep) classes_used

  typed : (info : SetInfo) → Has d.sets info → IsTyped info
  typed info h =
      let g = Has_get h in
      let t : Treatment = treatment_of info.ordered info.size (kept_of choice.keeps g.0) in
      let are = are_of (map (λ (p : Parameter). candidates (leaf_treatments o entry) (length (leaf_params entry)) p.over) (leaf_params entry)) classes (Has-from_filter _ _ case.is_case).0 in
      let long : length (leaf_params entry) ≡ length leaf.params = length_map _ leaf.params in
      let some = case.few in
      record {
        keep = kept_of choice.keeps g.0;
        classes_used = used (named_among (listed_classes t g.0 (leaf_params entry) classes));
        few = used_most 8 _ (λ k m. let l = all-below (leaf_treatments o entry) (length (leaf_params entry)) (leaf_params entry) classes are k
            (listed-are t g.0 (leaf_params entry) classes (Named k) (among-is (listed_classes t g.0 (leaf_params entry) classes) k m)) in omega (arith, l, long, some));
        is_type = by_name-at (record { named = 0; rest = beside.None }) d.sets (map (λ (set, t). type_in t set (leaf_params entry) classes) (numbered 0 (leaf_treatments o entry))) g.0 info
            (type_in t g.0 (leaf_params entry) classes) part.is_checked.are_apart g.1
            (numbered-at (λ (set, t). type_in t set (leaf_params entry) classes) 0 g.0 g.0 (leaf_treatments o entry) t (omega arith) (treatment-at choice.keeps 0 g.0 g.0 d.sets info (omega arith) g.1));
      }

  pub is_well_formed : state_bits c ≤ 1024 → IsWellFormed c
  is_well_formed few = record {
    is_case = a_case;
    set_types = part.is_checked.are_apart;
    constants = part.is_fit.constants;
    elements = apart_elements the_cone in_elements;
    indexes = λ x h. named-are w _ x.indexes (element-members x h);
    now = λ demand h. fits Now demand h;
    before = λ demand h. fits Before demand h;
    target = fits_unit (unit_in d entry.unit) (unit-is entry.unit) own own-are;
    params = map (λ p. p.over) leaf.params;
    guards = guard;
    classes = λ info h. let t = typed info h in subst (λ (a : AbsType). a.named ≤ 256) (sym t.is_type) (named-few info.ordered info.size t.keep (part.sizes info h) t.classes_used t.few);
    gaps = λ info h e. let t = typed info h in subst (λ (a : AbsType). a.named ≤ 255) (sym t.is_type) (gaps-few info.ordered info.size t.keep t.classes_used t.few (ap (λ (a : AbsType). a.rest) (sym t.is_type) ∙ e));
    have_values = type_has_value;
    index_types = part.is_fit.indexes;
    target_is_kept = λ def indexes is named. target_there (unit_in d entry.unit) refl def indexes is named;
    bits = few;
  }
