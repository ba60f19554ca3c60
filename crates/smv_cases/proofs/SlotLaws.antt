-- What grows at slots grows at their parameters.
use Rattle.std.proofs.Common.{◌≡◌, ℕ, zero, suc, ◌+◌, List, [], ◌∷◌, ◌++◌, map, length, Bool, false, ◌&&◌, if◌then◌else◌, refl, sym, ap, subst, ◌∙◌, ◌<◌, ◌≤◌, Option, Some, None, option_map, drop, nat_lt, append_assoc, inl, inr, arith}
use Rattle.std.specs.List.{flat_map, slice_get, list_all}
use Rattle.smv_core.specs.declared.flat.Simple.{Simple}
use Rattle.smv_core.specs.declared.flat.Simple.TheVariants.{Range, Enum, Set}
use Rattle.smv_core.specs.declared.flat.SetInfo.{SetInfo}
use Rattle.smv_core.specs.declared.flat.Keep.{Keep}
use Rattle.smv_core.specs.declared.flat.Class.{Class}
use Rattle.law_obligations.specs.Sets.{first, later}
use Rattle.law_obligations.specs.Cases as spec
use Rattle.law_obligations.specs.Cases.{candidates, cases}
use Rattle.std.specs.Prelude.{Result, Ok, Err, IfOk, MatchOption, ◌⊎◌}
use Rattle.std.specs.declared.alloc.AllocError.{AllocError}
use Rattle.std.proofs.lemmas.List.{map-append}
use Rattle.law_lists.proofs.Lists.{length_map, flat_map_alike}
use Rattle.law_lists.proofs.Options.{some_is}
use Rattle.smv_core.specs.declared.flat.Case.{Case}
use Rattle.smv_core.specs.declared.flat.Param.{Param}
use Rattle.law_obligations.specs.LeafCases as leaf
use Rattle.law_obligations.specs.LeafCases.{leaf_cases, treatment_of, treatments_of}
use Rattle.law_obligations.proofs.Members.{Has-cases, Has-uncons}
use Rattle.smv_cases.specs.declared.slots.Treatment.{Treatment}
use Rattle.smv_cases.specs.declared.slots.Slot.{Slot}
use Rattle.smv_cases.specs.Growing.{may_stand_in, may_stand_at, keeps_in, keeps_at, grown}
use Rattle.smv_cases.specs.Slots as slot
use Rattle.smv_cases.specs.Slots.{parameter_of, parameters_of, IsSlot, AreSlots, keeps_rules, keeps, stands_by, grown_of}
use Rattle.smv_cases.proofs.Grows.{cases_grow}

module _ (treatments : List spec.Treatment) (slots : List Slot) where
  stands_same : (before : List Class) (x : Class) (listed : Bool) (t : Option Treatment) (over : Simple) → ((set : ℕ) → over ≡ Set set → option_map slot.treatment_of t ≡ slice_get treatments set) →
      stands_by slots before t over listed x ≡ may_stand_at treatments (parameters_of slots) over before listed x
  stands_same before x listed None (Range low high) is = refl
  stands_same before x listed (Some t) (Range low high) is = refl
  stands_same before x listed None (Enum list) is = refl
  stands_same before x listed (Some t) (Enum list) is = refl
  stands_same before x listed None (Set set) is = ap (λ o. may_stand_in treatments (parameters_of slots) o set before listed x) (is set refl)
  stands_same before x listed (Some t) (Set set) is = ap (λ o. may_stand_in treatments (parameters_of slots) o set before listed x) (is set refl)

  keeps_same : (classes : List Class) (t : Option Treatment) (over : Simple) → ((set : ℕ) → over ≡ Set set → option_map slot.treatment_of t ≡ slice_get treatments set) →
      keeps_rules slots classes t over ≡ keeps_at treatments (parameters_of slots) classes over
  keeps_same classes None (Range low high) is = refl
  keeps_same classes (Some t) (Range low high) is = refl
  keeps_same classes None (Enum list) is = refl
  keeps_same classes (Some t) (Enum list) is = refl
  keeps_same classes None (Set set) is = ap (λ o. keeps_in treatments (parameters_of slots) o set classes) (is set refl)
  keeps_same classes (Some t) (Set set) is = ap (λ o. keeps_in treatments (parameters_of slots) o set classes) (is set refl)

  all_same : (classes : List Class) (some : List Slot) → AreSlots treatments some → list_all (keeps slots classes) some ≡ list_all (λ p. keeps_at treatments (parameters_of slots) classes p.over) (parameters_of some)
  all_same classes [] are = refl
  all_same classes (s ∷ some) are =
      ap (λ b. b && list_all (keeps slots classes) some) (keeps_same classes s.treatment s.over (are s first))
      ∙ ap (λ b. keeps_at treatments (parameters_of slots) classes s.over && b) (all_same classes some (λ t h. are t (later h)))

  options_same : (over : Simple) → candidates [] (length slots) over ≡ candidates treatments (length (parameters_of slots)) over
  options_same (Range low high) = refl
  options_same (Enum list) = refl
  options_same (Set set) = ap (λ n. candidates [] n (Set set)) (sym (length_map parameter_of slots))

  grows_same : AreSlots treatments slots → (more : List Slot) → AreSlots treatments more → (before : List Class) → grown_of slots before more ≡ grown treatments (parameters_of slots) before (parameters_of more)
  grows_same are [] m before = ap (λ b. if b then before ∷ [] else []) (all_same before slots are)
  grows_same are (s ∷ more) m before =
      flat_map_alike _ _ (candidates [] (length slots) s.over) (λ x.
      ap (λ b. if b then grown_of slots (before ++ x ∷ []) more else []) (stands_same before x s.listed s.treatment s.over (m s first))
      ∙ ap (λ ys. if may_stand_at treatments (parameters_of slots) s.over before s.listed x then ys else []) (grows_same are more (λ t h. m t (later h)) (before ++ x ∷ [])))
      ∙ ap (flat_map (λ x. if may_stand_at treatments (parameters_of slots) s.over before s.listed x then grown treatments (parameters_of slots) (before ++ x ∷ []) (parameters_of more) else [])) (options_same s.over)

  pub slots_grow : AreSlots treatments slots → cases treatments (parameters_of slots) ≡ grown_of slots [] slots
  slots_grow are = cases_grow treatments (parameters_of slots) ∙ sym (grows_same are slots are [])

pub treatment_none : (keeps : List Keep) (k j : ℕ) (sets : List SetInfo) → slice_get sets j ≡ None → slice_get (treatments_of keeps k sets) j ≡ None
treatment_none keeps k j [] e = refl
treatment_none keeps k zero (x ∷ sets) e = absurd (cc)
treatment_none keeps k (suc j) (x ∷ sets) e = treatment_none keeps (k + 1) j sets e

pub not_below : (k n : ℕ) → false ≡ nat_lt k n → n ≤ k
not_below k n e = grind arith

-- one slot more
pub slots_more : (treatments : List spec.Treatment) (slots : List Slot) (s : Slot) → AreSlots treatments slots → IsSlot treatments s → AreSlots treatments (slots ++ s ∷ [])
slots_more treatments slots s are is t h = elim (Has-cases slots (s ∷ []) h) [ inl l ↦ are t l | inr r ↦ elim (Has-uncons r) [ inl e ↦ subst (IsSlot treatments) (sym e) is | inr k ↦ elim k [ ] ] ]

pub drop-one : {X : Type 0} (xs : List X) (k : ℕ) (x : X) → slice_get xs k ≡ Some x → drop k xs ≡ x ∷ drop (k + 1) xs
drop-one [] k x e = absurd (cc)
drop-one (y ∷ xs) zero x e = ap (λ z. z ∷ xs) (some_is e)
drop-one (y ∷ xs) (suc k) x e = let n : suc (k + 1) ≡ suc k + 1 = omega arith in drop-one xs k x e ∙ ap (λ m. x ∷ drop m (y ∷ xs)) n

pub parameters_more : {X : Type 0} (f : Slot → X) {Y : Type 0} (g : Y → X) (slots : List Slot) (s : Slot) (ys : List Y) (k : ℕ) (y : Y) → slice_get ys k ≡ Some y → f s ≡ g y →
    map f slots ++ map g (drop k ys) ≡ map g ys → map f (slots ++ s ∷ []) ++ map g (drop (k + 1) ys) ≡ map g ys
parameters_more f g slots s ys k y e same i =
    ap (λ xs. xs ++ map g (drop (k + 1) ys)) (map-append f slots (s ∷ []))
    ∙ (append_assoc (map f slots) (f s ∷ []) (map g (drop (k + 1) ys))
    ∙ (ap (λ x. map f slots ++ x ∷ map g (drop (k + 1) ys)) same
    ∙ (ap (λ zs. map f slots ++ map g zs) (sym (drop-one ys k y e)) ∙ i)))

-- the cases of a leaf at the slots of its parameters
pub leaf_grows : (sets : List SetInfo) (params : List Param) (keeps : List Keep) (slots : List Slot) → parameters_of slots ≡ leaf.parameters_of keeps params → AreSlots (treatments_of keeps 0 sets) slots →
    grown_of slots [] slots ≡ leaf_cases sets params keeps
leaf_grows sets params keeps slots same are = sym (slots_grow (treatments_of keeps 0 sets) slots are) ∙ ap (cases (treatments_of keeps 0 sets)) same

pub slots_long : (params : List Param) (keeps : List Keep) (slots : List Slot) → parameters_of slots ≡ leaf.parameters_of keeps params → length slots ≡ length params
slots_long params keeps slots same = sym (length_map parameter_of slots) ∙ (ap (λ (ps : List spec.Parameter). length ps) same ∙ length_map _ params)

pub made : (s : Slot) (over : Simple) (listed : Bool) → s.over ≡ over → s.listed ≡ listed → parameter_of s ≡ record { over = over; listed = listed }
made s over listed e f = ap (λ o. record { over = o; listed = s.listed }) e ∙ ap (λ l. record { over = over; listed = l }) f

-- what is told of the cases at slots, told of the cases of a leaf
pub told : (r : Result (Option (List Case)) AllocError) (at_slots of_leaf : List (List Class)) (n : ℕ) → at_slots ≡ of_leaf → n ≤ 8 →
    IfOk r (λ o. MatchOption o (4096 < length at_slots) (λ cases. (slot.classes_of cases ≡ at_slots) × (length (slot.classes_of cases) ≤ 4096))) →
    IfOk r (λ o. MatchOption o ((8 < n) ⊎ (4096 < length of_leaf)) (λ cases. (slot.classes_of cases ≡ of_leaf) × (n ≤ 8) × (length (slot.classes_of cases) ≤ 4096)))
told (Err e) at_slots of_leaf n same few h = tt
told (Ok None) at_slots of_leaf n same few h = inr (subst (λ (cs : List (List Class)). 4096 < length cs) same h)
told (Ok (Some cases)) at_slots of_leaf n same few h = (h.0 ∙ same, few, h.1)
