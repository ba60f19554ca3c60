-- Each behaviour of the families outside is that of a run.
use Rattle.std.proofs.Common.{◌≡◌, ℕ, zero, suc, ◌+◌, ◌-◌, List, [], ◌∷◌, ◌++◌, length, Option, Some, None, Bool, true, false, not, cond, refl, sym, ap, subst, ◌∙◌, ◌⊎◌, inl, inr, slice_get, unwrap_or}
use Rattle.std.specs.List.{list_all, AllZip}
use Rattle.std.proofs.lemmas.Slice.Zip.{AllZip-long}
use Rattle.std.proofs.lemmas.Bool.{cases_Bool, and_from}
use Rattle.law_lists.proofs.Booleans.{clash, left_of, right_of}
use Rattle.smv_core.specs.Values.{Value, number, Sizes, is_in}
use Rattle.smv_core.specs.FlatMeaning.{Numbered, FlatState, FlatElement, values_in, flat_result, is_concerned_by, flat_kept, flat_stepped, flat_allowed}
use Rattle.smv_core.specs.declared.flat.Family.{Family}
use Rattle.smv_core.specs.declared.flat.Cell.{Cell}
use Rattle.smv_core.specs.declared.flat.DefBody.{DefBody}
use Rattle.smv_core.specs.declared.flat.Def.{Def}
use Rattle.smv_core.specs.declared.flat.Design.{Design}
use Rattle.law_obligations.specs.Sets.{Has, first, later}
use Rattle.law_obligations.specs.Circular.{always}
use Rattle.law_obligations.specs.Soundness.{map_of, AreSizes, at_sizes, over_of, values_of_family, params_of, values_over, is_held, meets_base, IsTyped, IsRun, HasValue}
use Rattle.law_obligations.specs.Outlines.{names_of, bases}
use Rattle.law_obligations.proofs.Plans.{filled_value}
use Rattle.law_obligations.proofs.Members.{Has-left, Has-right, all-each, all-holds}
use Rattle.law_obligations.proofs.OneOfEach.{get_Has}
use Rattle.law_obligations.proofs.Lookups.{Has-filter, Has-from_filter}
use Rattle.law_designs.specs.Reading.{Reference, Reading, readings}
use Rattle.law_designs.specs.LayerFaults.{assignments_of}
use Rattle.law_sound_texts.specs.Extension.{HasWholeLeftSides, IsTypedBefore, AreFilled, AgreeOutside, bases_outside}
use Rattle.law_flat_kinds.proofs.Lists.{is_in-Has}
use Rattle.law_sound_texts.proofs.Results.{all_result, same_result}
use Rattle.law_sound_texts.proofs.Places.{AreOver, are_over}
use Rattle.law_sound_texts.proofs.Faultless.{IsFaultless, Falls, IsBase, base_is}
use Rattle.law_sound_texts.proofs.Stages.{final, final_outside, final_allowed, final_typed}

-- ---- definitions that read none of the families among these

-- the two states before, if there are any, agree outside
abbrev AgreeBefore : (ℕ → Bool) → Option FlatState → Option FlatState → Type 0
AgreeBefore among None None = Unit {0}
AgreeBefore among None (Some t) = ⊥
AgreeBefore among (Some s) None = ⊥
AgreeBefore among (Some s) (Some t) = AgreeOutside among s t

-- the definition reads none of them
abbrev ReadsNone : (ℕ → Bool) → Def → Type 0
ReadsNone among def = (a : Reading) → Has (assignments_of def) a → (r : Reference) → Has a.reads r → among r.family ≡ false

module _ (n : Numbered) (among : ℕ → Bool) (def : Def) (reads : ReadsNone among def) (x : FlatElement) (every : List Value) where
  same_plain : (s t : FlatState) → AgreeOutside among s t → (flat : DefBody) → ((a : Reading) → Has (readings def.family [] flat) a → Has (assignments_of def) a) → flat_result n s x every flat [] ≡ flat_result n t x every flat []
  same_plain s t agree flat within =
      sym (all_result n s x every flat []) ∙
      (same_result (λ is. true) n x every def.family s t [] flat [] (λ a m c r i f known vs may. sym (agree r.family (reads a (within a m) r i) vs)) ∙ all_result n t x every flat [])

  same_stepped : (old before : Option FlatState) → AgreeBefore among old before → (s t : FlatState) → AgreeOutside among s t → among x.family ≡ false → flat_stepped n def x every old s ≡ flat_stepped n def x every before t
  same_stepped None None b s t agree out =
      ap (λ w. unwrap_or w every) (same_plain s t agree def.init (λ a m. Has-left (readings def.family [] def.comb) (Has-left (readings def.family [] def.next) m)))
  same_stepped None (Some u) b s t agree out = elim b [ ]
  same_stepped (Some o) None b s t agree out = elim b [ ]
  same_stepped (Some o) (Some u) b s t agree out =
      ap (λ w. unwrap_or w (flat_kept n def x every o)) (same_plain o u b def.next (λ a m. Has-left (readings def.family [] def.comb) (Has-right (readings def.family [] def.init) m))) ∙
      ap (λ v. unwrap_or (flat_result n u x every def.next []) (cond (is_concerned_by def.next x) (v ∷ []) every)) (sym (b x.family out x.indexes))

  same_demand : (old before : Option FlatState) → AgreeBefore among old before → (s t : FlatState) → AgreeOutside among s t → among x.family ≡ false → flat_allowed n def x every old s ≡ flat_allowed n def x every before t
  same_demand old before b s t agree out =
      ap (λ w. cond (is_concerned_by def.comb x) (unwrap_or w every) (flat_stepped n def x every old s)) (same_plain s t agree def.comb (λ a m. Has-right (readings def.family [] def.init ++ readings def.family [] def.next) m)) ∙
      ap (λ ws. cond (is_concerned_by def.comb x) (unwrap_or (flat_result n t x every def.comb []) every) ws) (same_stepped old before b s t agree out)

-- ---- runs

module _ (d : Design) (sizes : Sizes) (among : ℕ → Bool) (h : IsFaultless d) (whole : HasWholeLeftSides d) (rank : Cell → ℕ) (falls : Falls d rank)
    (apart : (def : Def) → Has (bases d) def → among def.family ≡ false → ReadsNone among def) where
  abbrev n : Numbered
  n = at_sizes (names_of d) sizes

  abbrev next_state : Option FlatState → FlatState → FlatState
  next_state before s = final d sizes (λ family vs. among family) h whole rank falls before s

  agrees : (before : Option FlatState) (s : FlatState) → AgreeOutside among s (next_state before s)
  agrees before s family out vs = final_outside d sizes (λ family vs. among family) h whole rank falls before s family vs out

  -- one time
  module _ (old before : Option FlatState) (s : FlatState) (typed : IsTyped n s) (typed_before : IsTypedBefore n before) (agree : AgreeBefore among old before) (meets : meets_base n (bases_outside d among) old s ≡ true) where
    held : (def : Def) → Has (bases d) def → (vs : List Value) → Has (values_over n (params_of n (map_of def))) vs → is_held n (map_of def) vs before (next_state before s) ≡ true
    held def k vs m = by_family (cases_Bool (among def.family))
      where
        by_family : (among def.family ≡ true) ⊎ (among def.family ≡ false) → is_held n (map_of def) vs before (next_state before s) ≡ true
        by_family (inl a) =
            let b : IsBase d def = base_is d h def k in
            let over : AreOver n b.its_family.over vs = are_over n b.its_family.over vs (subst (λ o. Has (values_over n (over_of o)) vs) b.is_there m) in
            is_in-Has _ _ (final_allowed d sizes (λ family vs. among family) h whole rank falls before s typed typed_before def.family b.its_family b.is_there def b.is_base_of vs a over).0
        by_family (inr a) =
            let was : is_held n (map_of def) vs old s ≡ true =
            all-each (λ vs. is_held n (map_of def) vs old s)
            (all-each (λ (def : Def). list_all (λ vs. is_held n (map_of def) vs old s) (values_over n (params_of n (map_of def)))) meets (Has-filter (λ (def : Def). not (among def.family)) k (ap not a))) m in
            let x : FlatElement = record { family = def.family; indexes = vs } in
            let every : List Value = values_of_family n (slice_get n.families def.family) in
            ap (λ ws. is_in ws (next_state before s def.family vs)) (sym (same_demand n among def (apart def k a) x every old before agree s (next_state before s) (agrees before s) a)) ∙
            (ap (λ v. is_in (flat_allowed n def x every old s) v) (agrees before s def.family a vs) ∙ was)

    pub meets_now : meets_base n (bases d) before (next_state before s) ≡ true
    meets_now =
        all-holds (λ (def : Def). list_all (λ vs. is_held n (map_of def) vs before (next_state before s)) (values_over n (params_of n (map_of def)))) (bases d)
        (λ def k. all-holds (λ vs. is_held n (map_of def) vs before (next_state before s)) (values_over n (params_of n (map_of def))) (λ vs m. held def k vs m))

    pub typed_now : IsTyped n (next_state before s)
    typed_now = final_typed d sizes (λ family vs. among family) h whole rank falls before s typed typed_before

  -- each time
  abbrev extended : Option FlatState → List FlatState → List FlatState
  extended before [] = []
  extended before (s ∷ run) = next_state before s ∷ extended (Some (next_state before s)) run

  extended_agrees : (before : Option FlatState) (run : List FlatState) → AllZip (AgreeOutside among) run (extended before run)
  extended_agrees before [] = tt
  extended_agrees before (s ∷ run) = (agrees before s, extended_agrees (Some (next_state before s)) run)

  -- what is typed and what is kept at each time
  abbrev Goes : Option FlatState → Option FlatState → List FlatState → Type 0
  Goes old before run = ((t : FlatState) → Has (extended before run) t → IsTyped n t) × (always (meets_base n (bases d)) before (extended before run) ≡ true)

  goes : (old before : Option FlatState) (run : List FlatState) → ((s : FlatState) → Has run s → IsTyped n s) → IsTypedBefore n before → AgreeBefore among old before → always (meets_base n (bases_outside d among)) old run ≡ true → Goes old before run
  goes old before [] typed typed_before agree meets = (λ t k. elim k [ ], refl)
  goes old before (s ∷ run) typed typed_before agree meets =
      let here : meets_base n (bases_outside d among) old s ≡ true = left_of (meets_base n (bases_outside d among) old s) (always (meets_base n (bases_outside d among)) (Some s) run) meets in
      let now : IsTyped n (next_state before s) = typed_now old before s (typed s first) typed_before agree here in
      let rest : Goes (Some s) (Some (next_state before s)) run =
      goes (Some s) (Some (next_state before s)) run (λ u k. typed u (later k)) now (agrees before s) (right_of (meets_base n (bases_outside d among) old s) (always (meets_base n (bases_outside d among)) (Some s) run) meets) in (
        λ t k. one_of (next_state before s) (extended (Some (next_state before s)) run) now rest.0 t k,
        and_from (meets_base n (bases d) before (next_state before s)) (always (meets_base n (bases d)) (Some (next_state before s)) (extended (Some (next_state before s)) run)) (meets_now old before s (typed s first) typed_before agree here) rest.1,
      )
    where
      one_of : (u : FlatState) (us : List FlatState) → IsTyped n u → ((t : FlatState) → Has us t → IsTyped n t) → (t : FlatState) → Has (u ∷ us) t → IsTyped n t
      one_of u us p q _ first = p
      one_of u us p q t (later k) = q t k

  pub extension : (behaviour : List FlatState) → IsRun n (bases_outside d among) behaviour → (run : List FlatState) × AllZip (AgreeOutside among) behaviour run × IsRun n (bases d) run
  extension behaviour is_run =
      let r : Goes None None behaviour = goes None None behaviour is_run.are_typed tt tt is_run.keeps_base in
      (extended None behaviour, extended_agrees None behaviour, record { are_typed = r.0; keeps_base = r.1 })

-- ---- runs where all families are chosen

value_or : List Value → Value
value_or [] = number 0
value_or (v ∷ vs) = v

value_or-Has : (vs : List Value) (v : Value) → Has vs v → Has vs (value_or vs)
unfolding value_or
value_or-Has [] v h = elim h [ ]
value_or-Has (u ∷ vs) v h = first

repeated : ℕ → FlatState → List FlatState
repeated zero s = []
repeated (suc k) s = s ∷ repeated k s

repeated-long : (k : ℕ) (s : FlatState) → length (repeated k s) ≡ k
unfolding repeated
repeated-long zero s = refl
repeated-long (suc k) s = ap suc (repeated-long k s)

repeated-is : (k : ℕ) (s t : FlatState) → Has (repeated k s) t → s ≡ t
unfolding repeated
repeated-is zero s t h = elim h [ ]
repeated-is (suc k) s t h = at_once t h (λ i. repeated-is k s t i)
  where
    at_once : (t : FlatState) → Has (s ∷ repeated k s) t → (Has (repeated k s) t → s ≡ t) → s ≡ t
    at_once _ first rest = refl
    at_once t (later i) rest = rest i

pub have_values : (d : Design) (sizes : Sizes) → AreSizes (names_of d) sizes → AreFilled d → (f : Family) → Has d.families f → HasValue (at_sizes (names_of d) sizes) f.value
have_values d sizes each filled f k = filled_value d sizes each f.value (filled f k)

module _ (d : Design) (sizes : Sizes) (have : (f : Family) → Has d.families f → HasValue (at_sizes (names_of d) sizes) f.value) where
  some_state : FlatState
  some_state family vs = value_or (values_of_family (at_sizes (names_of d) sizes) (slice_get d.families family))

  some_typed : IsTyped (at_sizes (names_of d) sizes) some_state
  unfolding some_state
  some_typed family f there vs k =
      let v : HasValue (at_sizes (names_of d) sizes) f.value = have f (get_Has d.families family f there) in
      subst (λ o. Has (values_in (at_sizes (names_of d) sizes) f.value) (value_or (values_of_family (at_sizes (names_of d) sizes) o))) (sym there) (value_or-Has (values_in (at_sizes (names_of d) sizes) f.value) v.0 v.1)

  none_outside : (before : Option FlatState) (s : FlatState) → meets_base (at_sizes (names_of d) sizes) (bases_outside d (λ family. true)) before s ≡ true
  none_outside before s = all-holds _ (bases_outside d (λ family. true)) (λ def k. absurd (clash {b = false} (Has-from_filter (λ (def : Def). false) (bases d) k).1 refl))

  repeated-keeps : (k : ℕ) (before : Option FlatState) → always (meets_base (at_sizes (names_of d) sizes) (bases_outside d (λ family. true))) before (repeated k some_state) ≡ true
  unfolding repeated
  repeated-keeps zero before = refl
  repeated-keeps (suc k) before = and_from _ _ (none_outside before some_state) (repeated-keeps k (Some some_state))

  repeated_run : (k : ℕ) → IsRun (at_sizes (names_of d) sizes) (bases_outside d (λ family. true)) (repeated k some_state)
  repeated_run k = record { are_typed = λ s m. subst (IsTyped (at_sizes (names_of d) sizes)) (repeated-is k some_state s m) some_typed; keeps_base = repeated-keeps k None }

  pub runs : (h : IsFaultless d) (whole : HasWholeLeftSides d) (rank : Cell → ℕ) → Falls d rank → (times : ℕ) → (run : List FlatState) × (length run ≡ times) × IsRun (at_sizes (names_of d) sizes) (bases d) run
  runs h whole rank falls times =
      let r : (run : List FlatState) × AllZip (AgreeOutside (λ family. true)) (repeated times some_state) run × IsRun (at_sizes (names_of d) sizes) (bases d) run =
      extension d sizes (λ family. true) h whole rank falls (λ def k e. absurd (clash {b = true} refl e)) (repeated times some_state) (repeated_run times) in
      (r.0, AllZip-long (AgreeOutside (λ family. true)) (repeated times some_state) r.0 r.1 ∙ repeated-long times some_state, r.2)
