-- A run that breaks an instance is shown by a violating path of its problem.
use Rattle.std.proofs.Common.{◌≡◌, ℕ, List, [], ◌∷◌, map, Bool, true, false, not, refl, sym, ap, subst, ◌∙◌, Option, Some, None, option_to_list}
use Rattle.std.specs.List.{slice_get, list_all, AllZip}
use Rattle.smv_core.specs.Values.{Value, number, Sizes}
use Rattle.smv_core.specs.FlatMeaning.{FlatState, values_in}
use Rattle.smv_core.specs.declared.flat.Def.{Def}
use Rattle.smv_core.specs.declared.flat.Design.{Design}
use Rattle.smv_core.specs.declared.flat.Unit.{Unit as DesignUnit}
use Rattle.law_obligations.specs.Sets.{Has, first, later}
use Rattle.law_obligations.specs.Places.{Place, named, rest}
use Rattle.law_obligations.specs.May.{AbsState}
use Rattle.law_obligations.specs.Pictures.{IsAbsState}
use Rattle.law_obligations.specs.Circular.{always, is_violating_after}
use Rattle.law_obligations.specs.Obligations.{Demanded, defined, is_met, obligation}
use Rattle.law_obligations.specs.Soundness.{map_of, over_of, params_of, values_over, is_held, meets_base, IsTyped}
use Rattle.law_obligations.specs.Outlines.{base_of, bases, unit_in}
use Rattle.law_obligations.proofs.Members.{Has-map, Has-from_map, all-each, all-holds}
use Rattle.law_obligations.proofs.OneOfEach.{Has-from_flat_map}
use Rattle.law_obligations.proofs.Lookups.{Has-option}
use Rattle.law_obligations.proofs.OutlineFacts.{IsBase, base-is, bases-Has}
use Rattle.law_exact.specs.Exact.{Shows, ShowsBefore}
use Rattle.law_exact.proofs.Outcomes.{places_are}
use Rattle.law_concrete.specs.Concrete.{sized, base_demands}
use Rattle.law_concrete.specs.Runs.{at_last, Breaks, IsExact}
use Rattle.law_concrete.specs.Laws.{Violates, AreShown}
use Rattle.law_concrete.proofs.Cones.{kept-cone, cone-kept, cone-values}
use Rattle.law_concrete.proofs.Exactly.{n, w, cone, K, p, are_params, unit_there, met-held, broken-held}
use Rattle.law_lists.proofs.Booleans.{and_both, left_of, right_of}

-- the value of a place
abbrev pub unnamed : Place → Value
unnamed (named v) = v
unnamed (rest v) = v

pub unnamed-named : (vs : List Value) → map unnamed (map named vs) ≡ vs
unnamed-named [] = refl
unnamed-named (v ∷ vs) = ap (λ us. v ∷ us) (unnamed-named vs)

module _ (d : Design) (sizes : Sizes) (exact : IsExact d sizes) (unit : DesignUnit) (values : List Value) (are : Has (values_over (sized d sizes) (params_of (sized d sizes) (unit_in d unit))) values) where
  abbrev kept_at : ℕ → List Place → Bool
  kept_at family ps = K d sizes exact unit values are family ps

  -- what a state shows of the kept elements
  abbrev picture_by : Bool → Value → Place
  picture_by true v = named v
  picture_by false v = named (number 0)

  abbrev pub picture : FlatState → AbsState
  picture s family ps = picture_by (kept_at family ps) (s family (map unnamed ps))

  pub picture-shows : (s : FlatState) → Shows (K d sizes exact unit values are) (picture s) s
  picture-shows s family vs k = ap (λ b. picture_by b (s family (map unnamed (map named vs)))) k ∙ ap (λ us. named (s family us)) (unnamed-named vs)

  picture-state : (s : FlatState) → IsTyped (n d sizes exact unit values are) s → IsAbsState (w d sizes exact unit values are) (K d sizes exact unit values are) (picture s)
  picture-state s typed = record {
    is_somewhere = λ family f e ps k.
        let x = cone-values d sizes unit values (are_params d sizes exact unit values are) (unit_there d sizes exact unit values are) family f e ps (kept-cone d sizes unit values (are_params d sizes exact unit values are) (unit_there d sizes exact unit values are) family ps k) in
        let shown : picture s family ps ≡ named (s family x.0) = subst (λ ps. kept_at family ps ≡ true → picture s family ps ≡ named (s family x.0)) (sym x.2) (picture-shows s family x.0) k in
        subst (λ qs. Has qs (picture s family ps)) (sym (places_are (n d sizes exact unit values are) f.value)) (subst (Has (map named (values_in (n d sizes exact unit values are) f.value))) (sym shown) (Has-map named (typed family f e x.0 x.1)));
    is_unread = λ family ps k. ap (λ b. picture_by b (s family (map unnamed ps))) k;
  }

  -- each base demand is met
  module _ (now : FlatState) (old : Option AbsState) (before : Option FlatState) (h : ShowsBefore (K d sizes exact unit values are) old before) (base : meets_base (n d sizes exact unit values are) (bases d) before now ≡ true) where
    demand-met : (x : Demanded) → Has (base_demands d sizes (cone d sizes exact unit values are)) x → is_met (p d sizes exact unit values are) old (picture now) x ≡ true
    demand-met x k =
        let q = Has-from_flat_map (λ x. map (λ def. defined def x.indexes) (option_to_list (base_of d x.family))) (cone d sizes exact unit values are) k in
        let r = Has-from_map (λ def. defined def q.0.indexes) (option_to_list (base_of d q.0.family)) q.2 in
        let e : base_of d q.0.family ≡ Some r.0 = Has-option (base_of d q.0.family) r.1 in
        let b : IsBase d q.0.family r.0 = base-is d q.0.family r.0 e in
        let v = cone-values d sizes unit values (are_params d sizes exact unit values are) (unit_there d sizes exact unit values are) q.0.family b.its_family b.is_there q.0.indexes q.1 in
        let there : slice_get d.families r.0.family ≡ Some b.its_family = subst (λ k. slice_get d.families k ≡ Some b.its_family) (sym b.is_its) b.is_there in
        let of : Has (values_over (n d sizes exact unit values are) (params_of (n d sizes exact unit values are) (map_of r.0))) v.0 = subst (λ o. Has (values_over (n d sizes exact unit values are) (over_of o)) v.0) (sym there) v.1 in
        let holds : is_held (n d sizes exact unit values are) (map_of r.0) v.0 before now ≡ true =
        all-each (λ vs. is_held (n d sizes exact unit values are) (map_of r.0) vs before now)
        (all-each (λ (def : Def). list_all (λ vs. is_held (n d sizes exact unit values are) (map_of def) vs before now) (values_over (n d sizes exact unit values are) (params_of (n d sizes exact unit values are) (map_of def)))) base (bases-Has d q.0.family r.0 e)) of in
        let is_kept : kept_at q.0.family (map named v.0) ≡ true = subst (λ ps. kept_at q.0.family ps ≡ true) v.2 (cone-kept d sizes unit values (are_params d sizes exact unit values are) (unit_there d sizes exact unit values are) q.0 q.1) in
        subst (λ y. is_met (p d sizes exact unit values are) old (picture now) y ≡ true) (sym (r.2 ∙ ap (defined r.0) v.2))
        (met-held d sizes exact unit values are now (picture now) (picture-shows now) old before h q.0.family v.0 r.0 e is_kept ∙ holds)

    now-met : list_all (is_met (p d sizes exact unit values are) old (picture now)) (base_demands d sizes (cone d sizes exact unit values are)) ≡ true
    now-met = all-holds (is_met (p d sizes exact unit values are) old (picture now)) (base_demands d sizes (cone d sizes exact unit values are)) demand-met

  violates : (old : Option AbsState) (before : Option FlatState) → ShowsBefore (K d sizes exact unit values are) old before → (run : List FlatState) → ((s : FlatState) → Has run s → IsTyped (n d sizes exact unit values are) s) →
      always (meets_base (n d sizes exact unit values are) (bases d)) before run ≡ true → at_last (λ before now. not (is_held (n d sizes exact unit values are) (unit_in d unit) values before now)) before run ≡ true →
      is_violating_after (obligation (p d sizes exact unit values are)) old (map picture run) ≡ true
  violates old before h [] typed base fails = fails
  violates old before h (s ∷ []) typed base fails =
      and_both (now-met s old before h (left_of (meets_base (n d sizes exact unit values are) (bases d) before s) true base)) (broken-held d sizes exact unit values are s (picture s) (picture-shows s) old before h (typed s first) ∙ fails)
  violates old before h (s ∷ t ∷ run) typed base fails =
      and_both (now-met s old before h (left_of (meets_base (n d sizes exact unit values are) (bases d) before s) (always (meets_base (n d sizes exact unit values are) (bases d)) (Some s) (t ∷ run)) base))
      (violates (Some (picture s)) (Some s) (picture-shows s) (t ∷ run) (λ u k. typed u (later k)) (right_of (meets_base (n d sizes exact unit values are) (bases d) before s) (always (meets_base (n d sizes exact unit values are) (bases d)) (Some s) (t ∷ run)) base) fails)

  are-shown : (run : List FlatState) → AllZip (λ a s. Shows (K d sizes exact unit values are) a s) (map picture run) run
  are-shown [] = tt
  are-shown (s ∷ run) = (picture-shows s, are-shown run)

  pub shown : (run : List FlatState) → Breaks d sizes unit values run → (path : List AbsState) × AreShown d sizes unit values path run × Violates d sizes unit values path
  shown run breaks = (
    map picture run,
    are-shown run,
    record {
      are_states = λ a k. let r = Has-from_map picture run k in
          subst (IsAbsState (w d sizes exact unit values are) (K d sizes exact unit values are)) (sym r.2) (picture-state r.0 (breaks.is_run.are_typed r.0 r.1));
      is_violating = violates None None tt run breaks.is_run.are_typed breaks.is_run.keeps_base breaks.fails;
    },
  )
