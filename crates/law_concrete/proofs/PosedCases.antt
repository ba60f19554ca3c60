-- The cases of a unit at given sizes are cases of which the laws of searches speak.
use Rattle.std.proofs.Common.{◌≡◌, ◌<◌, List, [], ◌∷◌, map, length, refl, sym, ap, subst, ◌∙◌, option_to_list, arith}
use Rattle.smv_core.specs.Values.{Value, Sizes}
use Rattle.smv_core.specs.FlatMeaning.{values_in}
use Rattle.smv_core.specs.declared.flat.Def.{Def}
use Rattle.smv_core.specs.declared.flat.Class.{Class}
use Rattle.smv_core.specs.declared.flat.Design.{Design}
use Rattle.smv_core.specs.declared.flat.Unit.{Unit as DesignUnit}
use Rattle.law_obligations.specs.Sets.{Has}
use Rattle.law_obligations.specs.Places.{Place, named, places_in}
use Rattle.law_obligations.specs.Obligations.{defined}
use Rattle.law_obligations.specs.Soundness.{params_of, values_over}
use Rattle.law_obligations.specs.Outlines.{base_of, unit_in}
use Rattle.law_obligations.specs.Cones.{AbsElement, element}
use Rattle.law_obligations.specs.Readings.{IsCase}
use Rattle.law_obligations.proofs.Members.{Has-map, Has-from_map}
use Rattle.law_obligations.proofs.OneOfEach.{are_of, one_of, get_Has, Has-from_flat_map}
use Rattle.law_obligations.proofs.Lookups.{Has-option}
use Rattle.law_obligations.proofs.OutlineFacts.{IsBase, base-is}
use Rattle.law_exact.specs.Exact.{whole_world}
use Rattle.law_exact.proofs.Outcomes.{places_are}
use Rattle.law_concrete.specs.Concrete.{sized, classes_of_type, concrete_cases, concrete_cone, problem_at, base_demands}
use Rattle.law_concrete.specs.Runs.{IsExact}
use Rattle.law_concrete.proofs.Cones.{element-family}
use Rattle.law_concrete.proofs.Exactly.{are_params, unit_there}
use Rattle.law_concrete.proofs.Cases.{values-of}
use Rattle.law_concrete.specs.Concrete.{concrete_case}

some-long : {X : Type 0} (xs : List X) (x : X) → Has xs x → 0 < length xs
some-long [] x h = elim h [ ]
some-long (y ∷ xs) x h = omega arith

inner-def : (a b : Def) (is js : List Place) → defined a is ≡ defined b js → a ≡ b
inner-def a b is js e = cc

inner-places : (a b : Def) (is js : List Place) → defined a is ≡ defined b js → is ≡ js
inner-places a b is js e = cc

module _ (d : Design) (sizes : Sizes) (exact : IsExact d sizes) (unit : DesignUnit) where
  pub at-values : (values : List Value) → Has (values_over (sized d sizes) (params_of (sized d sizes) (unit_in d unit))) values →
      IsCase (record { problem = problem_at d sizes unit (map named values); elements = concrete_cone d sizes unit (map named values) })
  at-values values are = record {
    are_kept = refl;
    have_values = λ x h.
        let f = element-family d sizes unit values (are_params d sizes exact unit values are) (unit_there d sizes exact unit values are) x.family x.indexes h in
        let v = exact.filled f.0 (get_Has d.families x.family f.0 f.1) in
        (f.0, f.1, some-long (places_in (whole_world (sized d sizes)) f.0.value) (named v.0) (subst (λ ps. Has ps (named v.0)) (sym (places_are (sized d sizes) f.0.value)) (Has-map named v.1)));
    now_is_kept = λ def indexes h. demanded def indexes h;
    before_is_kept = λ def indexes h. elim h [ ];
  }
    where
      demanded : (def : Def) (indexes : List Place) → Has (base_demands d sizes (concrete_cone d sizes unit (map named values))) (defined def indexes) → Has (concrete_cone d sizes unit (map named values)) (element def.family indexes)
      demanded def indexes h =
          let q = Has-from_flat_map (λ (x : AbsElement). map (λ def. defined def x.indexes) (option_to_list (base_of d x.family))) (concrete_cone d sizes unit (map named values)) h in
          let r = Has-from_map (λ def. defined def q.0.indexes) (option_to_list (base_of d q.0.family)) q.2 in
          let b : IsBase d q.0.family r.0 = base-is d q.0.family r.0 (Has-option (base_of d q.0.family) r.1) in
          let one : def ≡ r.0 = inner-def def r.0 indexes q.0.indexes r.2 in
          let places : indexes ≡ q.0.indexes = inner-places def r.0 indexes q.0.indexes r.2 in
          subst (λ ps. Has (concrete_cone d sizes unit (map named values)) (element def.family ps)) (sym places)
          (subst (λ k. Has (concrete_cone d sizes unit (map named values)) (element k q.0.indexes)) (sym (ap (λ (x : Def). x.family) one ∙ b.is_its)) q.1)

  pub is-case : (classes : List Class) → Has (concrete_cases d sizes unit) classes → IsCase (concrete_case d sizes unit classes)
  is-case classes h =
      let types = params_of (sized d sizes) (unit_in d unit) in
      let vs = values-of (sized d sizes) types classes (are_of (map (classes_of_type (sized d sizes)) types) classes h) in
      subst (λ ps. IsCase (record { problem = problem_at d sizes unit ps; elements = concrete_cone d sizes unit ps })) (sym vs.2) (at-values vs.0 (one_of (map (values_in (sized d sizes)) types) vs.0 vs.1))
