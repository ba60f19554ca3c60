-- What the cases of a unit at given sizes say of the runs of the text.
use Rattle.std.proofs.Common.{◌≡◌, ◌<◌, ◌≤◌, List, [], ◌∷◌, length, Option, None, All, not, true, sym, subst, arith}
use Rattle.std.specs.List.{AllZip}
use Rattle.std.proofs.lemmas.Slice.Zip.{AllZip-long}
use Rattle.smv_core.specs.Values.{Value, Sizes}
use Rattle.smv_core.specs.FlatOrder.{TextDesign, design_of}
use Rattle.smv_core.specs.Outcome.{State}
use Rattle.smv_core.specs.Sound as tree
use Rattle.smv_core.specs.Sound.{ProofUnit, AtEachTime, Holds, instances}
use Rattle.smv_core.specs.FlatMeaning.{FlatState}
use Rattle.smv_core.specs.declared.tree.Text.{Text}
use Rattle.smv_core.specs.declared.flat.Class.{Class}
use Rattle.smv_core.specs.declared.flat.Design.{Design as FlatDesign}
use Rattle.smv_core.specs.declared.flat.Unit.{Unit as DesignUnit}
use Rattle.law_designs.specs.Flattening.{flatten}
use Rattle.law_designs.specs.Agreement.{AreSameStates, IsSameFamily, numbers_in}
use Rattle.law_designs.specs.Definitions.{design_of_flat_text}
use Rattle.law_obligations.specs.Sets.{Has}
use Rattle.law_obligations.specs.May.{AbsState}
use Rattle.law_obligations.specs.Circular.{Demand}
use Rattle.law_obligations.specs.Soundness.{values_over, params_of, is_held}
use Rattle.law_obligations.specs.Outlines.{unit_in}
use Rattle.law_designs.specs.Laws.{AllowsAsTheText}
use Rattle.law_sound_texts.proofs.Faultless.{IsFaultless}
use Rattle.law_sound_texts.proofs.Claims.{ClaimsAreSame}
use Rattle.law_sound_texts.specs.Carried.{RunsAreCarried, RunsAreCarriedBack}
use Rattle.law_sound_texts.proofs.Times.{at-each-time}
use Rattle.law_concrete.specs.Concrete.{sized, concrete_cases}
use Rattle.law_concrete.specs.Runs.{at_last, Breaks, IsExact}
use Rattle.law_sound_texts.specs.Extension.{ElementsCanBeChosen}
use Rattle.law_concrete.specs.Laws.{IsViolatingCase, HasNoViolatingCase, IsReal}
use Rattle.law_concrete.proofs.Decided.{no-path-is-sound, shortest-is-real}
use Rattle.law_sized_texts.specs.Texts.{IsSameUnit, IsRealInText}
use Rattle.law_sized_texts.proofs.Steps.{values-same, step, to-text, to-design}
use Rattle.law_flat_kinds.specs.FamiliesFound.{FamiliesAreFound}

-- a run that fails at its last time is not empty
some-time : (D : Demand FlatState) (old : Option FlatState) (ts : List FlatState) → at_last D old ts ≡ true → 0 < length ts
some-time D old [] e = absurd (cc (e))
some-time D old (t ∷ ts) e = omega arith

module _ (text : Text) (sizes : Sizes) (families : AllZip (IsSameFamily (numbers_in text sizes)) (flatten text).families (design_of text).families) (found : FamiliesAreFound text)
    (allows : All (AllowsAsTheText text) (design_of_flat_text (flatten text)).defs) (faultless : IsFaultless (design_of_flat_text (flatten text))) (claims : ClaimsAreSame text sizes)
    (carried : RunsAreCarried text) (back : RunsAreCarriedBack text) (exact : IsExact (design_of_flat_text (flatten text)) sizes)
    (u : ProofUnit) (unit : DesignUnit) (same : IsSameUnit text u unit) where
  abbrev d : TextDesign
  d = design_of text

  abbrev f : FlatDesign
  f = design_of_flat_text (flatten text)

  own : (vs : List Value) → Has (instances d sizes u) vs → Has (values_over (sized f sizes) (params_of (sized f sizes) (unit_in f unit))) vs
  own vs i = subst (λ l. Has l vs) (sym (values-same text sizes families found allows faultless claims u unit same)) i

  pub holds-in-text : HasNoViolatingCase f sizes unit → (run : List State) → tree.IsRun d sizes run → (vs : List Value) → Has (instances d sizes u) vs → AtEachTime (Holds d sizes u vs) None run
  holds-in-text none run is_run vs i =
      let c = carried sizes run is_run in
      at-each-time d.families (λ s. Unit {0}) (Holds d sizes u vs) (is_held (sized f sizes) (unit_in f unit) vs)
      (λ before fore b s t states typed held. (step text sizes families found allows faultless claims u unit same vs i before fore b s t states).1 held) None None tt run c.0 c.1 (λ s m. tt)
      (no-path-is-sound f sizes exact unit none c.0 c.2 vs (own vs i))

  module _ (choose : ElementsCanBeChosen f) where
    pub real-in-text : (classes : List Class) → Has (concrete_cases f sizes unit) classes → (path : List AbsState) → IsViolatingCase f sizes unit classes path →
        ((other : List AbsState) → IsViolatingCase f sizes unit classes other → length path ≤ length other) → IsRealInText text sizes u unit classes path
    real-in-text classes is_case path v least =
        let r : IsReal f sizes unit classes path = shortest-is-real f sizes exact unit choose classes is_case path v least in
        let i : Has (instances d sizes u) r.values = subst (λ l. Has l r.values) (values-same text sizes families found allows faultless claims u unit same) r.are_values in
        let at = step text sizes families found allows faultless claims u unit same r.values i in
        let b = back sizes r.run (some-time (λ before now. not (is_held (sized f sizes) (unit_in f unit) r.values before now)) None r.run r.breaks.fails) r.breaks.is_run in
        record {
          values = r.values;
          are_values = i;
          flat_run = r.run;
          shows = r.shows;
          run = b.0;
          are_same = b.1;
          breaks = record { is_run = b.2; fails = to-text text sizes families found allows faultless claims u unit r.values at None None tt b.0 r.run b.1 r.breaks.fails };
          is_shortest = λ other o.
              let c = carried sizes other o.is_run in
              let breaks : Breaks f sizes unit r.values c.0 = record { is_run = c.2; fails = to-design text sizes families found allows faultless claims u unit r.values at None None tt other c.0 c.1 o.fails } in
              let l : length r.run ≤ length c.0 = r.is_shortest c.0 breaks in
              let m : length r.run ≡ length b.0 = AllZip-long (AreSameStates d.families) b.0 r.run b.1 in
              let k : length c.0 ≡ length other = AllZip-long (AreSameStates d.families) other c.0 c.1 in
              omega (arith, l, m, k);
        }
