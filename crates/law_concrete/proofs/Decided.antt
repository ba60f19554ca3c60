-- What the cases of a unit at given sizes say: no violating path, or a shortest one.
use Rattle.std.proofs.Common.{◌≡◌, ◌≤◌, List, [], ◌∷◌, map, length, Bool, true, false, not, ◌&&◌, refl, sym, ap, subst, Option, Some, None, arith}
use Rattle.std.specs.List.{AllZip}
use Rattle.std.proofs.lemmas.Slice.Zip.{AllZip-long}
use Rattle.smv_core.specs.Values.{Value, Sizes}
use Rattle.smv_core.specs.FlatMeaning.{values_in}
use Rattle.smv_core.specs.declared.flat.Design.{Design}
use Rattle.smv_core.specs.declared.flat.Unit.{Unit as DesignUnit}
use Rattle.smv_core.specs.declared.flat.Class.{Class}
use Rattle.law_obligations.specs.Sets.{Has, first, later}
use Rattle.law_obligations.specs.Places.{named}
use Rattle.law_obligations.specs.May.{AbsState}
use Rattle.law_obligations.specs.Pictures.{IsAbsState}
use Rattle.law_obligations.specs.Circular.{Demand, always, is_violating}
use Rattle.law_obligations.specs.Obligations.{obligation}
use Rattle.law_obligations.specs.Soundness.{params_of, values_over, is_held, meets_base}
use Rattle.law_obligations.specs.Outlines.{bases, unit_in}
use Rattle.law_obligations.proofs.OneOfEach.{are_of, one_of}
use Rattle.law_exact.specs.Exact.{Shows}
use Rattle.law_concrete.specs.Concrete.{sized, classes_of_type, concrete_cases, concrete_places, problem_at}
use Rattle.law_concrete.specs.Runs.{at_last, Breaks, IsExact, HoldsAtSizes}
use Rattle.law_sound_texts.specs.Extension.{ElementsCanBeChosen}
use Rattle.law_concrete.specs.Laws.{Violates, IsViolatingCase, HasNoViolatingCase, IsReal}
use Rattle.law_concrete.proofs.Cases.{values-of, classes-of}
use Rattle.law_concrete.proofs.Shown.{shown}
use Rattle.law_concrete.proofs.Found.{found}
use Rattle.law_lists.proofs.Booleans.{clash, and_both, left_of, right_of}

-- ---- the first time at which a demand fails

-- the run up to a time at which the demand fails, beside what is kept up to there
pub record Fails {State : Type 0} (D B : Demand State) (old : Option State) (run : List State) : Type 0 where
  pub front : List State
  pub within : (s : State) → Has front s → Has run s
  pub keeps : always B old front ≡ true
  pub fails : at_last (λ before now. not (D before now)) old front ≡ true

first-failure : {State : Type 0} (D B : Demand State) (old : Option State) (run : List State) → always B old run ≡ true → always D old run ≡ false → Fails D B old run
first-failure D B old [] keeps fails = absurd (cc (fails))
first-failure {State} D B old (s ∷ run) keeps fails = at (D old s) refl fails (λ e. first-failure D B (Some s) run (right_of (B old s) (always B (Some s) run) keeps) e)
  where
    further : Fails D B (Some s) run → (front : List State) → ((t : State) → Has front t → Has run t) → always B (Some s) front ≡ true → at_last (λ before now. not (D before now)) (Some s) front ≡ true → Fails D B old (s ∷ run)
    further f [] within k e = absurd (cc (e))
    further f (t ∷ front) within k e = record {
      front = s ∷ t ∷ front;
      within = λ u h. one_more u h;
      keeps = and_both (left_of (B old s) (always B (Some s) run) keeps) k;
      fails = e;
    }
      where
        one_more : (u : State) → Has (s ∷ t ∷ front) u → Has (s ∷ run) u
        one_more _ first = first
        one_more u (later h) = later (within u h)

    at : (b : Bool) → D old s ≡ b → (b && always D (Some s) run) ≡ false → (always D (Some s) run ≡ false → Fails D B (Some s) run) → Fails D B old (s ∷ run)
    at true q e goes = let f = goes e in further f f.front f.within f.keeps f.fails
    at false q e goes = record {
      front = s ∷ [];
      within = λ u h. only u h;
      keeps = and_both (left_of (B old s) (always B (Some s) run) keeps) refl;
      fails = ap not q;
    }
      where
        only : (u : State) → Has (s ∷ []) u → Has (s ∷ run) u
        only _ first = first
        only u (later h) = elim h [ ]

-- where a demand fails at the last time it does not always hold
never-both : {State : Type 0} (D : Demand State) (old : Option State) (run : List State) → always D old run ≡ true → at_last (λ before now. not (D before now)) old run ≡ true → ⊥
never-both D old [] h e = cc
never-both D old (s ∷ []) h e = clash e (ap not (left_of (D old s) true h))
never-both D old (s ∷ t ∷ run) h e = never-both D (Some s) (t ∷ run) (right_of (D old s) (always D (Some s) (t ∷ run)) h) e

module _ (d : Design) (sizes : Sizes) (exact : IsExact d sizes) (unit : DesignUnit) where
  -- a path of a case is one of the problem at its values
  of-case : (classes : List Class) (values : List Value) → concrete_places d sizes unit classes ≡ map named values → (path : List AbsState) → IsViolatingCase d sizes unit classes path → Violates d sizes unit values path
  of-case classes values e path v = record {
    are_states = subst (λ ps. (a : AbsState) → Has path a → IsAbsState (problem_at d sizes unit ps).world (problem_at d sizes unit ps).kept a) e v.are_states;
    is_violating = subst (λ ps. is_violating (obligation (problem_at d sizes unit ps)) path ≡ true) e v.is_violating;
  }

  to-case : (classes : List Class) (values : List Value) → concrete_places d sizes unit classes ≡ map named values → (path : List AbsState) → Violates d sizes unit values path → IsViolatingCase d sizes unit classes path
  to-case classes values e path v = record {
    are_states = subst (λ ps. (a : AbsState) → Has path a → IsAbsState (problem_at d sizes unit ps).world (problem_at d sizes unit ps).kept a) (sym e) v.are_states;
    is_violating = subst (λ ps. is_violating (obligation (problem_at d sizes unit ps)) path ≡ true) (sym e) v.is_violating;
  }

  pub no-path-is-sound : HasNoViolatingCase d sizes unit → HoldsAtSizes d sizes unit
  no-path-is-sound none run is_run values are = at (always (is_held (sized d sizes) (unit_in d unit) values) None run) refl
    where
      at : (b : Bool) → always (is_held (sized d sizes) (unit_in d unit) values) None run ≡ b → always (is_held (sized d sizes) (unit_in d unit) values) None run ≡ true
      at true e = e
      at false e =
          let f = first-failure (is_held (sized d sizes) (unit_in d unit) values) (meets_base (sized d sizes) (bases d)) None run is_run.keeps_base e in
          let types = params_of (sized d sizes) (unit_in d unit) in
          let breaks : Breaks d sizes unit values f.front = record { is_run = record { are_typed = λ s h. is_run.are_typed s (f.within s h); keeps_base = f.keeps }; fails = f.fails } in
          let path = shown d sizes exact unit values are f.front breaks in
          let c = classes-of (sized d sizes) types values (exact.params unit) (are_of (map (values_in (sized d sizes)) types) values are) in
          absurd (none c.0 (one_of (map (classes_of_type (sized d sizes)) types) c.0 c.1) path.0 (to-case c.0 values c.2 path.0 path.2))

  module _ (choose : ElementsCanBeChosen d) where
    pub sound-has-no-path : HoldsAtSizes d sizes unit → HasNoViolatingCase d sizes unit
    sound-has-no-path holds classes is_case path v =
        let types = params_of (sized d sizes) (unit_in d unit) in
        let vs = values-of (sized d sizes) types classes (are_of (map (classes_of_type (sized d sizes)) types) classes is_case) in
        let are : Has (values_over (sized d sizes) types) vs.0 = one_of (map (values_in (sized d sizes)) types) vs.0 vs.1 in
        let r = found d sizes exact unit vs.0 are choose path (of-case classes vs.0 vs.2 path v) in
        never-both (is_held (sized d sizes) (unit_in d unit) vs.0) None r.0 (holds r.0 r.2.is_run vs.0 are) r.2.fails

    pub shortest-is-real : (classes : List Class) → Has (concrete_cases d sizes unit) classes → (path : List AbsState) → IsViolatingCase d sizes unit classes path →
        ((other : List AbsState) → IsViolatingCase d sizes unit classes other → length path ≤ length other) → IsReal d sizes unit classes path
    shortest-is-real classes is_case path v least =
        let types = params_of (sized d sizes) (unit_in d unit) in
        let vs = values-of (sized d sizes) types classes (are_of (map (classes_of_type (sized d sizes)) types) classes is_case) in
        let are : Has (values_over (sized d sizes) types) vs.0 = one_of (map (values_in (sized d sizes)) types) vs.0 vs.1 in
        let r = found d sizes exact unit vs.0 are choose path (of-case classes vs.0 vs.2 path v) in
        record {
          values = vs.0;
          are_values = are;
          stand = vs.2;
          run = r.0;
          shows = subst (λ ps. AllZip (λ a s. Shows (problem_at d sizes unit ps).kept a s) path r.0) (sym vs.2) r.1;
          breaks = r.2;
          is_shortest = λ other b.
              let q = shown d sizes exact unit vs.0 are other b in
              let l : length path ≤ length q.0 = least q.0 (to-case classes vs.0 vs.2 q.0 q.2) in
              let long : length other ≡ length q.0 = AllZip-long (λ a s. Shows (problem_at d sizes unit (map named vs.0)).kept a s) q.0 other q.1 in
              let own : length r.0 ≡ length path = AllZip-long (λ a s. Shows (problem_at d sizes unit (map named vs.0)).kept a s) path r.0 r.1 in
              omega (arith, l, long, own);
        }
