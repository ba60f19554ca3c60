-- Monitors along a run.
use Rattle.std.proofs.Common.{◌≡◌, zero, suc, List, [], ◌∷◌, map, Option, Some, None, Bool, true, false, All, Contains, refl, sym, ◌∙◌, subst, arith, true≢false}
use Rattle.std.specs.List.{AllByRecursion}
use Rattle.std.proofs.lemmas.List.Elements.{All-contains, All-head, All-tail}
use Rattle.smv_core.specs.Values.{Name, Value, number, Sizes, values_of, truth, bit}
use Rattle.smv_core.specs.Types.{Family}
use Rattle.smv_core.specs.FlatOrder.{TextDesign, Claimed}
use Rattle.smv_core.specs.Outcome.{State, outcome, is_true}
use Rattle.smv_core.specs.Allowed.{allowed_by_base}
use Rattle.smv_core.specs.Sound.{claim_of as claim_unit, indexes_in, AtEachTime, Holds, IsTyped, MeetsBase}
use Rattle.smv_core.specs.declared.tree.Expr.{Expr}
use Rattle.law_formulas.specs.Formulas.{Formula, now, next, when, weak, Is}
use Rattle.law_formulas.specs.Steps.{none_of, HasMarks, HasNames, AreBelow, Asked, stepped, AskedAlong}
use Rattle.law_formulas.specs.Monitors.{Stage, outset, under, behind, monitor, definitions}
use Rattle.law_formulas.specs.Laws.{Reads, may_be_one, bits_by, IsBit}
use Rattle.law_watched_runs.specs.Runs.{here, bindings, vars, path_to, IsDefined, IsWatched, marks_in, IsExact, FormulasGiveClaims, ClaimsGiveFormulas}
use Rattle.law_formulas.proofs.Watching.{is_one, watching, none-has, stepped-has}
use Rattle.law_formulas.proofs.Less.{less}
use Rattle.law_formulas.proofs.Reading.{claim, definitions-keep}

in-bits : (v : Value) → Contains (number 0 ∷ number 1 ∷ []) v → Some v ≡ bit (Some (is_true (truth (Some v))))
in-bits v (zero, l, e) = subst (λ x. Some x ≡ bit (Some (is_true (truth (Some x))))) e refl
in-bits v (suc zero, l, e) = subst (λ x. Some x ≡ bit (Some (is_true (truth (Some x))))) e refl
in-bits v (suc (suc k), l, e) = absurd (omega (arith, l))

only-zero : (v : Value) → Contains (number 0 ∷ []) v → is_true (truth (Some v)) ≡ false
only-zero v (zero, l, e) = subst (λ x. is_true (truth (Some x)) ≡ false) e refl
only-zero v (suc k, l, e) = absurd (omega (arith, l))

below-all : (fewer some more : List Bool) → AreBelow fewer some → AreBelow some more → AreBelow fewer more
below-all [] some more h k = tt
below-all (a ∷ fewer) [] more h k = absurd h
below-all (a ∷ fewer) (b ∷ some) [] h k = absurd k
below-all (a ∷ fewer) (b ∷ some) (c ∷ more) h k = (λ e. k.0 (h.0 e), below-all fewer some more h.1 k.1)

module _ (d : TextDesign) (sizes : Sizes) (c : Claimed) (vs : List Value) where
  abbrev value_in : State → Name → Value
  value_in s m = s (path_to d sizes c vs m) vs

  abbrev marks : State → List Name → List Bool
  marks s names = marks_in d sizes c vs s names

  pub marks-has : (f : Formula) (names : List Name) (s : State) → HasNames f names → HasMarks f (marks s names)
  marks-has (now e) names s has = tt
  marks-has (next at f) [] s has = absurd has
  marks-has (next at f) (m ∷ names) s has = marks-has f names s has
  marks-has (when e f) names s has = marks-has f names s has
  marks-has (weak p q) [] s has = absurd has
  marks-has (weak p q) (w ∷ names) s has = tt

  -- a fact of each element, of a monitor's
  of-monitor : (P : Family → List Value → Type 0) (m : Name) (e : Expr) (one : IsDefined d sizes c vs m e) → All (λ f. All (P f) (indexes_in sizes f)) d.families → P one.family vs
  of-monitor P m e one all = All-contains (P one.family) (indexes_in sizes one.family) vs (All-contains (λ f. All (P f) (indexes_in sizes f)) d.families one.family all one.in_design) one.in_family

  typed-bit : (s : State) → IsTyped d sizes s → (m : Name) (e : Expr) → IsDefined d sizes c vs m e → Some (value_in s m) ≡ bit (Some (is_true (truth (Some (value_in s m)))))
  typed-bit s typed m e one =
      let at_family : Contains (values_of sizes one.family.value) (s one.family.path vs) = of-monitor (λ f us. Contains (values_of sizes f.value) (s f.path us)) m e one typed in
      let at_path : Contains (values_of sizes one.family.value) (value_in s m) = subst (λ p. Contains (values_of sizes one.family.value) (s p vs)) one.path at_family in
      in-bits (value_in s m) (subst (λ t. Contains (values_of sizes t) (value_in s m)) one.value at_path)

  abbrev pub AreDefined : List (Name × Expr) → Type 0
  AreDefined entries = AllByRecursion (λ entry. IsDefined d sizes c vs entry.0 entry.1) entries

  abbrev AreRead : State → List Name → Type 0
  AreRead s names = AllByRecursion (λ m. outcome (here d sizes c vs) s (monitor (vars d sizes c vs) m) (bindings d sizes c vs) ≡ Some (value_in s m)) names

  pub read-marks : (s : State) → IsTyped d sizes s → (f : Formula) (names : List Name) (stage : Stage) → HasNames f names → AreDefined (definitions (vars d sizes c vs) names stage f) → AreRead s names →
      Reads (here d sizes c vs) (bindings d sizes c vs) s (vars d sizes c vs) names (marks s names)
  read-marks s typed (now e) [] stage has defined read = tt
  read-marks s typed (now e) (n ∷ names) stage has defined read = absurd has
  read-marks s typed (next at f) [] stage has defined read = absurd has
  read-marks s typed (next at f) (m ∷ names) stage has defined read = (read.0 ∙ typed-bit s typed m _ defined.0, read-marks s typed f names (behind m) has defined.1 read.1)
  read-marks s typed (when e f) names stage has defined read = read-marks s typed f names (under stage e) has defined read
  read-marks s typed (weak p q) [] stage has defined read = absurd has
  read-marks s typed (weak p q) (w ∷ []) stage has defined read = (read.0 ∙ typed-bit s typed w _ defined.0, tt)
  read-marks s typed (weak p q) (w ∷ n ∷ names) stage has defined read = absurd has

  abbrev AllowedHere : Option State → State → Family → List Value → Type 0
  AllowedHere before s f us = Contains (allowed_by_base d sizes f (record { path = f.path; indexes = us }) before s) (s f.path us)

  first-zero : (s : State) → MeetsBase d sizes None s → (m : Name) (e : Expr) → IsDefined d sizes c vs m e → is_true (truth (Some (value_in s m))) ≡ false
  first-zero s meets m e one =
      let at_family : Contains (number 0 ∷ []) (s one.family.path vs) = subst (λ l. Contains l (s one.family.path vs)) (one.first s) (of-monitor (AllowedHere None s) m e one meets) in
      only-zero (value_in s m) (subst (λ p. Contains (number 0 ∷ []) (s p vs)) one.path at_family)

  later-in : (before s : State) → MeetsBase d sizes (Some before) s → (m : Name) (e : Expr) → IsDefined d sizes c vs m e →
      Contains (bits_by (here d sizes c vs) (bindings d sizes c vs) before (vars d sizes c vs) e) (value_in s m)
  later-in before s meets m e one =
      let at_family : Contains (bits_by (here d sizes c vs) (bindings d sizes c vs) before (vars d sizes c vs) e) (s one.family.path vs) =
      subst (λ l. Contains l (s one.family.path vs)) (one.later before s) (of-monitor (AllowedHere (Some before) s) m e one meets) in
      subst (λ p. Contains (bits_by (here d sizes c vs) (bindings d sizes c vs) before (vars d sizes c vs) e) (s p vs)) one.path at_family

  is-one : (v : Value) → is_true (truth (Some v)) ≡ true → v ≡ number 1
  is-one v h = some-same v (number 1) (is_one (Some v) h)
    where
      some-same : (u w : Value) → Some u ≡ Some w → u ≡ w
      some-same u w e = cc

  below-first : (s : State) → MeetsBase d sizes None s → (f : Formula) (names : List Name) (stage : Stage) → HasNames f names → AreDefined (definitions (vars d sizes c vs) names stage f) → AreBelow (marks s names) (none_of f)
  below-first s meets (now e) [] stage has defined = tt
  below-first s meets (now e) (n ∷ names) stage has defined = absurd has
  below-first s meets (next at f) [] stage has defined = absurd has
  below-first s meets (next at f) (m ∷ names) stage has defined = (λ h. absurd (true≢false (sym h ∙ first-zero s meets m _ defined.0)), below-first s meets f names (behind m) has defined.1)
  below-first s meets (when e f) names stage has defined = below-first s meets f names (under stage e) has defined
  below-first s meets (weak p q) [] stage has defined = absurd has
  below-first s meets (weak p q) (w ∷ []) stage has defined = (λ h. absurd (true≢false (sym h ∙ first-zero s meets w _ defined.0)), tt)
  below-first s meets (weak p q) (w ∷ n ∷ names) stage has defined = absurd has

  abbrev AreBits : State → List (Name × Expr) → Type 0
  AreBits before entries = AllByRecursion (IsBit (here d sizes c vs) (bindings d sizes c vs) before (vars d sizes c vs)) entries

  abbrev may_be : State → List (Name × Expr) → List Bool
  may_be before entries = map (λ entry. may_be_one (here d sizes c vs) (bindings d sizes c vs) before (vars d sizes c vs) entry.1) entries

  one-below : (before s : State) → MeetsBase d sizes (Some before) s → (m : Name) (e : Expr) → IsDefined d sizes c vs m e → IsBit (here d sizes c vs) (bindings d sizes c vs) before (vars d sizes c vs) (m, e) →
      is_true (truth (Some (value_in s m))) ≡ true → may_be_one (here d sizes c vs) (bindings d sizes c vs) before (vars d sizes c vs) e ≡ true
  one-below before s meets m e one bit h = bit.0 (subst (Contains (bits_by (here d sizes c vs) (bindings d sizes c vs) before (vars d sizes c vs) e)) (is-one (value_in s m) h) (later-in before s meets m e one))

  below-next : (before s : State) → MeetsBase d sizes (Some before) s → (f : Formula) (names : List Name) (stage : Stage) → HasNames f names →
      AreDefined (definitions (vars d sizes c vs) names stage f) → AreBits before (definitions (vars d sizes c vs) names stage f) → AreBelow (marks s names) (may_be before (definitions (vars d sizes c vs) names stage f))
  below-next before s meets (now e) [] stage has defined bits = tt
  below-next before s meets (now e) (n ∷ names) stage has defined bits = absurd has
  below-next before s meets (next at f) [] stage has defined bits = absurd has
  below-next before s meets (next at f) (m ∷ names) stage has defined bits = (one-below before s meets m _ defined.0 bits.0, below-next before s meets f names (behind m) has defined.1 bits.1)
  below-next before s meets (when e f) names stage has defined bits = below-next before s meets f names (under stage e) has defined bits
  below-next before s meets (weak p q) [] stage has defined bits = absurd has
  below-next before s meets (weak p q) (w ∷ []) stage has defined bits = (one-below before s meets w _ defined.0 bits.0, tt)
  below-next before s meets (weak p q) (w ∷ n ∷ names) stage has defined bits = absurd has

  module _ (f : Formula) (names : List Name) (watched : IsWatched d sizes c vs f names) where
    reads-at : (s : State) → IsTyped d sizes s → Reads (here d sizes c vs) (bindings d sizes c vs) s (vars d sizes c vs) names (marks s names)
    reads-at s typed = read-marks s typed f names outset watched.named watched.defined (watched.reads s)

    has : (s : State) → HasMarks f (marks s names)
    has s = marks-has f names s watched.named

    says : (s : State) → IsTyped d sizes s → (Is (here d sizes c vs) (bindings d sizes c vs) c.body s → Asked (here d sizes c vs) (bindings d sizes c vs) f true (marks s names) s)
        × (Asked (here d sizes c vs) (bindings d sizes c vs) f true (marks s names) s → Is (here d sizes c vs) (bindings d sizes c vs) c.body s)
    says s typed = subst (λ e. (Is (here d sizes c vs) (bindings d sizes c vs) e s → Asked (here d sizes c vs) (bindings d sizes c vs) f true (marks s names) s) × (Asked (here d sizes c vs) (bindings d sizes c vs) f true (marks s names) s → Is (here d sizes c vs) (bindings d sizes c vs) e s))
        (sym watched.body) (claim (here d sizes c vs) (bindings d sizes c vs) s (vars d sizes c vs) names f (marks s names) (has s) (reads-at s typed))

    below-stepped : (before s : State) → IsTyped d sizes before → MeetsBase d sizes (Some before) s → AreBelow (marks s names) (stepped (here d sizes c vs) (bindings d sizes c vs) f true (marks before names) before)
    below-stepped before s typed meets =
        let k = definitions-keep (here d sizes c vs) (bindings d sizes c vs) before (vars d sizes c vs) names f (marks before names) (has before) (reads-at before typed) in
        subst (AreBelow (marks s names)) k.0 (below-next before s meets f names outset watched.named watched.defined k.1)

    claims-along : (before : Option State) (s : State) (run : List State) (exact : List Bool) → HasMarks f exact → AreBelow (marks s names) exact → AskedAlong (here d sizes c vs) (bindings d sizes c vs) f exact (s ∷ run) →
        All (IsTyped d sizes) (s ∷ run) → AtEachTime (MeetsBase d sizes) (Some s) run → AtEachTime (Holds d sizes (claim_unit c) vs) before (s ∷ run)
    claims-along before s [] exact have below asked typed meets =
        ((says s (All-head (IsTyped d sizes) s [] typed)).1 ((less (here d sizes c vs) (bindings d sizes c vs) s f (marks s names) exact (has s) have below).0 asked.0), tt)
    claims-along before s (t ∷ rest) exact have below asked typed meets =
        let one = less (here d sizes c vs) (bindings d sizes c vs) s f (marks s names) exact (has s) have below in
        let typed_here = All-head (IsTyped d sizes) s (t ∷ rest) typed in (
          (says s typed_here).1 (one.0 asked.0),
          claims-along (Some s) t rest (stepped (here d sizes c vs) (bindings d sizes c vs) f true exact s) (stepped-has (here d sizes c vs) (bindings d sizes c vs) f true exact s have)
              (below-all (marks t names) (stepped (here d sizes c vs) (bindings d sizes c vs) f true (marks s names) s) (stepped (here d sizes c vs) (bindings d sizes c vs) f true exact s) (below-stepped s t typed_here meets.0) one.1)
              asked.1 (All-tail (IsTyped d sizes) s (t ∷ rest) typed) meets.1,
        )

    asked-along : (before : Option State) (s : State) (run : List State) → All (IsTyped d sizes) (s ∷ run) → AtEachTime (IsExact d sizes c vs f names) (Some s) run → AtEachTime (Holds d sizes (claim_unit c) vs) before (s ∷ run) →
        AskedAlong (here d sizes c vs) (bindings d sizes c vs) f (marks s names) (s ∷ run)
    asked-along before s [] typed exact holds = ((says s (All-head (IsTyped d sizes) s [] typed)).0 holds.0, tt)
    asked-along before s (t ∷ rest) typed exact holds = (
      (says s (All-head (IsTyped d sizes) s (t ∷ rest) typed)).0 holds.0,
      subst (λ l. AskedAlong (here d sizes c vs) (bindings d sizes c vs) f l (t ∷ rest)) exact.0 (asked-along (Some s) t rest (All-tail (IsTyped d sizes) s (t ∷ rest) typed) exact.1 holds.1),
    )

pub claims : FormulasGiveClaims
claims d sizes c vs f names watched [] isrun always = absurd isrun
claims d sizes c vs f names watched (s ∷ run) isrun always =
    claims-along d sizes c vs f names watched None s run (none_of f) (none-has f) (below-first d sizes c vs s isrun.1.0 f names outset watched.named watched.defined)
    ((watching (here d sizes c vs) (bindings d sizes c vs) f (s ∷ run)).1 always) isrun.0 isrun.1.1

pub formulas : ClaimsGiveFormulas
formulas d sizes c vs f names watched [] isrun exact holds = absurd isrun
formulas d sizes c vs f names watched (s ∷ run) isrun exact holds =
    (watching (here d sizes c vs) (bindings d sizes c vs) f (s ∷ run)).0
    (subst (λ l. AskedAlong (here d sizes c vs) (bindings d sizes c vs) f l (s ∷ run)) exact.0 (asked-along d sizes c vs f names watched None s run isrun.0 exact.1 holds))
